-- Steps of a tree through options: a choice taken and both subtrees there, or nothing. Assumes nothing.
use mathlib.Core.Path.{◌≡◌, refl, ap, ◌∙◌}
use mathlib.Core.List.{List}
use mathlib.Core.Option.{Option, none, some}
use Prim.Native.Nat.{ℕ}
use Rattle.automata.specs.Choice.{Alt, choose, map_o, zip_o, map_alt, together}
use Rattle.automata.specs.Tree.{node, and_then}
use Rattle.automata.proofs.Choosing.{Disjoint, choose-map, choose-together}

pub map_same : {T : Type 0} (f : T → T) → ((x : T) → f x ≡ x) → (o : Option T) → map_o f o ≡ o
map_same f h none = refl
map_same f h (some x) = ap some (h x)

pub map-map : {T U U' : Type 0} (f : T → U) (g : U → U') (o : Option T) → map_o g (map_o f o) ≡ map_o (λ x. g (f x)) o
map-map f g none = refl
map-map f g (some x) = refl

pub map_ext : {T U : Type 0} (f g : T → U) → ((x : T) → f x ≡ g x) → (o : Option T) → map_o f o ≡ map_o g o
map_ext f g h none = refl
map_ext f g h (some x) = ap some (h x)

module _ {T U : Type 0} where
  pub node-map : (f g : T → U) (x y : Option T) → node (map_o f x) (map_o g y) ≡ map_o (λ t. (f t.0, g t.1)) (node x y)
  node-map f g none y = refl
  node-map f g (some x) none = refl
  node-map f g (some x) (some y) = refl

pub zip_node : {T T' : Type 0} (F F' : T → T → T') (a b c d : Option T)
    → node (zip_o F a c) (zip_o F' b d) ≡ zip_o (λ x y. (F x.0 y.0, F' x.1 y.1)) (node a b) (node c d)
zip_node F F' none b c d = refl
zip_node F F' (some a) none none d = refl
zip_node F F' (some a) none (some c) d = refl
zip_node F F' (some a) (some b) none d = refl
zip_node F F' (some a) (some b) (some c) none = refl
zip_node F F' (some a) (some b) (some c) (some d) = refl

-- four subtrees regrouped: the two left ones and the two right ones
pub regroup : {T : Type 0} (a b c d : Option T) → node (node a b) (node c d) ≡ map_o (λ z. ((z.0.0, z.1.0), (z.0.1, z.1.1))) (node (node a c) (node b d))
regroup none b c d = refl
regroup (some a) none none d = refl
regroup (some a) none (some c) d = refl
regroup (some a) (some b) none d = refl
regroup (some a) (some b) (some c) none = refl
regroup (some a) (some b) (some c) (some d) = refl

-- the second and the last exchanged
pub crossover : {T : Type 0} (a b c d : Option T) → node (node a d) (node c b) ≡ map_o (λ z. ((z.0.0, z.1.1), (z.1.0, z.0.1))) (node (node a b) (node c d))
crossover none b c d = refl
crossover (some a) none none none = refl
crossover (some a) none none (some d) = refl
crossover (some a) none (some c) none = refl
crossover (some a) none (some c) (some d) = refl
crossover (some a) (some b) none none = refl
crossover (some a) (some b) none (some d) = refl
crossover (some a) (some b) (some c) none = refl
crossover (some a) (some b) (some c) (some d) = refl

-- ---- one level down
module _ {S K T T' : Type 0} (c : ℕ) (us : List (Alt (S × S))) (f : S × S → K × K) (G : K → K → Option T') (U : S → S → Option T) where
  pub step_map : (F : T → T') → ((p : S × S) → G (f p).0 (f p).1 ≡ map_o F (U p.0 p.1))
      → and_then (choose c (map_alt f us)) G ≡ map_o F (and_then (choose c us) U)
  step_map F h = ap (λ (o : Option (K × K)). and_then o G) (choose-map f c us) ∙ go (choose c us)
    where
      go : (o : Option (S × S)) → and_then (map_o f o) G ≡ map_o F (and_then o U)
      go none = refl
      go (some p) = h p

module _ {S K T T' : Type 0} (c : ℕ) (us vs : List (Alt (S × S))) (du : Disjoint us) (dv : Disjoint vs) (f : S × S → S × S → K × K)
    (G : K → K → Option T') (U : S → S → Option T) (F : T → T → T') where
  pub step-together : ((q p : S × S) → G (f q p).0 (f q p).1 ≡ zip_o F (U q.0 q.1) (U p.0 p.1))
      → and_then (choose c (together f us vs)) G ≡ zip_o F (and_then (choose c us) U) (and_then (choose c vs) U)
  step-together h = ap (λ (o : Option (K × K)). and_then o G) (choose-together f c us vs du dv) ∙ go (choose c us) (choose c vs)
    where
      nothing : (x : Option T) → none ≡ zip_o F x none
      nothing none = refl
      nothing (some x) = refl

      go : (o o' : Option (S × S)) → and_then (zip_o f o o') G ≡ zip_o F (and_then o U) (and_then o' U)
      go none o' = refl
      go (some q) none = nothing (U q.0 q.1)
      go (some q) (some p) = h q p
