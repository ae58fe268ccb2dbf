-- A key that is a pair leads to both of its states, and any other to one state, turned by its shift. Assumes nothing.
use native.Mathlib.Omega.{arith}
use Rattle.roles.specs.declared.Key.TheVariants.{Pair}
use Rattle.roles.proofs.KeyMoves.{of-states, one-state}
use Rattle.ending.specs.Source.{LeafState}
use Rattle.ending.proofs.Keys.{single_key, pair_key}
use Rattle.ending.proofs.end_state.Goals as goal

pub bounds-old-q : goal.bounds-old-q
bounds-old-q c = let s = one-state (LeafState c.args.old.now.rows.now c.args.old.now.masks.now c.args.old.now.coefs.now c.args.old.now.first.now c.args.k) c.in-One.how c.in-One.q c.args.key c.in-One.ensures c.requires.leaf_key.one c.requires.leaf_key.two in omega (arith, s.begun)

pub bounds-old-q-in-One : goal.bounds-old-q-in-One
bounds-old-q-in-One c = let s = one-state (LeafState c.args.old.now.rows.now c.args.old.now.masks.now c.args.old.now.coefs.now c.args.old.now.first.now c.args.k) c.in-One.how c.in-One.q c.args.key c.in-One.ensures c.requires.leaf_key.one c.requires.leaf_key.two in omega (arith, s.begun)

pub end_single-requires-clause-source : goal.end_single-requires-clause-source
end_single-requires-clause-source c = (one-state (LeafState c.args.old.now.rows.now c.args.old.now.masks.now c.args.old.now.coefs.now c.args.old.now.first.now c.args.k) c.in-One.how c.in-One.q c.args.key c.in-One.ensures c.requires.leaf_key.one c.requires.leaf_key.two).leaves

pub bounds-old-q-in-Pair : goal.bounds-old-q-in-Pair
bounds-old-q-in-Pair c = let s = of-states (LeafState c.args.old.now.rows.now c.args.old.now.masks.now c.args.old.now.coefs.now c.args.old.now.first.now c.args.k) (Pair c.in-Pair.side c.in-Pair.q c.in-Pair.p) c.args.key c.in-Pair.ensures c.requires.leaf_key.one c.requires.leaf_key.two in omega (arith, s.0.begun)

pub bounds-old-q-in-Pair-2 : goal.bounds-old-q-in-Pair-2
bounds-old-q-in-Pair-2 c = let s = of-states (LeafState c.args.old.now.rows.now c.args.old.now.masks.now c.args.old.now.coefs.now c.args.old.now.first.now c.args.k) (Pair c.in-Pair.side c.in-Pair.q c.in-Pair.p) c.args.key c.in-Pair.ensures c.requires.leaf_key.one c.requires.leaf_key.two in omega (arith, s.0.begun)

pub bounds-old-p : goal.bounds-old-p
bounds-old-p c = let s = of-states (LeafState c.args.old.now.rows.now c.args.old.now.masks.now c.args.old.now.coefs.now c.args.old.now.first.now c.args.k) (Pair c.in-Pair.side c.in-Pair.q c.in-Pair.p) c.args.key c.in-Pair.ensures c.requires.leaf_key.one c.requires.leaf_key.two in omega (arith, s.1.begun)

pub bounds-old-p-in-Pair : goal.bounds-old-p-in-Pair
bounds-old-p-in-Pair c = let s = of-states (LeafState c.args.old.now.rows.now c.args.old.now.masks.now c.args.old.now.coefs.now c.args.old.now.first.now c.args.k) (Pair c.in-Pair.side c.in-Pair.q c.in-Pair.p) c.args.key c.in-Pair.ensures c.requires.leaf_key.one c.requires.leaf_key.two in omega (arith, s.1.begun)

pub end_pair-requires-clause-source : goal.end_pair-requires-clause-source
end_pair-requires-clause-source c = let s = of-states (LeafState c.args.old.now.rows.now c.args.old.now.masks.now c.args.old.now.coefs.now c.args.old.now.first.now c.args.k) (Pair c.in-Pair.side c.in-Pair.q c.in-Pair.p) c.args.key c.in-Pair.ensures c.requires.leaf_key.one c.requires.leaf_key.two in (s.0.leaves, s.1.leaves)

pub end_pair-requires-clause-distinct : goal.end_pair-requires-clause-distinct
end_pair-requires-clause-distinct c = let s = of-states (LeafState c.args.old.now.rows.now c.args.old.now.masks.now c.args.old.now.coefs.now c.args.old.now.first.now c.args.k) (Pair c.in-Pair.side c.in-Pair.q c.in-Pair.p) c.args.key c.in-Pair.ensures c.requires.leaf_key.one c.requires.leaf_key.two in (s.0.distinct, s.1.distinct)

pub returns-in-One : goal.returns-in-One
returns-in-One c = rw (single_key c.args.old.now.rows.now c.args.old.now.masks.now c.args.old.now.coefs.now c.args.old.now.first.now c.args.key c.in-One.how c.in-One.q c.in-One.ensures, ← c.shift.ensures) c.end_single.ensures

pub returns-in-Pair : goal.returns-in-Pair
returns-in-Pair c = rw (pair_key c.args.old.now.rows.now c.args.old.now.masks.now c.args.old.now.coefs.now c.args.old.now.first.now c.args.key c.in-Pair.side c.in-Pair.q c.in-Pair.p c.in-Pair.ensures) c.end_pair.ensures
