-- The part of the table that is copied is the element's word. Assumes nothing.
use Rattle.std.proofs.Common.{◌≡◌, ℕ, ◌+◌, ◌-◌, ◌*◌, List, ◌++◌, length, drop, ap, ◌∙◌, arith}
use Rattle.cliffords.specs.Words.{codes_of}
use Rattle.elements.proofs.Tables.{word_rule}
use Rattle.elements.proofs.put_word.Goals as goal

pub returns-clause-out_after : goal.returns-clause-out_after
returns-clause-out_after c =
    let e = c.args.element in
    let k : e * 6 + c.letters_of-letters.result - e * 6 ≡ length (codes_of e) = omega (arith, c.letters_of-letters.ensures.0) in
    let word : c.copy_from_slice.new.self ≡ codes_of e = c.copy_from_slice.ensures.after ∙ word_rule e c.requires.0 (e * 6 + c.letters_of-letters.result - e * 6) k c.args.out.now c.args.out.now in
    ap (λ (l : List ℕ). l ++ drop c.letters_of-letters.result c.args.out.now) word ∙ ap (λ (n : ℕ). codes_of e ++ drop n c.args.out.now) c.letters_of-letters.ensures.0
