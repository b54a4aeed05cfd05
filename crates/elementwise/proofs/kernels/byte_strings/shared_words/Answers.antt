use Rattle.std.proofs.Common.{◌*◌, ◌+◌, ◌-◌, ◌≡◌, take, drop, ap, sym, ◌∙◌, arith, rules, subst, ℕ}
use Rattle.elementwise.proofs.Words.{little_number}
use Rattle.elementwise.proofs.TextWordLaws.{next-word}
use Rattle.elementwise.proofs.kernels.byte_strings.shared_words.Goals as goal

pub loop-word-preserved : goal.loop-word-preserved
loop-word-preserved c =
    let left = c.args.left.now in
    let right = c.args.right.now in
    let at = 8 * c.loop-word.word in
    let next : at + 8 ≡ 8 * (c.loop-word.word + 1) = omega arith in
    subst (λ (n : ℕ). take n left ≡ take n right) next
    (next-word left right at (at + 8 - at) c.read_eight-first.result c.read_eight-second.result (omega arith) (omega arith) (omega arith) (λ k. search (rules, c.type_inv.left k)) (λ k. search (rules, c.type_inv.right k)) c.read_eight-first.ensures c.read_eight-second.ensures c.if-first-second.false c.loop-word.invariant)

pub returns-then-first-second-clause-stops : goal.returns-then-first-second-clause-stops
returns-then-first-second-clause-stops c =
    let at = 8 * c.loop-word.word in
    let eight : at + 8 - at ≡ 8 = omega arith in
    λ within within' same. c.if-first-second.true
    (c.read_eight-first.ensures ∙ ap (little_number 8) ((λ i. take (eight i) (drop at c.args.left.now)) ∙ same ∙ λ i. take (sym eight i) (drop at c.args.right.now)) ∙ sym c.read_eight-second.ensures)

pub returns-clause-stops : goal.returns-clause-stops
returns-clause-stops c = λ within within' same. omega (arith, within, within', c.min-words.ensures)
