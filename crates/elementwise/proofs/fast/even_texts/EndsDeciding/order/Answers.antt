use Rattle.std.proofs.Common.{nat_lt, inl, inr, ◌-◌, length, ap, refl, sym, ◌∙◌, arith, rules}
use Rattle.elementwise.proofs.Words.{AreBytes, big_number}
use Rattle.elementwise.proofs.WordOrderLaws.{in-order, same-front, two-in-order}
use Rattle.elementwise.proofs.fast.even_texts.EndsDeciding.order.Goals as goal

pub returns : goal.returns
returns g c =
    let n = g.row.LEN in
    let l = c.args.left.now in
    let r = c.args.right.now in
    let even = c.requires.0 in
    let some = c.requires.2 in
    let are : AreBytes l = λ k. search (rules, c.type_inv.left k) in
    let are' : AreBytes r = λ k. search (rules, c.type_inv.right k) in
    let first = c.word_at in
    let last = c.word_at-2 in
    let second = c.word_at-3 in
    let last' = c.word_at-4 in
    let order = two-in-order first.result second.result last.result last'.result l r last.type_inv last'.type_inv
    (λ same. in-order n (length l - n) l r last.result last'.result even (omega (arith, some)) are are' last.ensures last'.ensures
    (same-front n (length l - n) l r (omega (arith, c.requires.3)) some (omega (arith, some, even)) are are' (sym first.ensures ∙ same ∙ second.ensures)) (inl (omega (arith, some))))
    (λ differ. in-order n 0 l r first.result second.result even (omega (arith, some)) are are' first.ensures second.ensures refl (inr (λ same. differ (first.ensures ∙ ap (big_number n) same ∙ sym second.ensures)))) in (
      (λ i. nat_lt (c.two_words-first.ensures i) (c.two_words-second.ensures i)) ∙ order.0,
      (λ i. nat_lt (c.two_words-second.ensures i) (c.two_words-first.ensures i)) ∙ order.1,
    )
