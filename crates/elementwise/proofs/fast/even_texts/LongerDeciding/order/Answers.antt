use Rattle.std.proofs.Common.{◌≡◌, ◌≤◌, ◌+◌, ◌-◌, ◌⊎◌, inl, inr, length, take, drop, ap, sym, ◌∙◌, arith, rules}
use Rattle.elementwise.proofs.Words.{cases_lt, take-take, item_at}
use Rattle.elementwise.proofs.WordOrderLaws.{in-order}
use Rattle.elementwise.proofs.fast.even_texts.LongerDeciding.order.Goals as goal

pub returns : goal.returns
returns c =
    let l = c.args.left.now in
    let r = c.args.right.now in
    let even = c.requires.0 in
    let some = c.requires.1 in
    let shared = c.shared_words.ensures in
    let k = c.shared_words.result in
    let at = c.min-at.result in
    let few : at ≤ k = omega (arith, c.min-at.ensures) in
    let within : at + 8 ≤ length l = omega (arith, c.min-at.ensures, some) in
    let front = sym (take-take at k l few) ∙ ap (take at) shared.same ∙ take-take at k r few in
    let ends : (at + 8 ≡ length l) ⊎ (item_at at 8 l ≡ item_at at 8 r → ⊥) =
    elim (cases_lt k (length l - 8)) [
      | inl near ↦ let is : at ≡ k = omega (arith, c.min-at.ensures, near) in inr (λ same. shared.stops (omega (arith, near)) (omega (arith, near, even)) ((λ i. take 8 (drop (sym is i) l)) ∙ same ∙ λ i. take 8 (drop (is i) r)))
      | inr far ↦ inl (omega (arith, c.min-at.ensures, far, some))
    ] in
    in-order 8 at l r c.word_at-first.result c.word_at-second.result even within (λ i. search (rules, c.type_inv.left i)) (λ i. search (rules, c.type_inv.right i)) c.word_at-first.ensures c.word_at-second.ensures front ends
