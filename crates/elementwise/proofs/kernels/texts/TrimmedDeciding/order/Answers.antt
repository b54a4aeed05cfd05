use Rattle.std.proofs.Common.{◌≡◌, ◌-◌, ℕ, List, length, take, drop, sym, subst, ◌∙◌, rules}
use Rattle.elementwise.proofs.Words.{AreBytes, bytes-take, without_nuls, nuls, text_below}
use Rattle.elementwise.proofs.ComparedLaws.{below-cmp, above-cmp}
use Rattle.elementwise.proofs.TextWordLaws.{below-cut}
use Rattle.elementwise.proofs.WordOrderLaws.{words-tell}
use Rattle.elementwise.proofs.kernels.texts.TrimmedDeciding.order.Goals as goal

trimmed : (bytes whole : List ℕ) → bytes ≡ without_nuls whole → AreBytes whole → AreBytes bytes
trimmed bytes whole is are = subst AreBytes (sym is) (bytes-take (length whole - nuls whole) whole are)

pub returns-then-at-right : goal.returns-then-at-right
returns-then-at-right c =
    let left = c.without_nuls-left in
    let right = c.without_nuls-right in
    let shared = c.shared_words-at.ensures in
    let first = c.word_at-first in
    let second = c.word_at-second in
    let some = c.if-at-left.true in
    let some' = c.if-at-right.true in
    let order = words-tell c.shared_words-at.result left.result.now right.result.now first.result second.result some some' (trimmed left.result.now c.args.left.now left.ensures (λ k. search (rules, c.type_inv.left k))) (trimmed right.result.now c.args.right.now right.ensures (λ k. search (rules, c.type_inv.right k))) first.ensures second.ensures shared.same (shared.stops some some') in
    (order.0 ∙ (λ i. text_below (left.ensures i) (right.ensures i)), order.1 ∙ λ i. text_below (right.ensures i) (left.ensures i))

pub returns : goal.returns
returns c =
    let left = c.without_nuls-left in
    let right = c.without_nuls-right in
    let l = left.result.now in
    let r = right.result.now in
    let k = c.shared_words-at.result in
    let same = c.shared_words-at.ensures.same in
    let l' = take (length l - k) (drop k l) in
    let r' = take (length r - k) (drop k r) in
    let o = c.cmp-order.result in (
      c.is_lt.ensures ∙ below-cmp l' r' o c.cmp-order.ensures ∙ below-cut l r k same ∙ (λ i. text_below (left.ensures i) (right.ensures i)),
      c.is_gt.ensures ∙ above-cmp l' r' o c.cmp-order.ensures ∙ below-cut r l k (sym same) ∙ λ i. text_below (right.ensures i) (left.ensures i),
    )
