use Rattle.std.proofs.Common.{◌≤◌, ◌-◌, [], ◌∷◌, ◌++◌, length, map, replicate, inr, refl, sym, ap, subst, ◌∙◌}
use Rattle.elementwise.proofs.Words.{without_nuls-more, without_nuls-twice, ScalarDescr, Bytes, BoolScalar, IsMade, compared, offsets, is_text, text, without_nuls, item_from, compared_item, is_scalar}
use Rattle.elementwise.proofs.ComparedLaws.{comparable_scalars}
use Rattle.elementwise.proofs.MadeLaws.{made-given, refused}
use Rattle.elementwise.proofs.BytesComparedLaws.{operand_refused, number_refused, one_given, items_within}
use Rattle.elementwise.proofs.comparisons.compare_bytes.Goals as goal

pub returns-in_err-from : goal.returns-in_err-from
returns-in_err-from c =
    refused _ _ _ _ c.from_residual.ensures.1 (inr (operand_refused c.args.operand.descr.now c.args.operand.layout.now.shape c.in_err-from.field-0.0 c.in_err-from.ensures))

pub returns-in_default : goal.returns-in_default
returns-in_default c = record { gives = inr (number_refused c.args.operand.descr.now c.args.operand.layout.now.shape c.in_ok-from.from c.in_ok-from.ensures c.in_default.not-Bytes); order = tt; items = tt; encoded = tt }

pub within-comparison-requires : goal.within-comparison-requires
within-comparison-requires c = ap without_nuls c.without_nuls.ensures ∙ without_nuls-twice c.args.bytes.now ∙ sym c.without_nuls.ensures

pub compare_with_one-requires-clause-can : goal.compare_with_one-requires-clause-can
compare_with_one-requires-clause-can c =
    let scalar = Bytes c.in-Bytes.width in
    comparable_scalars c.args.operand.descr.now (ScalarDescr scalar) scalar scalar (is_scalar c.args.operand.descr.now c.in_ok-from.from c.in_ok-from.ensures ∙ ap ScalarDescr c.in-Bytes.is) refl refl

pub returns : goal.returns
returns c =
    let x = c.args.operand in
    let d = ScalarDescr BoolScalar in
    let shape = x.layout.now.shape in
    let kept = c.within-comparison.result.1.now in
    let more = c.get-len.result - length kept in
    let same = ap without_nuls (c.finish.ensures ∙ c.push_zeros.ensures.bytes ∙ ap (λ b. b ++ replicate more 0) (c.push_bytes.ensures.bytes ∙ ap (λ b. b.0 ++ kept) c.in_ok-item.ensures)) ∙ without_nuls-more kept more in
    let is = is_scalar x.descr.now c.in_ok-from.from c.in_ok-from.ensures ∙ ap ScalarDescr c.in-Bytes.is in
    let told = items_within c.args.comparison c.within-comparison.result.0 x.descr.now c.in-Bytes.width kept (without_nuls c.args.bytes.now) x.block.now (offsets x.layout.now) is
    (λ item few. c.within-comparison.ensures.same item (subst (λ n. length item ≤ n) (sym c.get-len.ensures.value) few) ∙ λ i. compared c.args.comparison (text (without_nuls item)) (text (c.without_nuls.ensures i))) in
    let made = subst (λ values. IsMade d shape values c.in_ok-compare_with_one.field-0)
    (ap (λ k. map (λ o. compared_item c.within-comparison.result.0 (item_from x.descr.now x.block.now o) (text k ∷ [])) (offsets x.layout.now)) same ∙ told) c.in_ok-compare_with_one.ensures in
    made-given d shape _ _ made _ _ (one_given x.descr.now shape c.in_ok-from.from c.in_ok-from.ensures (ap is_text c.in-Bytes.is)) refl
