use Rattle.std.proofs.Common.{◌≡◌, Ok, inr, length, replicate, pos, not, int_lt, refl, sym, ap, subst, ◌∙◌}
use Rattle.elementwise.proofs.Words.{false≢true, w128, to_z-of_z, length-replicate, ScalarDescr, BoolScalar, IsNumber, decode, wrap, number, little, says, is_scalar, AreComparedWith}
use Rattle.elementwise.proofs.WorkLaws.{number-little}
use Rattle.std.proofs.lemmas.Bool.Decides.{Decides-int_eq}
use Rattle.elementwise.proofs.CutLaws.{no_text}
use Rattle.elementwise.proofs.ComparedLaws.{comparable_scalars, comparable_numbers}
use Rattle.elementwise.proofs.MadeLaws.{made-as, made-given, refused, over-made}
use Rattle.elementwise.proofs.IntegerLaws.{all_beyond, alike_made, operand_refused, text_refused, one_given}
use Rattle.elementwise.proofs.comparisons.compare_integer.Goals as goal

pub returns-in_err-from : goal.returns-in_err-from
returns-in_err-from c =
    refused _ _ _ _ c.from_residual.ensures.1 (inr (operand_refused c.args.operand.descr.now c.args.operand.layout.now.shape c.in_err-from.field-0.0 c.in_err-from.ensures))

pub returns-then-is_text : goal.returns-then-is_text
returns-then-is_text c =
    record { gives = inr (text_refused c.args.operand.descr.now c.args.operand.layout.now.shape c.in_ok-from.from c.in_ok-from.ensures (sym c.is_text.ensures ∙ c.if-is_text.true)); order = tt; items = tt; encoded = tt }

-- ---- an integer that the type holds

pub num_write-requires-clause-number : goal.num_write-requires-clause-number
num_write-requires-clause-number c = subst IsNumber (sym c.little-scalar.ensures) (number-little c.in_ok-from.from (no_text c.in_ok-from.from (sym c.is_text.ensures ∙ c.if-is_text.false)))

pub compare_with_one-requires-clause-can : goal.compare_with_one-requires-clause-can
compare_with_one-requires-clause-can c =
    let from = c.in_ok-from.from in
    comparable_scalars c.args.operand.descr.now (ScalarDescr c.little-scalar.result) from (little from) (is_scalar c.args.operand.descr.now from c.in_ok-from.ensures) (ap ScalarDescr c.little-scalar.ensures) (comparable_numbers from (no_text from (sym c.is_text.ensures ∙ c.if-is_text.false)))

pub returns-then-is_value : goal.returns-then-is_value
returns-then-is_value c =
    let x = c.args.operand in
    let shape = x.layout.now.shape in
    let s = c.little-scalar.result in
    let z = c.args.integer in
    let wrote = c.bytes_mut.ensures.same_len c.num_write.new.bytes (c.num_write.auto.bytes ∙ ap length c.bytes_mut.ensures.value) in
    let held = (Decides-int_eq _ _).0 (sym c.is_value.ensures ∙ c.if-is_value.true) in
    let made = subst (λ value. AreComparedWith c.args.comparison x value c.in_ok-compare_with_one.field-0)
    (ap (decode s) wrote ∙ c.num_write.ensures.reads_back ∙ ap number held ∙ ap number (to_z-of_z w128 z c.ranges.integer))
    c.in_ok-compare_with_one.ensures in
    made-given (ScalarDescr BoolScalar) shape _ _ made _ _ (one_given x.descr.now shape c.in_ok-from.from c.in_ok-from.ensures (sym c.is_text.ensures ∙ c.if-is_text.false)) refl

-- ---- an integer beyond all numbers of the type

pub returns : goal.returns
returns c =
    let x = c.args.operand in
    let shape = x.layout.now.shape in
    let z = c.args.integer in
    let from = c.in_ok-from.from in
    let holds = c.says-holds.result in
    let above : c.is_positive-above.result ≡ int_lt (pos 0) z = c.is_positive-above.ensures ∙ λ i. int_lt (pos 0) (to_z-of_z w128 z c.ranges.integer i) in
    let many = ap length (c.bytes_mut-2.ensures.value ∙ c.in_ok-bools.ensures) ∙ length-replicate c.items.result 0 in
    let filled = c.bytes_mut-2.ensures.same_len c.fill.new.self (c.fill.ensures.len ∙ ap length c.bytes_mut-2.ensures.value) ∙ c.fill.ensures.after (λ _ is. is) ∙ λ i. replicate (many i) (c.from.ensures i) in
    let alike = alike_made holds shape _ c.items.result filled c.items.ensures.value in
    let owned = c.in_ok-over.ensures in
    let same = to_z-of_z w128 z c.ranges.integer in
    let beyond : wrap (little from) z ≡ z → ⊥ = λ held. false≢true (sym c.if-is_value.false ∙ c.is_value.ensures ∙ (Decides-int_eq _ _).1 ((λ i. wrap (c.little-scalar.ensures i) (same i)) ∙ held ∙ sym same)) in
    let made = made-as (ScalarDescr BoolScalar) shape _ _ (Ok c.in_ok-over.field-0)
    (all_beyond c.args.comparison from x.descr.now x.block.now x.layout.now z holds (is_scalar x.descr.now from c.in_ok-from.ensures) (rw c.bytes.ensures at c.note_slice.ensures) (no_text from (sym c.is_text.ensures ∙ c.if-is_text.false)) beyond
    (c.says-holds.ensures ∙ λ i. says c.args.comparison (above i) (not (above i))))
    (over-made (ScalarDescr BoolScalar) (ScalarDescr BoolScalar) shape _ (Ok c.in_ok-over.field-0) _ refl owned.descr owned.shape owned.order owned.block alike.0 alike.1) in
    made-given (ScalarDescr BoolScalar) shape _ _ made _ _ (one_given x.descr.now shape from c.in_ok-from.ensures (sym c.is_text.ensures ∙ c.if-is_text.false)) refl
