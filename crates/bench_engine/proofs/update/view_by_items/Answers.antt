use Rattle.std.proofs.Common.{◌≤◌, ◌+◌, ◌*◌, ℕ, length, refl, sym, subst, ◌∙◌, Ok, Err}
use Rattle.bench_engine.proofs.Words.{err_from_is_err_and, All-permutation, length_permutation, Descr, item_size, count, length-offsets, offsets, max_bytes, IsShape, operand_values, updated_items, Meets, HoldsItems}
use Rattle.name_store.specs.declared.target.Target.TheVariants.{View}
use Rattle.bench_engine.proofs.Moved.{items-gives, together-inside, together-moved, unmoved-gives}
use Rattle.bench_engine.proofs.OperandLaws.{all-stand}
use Rattle.bench_engine.proofs.Written.{old-view, view-inside}
use Rattle.bench_engine.proofs.update.view_by_items.Goals as goal

pub items_of_view-requires : goal.items_of_view-requires
items_of_view-requires c =
    let t = c.requires in
    let pair = c.in-Some.pair in
    record {
      inside = All-permutation (λ offset. offset + item_size c.args.array.now.descr.now ≤ length c.args.array.now.block.now) (offsets c.args.view) (offsets pair.target) (together-moved c.args.view c.args.items.layout.now pair c.in-Some.ensures)
          (view-inside t.0 t.1 t.2 t.3 c.args.array.now t.4 c.args.view t.5);
    }

pub changed_by_items-requires : goal.changed_by_items-requires
changed_by_items-requires c =
    let t = c.requires in
    let pair = c.in-Some.pair in
    let old = c.items_of_view.ensures in
    let many = sym (length-offsets pair.target) ∙ length_permutation (offsets c.args.view) (offsets pair.target) (together-moved c.args.view c.args.items.layout.now pair c.in-Some.ensures) in
    record {
      few = subst (λ (n : ℕ). n ≤ max_bytes) ((λ i. sym many i * item_size (t.4.descr i)) ∙ λ i. count (sym old.layout i).shape * item_size (sym old.descr i)) t.5.few;
    }

pub returns-in_err-new : goal.returns-in_err-new
returns-in_err-new c w sw s name a part shows is =
    let p = err_from_is_err_and c.from_residual.result c.from_residual.ensures.1 in
    let old = c.items_of_view.ensures in
    let pair = c.in-Some.pair in
    let together = c.in-Some.ensures in
    let before = c.as_slice-before.ensures in
    let after = c.as_slice-after.ensures in
    let legal : IsShape c.args.view.shape = record { axes = before.rank; lengths = before.lengths; items = before.items } in
    let legal' : IsShape pair.target.shape = record { axes = after.rank; lengths = after.lengths; items = after.items } in
    rw (p.1, p.2) (items-gives s name a part c.args.array.now shows c.args.view pair.target is (subst (λ n. 1 ≤ n) c.size-size.ensures.value c.size-size.ensures.not_empty) legal legal' c.items_of_view.result old.block old.layout old.descr
    c.args.operation c.args.items _ together.wide pair.source together.seen w (Err c.in_err-new.field-0.0) pair.same_shape together.there together.is_wide together.same refl refl refl sw c.in_err-new.ensures)

pub returns-in-Some : goal.returns-in-Some
returns-in-Some c w sw s name a part shows is =
    let old = c.items_of_view.ensures in
    let pair = c.in-Some.pair in
    let together = c.in-Some.ensures in
    let before = c.as_slice-before.ensures in
    let after = c.as_slice-after.ensures in
    let legal : IsShape c.args.view.shape = record { axes = before.rank; lengths = before.lengths; items = before.items } in
    let legal' : IsShape pair.target.shape = record { axes = after.rank; lengths = after.lengths; items = after.items } in
    items-gives s name a part c.args.array.now shows c.args.view pair.target is (subst (λ n. 1 ≤ n) c.size-size.ensures.value c.size-size.ensures.not_empty) legal legal' c.items_of_view.result old.block old.layout old.descr
    c.args.operation c.args.items _ together.wide pair.source together.seen w (Ok c.in_ok-new.new) pair.same_shape together.there together.is_wide together.same refl refl refl sw c.in_ok-new.ensures

pub invariant_of-beside : goal.invariant_of-beside
invariant_of-beside c =
    record { inside = together-inside c.args.view c.args.items.layout.now c.in-Some.pair (λ offset. offset + item_size c.args.items.descr.now ≤ length c.args.items.block.now) c.in-Some.ensures c.args.items.inside }

pub items_of_view-requires-2 : goal.items_of_view-requires-2
items_of_view-requires-2 c =
    let t = c.requires in
    record { inside = view-inside t.0 t.1 t.2 t.3 c.args.array.now t.4 c.args.view t.5 }

pub changed_by_items-requires-2 : goal.changed_by_items-requires-2
changed_by_items-requires-2 c =
    let t = c.requires in
    let old = c.items_of_view-2.ensures in
    record {
      few = subst (λ (n : ℕ). n ≤ max_bytes) ((λ i. length-offsets c.args.view i * item_size (t.4.descr i)) ∙ λ i. count (sym old.layout i).shape * item_size (sym old.descr i)) t.5.few;
    }

pub returns-in_err-new-2 : goal.returns-in_err-new-2
returns-in_err-new-2 c w sw s name a part shows is =
    let p = err_from_is_err_and c.from_residual-in_err-new-2.result c.from_residual-in_err-new-2.ensures.1 in
    let old = c.items_of_view-2.ensures in
    let gives = c.in_err-new-2.ensures (operand_values s part) w (all-stand s part _ (old-view s name a part c.args.array.now shows _ _ is old.block old.layout old.descr)) sw in
    rw (p.1, p.2) (unmoved-gives s name a part c.args.array.now (View c.args.view) (Err c.in_err-new-2.field-0.0) (updated_items c.args.operation c.args.array.now.descr.now (operand_values s part) w) shows is
    (subst (λ (d : Descr). Meets (HoldsItems d (count part.shape)) (Err c.in_err-new-2.field-0.0) (updated_items c.args.operation d (operand_values s part) w)) old.descr gives))

pub returns : goal.returns
returns c w sw s name a part shows is =
    let old = c.items_of_view-2.ensures in
    let gives = c.in_ok-new-2.ensures (operand_values s part) w (all-stand s part _ (old-view s name a part c.args.array.now shows _ _ is old.block old.layout old.descr)) sw in
    unmoved-gives s name a part c.args.array.now (View c.args.view) (Ok c.in_ok-new-2.new) (updated_items c.args.operation c.args.array.now.descr.now (operand_values s part) w) shows is
    (subst (λ (d : Descr). Meets (HoldsItems d (count part.shape)) (Ok c.in_ok-new-2.new) (updated_items c.args.operation d (operand_values s part) w)) old.descr gives)
