use Rattle.std.proofs.Common.{◌≤◌, ◌+◌, ◌*◌, ℕ, length, sym, ◌∙◌, subst, Ok, Err}
use Rattle.bench_engine.proofs.Words.{err_from_is_err_and, All-permutation, length_permutation, item_size, count, length-offsets, offsets, max_bytes, IsShape}
use Rattle.bench_engine.proofs.Moved.{literal-gives}
use Rattle.bench_engine.proofs.Written.{view-inside}
use Rattle.bench_engine.proofs.update.view_by_literal.Goals as goal

pub items_of_view-requires : goal.items_of_view-requires
items_of_view-requires c =
    let t = c.requires in
    record {
      inside = All-permutation (λ offset. offset + item_size c.args.array.now.descr.now ≤ length c.args.array.now.block.now) (offsets c.args.view) (offsets c.near-moved.result) c.near-moved.ensures
          (view-inside t.0 t.1 t.2 t.3 c.args.array.now t.4 c.args.view t.5);
    }

pub changed_by_literal-requires : goal.changed_by_literal-requires
changed_by_literal-requires c =
    let t = c.requires in
    let old = c.items_of_view.ensures in
    let many = sym (length-offsets c.near-moved.result) ∙ length_permutation (offsets c.args.view) (offsets c.near-moved.result) c.near-moved.ensures in
    record {
      few = subst (λ (n : ℕ). n ≤ max_bytes)
          ((λ i. sym many i * item_size (t.4.descr i)) ∙ λ i. count (sym old.layout i).shape * item_size (sym old.descr i)) t.5.few;
    }

pub returns-in_err-new : goal.returns-in_err-new
returns-in_err-new c s name a part shows is =
    let p = err_from_is_err_and c.from_residual.result c.from_residual.ensures.1 in
    let old = c.items_of_view.ensures in
    let before = c.as_slice-before.ensures in
    let after = c.as_slice-after.ensures in
    let legal : IsShape c.args.view.shape = record { axes = before.rank; lengths = before.lengths; items = before.items } in
    let legal' : IsShape c.near-moved.result.shape = record { axes = after.rank; lengths = after.lengths; items = after.items } in
    rw (p.1, p.2) (literal-gives s name a part c.args.array.now shows c.args.view c.near-moved.result is (subst (λ n. 1 ≤ n) c.size-size.ensures.value c.size-size.ensures.not_empty) legal legal' c.items_of_view.result old.block old.layout old.descr c.args.operation c.args.literal.now (Err c.in_err-new.field-0.0) c.near-moved.ensures c.in_err-new.ensures)

pub returns : goal.returns
returns c s name a part shows is =
    let old = c.items_of_view.ensures in
    let before = c.as_slice-before.ensures in
    let after = c.as_slice-after.ensures in
    let legal : IsShape c.args.view.shape = record { axes = before.rank; lengths = before.lengths; items = before.items } in
    let legal' : IsShape c.near-moved.result.shape = record { axes = after.rank; lengths = after.lengths; items = after.items } in
    literal-gives s name a part c.args.array.now shows c.args.view c.near-moved.result is (subst (λ n. 1 ≤ n) c.size-size.ensures.value c.size-size.ensures.not_empty) legal legal' c.items_of_view.result old.block old.layout old.descr c.args.operation c.args.literal.now (Ok c.in_ok-new.new) c.near-moved.ensures c.in_ok-new.ensures
