use Rattle.std.proofs.Common.{◌≡◌, ◌+◌, length, sym, ap, ◌∙◌, subst, arith, Some, IfSome, ◌<◌}
use Rattle.npy_files.proofs.Words.{slice_get-get_or, IsNamed, IsFirstOf}
use Rattle.npy_files.proofs.NextNames.{passed, kept, taken}
use Rattle.npy_files.proofs.mem_store.place_after.Goals.{then-comes_before+then-comes_first, else-comes_before, else-comes_before-via-then-comes_before+else-comes_first, else-comes_before-via-else-comes_before}
use Rattle.npy_files.proofs.mem_store.place_after.Goals as goal

pub loop-place-init : goal.loop-place-init
loop-place-init c = record { best = λ place name l is. absurd (omega (arith, l)); below = tt }

pub comes_first-requires : goal.comes_first-requires
comes_first-requires c = c.loop-place.invariant.below

pub loop-place-preserved : goal.loop-place-preserved
loop-place-preserved c =
    let files = c.args.files.now in
    let after = c.args.after.now in
    let count = c.loop-place.place in
    let name = c.as_slice-name.result.now in
    let old = c.loop-place.invariant in
    let is : IsNamed files count name = (
      c.index-files-place.result,
      slice_get-get_or files count c.index-files-place.result c.loop-place-test.true ∙ ap Some (sym c.index-files-place.is),
      ap (λ f. f.name.items) c.index-files-place.is ∙ sym c.as_slice-name.ensures.value,
    ) in
    elim c.if-comes_before.branch [
      | then-comes_before+then-comes_first w ↦ record {
        best = subst (IsFirstOf files after (count + 1)) (sym w.best-is) (taken files after count name is (sym c.comes_before.ensures ∙ w.if-comes_before.true) c.loop-place.best w.comes_first.result w.if-comes_first.true w.comes_first.ensures old.best);
        below = subst (λ b. IfSome b (λ place. place < length files)) (sym w.best-is) c.loop-place-test.true;
      }
      | else-comes_before w ↦ record {
        best = subst (IsFirstOf files after (count + 1)) (sym w.best-is) (elim w.else-comes_before.branch [
          | else-comes_before-via-then-comes_before+else-comes_first v ↦ kept files after count name is c.loop-place.best v.comes_first.result v.if-comes_first.false v.comes_first.ensures old.best
          | else-comes_before-via-else-comes_before v ↦ passed files after count name is (sym c.comes_before.ensures ∙ v.if-comes_before.false) c.loop-place.best old.best
        ]);
        below = subst (λ b. IfSome b (λ place. place < length files)) (sym w.best-is) old.below;
      }
    ]

pub returns-clause-first : goal.returns-clause-first
returns-clause-first c =
    let files = c.args.files.now in
    let end : c.loop-place.place ≡ length files = omega (arith, c.loop-place.auto.place-end, c.loop-place-test.false) in
    subst (λ count. IsFirstOf files c.args.after.now count c.loop-place.best) end c.loop-place.invariant.best

pub returns-clause-below : goal.returns-clause-below
returns-clause-below c = c.loop-place.invariant.below
