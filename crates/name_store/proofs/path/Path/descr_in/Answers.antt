use Rattle.std.proofs.Common.{◌≡◌, ◌+◌, ◌<◌, ℕ, List, ◌∷◌, length, drop, sym, ap, subst, ◌∙◌, slice_index_or, arith, add-one, drop-cons, refl}
use Rattle.name_store.proofs.Words.{drop_all, Field, IsPathOf, descr_at}
use Rattle.name_store.proofs.path.Path.descr_in.Goals as goal

-- the remaining numbers are the next one, and those after it
next : (numbers : List ℕ) (i : ℕ) → i < length numbers → drop i numbers ≡ slice_index_or numbers i 0 ∷ drop (i + 1) numbers
next numbers i low = drop-cons numbers i 0 low ∙ rw (add-one i) refl

pub loop-number-init : goal.loop-number-init
loop-number-init c = record {
  path = subst (IsPathOf c.args.whole.now) (sym c.as_slice-number-items.ensures) c.requires;
  leads = ap (descr_at c.args.whole.now) c.as_slice-number-items.ensures;
}

pub field-requires : goal.field-requires
field-requires c =
    (subst (IsPathOf c.loop-number.descr.now) (next c.as_slice-number-items.result.now c.loop-number.number-index c.loop-number-test.true) c.loop-number.invariant.path).0

pub loop-number-preserved : goal.loop-number-preserved
loop-number-preserved c =
    let left = drop (c.loop-number.number-index + 1) c.as_slice-number-items.result.now in
    let here = next c.as_slice-number-items.result.now c.loop-number.number-index c.loop-number-test.true in
    record {
      path = subst (λ (field : Field). IsPathOf field.descr left) (sym c.field.ensures.value) (subst (IsPathOf c.loop-number.descr.now) here c.loop-number.invariant.path).1;
      leads = ap (λ (field : Field). descr_at field.descr left) c.field.ensures.value ∙ ap (descr_at c.loop-number.descr.now) (sym here) ∙ c.loop-number.invariant.leads;
    }

pub returns : goal.returns
returns c =
    let none = drop_all c.loop-number.number-index c.as_slice-number-items.result.now (omega (arith, c.loop-number-test.false)) in
    ap (descr_at c.loop-number.descr.now) (sym none) ∙ c.loop-number.invariant.leads
