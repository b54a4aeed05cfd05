-- Items that are changed by an operation.
use Rattle.std.proofs.Common.{◌≡◌, ◌≤◌, ◌*◌, ℕ, true, nat_le, if◌then◌else◌, IfErr, List, [], ◌∷◌, map, IfOk, Result, Ok, Err, refl, sym, ap, ◌∙◌, subst, inl}
use Rattle.bench_engine.proofs.Words.{is_ok, false≢true, Refusal, OutOfMemory, TooLarge, NoSuchCast, Descr, Scalar, Byte, Int, same_answer, bind_ok, item_from, item_size, leaves_of, LeafValue, count, max_bytes, offsets, broadcast_index, can_stretch, common_shape, stretched, stretched-ok, can_cast, cast_item, same_kind, scalar_of, stretched_items, Items, length-offsets, IsShape, Owned, Literal, Operation, ScalarDescr, BoolScalar, View, map-map, Contents, OperandValues, literal_values, operation_scalar, operation_on, operation_with, updated_items, changed_with, Stands, HoldsItems, held, IsInCOrder, Meets}
use Rattle.elem_descr.specs.declared.scalar.Scalar.TheVariants.{Bytes}
use Rattle.bench_engine.proofs.GivenLaws.{cast-lacks}
use Rattle.bench_engine.proofs.LegalLaws.{legal-common}
use Rattle.bench_engine.proofs.LiteralLaws.{IsOneItem, literal-one}
use Rattle.bench_engine.proofs.Stored.{items-from}
use Rattle.bench_engine.proofs.StretchLaws.{common-onto, none-fits, stretched-can}
use Rattle.bench_engine.proofs.WorkLaws.{same_refusal, worked-bad, worked-done}

-- ---- the refusals

module _ (op : Operation) (d : Descr) (v w : OperandValues) where
  pub changed-type : (e : Refusal) → operation_scalar op d w.descr ≡ Err e → updated_items op d v w ≡ Err e
  unfolding updated_items
  changed-type e bad = rw bad refl

  pub changed-record : (s : Scalar) (e : Refusal) → operation_scalar op d w.descr ≡ Ok s → scalar_of d ≡ Err e → updated_items op d v w ≡ Err e
  unfolding updated_items
  changed-record s e typed bad = rw (typed, bad) refl

  pub changed-kind : (s from : Scalar) (e : Refusal) → operation_scalar op d w.descr ≡ Ok s → scalar_of d ≡ Ok from → same_kind s from ≡ Err e → updated_items op d v w ≡ Err e
  unfolding updated_items
  changed-kind s from e typed own bad = rw (typed, own, bad) refl

  pub changed-apart : (s from : Scalar) (e : Refusal) → operation_scalar op d w.descr ≡ Ok s → scalar_of d ≡ Ok from → same_kind s from ≡ Ok tt → stretched w.shape v.shape ≡ Err e → updated_items op d v w ≡ Err e
  unfolding updated_items
  changed-apart s from e typed own kind bad = rw (typed, own, kind, bad) refl

  pub changed-worked : (s from : Scalar) (view : View) (e : Refusal) → operation_scalar op d w.descr ≡ Ok s → scalar_of d ≡ Ok from → same_kind s from ≡ Ok tt → stretched w.shape v.shape ≡ Ok view → operation_on op v w ≡ Err e → updated_items op d v w ≡ Err e
  unfolding updated_items
  changed-worked s from view e typed own kind fits bad = rw (typed, own, kind, fits, bad) refl

  pub changed-done : (s from : Scalar) (view : View) (new : Contents) → operation_scalar op d w.descr ≡ Ok s → scalar_of d ≡ Ok from → same_kind s from ≡ Ok tt → stretched w.shape v.shape ≡ Ok view → operation_on op v w ≡ Ok new →
      updated_items op d v w ≡ Ok (map (cast_item new.buffer.descr d) new.buffer.items)
  unfolding updated_items
  changed-done s from view new typed own kind fits good = rw (typed, own, kind, fits, good) refl

-- ---- the result has the old shape

worked-parts : (op : Operation) (v w : OperandValues) (new : Contents) → operation_on op v w ≡ Ok new → (s : Scalar) × (operation_scalar op v.descr w.descr ≡ Ok s) × (new.buffer.descr ≡ ScalarDescr s) × (common_shape (v.shape ∷ w.shape ∷ []) ≡ Ok new.shape)
unfolding operation_on
worked-parts op v w new is =
    let typed = bind_ok (operation_scalar op v.descr w.descr) _ new is in
    let shaped = bind_ok (common_shape (v.shape ∷ w.shape ∷ [])) _ new typed.2 in
    let done = same_answer _ new shaped.2 in
    (typed.0, typed.1, sym (ap (λ (c : Contents). c.buffer.descr) done), shaped.1 ∙ ap Ok (ap (λ (c : Contents). c.shape) done))

pub worked-descr : (op : Operation) (v w : OperandValues) (o : Owned) (s : Scalar) → operation_scalar op v.descr w.descr ≡ Ok s → operation_on op v w ≡ Ok (held o) → o.descr ≡ ScalarDescr s
worked-descr op v w o s typed is =
    let parts = worked-parts op v w (held o) is in
    parts.2 ∙ ap ScalarDescr (same_answer parts.0 s (sym parts.1 ∙ typed))

pub worked-shape : (op : Operation) (v w : OperandValues) (o : Owned) → can_stretch w.shape v.shape ≡ true → operation_on op v w ≡ Ok (held o) → o.layout.shape ≡ v.shape
worked-shape op v w o can is = common-onto v.shape w.shape o.layout.shape can (worked-parts op v w (held o) is).3

pub view-can : (shape target : List ℕ) (view : View) → stretched shape target ≡ Ok view → can_stretch shape target ≡ true
view-can shape target view is = stretched-can shape target (ap is_ok is)

-- if there is a common shape, only the type can be refused
pub worked-type : (op : Operation) (v w : OperandValues) (e : Refusal) → common_shape (v.shape ∷ w.shape ∷ []) ≡ Ok v.shape → operation_on op v w ≡ Err e → operation_scalar op v.descr w.descr ≡ Err e
worked-type op v w e common is = by-type (operation_scalar op v.descr w.descr) refl
  where
    by-type : (r : Result Scalar Refusal) → operation_scalar op v.descr w.descr ≡ r → r ≡ Err e
    by-type (Ok s) typed = absurd (false≢true (sym (ap is_ok is) ∙ ap is_ok (worked-done op v w s v.shape typed common)))
    by-type (Err e') bad = same_refusal e' e (sym (worked-bad op v w e' bad) ∙ is)

-- ---- a result that may be written back can be cast

pub kind-casts : (s from : Scalar) → same_kind s from ≡ Ok tt → can_cast (ScalarDescr s) (ScalarDescr from) ≡ true
unfolding same_kind
kind-casts (Bytes n) from is = absurd (false≢true (ap is_ok is))
kind-casts BoolScalar (Bytes n) is = absurd (false≢true (ap is_ok is))
kind-casts (Byte signed) (Bytes n) is = absurd (false≢true (ap is_ok is))
kind-casts (Int signed width order) (Bytes n) is = absurd (false≢true (ap is_ok is))
kind-casts BoolScalar BoolScalar is = refl
kind-casts BoolScalar (Byte signed) is = refl
kind-casts BoolScalar (Int signed width order) is = refl
kind-casts (Byte signed) BoolScalar is = refl
kind-casts (Byte signed) (Byte signed') is = refl
kind-casts (Byte signed) (Int signed' width order) is = refl
kind-casts (Int signed width order) BoolScalar is = refl
kind-casts (Int signed width order) (Byte signed') is = refl
kind-casts (Int signed width order) (Int signed' width' order') is = refl

-- ---- the items that are written

-- the items of an owned array in C order
pub items-held : (o : Owned) → IsInCOrder o → (held o).buffer.items ≡ map (item_from o.descr o.block) (offsets o.layout)
items-held o order = sym (ap (map (item_from o.descr o.block)) order ∙ items-from o.descr (count o.layout.shape) o.block)

-- the changed items are the cast ones
pub changed-gives : (d : Descr) (n : ℕ) (new : Owned) (result : Result Owned Refusal) (there : Result (List (List LeafValue)) Refusal) → IsInCOrder new → there ≡ Ok (map (cast_item new.descr d) (held new).buffer.items) → n ≡ count new.layout.shape →
    Meets (HoldsItems d (count new.layout.shape)) result (Ok (map (cast_item new.descr d) (map (item_from new.descr new.block) (offsets new.layout)))) → Meets (HoldsItems d n) result there
changed-gives d n new result there order is counted gives =
    subst (λ (n : ℕ). Meets (HoldsItems d n) result there) (sym counted)
    (subst (Meets (HoldsItems d (count new.layout.shape)) result) (ap (λ items. Ok (map (cast_item new.descr d) items)) (sym (items-held new order)) ∙ sym is) gives)

-- new items, cast
pub cast-changed : (new : Owned) (d : Descr) (result : Result Owned Refusal) → can_cast new.descr d ≡ true → count new.layout.shape * item_size d ≤ max_bytes → IfOk result (λ o. o.descr ≡ d) → IfOk result (λ o. o.layout.shape ≡ new.layout.shape) →
    IfOk result (λ o. map (item_from d o.block) (offsets o.layout) ≡ map (λ offset. cast_item new.descr d (item_from new.descr new.block offset)) (offsets new.layout)) →
    IfErr result (λ e. e ≡ (if can_cast new.descr d then (if nat_le (count new.layout.shape * item_size d) max_bytes then OutOfMemory else TooLarge) else NoSuchCast)) →
    Meets (HoldsItems d (count new.layout.shape)) result (Ok (map (cast_item new.descr d) (map (item_from new.descr new.block) (offsets new.layout))))
cast-changed new d (Ok o) can few typed shaped items refused = (
  record { alike = record { leaves = ap leaves_of typed; size = ap item_size typed }; count = length-offsets o.layout ∙ ap count shaped },
  ap (λ (d : Descr). map (item_from d o.block) (offsets o.layout)) typed ∙ items ∙ sym (map-map (cast_item new.descr d) (item_from new.descr new.block) (offsets new.layout)),
)
cast-changed new d (Err e) can few typed shaped items refused = inl (cast-lacks (can_cast new.descr d) new.layout.shape new.layout.shape (item_size d) e can refl few refused)

-- ---- items as an operand

abbrev pub own_values : Items → OperandValues
own_values x = record { descr = x.descr.now; shape = x.layout.now.shape; stretched_to = stretched_items x.descr.now x.block.now x.layout.now }

pub stands-own : (x : Items) → Stands (own_values x) x
stands-own x = record { descr = refl; shape = refl; items = λ target can. refl }

-- ---- a literal

literal-can : (op : Operation) (v w : OperandValues) (l : Literal) → literal_values op v.descr l ≡ Ok w → can_stretch w.shape v.shape ≡ true
literal-can op v w l is =
    let one = subst (λ (r : Result OperandValues Refusal). IfOk r IsOneItem) is (literal-one op v.descr l) in
    ap (λ (w : OperandValues). can_stretch w.shape v.shape) one.2 ∙ none-fits v.shape

pub literal-parts : (op : Operation) (d : Descr) (v : OperandValues) (l : Literal) (new : Owned) → v.descr ≡ d → operation_with op v (literal_values op v.descr l) ≡ Ok (held new) →
    (w : OperandValues) × (s : Scalar) × (literal_values op d l ≡ Ok w) × (operation_on op v w ≡ Ok (held new)) × (stretched w.shape v.shape ≡ Ok (record { shape = v.shape; leads = broadcast_index w.shape })) × (new.layout.shape ≡ v.shape) × (operation_scalar op d w.descr ≡ Ok s) × (new.descr ≡ ScalarDescr s)
literal-parts op d v l new same is =
    let there = bind_ok (literal_values op v.descr l) (operation_on op v) (held new) is in
    let can = literal-can op v there.0 l there.1 in
    let parts = worked-parts op v there.0 (held new) there.2 in (
      there.0,
      parts.0,
      ap (λ (d : Descr). literal_values op d l) (sym same) ∙ there.1,
      there.2,
      stretched-ok there.0.shape v.shape can,
      worked-shape op v there.0 new can there.2,
      ap (λ (d : Descr). operation_scalar op d there.0.descr) (sym same) ∙ parts.1,
      parts.2,
    )

pub literal-refused : (op : Operation) (d : Descr) (v : OperandValues) (l : Literal) (e : Refusal) → IsShape v.shape → v.descr ≡ d → operation_with op v (literal_values op v.descr l) ≡ Err e → changed_with op d v (literal_values op d l) ≡ Err e
literal-refused op d v l e legal same is =
    sym (ap (λ (d : Descr). changed_with op d v (literal_values op d l)) same) ∙ by-literal (literal_values op v.descr l) refl is
  where
    by-literal : (r : Result OperandValues Refusal) → literal_values op v.descr l ≡ r → operation_with op v r ≡ Err e → changed_with op v.descr v (literal_values op v.descr l) ≡ Err e
    by-literal (Err e') there bad = ap (changed_with op v.descr v) there ∙ same_refusal e' e bad
    by-literal (Ok w) there bad =
        ap (changed_with op v.descr v) there
        ∙ changed-type op v.descr v w e (worked-type op v w e (legal-common v.shape w.shape legal (literal-can op v w l there)) bad)
