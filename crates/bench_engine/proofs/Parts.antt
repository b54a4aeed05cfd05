-- Fields of arrays: names that are bound to them.
use Rattle.std.proofs.Common.{◌≡◌, ◌<◌, ◌+◌, ◌*◌, ℕ, List, [], ◌∷◌, ◌++◌, length, map, refl, sym, ap, ◌∙◌, subst, Option, Some, Ok, arith}
use Rattle.bench_engine.proofs.Words.{ok_or, NoSuchField, ◌>>=◌, Descr, item_size, fields, field_at, field_of, Layout, offsets, Fits, IsNested, offsets_of, IsFieldOf, GivesField, State, buffer_of, descr_of, descr_at, start_at, Shows, IsViewIn, path-then, descr-then, start-then, ArrayRef, Bound, Array, Field, IsOf, IsSeen, a_view, seen, Meets}
use Rattle.name_store.specs.declared.bound.Bound.TheVariants as bound

-- one field of an array
abbrev pub part_of : Array → ℕ → Array
part_of a k = record a { path = a.path ++ k ∷ [] }

-- the offsets of a part of each item
further : (item start at : ℕ) (places : List ℕ) → map (λ offset. offset + at) (offsets_of item start places) ≡ offsets_of item (start + at) places
further item start at [] = refl
further item start at (p ∷ places) =
    let one : item * p + start + at ≡ item * p + (start + at) = omega arith in
    λ i. one i ∷ further item start at places i

-- ---- the field lies in the array's buffer

seen-part : (s : State) (base : Array) (r : ArrayRef) (path : List ℕ) (k : ℕ) (new : Layout) → Shows s base r → k < length (fields r.descr.now) → path ≡ r.path.now ++ k ∷ [] →
    IsFieldOf r.layout.now new (item_size r.descr.now) (field_at r.descr.now k) → IsViewIn s r.number path new r.writable (part_of base k)
seen-part s base r path k new shows low goes is = record {
  number_is = shows.view.number_is;
  path_is = goes ∙ ap (λ (p : List ℕ). p ++ k ∷ []) shows.view.path_is;
  there = shows.view.there;
  laid = record {
    part = path-then descr base.path k shows.view.laid.part (subst (λ (d : Descr). k < length (fields d)) (sym shows.descr) low);
    shape = is.shape ∙ shows.view.laid.shape;
    places = is.places ∙ ap (map (λ offset. offset + (field_at r.descr.now k).at)) shows.view.laid.places
        ∙ further (item_size descr) (start_at descr base.path) (field_at r.descr.now k).at base.places ∙ ap (λ n. offsets_of (item_size descr) n base.places) begins;
    writable_is = shows.view.laid.writable_is;
    fits = subst (λ (n : ℕ). Fits new bytes n) (sym sized) (is.fits bytes fits);
    nested = λ free. subst (λ (n : ℕ). IsNested (offsets new) n) (sym sized) (is.nested (subst (λ (d : Descr). IsNested (offsets r.layout.now) (item_size d)) shows.descr (shows.view.laid.nested free)));
  };
}
  where
    descr : Descr
    descr = (buffer_of s base).descr

    bytes : ℕ
    bytes = length (buffer_of s base).items * item_size descr

    fits : Fits r.layout.now bytes (item_size r.descr.now)
    fits = subst (λ (d : Descr). Fits r.layout.now bytes (item_size d)) shows.descr shows.view.laid.fits

    begins : start_at descr base.path + (field_at r.descr.now k).at ≡ start_at descr (base.path ++ k ∷ [])
    begins =
        let field : (field_at (descr_at descr base.path) k).at ≡ (field_at r.descr.now k).at = ap (λ (d : Descr). (field_at d k).at) shows.descr in
        omega (arith, start-then descr base.path k, field)

    sized : item_size (descr_of s (part_of base k)) ≡ item_size (field_at r.descr.now k).descr
    sized = ap item_size (descr-then descr base.path k ∙ ap (λ (d : Descr). (field_at d k).descr) shows.descr)

part-descr : (s : State) (base : Array) (r : ArrayRef) (k : ℕ) → Shows s base r → descr_of s (part_of base k) ≡ (field_at r.descr.now k).descr
part-descr s base r k shows = descr-then (buffer_of s base).descr base.path k ∙ ap (λ (d : Descr). (field_at d k).descr) shows.descr

pub field-part : (s : State) (base : Array) (r : ArrayRef) (name : List ℕ) (what : Bound) (descr : Descr) (path : List ℕ) (layout : Layout) (k : ℕ) → Shows s base r → field_of r.descr.now name ≡ Some k → k < length (fields r.descr.now) → path ≡ r.path.now ++ k ∷ [] →
    what ≡ bound.View r.number path layout r.writable → descr ≡ (field_at r.descr.now k).descr → GivesField r.layout.now r.descr.now (field_of r.descr.now name) (Ok layout) → Meets (IsSeen s) (Ok (record { bound = what; descr = record r.descr { now = descr } })) (seen (Field name) s base)
field-part s base r name what descr path layout k shows there low goes is typed given =
    subst (λ (o : Option ℕ). Meets (IsSeen s) (Ok (record { bound = what; descr = record r.descr { now = descr } })) (ok_or o NoSuchField >>= (λ k. Ok (a_view (part_of base k))))) (sym (ap (λ (d : Descr). field_of d name) shows.descr ∙ there)) (
      subst (λ (b : Bound). IsOf s b (a_view (part_of base k))) (sym is)
          (seen-part s base r path k layout shows low goes (subst (λ (o : Option ℕ). GivesField r.layout.now r.descr.now o (Ok layout)) there given)),
      part-descr s base r k shows ∙ sym typed,
    )
