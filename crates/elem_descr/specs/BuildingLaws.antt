-- Laws of building a record without alignment.
use Rattle.std.specs.Prelude.{◌≡◌, ◌≤◌, ◌<◌, ◌+◌, ℕ, List, [], ◌∷◌, ◌++◌, length, map, Ok}
use Rattle.std.proofs.Common.{min, false, inl, inr, refl, ap, arith}
use Rattle.elem_descr.specs.Words.{next_multiple_of, IsDistinct, AllByRecursion, bytes_eq, cases_lt, le-leb, lt-leb, lt-ltb, min-eq_left, min-eq_right}
use Rattle.elem_descr.specs.declared.descr.Field.{Field}
use Rattle.elem_descr.specs.declared.descr.Descr.{Descr}
use Rattle.elem_descr.specs.declared.descr.Descr.TheVariants.{Record as RecordDescr}
use Rattle.elem_descr.specs.Fields.{Fields}
use Rattle.elem_descr.specs.Items.{item_size, leaves_of}
use Rattle.elem_descr.specs.RecordBuilding.{max_size, Partial, is_taken, checked_name, added, widened}

abbrev pub packed : ℕ → ℕ → ℕ → List Field → Partial
packed levels leaves bytes done = record { size = bytes; alignment = 1; leaves = leaves; levels = levels; fields = done }

pub multiple_of_one : (n : ℕ) → next_multiple_of n 1 ≡ n
multiple_of_one n = omega arith

abbrev pub field_of : List ℕ → ℕ → Descr → Field
field_of name at descr = record { name = name; at = at; descr = descr }

-- the record with a field added after its `from` bytes so far
abbrev pub grown : ℕ → ℕ → ℕ → List Field → List ℕ → Descr → Partial
grown levels leaves from done name descr = packed levels (leaves + length (leaves_of descr)) (from + item_size descr) (done ++ field_of name from descr ∷ [])

pub name_ok : (p : Partial) (name : List ℕ) → is_taken p.fields name ≡ false → length p.fields < 64 → checked_name p name ≡ Ok tt
unfolding checked_name
name_ok p name new few = rw (new, lt-ltb (length p.fields) 64 few) refl

pub added_ok : (levels leaves from : ℕ) (done : List Field) (name : List ℕ) (alignment : ℕ) (descr : Descr) → alignment ≡ 1 → leaves + length (leaves_of descr) ≤ 2048 → from + item_size descr ≤ 65536 → added (packed levels leaves from done) name alignment descr ≡ Ok (grown levels leaves from done name descr)
unfolding added
added_ok levels leaves from done name alignment descr one few small =
    rw (one, le-leb (leaves + length (leaves_of descr)) 2048 few, multiple_of_one from, le-leb (from + item_size descr) 65536 small) refl

abbrev pub names : List Field → List (List ℕ)
names fields = map (λ field. field.name) fields

-- If the names of all fields are distinct, the name of the next field is not taken by those before it.
pub not_taken : (done later : List Field) (field : Field) → IsDistinct bytes_eq (names (done ++ field ∷ later)) → is_taken done field.name ≡ false
unfolding IsDistinct
not_taken [] later field h = refl
not_taken (first ∷ done) later field h = rw (apart first.name done later field h.0) (not_taken done later field h.1)
  where
    apart : (name : List ℕ) (done later : List Field) (field : Field) → AllByRecursion (λ other. bytes_eq name other ≡ false) (names (done ++ field ∷ later)) → bytes_eq name field.name ≡ false
    apart name [] later field h = h.0
    apart name (first ∷ done) later field h = apart name done later field h.1

-- the record type of `size` bytes with these fields
abbrev pub record_type : ℕ → Fields → Descr
record_type size fields = RecordDescr (record { size = size; fields = fields })

-- Capping the padding at `max_size + 1` bytes changes nothing: more than `max_size` bytes are too large in any case.
pub widened-capped : (p : Partial) (n : ℕ) → widened p (min n (max_size + 1)) ≡ widened p n
unfolding widened
widened-capped p n =
    elim (cases_lt max_size n) [
      | inl large ↦ let capped : min n (max_size + 1) ≡ max_size + 1 = min-eq_right (omega (arith, large)) in rw (capped, lt-leb (p.size + (max_size + 1)) max_size (omega arith), lt-leb (p.size + n) max_size (omega (arith, large))) refl
      | inr small ↦ ap (widened p) (min-eq_left (omega (arith, small)))
    ]
