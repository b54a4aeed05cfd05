-- Laws of the fields of a record: their offsets and their number.
use Rattle.std.proofs.Common.{◌≡◌, ℕ, zero, suc, ◌+◌, ◌<◌, ◌≤◌, ◌∷◌, length, get_or, refl, sym, ap, ◌∙◌, arith, List, [], drop, add-one, drop-cons, subst}
use Rattle.elem_descr.specs.declared.descr.Descr.{Descr}
use Rattle.elem_descr.specs.declared.descr.Descr.TheVariants.{Scalar as ScalarDescr, Record as RecordDescr}
use Rattle.elem_descr.specs.declared.descr.Field.{Field}
use Rattle.elem_descr.specs.Encoding.{size}
use Rattle.elem_descr.specs.Fields.{Fields, no_more, scalar_field, record_field, Structure, total}
use Rattle.elem_descr.specs.Descriptors.{IsLegal, InOrder, AreNamedWithin, fields_of, listed, before, leaf_count, depth}
use Rattle.elem_descr.specs.Items.{item_size}
use Rattle.elem_descr.specs.Weights.{weight}

pub InOrder-within : (from : ℕ) (fields : Fields) (bytes : ℕ) → InOrder from fields bytes → from ≤ bytes
InOrder-within from no_more bytes h = h
InOrder-within from (scalar_field name at scalar rest) bytes h = omega (arith, h.0, InOrder-within (at + size scalar) rest bytes h.2)
InOrder-within from (record_field name at width inner rest) bytes h = omega (arith, h.0, InOrder-within (at + width) rest bytes h.3)

-- If a field and those after it are in order, the field begins at `from` or later and has at least one byte, and the
-- others are in order from its end on.
pub InOrder-before : (from : ℕ) (name : List ℕ) (at : ℕ) (descr : Descr) (rest : Fields) (bytes : ℕ) → InOrder from (before name at descr rest) bytes → (from ≤ at) × (1 ≤ item_size descr) × InOrder (at + item_size descr) rest bytes
InOrder-before from name at (ScalarDescr scalar) rest bytes h = h
InOrder-before from name at (RecordDescr structure) rest bytes h = (h.0, h.1, h.3)

-- If the fields are in order, each of them ends at or before `bytes`.
pub field_within : (from : ℕ) (fields : List Field) (bytes k : ℕ) (field : Field) → InOrder from (listed fields) bytes → k < length fields → field ≡ get_or fields k field → field.at + item_size field.descr ≤ bytes
field_within from [] bytes k field h l is = absurd (omega arith)
field_within from (first ∷ fields) bytes zero field h l is =
    let parts = InOrder-before from first.name first.at first.descr (listed fields) bytes h in
    rw is (InOrder-within (first.at + item_size first.descr) (listed fields) bytes parts.2)
field_within from (first ∷ fields) bytes (suc k) field h l is =
    let parts = InOrder-before from first.name first.at first.descr (listed fields) bytes h in
    field_within (first.at + item_size first.descr) fields bytes k field parts.2 (omega arith) is

-- A list without its first `i` elements begins with the `i`-th, and continues with the list without its first `i + 1`.
pub rest_at : {X : Type 0} (xs : List X) (x : X) (i : ℕ) → i < length xs → x ≡ get_or xs i x → drop i xs ≡ x ∷ drop (i + 1) xs
rest_at xs x i l e = drop-cons xs i x l ∙ ap (λ first. first ∷ drop (suc i) xs) (sym e) ∙ rw (add-one i) refl

-- Turning fields into a list and back gives the same fields.
pub listed-fields_of : (fields : Fields) → listed (fields_of fields) ≡ fields
listed-fields_of no_more = refl
listed-fields_of (scalar_field name at scalar rest) = ap (scalar_field name at scalar) (listed-fields_of rest)
listed-fields_of (record_field name at width inner rest) = ap (record_field name at width inner) (listed-fields_of rest)

-- a legal record has at least one byte
pub legal_size : (s : Structure) → IsLegal s → 1 ≤ s.size
legal_size s h = some_bytes s.fields s.size h.named.some h.in_order
  where
    some_bytes : (fields : Fields) (bytes : ℕ) → 1 ≤ length (fields_of fields) → InOrder 0 fields bytes → 1 ≤ bytes
    some_bytes no_more bytes some order = absurd (omega arith)
    some_bytes (scalar_field name at scalar rest) bytes some order = omega (arith, order.1, InOrder-within (at + size scalar) rest bytes order.2)
    some_bytes (record_field name at width inner rest) bytes some order = omega (arith, order.1, InOrder-within (at + width) rest bytes order.3)

-- If there is at least one field, here and in each record within, there is at least one leaf.
pub some_leaves : (fields : Fields) → 1 ≤ length (fields_of fields) → AreNamedWithin fields → 1 ≤ leaf_count fields
some_leaves no_more some named = absurd (omega arith)
some_leaves (scalar_field name at scalar rest) some named = omega arith
some_leaves (record_field name at size inner rest) some named = omega (arith, some_leaves inner named.0.some named.1)

-- the depth of fields is at least 1
pub some_depth : (fields : Fields) → 1 ≤ depth fields
some_depth no_more = omega arith
some_depth (scalar_field name at scalar rest) = some_depth rest
some_depth (record_field name at size inner rest) = omega (arith, some_depth rest)

weight-before : (name : List ℕ) (at : ℕ) (descr : Descr) (rest : Fields) → weight descr + total rest ≤ total (before name at descr rest)
weight-before name at (ScalarDescr scalar) rest = omega arith
weight-before name at (RecordDescr structure) rest = omega arith

-- the weight of one field is at most the total of all fields
pub weight-one : (fields : List Field) (k : ℕ) (field : Field) → k < length fields → field ≡ get_or fields k field → weight field.descr ≤ total (listed fields)
weight-one [] k field l is = absurd (omega arith)
weight-one (first ∷ fields) zero field l is = rw is (omega (arith, weight-before first.name first.at first.descr (listed fields)))
weight-one (first ∷ fields) (suc k) field l is = omega (arith, weight-one fields k field (omega arith) is, weight-before first.name first.at first.descr (listed fields))

-- If the fields after the first `i` are in order, the `i`-th begins at `from` or later and has at least one byte, and
-- those after it are in order from its end on.
pub first_field : (from bytes : ℕ) (fields : List Field) (field : Field) (i : ℕ) → i < length fields → field ≡ get_or fields i field → InOrder from (listed (drop i fields)) bytes → (from ≤ field.at) × (1 ≤ item_size field.descr) × InOrder (field.at + item_size field.descr) (listed (drop (i + 1) fields)) bytes
first_field from bytes fields field i l is order = InOrder-before from field.name field.at field.descr (listed (drop (i + 1) fields)) bytes (subst (λ fs. InOrder from (listed fs) bytes) (rest_at fields field i l is) order)

-- Turning the list of a record's fields back gives these fields.
pub seen_fields : (fields : List Field) (all : Fields) → fields ≡ fields_of all → listed fields ≡ all
seen_fields fields all are = ap listed are ∙ listed-fields_of all
