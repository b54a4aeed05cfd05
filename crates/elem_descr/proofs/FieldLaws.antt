-- The fields of a record and their leaves, one after another.
use Rattle.std.proofs.Common.{◌≡◌, ◌≤◌, ◌<◌, ◌+◌, ℕ, zero, suc, List, [], ◌∷◌, ◌++◌, length, map, take, drop, get_or, IfSome, slice_get, refl, sym, ap, ◌∙◌, arith}
use Rattle.elem_descr.proofs.Words.{length-map, get_or_default, take-append_seam, drop-append-add, Descr, ScalarDescr, RecordDescr, Scalar, Field, Leaf, size, Fields, Structure, IsLegal, InOrder, field_of, fields_of, listed, before, leaf_count, IsRecord, item_size, leaves_of, leaves_from, leaves_in, fields, no_field, field_at, no_leaf, moved_leaf, LeavesInOrder, AreInOrder, entry_within, leaf_within, leaves_in_order, length-leaves_from, leaf_count-before, leaves_from-before, field_within, listed-fields_of, some_leaves}

-- If leaves are in order from `from` on, each of them begins at `from` or later and has at least one byte.
entry_begins : (from : ℕ) (leaves : List Leaf) (bytes k : ℕ) (d : Leaf) → AreInOrder from leaves bytes → k < length leaves → (from ≤ (get_or leaves k d).at) × (1 ≤ size (get_or leaves k d).scalar)
entry_begins from [] bytes k d order l = absurd (omega arith)
entry_begins from (leaf ∷ leaves) bytes zero d order l = (order.0, order.1)
entry_begins from (leaf ∷ leaves) bytes (suc k) d order l =
    let later = entry_begins (leaf.at + size leaf.scalar) leaves bytes k d order.2 (omega arith) in (omega (arith, order.0, later.0), later.1)

-- Of two leaves in order, the first ends at or before the offset at which the second begins.
one_before : (from : ℕ) (leaves : List Leaf) (bytes j k : ℕ) (d : Leaf) → AreInOrder from leaves bytes → j < k → k < length leaves → (get_or leaves j d).at + size (get_or leaves j d).scalar ≤ (get_or leaves k d).at
one_before from [] bytes j k d order less l = absurd (omega arith)
one_before from (leaf ∷ leaves) bytes j zero d order less l = absurd (omega arith)
one_before from (leaf ∷ leaves) bytes zero (suc k) d order less l = (entry_begins (leaf.at + size leaf.scalar) leaves bytes k d order.2 (omega arith)).0
one_before from (leaf ∷ leaves) bytes (suc j) (suc k) d order less l = one_before (leaf.at + size leaf.scalar) leaves bytes j k d order.2 (omega arith) (omega arith)

-- If leaves are in order, each of them begins before `bytes`.
pub leaf_begins : (from : ℕ) (leaves : List Leaf) (bytes k : ℕ) (leaf : Leaf) → AreInOrder from leaves bytes → k < length leaves → leaf ≡ get_or leaves k leaf → leaf.at < bytes
leaf_begins from leaves bytes k leaf order l e =
    let some : 1 ≤ size leaf.scalar = rw (← e) at (entry_begins from leaves bytes k leaf order l).1 in
    omega (arith, some, leaf_within from leaves bytes k leaf order l e)

-- ---- the leaves of an item

in_order_apart : (descr : Descr) → AreInOrder 0 (leaves_of descr) (item_size descr) → LeavesInOrder descr
in_order_apart descr order = record {
  some = λ k l. (entry_begins 0 (leaves_of descr) (item_size descr) k no_leaf order l).1;
  within = λ k l. entry_within 0 (leaves_of descr) (item_size descr) k no_leaf order l;
  apart = λ j k less l. one_before 0 (leaves_of descr) (item_size descr) j k no_leaf order less l;
}

pub scalar_apart : (descr : Descr) (scalar : Scalar) → descr ≡ ScalarDescr scalar → 1 ≤ size scalar → LeavesInOrder descr
scalar_apart descr scalar is some = rw is (in_order_apart (ScalarDescr scalar) (omega arith, some, omega arith))

pub record_apart : (descr : Descr) (structure : Structure) → descr ≡ RecordDescr structure → IsLegal structure → LeavesInOrder descr
record_apart descr structure is legal = rw is (in_order_apart (RecordDescr structure) (leaves_in_order structure legal))

-- ---- the list of the fields

pub fields_of-before : (name : List ℕ) (at : ℕ) (descr : Descr) (rest : Fields) → fields_of (before name at descr rest) ≡ field_of name at descr ∷ fields_of rest
fields_of-before name at (ScalarDescr scalar) rest = refl
fields_of-before name at (RecordDescr structure) rest = refl

pub fields_of-listed : (fields : List Field) → fields_of (listed fields) ≡ fields
fields_of-listed [] = refl
fields_of-listed (field ∷ fields) = fields_of-before field.name field.at field.descr (listed fields) ∙ ap (λ (later : List Field). field ∷ later) (fields_of-listed fields)

pub leaves_in-listed : (fields : List Field) → leaves_in fields ≡ leaf_count (listed fields)
leaves_in-listed [] = refl
leaves_in-listed (field ∷ fields) = omega (arith, leaf_count-before field.name field.at field.descr (listed fields), leaves_in-listed fields)

-- ---- the invariant of a record

pub kept_in_order : (size : ℕ) (fields : List Field) (leaves : List Leaf) → IsRecord size fields leaves → AreInOrder 0 leaves size
kept_in_order size fields leaves h = rw h.held (leaves_in_order (record { size = size; fields = listed fields }) h.legal)

pub kept_count : (size : ℕ) (fields : List Field) (leaves : List Leaf) → IsRecord size fields leaves → length leaves ≡ leaf_count (listed fields)
kept_count size fields leaves h = ap (λ (all : List Leaf). length all) h.held ∙ length-leaves_from 0 (listed fields)

pub kept_some : (size : ℕ) (fields : List Field) (leaves : List Leaf) → IsRecord size fields leaves → 1 ≤ length leaves
kept_some size fields leaves h = omega (arith, kept_count size fields leaves h, some_leaves (listed fields) h.legal.named.some h.legal.within)

pub kept_few : (size : ℕ) (fields : List Field) (leaves : List Leaf) → IsRecord size fields leaves → length leaves ≤ 2048
kept_few size fields leaves h = omega (arith, kept_count size fields leaves h, h.legal.few)

-- the leaves of a field up to the `k`-th
pub leaf_moved : (by : ℕ) (leaves : List Leaf) (k : ℕ) (scalar : Scalar) (at : ℕ) → k < length leaves → IfSome (slice_get leaves k) (λ leaf. (scalar ≡ leaf.scalar) × (at ≡ leaf.at)) → map (moved_leaf by) (take (suc k) leaves) ≡ map (moved_leaf by) (take k leaves) ++ record { scalar = scalar; at = by + at } ∷ []
leaf_moved by [] k scalar at l is = absurd (omega arith)
leaf_moved by (leaf ∷ leaves) zero scalar at l is = rw (is.0, is.1) refl
leaf_moved by (leaf ∷ leaves) (suc k) scalar at l is = ap (λ (all : List Leaf). moved_leaf by leaf ∷ all) (leaf_moved by leaves k scalar at (omega arith) is)

-- ---- the remaining fields

pub leaves_before : (field : Field) (fields : List Field) → leaves_from 0 (listed (field ∷ fields)) ≡ map (moved_leaf field.at) (leaves_of field.descr) ++ leaves_from 0 (listed fields)
leaves_before field fields =
    let none : 0 + field.at ≡ field.at = omega arith in
    rw none at (leaves_from-before 0 field.name field.at field.descr (listed fields))

pub leaves_in-take : (fields : List Field) (k : ℕ) → leaves_in (take k fields) ≤ leaves_in fields
leaves_in-take fields zero = omega arith
leaves_in-take [] (suc k) = omega arith
leaves_in-take (field ∷ fields) (suc k) = omega (arith, leaves_in-take fields k)

-- The leaves of a field and of those before it are at most the leaves of all fields.
pub leaves_of_one : (fields : List Field) (k : ℕ) (field : Field) → k < length fields → field ≡ get_or fields k field → leaves_in (take k fields) + length (leaves_of field.descr) ≤ leaves_in fields
leaves_of_one [] k field l is = absurd (omega arith)
leaves_of_one (first ∷ fields) zero field l is = rw is (omega arith)
leaves_of_one (first ∷ fields) (suc k) field l is = omega (arith, leaves_of_one fields k field (omega arith) is)

pub leaves_at_one : (fields : List Field) (k : ℕ) (field : Field) → k < length fields → field ≡ get_or fields k field → take (length (leaves_of field.descr)) (drop (leaves_in (take k fields)) (leaves_from 0 (listed fields))) ≡ map (moved_leaf field.at) (leaves_of field.descr)
leaves_at_one [] k field l is = absurd (omega arith)
leaves_at_one (first ∷ fields) zero field l is =
    let front = map (moved_leaf first.at) (leaves_of first.descr) in
    let all = leaves_before first fields in
    let many = length-map (leaves_of first.descr) (moved_leaf first.at) in
    rw (is, all, ← many) (take-append_seam front (leaves_from 0 (listed fields)))
leaves_at_one (first ∷ fields) (suc k) field l is =
    let front = map (moved_leaf first.at) (leaves_of first.descr) in
    let all = leaves_before first fields in
    let many = length-map (leaves_of first.descr) (moved_leaf first.at) in
    rw (all, ← many, drop-append-add front (leaves_from 0 (listed fields)) (leaves_in (take k fields))) (leaves_at_one fields k field (omega arith) is)

-- If a descriptor has fields, its leaves are those of the fields.
pub leaves_of_fields : (descr : Descr) (k : ℕ) → k < length (fields descr) → leaves_of descr ≡ leaves_from 0 (listed (fields descr))
leaves_of_fields (ScalarDescr scalar) k l = absurd (omega arith)
leaves_of_fields (RecordDescr structure) k l = ap (leaves_from 0) (sym (listed-fields_of structure.fields))

pub leaves_in_fields : (descr : Descr) → leaves_in (fields descr) ≤ length (leaves_of descr)
leaves_in_fields (ScalarDescr scalar) = omega arith
leaves_in_fields (RecordDescr structure) =
    let seen = ap leaf_count (listed-fields_of structure.fields) in
    omega (arith, leaves_in-listed (fields_of structure.fields), seen, length-leaves_from 0 structure.fields)

-- each field ends within the item
pub fields_within : (structure : Structure) → IsLegal structure → (k : ℕ) → k < length (fields_of structure.fields) → (field_at (RecordDescr structure) k).at + item_size (field_at (RecordDescr structure) k).descr ≤ structure.size
fields_within structure legal k l =
    let order : InOrder 0 (listed (fields_of structure.fields)) structure.size = rw (listed-fields_of structure.fields) legal.in_order in
    field_within 0 (fields_of structure.fields) structure.size k (field_at (RecordDescr structure) k) order l (get_or_default (fields_of structure.fields) k no_field _ l)
