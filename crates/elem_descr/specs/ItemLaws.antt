-- Laws of the leaves of an item: their order and their number.
use Rattle.std.specs.Prelude.{◌≡◌, ℕ, ◌+◌, ◌<◌, ◌≤◌, ◌∷◌, map, length, List, [], ◌++◌, take}
use Rattle.std.proofs.Common.{zero, suc, get_or, refl, sym, ap, arith, length-append, drop}
use Rattle.elem_descr.specs.Words.{map-append}
use Rattle.elem_descr.specs.declared.descr.Leaf.{Leaf}
use Rattle.elem_descr.specs.declared.descr.Descr.{Descr}
use Rattle.elem_descr.specs.declared.descr.Descr.TheVariants.{Scalar as ScalarDescr, Record as RecordDescr}
use Rattle.elem_descr.specs.Items.{leaves_of, leaves_from, moved_leaf, AreInOrder}
use Rattle.elem_descr.specs.Encoding.{size, decode}
use Rattle.elem_descr.specs.Fields.{Fields, no_more, scalar_field, record_field, Structure}
use Rattle.elem_descr.specs.Descriptors.{IsLegal, InOrder, before, leaf_count}
use Rattle.elem_descr.specs.Values.{LeafValue}

-- Leaves in order from `later` on are also in order from an earlier byte on.
pub AreInOrder-earlier : (from later : ℕ) (leaves : List Leaf) (bytes : ℕ) → from ≤ later → AreInOrder later leaves bytes → AreInOrder from leaves bytes
AreInOrder-earlier from later [] bytes l h = omega arith
AreInOrder-earlier from later (leaf ∷ leaves) bytes l h = (omega (arith, h.0), h.1, h.2)

-- If leaves are in order between `from` and `bytes`, then `from` is at most `bytes`.
pub AreInOrder-within : (from : ℕ) (leaves : List Leaf) (bytes : ℕ) → AreInOrder from leaves bytes → from ≤ bytes
AreInOrder-within from [] bytes h = h
AreInOrder-within from (leaf ∷ leaves) bytes h = omega (arith, h.0, AreInOrder-within (leaf.at + size leaf.scalar) leaves bytes h.2)

-- If leaves are in order up to `middle` and others are in order from there on, all of them together are in order.
pub AreInOrder-append : (from middle bytes : ℕ) (front back : List Leaf) → AreInOrder from front middle → AreInOrder middle back bytes → AreInOrder from (front ++ back) bytes
AreInOrder-append from middle bytes [] back h l = AreInOrder-earlier from middle back bytes h l
AreInOrder-append from middle bytes (leaf ∷ front) back h l = (h.0, h.1, AreInOrder-append (leaf.at + size leaf.scalar) middle bytes front back h.2 l)

pub entry_within : (from : ℕ) (leaves : List Leaf) (bytes k : ℕ) (d : Leaf) → AreInOrder from leaves bytes → k < length leaves → (get_or leaves k d).at + size (get_or leaves k d).scalar ≤ bytes
entry_within from [] bytes k d order l = absurd (omega arith)
entry_within from (leaf ∷ leaves) bytes zero d order l = AreInOrder-within (leaf.at + size leaf.scalar) leaves bytes order.2
entry_within from (leaf ∷ leaves) bytes (suc k) d order l = entry_within (leaf.at + size leaf.scalar) leaves bytes k d order.2 (omega arith)

-- If leaves are in order, each of them ends at or before `bytes`.
pub leaf_within : (from : ℕ) (leaves : List Leaf) (bytes k : ℕ) (leaf : Leaf) → AreInOrder from leaves bytes → k < length leaves → leaf ≡ get_or leaves k leaf → leaf.at + size leaf.scalar ≤ bytes
leaf_within from leaves bytes k leaf order l e = rw (← e) at (entry_within from leaves bytes k leaf order l)

-- If the fields are in order in their record, which begins at `start`, their leaves are in order.
pub leaves_from-in_order : (start from : ℕ) (fields : Fields) (bytes : ℕ) → InOrder from fields bytes → AreInOrder (start + from) (leaves_from start fields) (start + bytes)
leaves_from-in_order start from no_more bytes h = omega (arith, h)
leaves_from-in_order start from (scalar_field name at scalar rest) bytes h =
    let later = leaves_from-in_order start (at + size scalar) rest bytes h.2 in
    let join : start + (at + size scalar) ≡ start + at + size scalar = omega arith in
    (omega (arith, h.0), h.1, rw join at later)
leaves_from-in_order start from (record_field name at width inner rest) bytes h =
    let within = leaves_from-in_order (start + at) 0 inner width h.2 in
    let later = leaves_from-in_order start (at + width) rest bytes h.3 in
    let join : start + (at + width) ≡ start + at + width = omega arith in
    AreInOrder-append (start + from) (start + at + width) (start + bytes) (leaves_from (start + at) inner) (leaves_from start rest) (AreInOrder-earlier (start + from) (start + at + 0) (leaves_from (start + at) inner) (start + at + width) (omega (arith, h.0)) within) (rw join at later)

pub leaves_in_order : (s : Structure) → IsLegal s → AreInOrder 0 (leaves_from 0 s.fields) s.size
leaves_in_order s legal =
    let none : 0 + s.size ≡ s.size = omega arith in
    rw none at (leaves_from-in_order 0 0 s.fields s.size legal.in_order)

-- If a record begins `by` bytes later, so do its leaves.
pub leaves_from-moved : (by start : ℕ) (fields : Fields) → leaves_from (by + start) fields ≡ map (moved_leaf by) (leaves_from start fields)
leaves_from-moved by start no_more = refl
leaves_from-moved by start (scalar_field name at scalar rest) =
    let join : by + start + at ≡ by + (start + at) = omega arith in
    rw (join, leaves_from-moved by start rest) refl
leaves_from-moved by start (record_field name at width inner rest) =
    let join : by + start + at ≡ by + (start + at) = omega arith in
    rw (join, leaves_from-moved by (start + at) inner, leaves_from-moved by start rest) (sym (map-append (moved_leaf by) (leaves_from (start + at) inner) (leaves_from start rest)))

-- the number of leaves is `leaf_count`
pub length-leaves_from : (start : ℕ) (fields : Fields) → length (leaves_from start fields) ≡ leaf_count fields
length-leaves_from start no_more = refl
length-leaves_from start (scalar_field name at scalar rest) = omega (arith, length-leaves_from start rest)
length-leaves_from start (record_field name at size inner rest) =
    omega (arith, length-append (leaves_from (start + at) inner) (leaves_from start rest), length-leaves_from (start + at) inner, length-leaves_from start rest)

-- The leaves are those of the first field, and then those of the fields after it.
pub leaf_count-before : (name : List ℕ) (at : ℕ) (descr : Descr) (rest : Fields) → leaf_count (before name at descr rest) ≡ length (leaves_of descr) + leaf_count rest
leaf_count-before name at (ScalarDescr scalar) rest = refl
leaf_count-before name at (RecordDescr structure) rest = omega (arith, length-leaves_from 0 structure.fields)

pub leaves_from-before : (start : ℕ) (name : List ℕ) (at : ℕ) (descr : Descr) (rest : Fields) → leaves_from start (before name at descr rest) ≡ map (moved_leaf (start + at)) (leaves_of descr) ++ leaves_from start rest
leaves_from-before start name at (ScalarDescr scalar) rest = let join : start + at + 0 ≡ start + at = omega arith in rw join refl
leaves_from-before start name at (RecordDescr structure) rest =
    let join : start + at + 0 ≡ start + at = omega arith in
    ap (λ (front : List Leaf). front ++ leaves_from start rest) (rw join at (leaves_from-moved (start + at) 0 structure.fields))

-- the value of a leaf in the bytes of an item
abbrev pub leaf_value : List ℕ → Leaf → LeafValue
leaf_value bytes leaf = decode leaf.scalar (take (size leaf.scalar) (drop leaf.at bytes))
