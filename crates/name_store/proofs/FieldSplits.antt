-- The fields of a record: where their bytes and leaves are in those of the record.
use Rattle.std.proofs.Common.{◌≡◌, ◌+◌, ◌<◌, ◌≤◌, ℕ, zero, suc, List, [], ◌∷◌, ◌++◌, length, take, map, get_or, refl, sym, ap, subst, ◌∙◌, append_assoc, arith, length-append}
use Rattle.name_store.proofs.Words.{append-nil, map-append, length-map, Descr, Field, Leaf, InOrder, AreNamedWithin, fields_of, depth, leaf_count, size, Fields, no_more, scalar_field, record_field, item_size, leaves_of, leaves_from, leaves_in, fields, field_at, no_field, moved_leaf, AreInOrder, leaves_from-in_order, leaves_from-moved, leaves_in_order, length-leaves_from, AreInOrder-earlier, AreInOrder-append, some_leaves, legal_size, InOrder-within, some_depth, ScalarDescr, RecordDescr, IsElementType}

-- ---- leaves in order

AreInOrder-moved : (by from bytes : ℕ) (leaves : List Leaf) → AreInOrder from leaves bytes → AreInOrder (by + from) (map (moved_leaf by) leaves) (by + bytes)
AreInOrder-moved by from bytes [] h = omega (arith, h)
AreInOrder-moved by from bytes (leaf ∷ leaves) h =
    let join : by + (leaf.at + size leaf.scalar) ≡ by + leaf.at + size leaf.scalar = omega arith in
    (omega (arith, h.0), h.1, rw join at (AreInOrder-moved by (leaf.at + size leaf.scalar) bytes leaves h.2))

moved-none : (leaves : List Leaf) → map (moved_leaf 0) leaves ≡ leaves
moved-none [] = refl
moved-none (leaf ∷ leaves) =
    let none : 0 + leaf.at ≡ leaf.at = omega arith in
    λ i. record { scalar = leaf.scalar; at = none i } ∷ moved-none leaves i

moved-moved : (by at : ℕ) (leaves : List Leaf) → map (moved_leaf by) (map (moved_leaf at) leaves) ≡ map (moved_leaf (by + at)) leaves
moved-moved by at [] = refl
moved-moved by at (leaf ∷ leaves) =
    let join : by + (at + leaf.at) ≡ by + at + leaf.at = omega arith in
    λ i. record { scalar = leaf.scalar; at = join i } ∷ moved-moved by at leaves i

-- ---- the leaves before a part, its own leaves, and those after it

pub record Split (leaves : List Leaf) (from start : ℕ) (descr : Descr) (bytes first : ℕ) : Type 0 where
  pub front : List Leaf
  pub back : List Leaf
  pub all : leaves ≡ front ++ (map (moved_leaf start) (leaves_of descr) ++ back)
  pub before : AreInOrder from front start
  pub after : AreInOrder (start + item_size descr) back bytes
  pub counted : length front ≡ first

pub split-whole : (descr : Descr) → Split (leaves_of descr) 0 0 descr (item_size descr) 0
split-whole descr = record {
  front = [];
  back = [];
  all = sym (append-nil (map (moved_leaf 0) (leaves_of descr)) ∙ moved-none (leaves_of descr));
  before = omega arith;
  after = omega arith;
  counted = refl;
}

-- a part of a part
pub split-within : (leaves : List Leaf) (from at : ℕ) (whole : Descr) (bytes before start first : ℕ) (descr : Descr) →
    Split leaves from at whole bytes before → Split (leaves_of whole) 0 start descr (item_size whole) first → Split leaves from (at + start) descr bytes (before + first)
split-within leaves from at whole bytes before start first descr outer inner = record {
  front = outer.front ++ map (moved_leaf at) inner.front;
  back = map (moved_leaf at) inner.back ++ outer.back;
  all = outer.all ∙ ap (λ middle. outer.front ++ (middle ++ outer.back)) parts
      ∙ ap (λ rest. outer.front ++ rest) (append_assoc (map (moved_leaf at) inner.front) (own ++ map (moved_leaf at) inner.back) outer.back ∙ ap (λ rest. map (moved_leaf at) inner.front ++ rest) (append_assoc own (map (moved_leaf at) inner.back) outer.back))
      ∙ sym (append_assoc outer.front (map (moved_leaf at) inner.front) (own ++ (map (moved_leaf at) inner.back ++ outer.back)));
  before =
      let none : at + 0 ≡ at = omega arith in
      AreInOrder-append from at (at + start) outer.front (map (moved_leaf at) inner.front) outer.before (rw none at (AreInOrder-moved at 0 start inner.front inner.before));
  after =
      let join : at + (start + item_size descr) ≡ at + start + item_size descr = omega arith in
      AreInOrder-append (at + start + item_size descr) (at + item_size whole) bytes (map (moved_leaf at) inner.back) outer.back (rw join at (AreInOrder-moved at (start + item_size descr) (item_size whole) inner.back inner.after)) outer.after;
  counted = omega (arith, length-append outer.front (map (moved_leaf at) inner.front), length-map inner.front (moved_leaf at), outer.counted, inner.counted);
}
  where
    own : List Leaf
    own = map (moved_leaf (at + start)) (leaves_of descr)

    parts : map (moved_leaf at) (leaves_of whole) ≡ map (moved_leaf at) inner.front ++ (own ++ map (moved_leaf at) inner.back)
    parts =
        ap (map (moved_leaf at)) inner.all
        ∙ map-append (moved_leaf at) inner.front (map (moved_leaf start) (leaves_of descr) ++ inner.back)
        ∙ ap (λ rest. map (moved_leaf at) inner.front ++ rest) (map-append (moved_leaf at) (map (moved_leaf start) (leaves_of descr)) inner.back ∙ ap (λ rest. rest ++ map (moved_leaf at) inner.back) (moved-moved at start (leaves_of descr)))

-- ---- one of the fields of a record

abbrev at_number : Fields → ℕ → Field
at_number fields k = get_or (fields_of fields) k no_field

-- the leaves of the fields of a record that begins at 0 are in order
fields-in_order : (from : ℕ) (fields : Fields) (bytes : ℕ) → InOrder from fields bytes → AreInOrder from (leaves_from 0 fields) bytes
fields-in_order from fields bytes h =
    let first : 0 + from ≡ from = omega arith in
    let last : 0 + bytes ≡ bytes = omega arith in
    rw (first, last) at (leaves_from-in_order 0 from fields bytes h)

one-split : (fields : Fields) (k from bytes : ℕ) → k < length (fields_of fields) → InOrder from fields bytes →
    Split (leaves_from 0 fields) from (at_number fields k).at (at_number fields k).descr bytes (leaves_in (take k (fields_of fields)))
one-split no_more k from bytes low h = absurd (omega (arith, low))
one-split (scalar_field name at scalar rest) zero from bytes low h = record {
  front = [];
  back = leaves_from 0 rest;
  all = let same : 0 + at ≡ at + 0 = omega arith in λ i. record { scalar = scalar; at = same i } ∷ leaves_from 0 rest;
  before = h.0;
  after = fields-in_order (at + size scalar) rest bytes h.2;
  counted = refl;
}
one-split (scalar_field name at scalar rest) (suc k) from bytes low h =
    let later = one-split rest k (at + size scalar) bytes (omega (arith, low)) h.2 in
    let none : at ≡ 0 + at = omega arith in
    record {
      front = record { scalar = scalar; at = 0 + at } ∷ later.front;
      back = later.back;
      all = ap (λ leaves. record { scalar = scalar; at = 0 + at } ∷ leaves) later.all;
      before = (omega (arith, h.0), h.1, subst (λ n. AreInOrder (n + size scalar) later.front (at_number rest k).at) none later.before);
      after = later.after;
      counted = omega (arith, later.counted);
    }
one-split (record_field name at width inner rest) zero from bytes low h = record {
  front = [];
  back = leaves_from 0 rest;
  all = let same : 0 + at ≡ at + 0 = omega arith in ap (λ leaves. leaves ++ leaves_from 0 rest) (ap (λ n. leaves_from n inner) same ∙ leaves_from-moved at 0 inner);
  before = h.0;
  after = fields-in_order (at + width) rest bytes h.3;
  counted = refl;
}
one-split (record_field name at width inner rest) (suc k) from bytes low h =
    let later = one-split rest k (at + width) bytes (omega (arith, low)) h.3 in
    let none : at + 0 ≡ at = omega arith in
    let same : at ≡ 0 + at = omega arith in
    let own = subst (λ n. AreInOrder at (leaves_from n inner) (at + width)) same (rw none at (leaves_from-in_order at 0 inner width h.2)) in
    let within = AreInOrder-earlier from at (leaves_from (0 + at) inner) (at + width) h.0 own in
    record {
      front = leaves_from (0 + at) inner ++ later.front;
      back = later.back;
      all = ap (λ leaves. leaves_from (0 + at) inner ++ leaves) later.all ∙ sym (append_assoc (leaves_from (0 + at) inner) later.front (map (moved_leaf (at_number rest k).at) (leaves_of (at_number rest k).descr) ++ later.back));
      before = AreInOrder-append from (at + width) (at_number rest k).at (leaves_from (0 + at) inner) later.front within later.before;
      after = later.after;
      counted = omega (arith, length-append (leaves_from (0 + at) inner) later.front, length-leaves_from (0 + at) inner, length-leaves_from 0 inner, later.counted);
    }

one-legal : (fields : Fields) (k from bytes : ℕ) → k < length (fields_of fields) → InOrder from fields bytes → AreNamedWithin fields → bytes ≤ 65536 → depth fields ≤ 4 → leaf_count fields ≤ 2048 → IsElementType (at_number fields k).descr
one-legal no_more k from bytes low h named small shallow few = absurd (omega (arith, low))
one-legal (scalar_field name at scalar rest) zero from bytes low h named small shallow few = h.1
one-legal (scalar_field name at scalar rest) (suc k) from bytes low h named small shallow few = one-legal rest k (at + size scalar) bytes (omega (arith, low)) h.2 named small shallow (omega (arith, few))
one-legal (record_field name at width inner rest) zero from bytes low h named small shallow few = record {
  small = omega (arith, small, InOrder-within (at + width) rest bytes h.3);
  shallow = omega (arith, shallow);
  few = omega (arith, few);
  in_order = h.2;
  named = named.0;
  within = named.1;
}
one-legal (record_field name at width inner rest) (suc k) from bytes low h named small shallow few = one-legal rest k (at + width) bytes (omega (arith, low)) h.3 named.2 small (omega (arith, shallow)) (omega (arith, few))

begins-after : (fields : Fields) (k from bytes : ℕ) → k < length (fields_of fields) → InOrder from fields bytes → from ≤ (at_number fields k).at
begins-after no_more k from bytes low h = absurd (omega (arith, low))
begins-after (scalar_field name at scalar rest) zero from bytes low h = h.0
begins-after (scalar_field name at scalar rest) (suc k) from bytes low h = omega (arith, h.0, begins-after rest k (at + size scalar) bytes (omega (arith, low)) h.2)
begins-after (record_field name at width inner rest) zero from bytes low h = h.0
begins-after (record_field name at width inner rest) (suc k) from bytes low h = omega (arith, h.0, begins-after rest k (at + width) bytes (omega (arith, low)) h.3)

one-before : (fields : Fields) (j k from bytes : ℕ) → j < k → k < length (fields_of fields) → InOrder from fields bytes → (at_number fields j).at + item_size (at_number fields j).descr ≤ (at_number fields k).at
one-before fields j zero from bytes less low h = absurd (omega (arith, less))
one-before no_more j (suc k) from bytes less low h = absurd (omega (arith, low))
one-before (scalar_field name at scalar rest) zero (suc k) from bytes less low h = begins-after rest k (at + size scalar) bytes (omega (arith, low)) h.2
one-before (scalar_field name at scalar rest) (suc j) (suc k) from bytes less low h = one-before rest j k (at + size scalar) bytes (omega (arith, less)) (omega (arith, low)) h.2
one-before (record_field name at width inner rest) zero (suc k) from bytes less low h = begins-after rest k (at + width) bytes (omega (arith, low)) h.3
one-before (record_field name at width inner rest) (suc j) (suc k) from bytes less low h = one-before rest j k (at + width) bytes (omega (arith, less)) (omega (arith, low)) h.3

leaves-before : (fields : List Field) (j k : ℕ) → j < k → k < length fields → leaves_in (take j fields) + length (leaves_of (get_or fields j no_field).descr) ≤ leaves_in (take k fields)
leaves-before [] j k less low = absurd (omega (arith, low))
leaves-before (field ∷ fields) j zero less low = absurd (omega (arith, less))
leaves-before (field ∷ fields) zero (suc k) less low = omega arith
leaves-before (field ∷ fields) (suc j) (suc k) less low = omega (arith, leaves-before fields j k (omega (arith, less)) (omega (arith, low)))

-- ---- the depth of records

-- the number of records that are nested in each other
abbrev pub records_deep : Descr → ℕ
records_deep (ScalarDescr scalar) = 0
records_deep (RecordDescr structure) = depth structure.fields

one-deep : (fields : Fields) (k : ℕ) → k < length (fields_of fields) → 1 + records_deep (at_number fields k).descr ≤ depth fields
one-deep no_more k low = absurd (omega (arith, low))
one-deep (scalar_field name at scalar rest) zero low = omega (arith, some_depth rest)
one-deep (scalar_field name at scalar rest) (suc k) low = one-deep rest k (omega (arith, low))
one-deep (record_field name at width inner rest) zero low = omega arith
one-deep (record_field name at width inner rest) (suc k) low = omega (arith, one-deep rest k (omega (arith, low)))

-- ---- element types

pub type-some : (descr : Descr) → IsElementType descr → 1 ≤ item_size descr
type-some (ScalarDescr scalar) legal = legal
type-some (RecordDescr structure) legal = legal_size structure legal

pub type-in_order : (descr : Descr) → IsElementType descr → AreInOrder 0 (leaves_of descr) (item_size descr)
type-in_order (ScalarDescr scalar) legal = (omega arith, legal, omega arith)
type-in_order (RecordDescr structure) legal = leaves_in_order structure legal

pub type-leaves : (descr : Descr) → IsElementType descr → 1 ≤ length (leaves_of descr)
type-leaves (ScalarDescr scalar) legal = omega arith
type-leaves (RecordDescr structure) legal = omega (arith, length-leaves_from 0 structure.fields, some_leaves structure.fields legal.named.some legal.within)

pub type-shallow : (descr : Descr) → IsElementType descr → records_deep descr ≤ 4
type-shallow (ScalarDescr scalar) legal = omega arith
type-shallow (RecordDescr structure) legal = legal.shallow

-- a type that has a field is a record
pub fields-deep : (descr : Descr) (k : ℕ) → k < length (fields descr) → 1 ≤ records_deep descr
fields-deep (ScalarDescr scalar) k low = absurd (omega (arith, low))
fields-deep (RecordDescr structure) k low = some_depth structure.fields

pub field-deep : (descr : Descr) (k : ℕ) → k < length (fields descr) → 1 + records_deep (field_at descr k).descr ≤ records_deep descr
field-deep (ScalarDescr scalar) k low = absurd (omega (arith, low))
field-deep (RecordDescr structure) k low = one-deep structure.fields k low

pub field-legal : (descr : Descr) (k : ℕ) → k < length (fields descr) → IsElementType descr → IsElementType (field_at descr k).descr
field-legal (ScalarDescr scalar) k low legal = absurd (omega (arith, low))
field-legal (RecordDescr structure) k low legal = one-legal structure.fields k 0 structure.size low legal.in_order legal.within legal.small legal.shallow legal.few

pub field-split : (descr : Descr) (k : ℕ) → k < length (fields descr) → IsElementType descr → Split (leaves_of descr) 0 (field_at descr k).at (field_at descr k).descr (item_size descr) (leaves_in (take k (fields descr)))
field-split (ScalarDescr scalar) k low legal = absurd (omega (arith, low))
field-split (RecordDescr structure) k low legal = one-split structure.fields k 0 structure.size low legal.in_order

-- a field ends before any later field begins
pub field-before : (descr : Descr) (j k : ℕ) → j < k → k < length (fields descr) → IsElementType descr → (field_at descr j).at + item_size (field_at descr j).descr ≤ (field_at descr k).at
field-before (ScalarDescr scalar) j k less low legal = absurd (omega (arith, low))
field-before (RecordDescr structure) j k less low legal = one-before structure.fields j k 0 structure.size less low legal.in_order

pub field_leaves-before : (descr : Descr) (j k : ℕ) → j < k → k < length (fields descr) → leaves_in (take j (fields descr)) + length (leaves_of (field_at descr j).descr) ≤ leaves_in (take k (fields descr))
field_leaves-before descr j k less low = leaves-before (fields descr) j k less low
