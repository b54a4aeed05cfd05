-- Fields and their literals, one by one.
use Rattle.std.proofs.Common.{◌≡◌, ◌+◌, ◌<◌, ◌≤◌, ℕ, Bool, true, false, List, [], ◌∷◌, ◌++◌, length, get_or, take, drop, map, min, replicate, refl, sym, ap, ◌∙◌, arith, ◌&&◌, subst}
use Rattle.literal_items.proofs.Words.{drop_all, and_parts, Leaf, Scalar, Byte, Int, Descr, Field, LeafValue, text, width_size, low_bits, wrap, without_nuls, Fields, no_more, scalar_field, record_field, Structure, before, listed, fields_of, InOrder, IsLegal, item_size, moved_leaf, leaves_of, leaves_from, AreInOrder, encode_item, decode_item, decode_encode, rest_at, field_within, seen_fields, leaves_from-before, leaves_from-moved, Little, length-bytes_of, length-padded, ScalarLiteral, Literal, Values, no_values, scalar_value, record_value, value_before, all_values, literals_of, listed_literals_of, BoolScalar, BytesScalar, ScalarDescr, RecordDescr, ScalarOf, RecordOf, literal_number, literal_bytes, leaf_value, stand_for, can_hold, field_values, can_be_item, values_of, stands_for, can_be_field, field_value, put_leaves}
use Rattle.literal_items.proofs.Nuls.{bytes_encoded, bytes_read_back}
use Rattle.literal_items.proofs.Leaves.{ReadsBack, AreSound, AreSound-append, put_leaves-append, put_encoded, put_read}

-- ---- a test of each field

stand_for-before : (test : Scalar → ScalarLiteral → Bool) (name : List ℕ) (at : ℕ) (descr : Descr) (fields : Fields) (literal : Literal) (later : Values) → stand_for test (before name at descr fields) (value_before literal later) ≡ (stands_for test descr literal && stand_for test fields later)
stand_for-before test name at (ScalarDescr scalar) fields (ScalarOf literal) later = refl
stand_for-before test name at (ScalarDescr scalar) fields (RecordOf literals) later = refl
stand_for-before test name at (RecordDescr structure) fields (ScalarOf literal) later = refl
stand_for-before test name at (RecordDescr structure) fields (RecordOf literals) later = refl

-- a loop is at field `k` and its literal
pub record IsTurn (fields : List Field) (literals : List Literal) (k : ℕ) (field : Field) (literal : Literal) : Type 0 where
  pub low : k < length fields
  pub near : k < length literals
  pub is : field ≡ get_or fields k field
  pub there : literal ≡ get_or literals k literal

-- that field, and those after it
stand_for-at : (test : Scalar → ScalarLiteral → Bool) (fields : List Field) (literals : List Literal) (k : ℕ) (field : Field) (literal : Literal) → IsTurn fields literals k field literal → stand_for test (listed (drop k fields)) (all_values (drop k literals)) ≡ (stands_for test field.descr literal && stand_for test (listed (drop (k + 1) fields)) (all_values (drop (k + 1) literals)))
stand_for-at test fields literals k field literal turn =
    (λ i. stand_for test (listed (rest_at fields field k turn.low turn.is i)) (all_values (rest_at literals literal k turn.near turn.there i)))
    ∙ stand_for-before test field.name field.at field.descr (listed (drop (k + 1) fields)) literal (all_values (drop (k + 1) literals))

-- the field fails the test
pub turn_fails : (test : Scalar → ScalarLiteral → Bool) (fields : List Field) (literals : List Literal) (k : ℕ) (field : Field) (literal : Literal) → IsTurn fields literals k field literal → stands_for test field.descr literal ≡ false → stand_for test (listed (drop k fields)) (all_values (drop k literals)) ≡ false
turn_fails test fields literals k field literal turn fails =
    stand_for-at test fields literals k field literal turn
    ∙ ap (λ first. first && stand_for test (listed (drop (k + 1) fields)) (all_values (drop (k + 1) literals))) fails

-- the field passes the test
pub turn_passes : (test : Scalar → ScalarLiteral → Bool) (fields : List Field) (literals : List Literal) (k : ℕ) (field : Field) (literal : Literal) → IsTurn fields literals k field literal → stands_for test field.descr literal ≡ true → stand_for test (listed (drop (k + 1) fields)) (all_values (drop (k + 1) literals)) ≡ stand_for test (listed (drop k fields)) (all_values (drop k literals))
turn_passes test fields literals k field literal turn passes =
    sym (stand_for-at test fields literals k field literal turn
    ∙ ap (λ first. first && stand_for test (listed (drop (k + 1) fields)) (all_values (drop (k + 1) literals))) passes)

-- the field has passed the test
pub turn_passed : (test : Scalar → ScalarLiteral → Bool) (fields : List Field) (literals : List Literal) (k : ℕ) (field : Field) (literal : Literal) → IsTurn fields literals k field literal → stand_for test (listed (drop k fields)) (all_values (drop k literals)) ≡ true → stands_for test field.descr literal ≡ true
turn_passed test fields literals k field literal turn passed =
    (and_parts (stands_for test field.descr literal) (stand_for test (listed (drop (k + 1) fields)) (all_values (drop (k + 1) literals))) (sym (stand_for-at test fields literals k field literal turn) ∙ passed)).0

pub seen_values : (literals : List Literal) (all : Values) → literals ≡ literals_of all → all_values literals ≡ all
seen_values literals all are = ap all_values are ∙ listed_literals_of all

pub stand_for-literals : (test : Scalar → ScalarLiteral → Bool) (descr : Descr) (literal : Literal) (structure : Structure) (values : Values) (literals : List Literal) → descr ≡ RecordDescr structure → literal ≡ RecordOf values → literals ≡ literals_of values → stand_for test structure.fields (all_values literals) ≡ stands_for test descr literal
stand_for-literals test descr literal structure values literals is there have =
    ap (stand_for test structure.fields) (seen_values literals values have)
    ∙ sym (λ i. stands_for test (is i) (there i))

pub stand_for-record : (test : Scalar → ScalarLiteral → Bool) (descr : Descr) (literal : Literal) (structure : Structure) (values : Values) (fields : List Field) (literals : List Literal) → descr ≡ RecordDescr structure → literal ≡ RecordOf values → fields ≡ fields_of structure.fields → literals ≡ literals_of values → stand_for test (listed fields) (all_values literals) ≡ stands_for test descr literal
stand_for-record test descr literal structure values fields literals is there are have =
    ap (λ fs. stand_for test fs (all_values literals)) (seen_fields fields structure.fields are)
    ∙ stand_for-literals test descr literal structure values literals is there have

no_field_left : (test : Scalar → ScalarLiteral → Bool) (literal : Literal) (later : Values) → stand_for test no_more (value_before literal later) ≡ false
no_field_left test (ScalarOf literal) later = refl
no_field_left test (RecordOf literals) later = refl

no_value_left : (test : Scalar → ScalarLiteral → Bool) (name : List ℕ) (at : ℕ) (descr : Descr) (fields : Fields) → stand_for test (before name at descr fields) no_values ≡ false
no_value_left test name at (ScalarDescr scalar) fields = refl
no_value_left test name at (RecordDescr structure) fields = refl

-- there is one literal for each field
pub stand_for-length : (test : Scalar → ScalarLiteral → Bool) (fields : List Field) (literals : List Literal) → stand_for test (listed fields) (all_values literals) ≡ true → length fields ≡ length literals
stand_for-length test [] [] passed = refl
stand_for-length test [] (literal ∷ literals) passed = let none = no_field_left test literal (all_values literals) in cc
stand_for-length test (field ∷ fields) [] passed = let none = no_value_left test field.name field.at field.descr (listed fields) in cc
stand_for-length test (field ∷ fields) (literal ∷ literals) passed =
    let both = sym (stand_for-before test field.name field.at field.descr (listed fields) literal (all_values literals)) ∙ passed in
    let more = stand_for-length test fields literals (and_parts (stands_for test field.descr literal) (stand_for test (listed fields) (all_values literals)) both).1 in
    omega (arith, more)

-- ---- the values of leaves

leaf_sound : (scalar : Scalar) (literal : ScalarLiteral) → ReadsBack scalar (leaf_value scalar literal)
leaf_sound BoolScalar literal = record { whole = refl; same = decode_encode BoolScalar (literal_number literal) tt }
leaf_sound (Byte signed) literal = record { whole = length-bytes_of Little 1 (low_bits 1 (wrap (Byte signed) (literal_number literal))); same = decode_encode (Byte signed) (literal_number literal) tt }
leaf_sound (Int signed width order) literal = record { whole = length-bytes_of order (width_size width) (low_bits (width_size width) (wrap (Int signed width order) (literal_number literal))); same = decode_encode (Int signed width order) (literal_number literal) tt }
leaf_sound (BytesScalar n) literal =
    let bytes = literal_bytes literal in
    let kept = min (length bytes) n in
    record {
      whole = length-padded n (without_nuls (take n bytes));
      same = ap text (ap without_nuls (sym (bytes_encoded n kept bytes refl)) ∙ bytes_read_back n kept bytes refl);
    }

fields_sound : (start : ℕ) (fields : Fields) (values : Values) → can_hold fields values ≡ true → AreSound (leaves_from start fields) (field_values fields values)
fields_sound start no_more no_values can = tt
fields_sound start no_more (scalar_value literal later) can = cc
fields_sound start no_more (record_value literals later) can = cc
fields_sound start (scalar_field name at scalar fields) no_values can = cc
fields_sound start (scalar_field name at scalar fields) (scalar_value literal values) can =
    (leaf_sound scalar literal, fields_sound start fields values (and_parts (can_be_field (ScalarDescr scalar) (ScalarOf literal)) (can_hold fields values) can).1)
fields_sound start (scalar_field name at scalar fields) (record_value literals later) can = cc
fields_sound start (record_field name at size inner fields) no_values can = cc
fields_sound start (record_field name at size inner fields) (scalar_value literal later) can = cc
fields_sound start (record_field name at size inner fields) (record_value literals values) can =
    AreSound-append (leaves_from (start + at) inner) (field_values inner literals) (leaves_from start fields) (field_values fields values)
    (fields_sound (start + at) inner literals (and_parts (can_hold inner literals) (can_hold fields values) can).0)
    (fields_sound start fields values (and_parts (can_hold inner literals) (can_hold fields values) can).1)

leaves_sound : (leaves : List Leaf) (literal : ScalarLiteral) → AreSound leaves (map (λ leaf. leaf_value leaf.scalar literal) leaves)
leaves_sound [] literal = tt
leaves_sound (leaf ∷ leaves) literal = (leaf_sound leaf.scalar literal, leaves_sound leaves literal)

-- the leaves of a record that begins at an offset
pub record_leaves : (by : ℕ) (fields : Fields) → map (moved_leaf by) (leaves_from 0 fields) ≡ leaves_from by fields
record_leaves by fields = let none : by + 0 ≡ by = omega arith in sym (leaves_from-moved by 0 fields) ∙ ap (λ start. leaves_from start fields) none

field_sound : (by : ℕ) (descr : Descr) (literal : Literal) → can_be_field descr literal ≡ true → AreSound (map (moved_leaf by) (leaves_of descr)) (field_value descr literal)
field_sound by (ScalarDescr scalar) (ScalarOf literal) can = (leaf_sound scalar literal, tt)
field_sound by (ScalarDescr scalar) (RecordOf literals) can = cc
field_sound by (RecordDescr structure) (ScalarOf literal) can = cc
field_sound by (RecordDescr structure) (RecordOf literals) can =
    subst (λ leaves. AreSound leaves (field_values structure.fields literals)) (sym (record_leaves by structure.fields)) (fields_sound by structure.fields literals can)

-- the bytes of each value have the size of its leaf, and read back as the value
pub item_sound : (descr : Descr) (literal : Literal) → can_be_item descr literal ≡ true → AreSound (leaves_of descr) (values_of descr literal)
item_sound descr (ScalarOf literal) can = leaves_sound (leaves_of descr) literal
item_sound (ScalarDescr scalar) (RecordOf literals) can = cc
item_sound (RecordDescr structure) (RecordOf literals) can = fields_sound 0 structure.fields literals can

-- ---- fields put one after the other

field_values-before : (name : List ℕ) (at : ℕ) (descr : Descr) (fields : Fields) (literal : Literal) (later : Values) → can_be_field descr literal ≡ true → field_values (before name at descr fields) (value_before literal later) ≡ field_value descr literal ++ field_values fields later
field_values-before name at (ScalarDescr scalar) fields (ScalarOf literal) later can = refl
field_values-before name at (ScalarDescr scalar) fields (RecordOf literals) later can = cc
field_values-before name at (RecordDescr structure) fields (ScalarOf literal) later can = cc
field_values-before name at (RecordDescr structure) fields (RecordOf literals) later can = refl

-- the bytes of an item, with the literals written as these fields
abbrev pub put_fields : List ℕ → ℕ → List Field → List Literal → List ℕ
put_fields item start fields literals = put_leaves item (leaves_from start (listed fields)) (field_values (listed fields) (all_values literals))

pub put_fields-at : (item : List ℕ) (start : ℕ) (fields : List Field) (literals : List Literal) (k : ℕ) (field : Field) (literal : Literal) → IsTurn fields literals k field literal → can_be_field field.descr literal ≡ true → put_fields (put_leaves item (map (moved_leaf (start + field.at)) (leaves_of field.descr)) (field_value field.descr literal)) start (drop (k + 1) fields) (drop (k + 1) literals) ≡ put_fields item start (drop k fields) (drop k literals)
put_fields-at item start fields literals k field literal turn can =
    let later = listed (drop (k + 1) fields) in
    let others = all_values (drop (k + 1) literals) in
    sym ((λ i. put_fields item start (rest_at fields field k turn.low turn.is i) (rest_at literals literal k turn.near turn.there i))
    ∙ (λ i. put_leaves item (leaves_from-before start field.name field.at field.descr later i) (field_values-before field.name field.at field.descr later literal others can i))
    ∙ put_leaves-append item (map (moved_leaf (start + field.at)) (leaves_of field.descr)) (field_value field.descr literal) (leaves_from start later) (field_values later others) (field_sound (start + field.at) field.descr literal can))

-- a field lies within its record
pub turn_within : (structure : Structure) (fields : List Field) (k : ℕ) (field : Field) → IsLegal structure → fields ≡ fields_of structure.fields → k < length fields → field ≡ get_or fields k field → field.at + item_size field.descr ≤ structure.size
turn_within structure fields k field legal are low is =
    let order : InOrder 0 (listed fields) structure.size = rw (seen_fields fields structure.fields are) legal.in_order in
    field_within 0 fields structure.size k field order low is

-- a record that begins at an offset
pub put_record : (item : List ℕ) (at : ℕ) (descr : Descr) (literal : Literal) (structure : Structure) (values : Values) (literals : List Literal) → descr ≡ RecordDescr structure → literal ≡ RecordOf values → literals ≡ literals_of values → put_leaves item (leaves_from at structure.fields) (field_values structure.fields (all_values literals)) ≡ put_leaves item (map (moved_leaf at) (leaves_of descr)) (field_value descr literal)
put_record item at descr literal structure values literals is there have =
    (λ i. put_leaves item (sym (record_leaves at structure.fields) i) (field_values structure.fields (seen_values literals values have i)))
    ∙ sym (λ i. put_leaves item (map (moved_leaf at) (leaves_of (is i))) (field_value (is i) (there i)))

-- ---- a record written over zeros

pub record_cast : (descr : Descr) (structure : Structure) (literal : Literal) (zeros item : List ℕ) → descr ≡ RecordDescr structure → can_be_item descr literal ≡ true → AreInOrder 0 (leaves_from 0 structure.fields) structure.size → zeros ≡ replicate (item_size descr) 0 →
    item ≡ put_leaves zeros (leaves_from 0 structure.fields) (values_of (RecordDescr structure) literal) → (item ≡ encode_item descr (values_of descr literal)) × (decode_item descr item ≡ values_of descr literal)
record_cast descr structure literal zeros item is can order blank put =
    let leaves = leaves_from 0 structure.fields in
    let values = values_of (RecordDescr structure) literal in
    let sound = item_sound (RecordDescr structure) literal (rw is at can) in
    let written = put ∙ ap (λ bytes. put_leaves bytes leaves values) (blank ∙ ap (λ d. replicate (item_size d) 0) is) ∙ put_encoded structure.size leaves values order sound in
    rw is (written, put_read structure.size leaves values item order sound written)

-- the values of a literal: one for all leaves, or one for each field
pub put_all : (bytes : List ℕ) (structure : Structure) (literal : Literal) (value : ScalarLiteral) (leaves : List Leaf) → literal ≡ ScalarOf value → leaves ≡ leaves_from 0 structure.fields → put_leaves bytes leaves (map (λ leaf. leaf_value leaf.scalar value) leaves) ≡ put_leaves bytes (leaves_from 0 structure.fields) (values_of (RecordDescr structure) literal)
put_all bytes structure literal value leaves is are =
    ap (λ (all : List Leaf). put_leaves bytes all (map (λ leaf. leaf_value leaf.scalar value) all)) are
    ∙ ap (λ given. put_leaves bytes (leaves_from 0 structure.fields) (values_of (RecordDescr structure) given)) (sym is)

pub put_each : (bytes : List ℕ) (structure : Structure) (literal : Literal) (values : Values) (literals : List Literal) → literal ≡ RecordOf values → literals ≡ literals_of values → put_leaves bytes (leaves_from 0 structure.fields) (field_values structure.fields (all_values literals)) ≡ put_leaves bytes (leaves_from 0 structure.fields) (values_of (RecordDescr structure) literal)
put_each bytes structure literal values literals is have =
    ap (λ given. put_leaves bytes (leaves_from 0 structure.fields) (field_values structure.fields given)) (seen_values literals values have)
    ∙ ap (λ given. put_leaves bytes (leaves_from 0 structure.fields) (values_of (RecordDescr structure) given)) (sym is)
