-- Reading a record from the entries that are written for it.
use Rattle.std.proofs.Common.{◌≡◌, ℕ, zero, suc, ◌+◌, ◌-◌, ◌^◌, ◌<◌, ◌≤◌, true, false, List, [], ◌∷◌, ◌++◌, map, length, codes, decimal, Result, Ok, refl, sym, ap, subst, ◌∙◌, arith, append_assoc, length-append, add-zero, nat_eq}
use Rattle.npy_format.proofs.Words.{IsDistinct, list_all, bytes_eq, le-leb, ne_eqb, true≢false, and_parts, decimal_nonempty, append-nil, Refusal, Field, Descr, ◌>>=◌, size, Fields, no_more, scalar_field, record_field, Structure, is_legal_name, AreNamedWithin, InOrder, fields_of, names_of, depth, leaf_count, listed-fields_of, InOrder-within, some_depth, item_size, leaves_of, length-leaves_from, spelling, Partial, is_taken, widened, closed_record, packed, field_of, grown, name_ok, added_ok, names, not_taken, digits-decimal, value_of-decimal, reads_spelling, ScalarDescr, RecordDescr, Square, Text, Literal, Plain, Row, all_listed_values, pad_kind, type_in, field_in, entry_in, fields_in, record_in, descr_in, Reader, IsSound, written_descr, entries}
use Rattle.npy_format.proofs.ReadValues.{IsValue, entry_literal, gap_values, entry_values, quoted_value, list_value, entries_are, plain_spelling}
use Rattle.npy_format.proofs.ValueLaws.{literals_of_listed}

after_ok : {X Y : Type 0} (r : Result X Refusal) (x : X) (f : X → Result Y Refusal) → r ≡ Ok x → (r >>= f) ≡ f x
after_ok r x f is = ap (λ q. q >>= f) is

-- what must hold for a field that follows the fields so far
record MayGrow (leaves from : ℕ) (done : List Field) (name : List ℕ) (descr : Descr) : Type 0 where
  small : from + item_size descr ≤ 65536
  legal : is_legal_name name ≡ true
  new : is_taken done name ≡ false
  few : length done < 64
  counted : leaves + length (leaves_of descr) ≤ 2048

legal_some : (name : List ℕ) → is_legal_name name ≡ true → nat_eq (length name) 0 ≡ false
legal_some [] legal = absurd (true≢false (sym legal))
legal_some (b ∷ name) legal = ne_eqb (suc (length name)) 0 (λ same. omega (arith, same))

-- an entry is read as a field
reads_entry : (within : Reader) (levels leaves from : ℕ) (done : List Field) (name : List ℕ) (type : Literal) (descr : Descr) → MayGrow leaves from done name descr → type_in (within leaves) type ≡ Ok descr → entry_in within (packed levels leaves from done) (entry_literal name type) ≡ Ok (grown levels leaves from done name descr)
unfolding field_in
reads_entry within levels leaves from done name type descr may reads =
    let p = packed levels leaves from done in
    rw (literals_of_listed (Plain (Text name) ∷ (type ∷ [])), legal_some name may.legal, may.legal)
    (after_ok _ _ _ reads ∙ after_ok _ _ _ (name_ok p name may.new may.few) ∙ added_ok levels leaves from done name 1 descr refl may.counted may.small)

-- or as a gap
pad_text : (n : ℕ) → 1 ≤ n → n ≤ 65536 → pad_kind (86 ∷ decimal n) ≡ Ok n
pad_text n some small =
    let big : n < 2 ^ 64 = omega (arith, small) in
    let long : nat_eq (length (decimal n)) 0 ≡ false = ne_eqb (length (decimal n)) 0 (λ same. omega (arith, same, decimal_nonempty n big)) in
    rw (long, digits-decimal n big, value_of-decimal n big) refl

reads_gap : (within : Reader) (levels leaves from n : ℕ) (done : List Field) → 1 ≤ n → from + n ≤ 65536 → entry_in within (packed levels leaves from done) (entry_literal [] (Plain (Text (codes "|V" ++ decimal n)))) ≡ Ok (packed levels leaves (from + n) done)
unfolding widened
reads_gap within levels leaves from n done some small =
    rw (pad_text n some (omega (arith, small)), le-leb (from + n) 65536 small) refl

-- padding, if there is any
reads_padding : (within : Reader) (levels leaves from gap : ℕ) (done : List Field) (rest : List Literal) (r : Result Partial Refusal) → from + gap ≤ 65536 → fields_in within (packed levels leaves (from + gap) done) rest ≡ r → fields_in within (packed levels leaves from done) (gap_values gap ++ rest) ≡ r
reads_padding within levels leaves from zero done rest r small more = rw (add-zero from) at more
reads_padding within levels leaves from (suc n) done rest r small more = after_ok _ _ _ (reads_gap within levels leaves from (suc n) done (omega arith) small) ∙ more

-- ---- the remaining fields

record MayRead (levels leaves from bytes : ℕ) (done : List Field) (fields : Fields) : Type 0 where
  order : InOrder from fields bytes
  small : bytes ≤ 65536
  few : length done + length (fields_of fields) ≤ 64
  legal : list_all is_legal_name (names_of fields) ≡ true
  distinct : IsDistinct bytes_eq (map (λ field. field.name) (done ++ fields_of fields))
  within : AreNamedWithin fields
  shallow : depth fields ≤ levels + 1
  counted : leaves + leaf_count fields ≤ 2048

-- the fields after the first of them
behind_first : (levels leaves at bytes : ℕ) (done : List Field) (name : List ℕ) (descr : Descr) (rest : Fields) → InOrder (at + item_size descr) rest bytes → bytes ≤ 65536 → length done + (1 + length (fields_of rest)) ≤ 64 → list_all is_legal_name (names_of rest) ≡ true
    → IsDistinct bytes_eq (names (done ++ field_of name at descr ∷ fields_of rest)) → AreNamedWithin rest → depth rest ≤ levels + 1 → leaves + (length (leaves_of descr) + leaf_count rest) ≤ 2048
    → MayRead levels (leaves + length (leaves_of descr)) (at + item_size descr) bytes (done ++ field_of name at descr ∷ []) rest
behind_first levels leaves at bytes done name descr rest order small few legal distinct within shallow counted =
    let field = field_of name at descr in
    record {
      order = order;
      small = small;
      few = omega (arith, few, length-append done (field ∷ []));
      legal = legal;
      distinct = subst (λ fields. IsDistinct bytes_eq (names fields)) (sym (append_assoc done (field ∷ []) (fields_of rest))) distinct;
      within = within;
      shallow = shallow;
      counted = omega (arith, counted);
    }

-- one field and those after it
field_and_more : (levels leaves from at bytes : ℕ) (done : List Field) (name : List ℕ) (type : Literal) (descr : Descr) (rest : Fields) → from ≤ at → at + item_size descr ≤ 65536 → is_legal_name name ≡ true → length done + (1 + length (fields_of rest)) ≤ 64
    → IsDistinct bytes_eq (names (done ++ field_of name at descr ∷ fields_of rest)) → leaves + (length (leaves_of descr) + leaf_count rest) ≤ 2048 → type_in (record_in levels leaves) type ≡ Ok descr
    → fields_in (record_in levels) (packed levels (leaves + length (leaves_of descr)) (at + item_size descr) (done ++ field_of name at descr ∷ [])) (entry_values (at + item_size descr) rest bytes) ≡ Ok (packed levels (leaves + length (leaves_of descr) + leaf_count rest) bytes ((done ++ field_of name at descr ∷ []) ++ fields_of rest))
    → fields_in (record_in levels) (packed levels leaves from done) (gap_values (at - from) ++ (entry_literal name type ∷ entry_values (at + item_size descr) rest bytes)) ≡ Ok (packed levels (leaves + (length (leaves_of descr) + leaf_count rest)) bytes (done ++ field_of name at descr ∷ fields_of rest))
field_and_more levels leaves from at bytes done name type descr rest low small legal few distinct counted reads more =
    let field = field_of name at descr in
    let gap : from + (at - from) ≡ at = omega (arith, low) in
    let may : MayGrow leaves at done name descr = record { small = small; legal = legal; new = not_taken done (fields_of rest) field distinct; few = omega (arith, few); counted = omega (arith, counted) } in
    let sum : leaves + length (leaves_of descr) + leaf_count rest ≡ leaves + (length (leaves_of descr) + leaf_count rest) = omega arith in
    let entries = entry_literal name type ∷ entry_values (at + item_size descr) rest bytes in
    let one = after_ok _ _ (λ next. fields_in (record_in levels) next (entry_values (at + item_size descr) rest bytes)) (reads_entry (record_in levels) levels leaves at done name type descr may reads) in
    reads_padding (record_in levels) levels leaves from (at - from) done entries _ (omega (arith, gap, small))
    (ap (λ n. fields_in (record_in levels) (packed levels leaves n done) entries) gap ∙ one ∙ more ∙ (λ i. Ok (packed levels (sum i) bytes (append_assoc done (field ∷ []) (fields_of rest) i))))

record_read : (levels leaves width : ℕ) (inner : Fields) → width ≤ 65536 → 1 ≤ length (fields_of inner) → fields_in (record_in levels) (packed levels leaves 0 []) (entry_values 0 inner width) ≡ Ok (packed levels (leaves + leaf_count inner) width (fields_of inner))
    → record_in (suc levels) leaves (entry_values 0 inner width) ≡ Ok (record { size = width; fields = inner })
unfolding record_in closed_record
record_read levels leaves width inner small some reads =
    after_ok _ _ _ reads ∙ rw (le-leb 1 (length (fields_of inner)) some, le-leb width 65536 small) (ap (λ fields. Ok (record { size = width; fields = fields })) (listed-fields_of inner))

type_read : (levels leaves width : ℕ) (inner : Fields) → record_in (suc levels) leaves (entry_values 0 inner width) ≡ Ok (record { size = width; fields = inner })
    → type_in (record_in (suc levels) leaves) (Row Square (all_listed_values (entry_values 0 inner width))) ≡ Ok (RecordDescr (record { size = width; fields = inner }))
type_read levels leaves width inner reads =
    after_ok _ _ _ (ap (record_in (suc levels) leaves) (literals_of_listed (entry_values 0 inner width)) ∙ reads)

fields_read : (fields : Fields) (levels leaves from bytes : ℕ) (done : List Field) → MayRead levels leaves from bytes done fields → fields_in (record_in levels) (packed levels leaves from done) (entry_values from fields bytes) ≡ Ok (packed levels (leaves + leaf_count fields) bytes (done ++ fields_of fields))
fields_read no_more levels leaves from bytes done may =
    let whole : from + (bytes - from) ≡ bytes = omega (arith, may.order) in
    ap (fields_in (record_in levels) (packed levels leaves from done)) (sym (append-nil (gap_values (bytes - from))))
    ∙ reads_padding (record_in levels) levels leaves from (bytes - from) done [] _ (omega (arith, whole, may.small)) refl
    ∙ (λ i. Ok (packed levels (sym (add-zero leaves) i) (whole i) (sym (append-nil done) i)))
fields_read (scalar_field name at scalar rest) levels leaves from bytes done may =
    let descr = ScalarDescr scalar in
    let ends = InOrder-within (at + size scalar) rest bytes may.order.2 in
    let legal = and_parts (is_legal_name name) (list_all is_legal_name (names_of rest)) may.legal in
    let later = behind_first levels leaves at bytes done name descr rest may.order.2 may.small (omega (arith, may.few)) legal.1 may.distinct may.within (omega (arith, may.shallow)) (omega (arith, may.counted)) in
    field_and_more levels leaves from at bytes done name (Plain (Text (spelling scalar))) descr rest may.order.0 (omega (arith, ends, may.small)) legal.0 (omega (arith, may.few)) may.distinct (omega (arith, may.counted))
    (after_ok _ _ _ (reads_spelling scalar may.order.1 (omega (arith, ends, may.small))))
    (fields_read rest levels (leaves + 1) (at + size scalar) bytes (done ++ field_of name at descr ∷ []) later)
fields_read (record_field name at width inner rest) zero leaves from bytes done may = absurd (omega (arith, may.shallow, some_depth inner))
fields_read (record_field name at width inner rest) (suc levels) leaves from bytes done may =
    let structure : Structure = record { size = width; fields = inner } in
    let descr = RecordDescr structure in
    let many = length-leaves_from 0 inner in
    let ends = InOrder-within (at + width) rest bytes may.order.3 in
    let legal = and_parts (is_legal_name name) (list_all is_legal_name (names_of rest)) may.legal in
    let later = behind_first (suc levels) leaves at bytes done name descr rest may.order.3 may.small (omega (arith, may.few)) legal.1 may.distinct may.within.2 (omega (arith, may.shallow)) (omega (arith, may.counted, many)) in
    let inside : MayRead levels leaves 0 width [] inner =
    record { order = may.order.2; small = omega (arith, ends, may.small); few = omega (arith, may.within.0.few); legal = may.within.0.named; distinct = may.within.0.distinct; within = may.within.1; shallow = omega (arith, may.shallow); counted = omega (arith, may.counted) } in
    let members = fields_read inner levels leaves 0 width [] inside in
    let body = record_read levels leaves width inner (omega (arith, ends, may.small)) may.within.0.some members in
    field_and_more (suc levels) leaves from at bytes done name (Row Square (all_listed_values (entry_values 0 inner width))) descr rest may.order.0 (omega (arith, ends, may.small)) legal.0 (omega (arith, may.few)) may.distinct (omega (arith, may.counted, many))
    (type_read levels leaves width inner body)
    (fields_read rest (suc levels) (leaves + length (leaves_of descr)) (at + width) bytes (done ++ field_of name at descr ∷ []) later)
    ∙ (λ i. Ok (packed (suc levels) (leaves + (many i + leaf_count rest)) bytes (done ++ field_of name at descr ∷ fields_of rest)))

-- ---- element types

abbrev pub written_value : Descr → Literal
written_value (ScalarDescr scalar) = Plain (Text (spelling scalar))
written_value (RecordDescr structure) = Row Square (all_listed_values (entry_values 0 structure.fields structure.size))

pub descr_read : (descr : Descr) → IsSound descr → descr_in (written_value descr) ≡ Ok descr
descr_read (ScalarDescr scalar) sound = after_ok _ _ _ (reads_spelling scalar sound.0 sound.1)
descr_read (RecordDescr structure) sound =
    let all : MayRead 3 0 0 structure.size [] structure.fields =
    record { order = sound.in_order; small = sound.small; few = omega (arith, sound.named.few); legal = sound.named.named; distinct = sound.named.distinct; within = sound.within; shallow = sound.shallow; counted = omega (arith, sound.few) } in
    let members = fields_read structure.fields 3 0 0 structure.size [] all in
    let body = record_read 3 0 structure.size structure.fields sound.small sound.named.some members in
    type_read 3 0 structure.size structure.fields body

pub written_value_is : (descr : Descr) (depth' : ℕ) → IsSound descr → 9 ≤ depth' → IsValue depth' (written_descr descr) (written_value descr)
written_value_is (ScalarDescr scalar) depth' sound deep = quoted_value depth' (spelling scalar) (plain_spelling scalar (omega (arith, sound.1)))
written_value_is (RecordDescr structure) zero sound deep = absurd (omega (arith, deep))
written_value_is (RecordDescr structure) (suc depth') sound deep =
    list_value depth' (entries 0 structure.fields structure.size) (entry_values 0 structure.fields structure.size)
    (entries_are structure.fields 0 structure.size depth' sound.in_order sound.small (omega (arith, deep, sound.shallow)) sound.named.named sound.within)
