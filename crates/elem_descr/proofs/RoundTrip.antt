-- A descriptor that is written as a format text is read back as the same descriptor.
use Rattle.std.proofs.Common.{◌≡◌, ◌≤◌, ◌<◌, ◌+◌, ◌-◌, ℕ, zero, suc, true, false, List, [], ◌∷◌, ◌++◌, length, None, Result, Ok, Err, refl, ap, subst, sym, ◌∙◌, inl, inr, arith, append_assoc, length-append, add-zero, decimal}
use Rattle.elem_descr.proofs.Words.{IsDistinct, list_all, bytes_eq, le-leb, and_parts, cases_Bool, decimal_nonempty, append-nil, Refusal, BadDescriptor, Little, Big, Scalar, BoolScalar, Byte, Int, Bytes, Field, Descr, ScalarDescr, RecordDescr, Body, Mark, Aligned, Native, LittleMark, BigMark, ◌>>=◌, size, Fields, no_more, scalar_field, record_field, Structure, is_one_of, is_legal_name, IsLegal, AreNamedWithin, InOrder, fields_of, listed, names_of, before, depth, leaf_count, item_size, leaves_of, leaves_from, is_aligning, own_alignment, aligned_to, Partial, is_taken, widened, closed_size, closed_record, format, format_in_turns, member_at, held_at, Later, Reader, is_named, marked, closing, scalar_in, pad_in, body_in, next_field, turn, members, record_within, nothing_follows, scalar_alone, record_alone, alone, written_mark, written_count, written_letter, written_scalar, written_pad, written_name, braced, written_fields, written_format, digits-decimal, packed, multiple_of_one, field_of, grown, name_ok, added_ok, names, not_taken, listed-fields_of, InOrder-before, InOrder-within, leaf_count-before, some_depth, length-leaves_from}
use Rattle.elem_descr.proofs.FieldLaws.{fields_of-before}
use Rattle.elem_descr.proofs.FieldLists.{within_behind, depth-before}
use Rattle.elem_descr.proofs.PieceMembers.{after_ok, one_of_one}
use Rattle.elem_descr.proofs.SameFormat.{same_format}
use Rattle.elem_descr.proofs.WrittenMembers.{mark_of, marked_digits, reads_scalar, reads_pad, reads_name}

unaligned : (scalar : Scalar) → aligned_to (mark_of scalar) (own_alignment scalar) ≡ 1
unfolding mark_of
unaligned BoolScalar = refl
unaligned (Byte signed) = refl
unaligned (Int signed width Little) = refl
unaligned (Int signed width Big) = refl
unaligned (Bytes n) = refl

packed_body : (mark : Mark) → aligned_to mark 1 ≡ 1
packed_body Aligned = refl
packed_body Native = refl
packed_body LittleMark = refl
packed_body BigMark = refl

-- what must hold for a field that follows the fields so far
record MayGrow (leaves from : ℕ) (done : List Field) (name : List ℕ) (descr : Descr) : Type 0 where
  some : 1 ≤ item_size descr
  small : from + item_size descr ≤ 65536
  legal : is_legal_name name ≡ true
  new : is_taken done name ≡ false
  few : length done < 64
  counted : leaves + length (leaves_of descr) ≤ 2048

-- a scalar is read in one turn
reads_field : (within : Reader) (levels leaves from : ℕ) (done : List Field) (name : List ℕ) (scalar : Scalar) (rest : List ℕ) → MayGrow leaves from done name (ScalarDescr scalar) → next_field within (mark_of scalar) (packed levels leaves from done) (written_count scalar ++ (written_letter scalar ++ (58 ∷ (name ++ 58 ∷ rest)))) ≡ Ok (grown levels leaves from done name (ScalarDescr scalar), mark_of scalar, rest)
unfolding next_field scalar_in
reads_field within levels leaves from done name scalar rest may =
    let member = (reads_scalar (mark_of scalar) scalar (58 ∷ (name ++ 58 ∷ rest)) may.some (omega (arith, may.small))).1 in
    let called = reads_name (length done) name rest may.legal in
    let allowed = name_ok (packed levels leaves from done) name may.new may.few in
    let added = added_ok levels leaves from done name (aligned_to (mark_of scalar) (own_alignment scalar)) (ScalarDescr scalar) (unaligned scalar) may.counted may.small in
    after_ok _ _ _ member ∙ after_ok _ _ _ called ∙ after_ok _ _ _ allowed ∙ after_ok _ _ _ added

-- a record within is read in one turn
reads_body : (within : Reader) (mark later : Mark) (levels leaves from : ℕ) (done : List Field) (name : List ℕ) (structure : Structure) (text rest : List ℕ) → MayGrow leaves from done name (RecordDescr structure) → within mark leaves text ≡ Ok (record { whole = structure; alignment = 1; mark = later }, 58 ∷ (name ++ 58 ∷ rest)) → next_field within mark (packed levels leaves from done) (84 ∷ (123 ∷ text)) ≡ Ok (grown levels leaves from done name (RecordDescr structure), later, rest)
unfolding next_field body_in
reads_body within mark later levels leaves from done name structure text rest may body =
    let called = reads_name (length done) name rest may.legal in
    let allowed = name_ok (packed levels leaves from done) name may.new may.few in
    let added = added_ok levels leaves from done name (aligned_to mark 1) (RecordDescr structure) (packed_body mark) may.counted may.small in
    after_ok _ _ _ body ∙ after_ok _ _ _ called ∙ after_ok _ _ _ allowed ∙ after_ok _ _ _ added

-- padding is read in one turn
reads_gap : (within : Reader) (mark : Mark) (n levels leaves from : ℕ) (done : List Field) (rest : List ℕ) → from + n ≤ 65536 → is_named rest ≡ false → next_field within mark (packed levels leaves from done) (decimal n ++ 120 ∷ rest) ≡ Ok (packed levels leaves (from + n) done, mark, rest)
unfolding next_field pad_in widened
reads_gap within mark n levels leaves from done rest small unnamed =
    after_ok _ _ _ (reads_pad mark n rest (omega arith)) ∙ rw (le-leb (from + n) 65536 small, unnamed) refl

-- the members of a text are read as `r`, in any number of turns that is at least the number of its bytes
abbrev Reads : Reader → Mark → Partial → List ℕ → Body × List ℕ → Type 0
Reads within mark p text r = (turns : ℕ) → length text ≤ turns → members within turns mark p text ≡ Ok r

-- What is read as a member is no closing brace.
no_brace : (within : Reader) (mark : Mark) (p : Partial) (text : List ℕ) (next : Later) → next_field within mark p text ≡ Ok next → closing text ≡ None
unfolding next_field
no_brace within mark p [] next field = refl
no_brace within mark p (b ∷ rest) next field =
    elim (cases_Bool (is_one_of (125 ∷ []) b)) [
      | inl brac ↦
          let refused : ◌≡◌ {A = Result Later Refusal} (Err BadDescriptor) (Ok next) = subst (λ c. next_field within mark p (c ∷ rest) ≡ Ok next) (one_of_one 125 b brac) field in
          let never : ⊥ = cc in absurd never
      | inr other ↦ rw other refl
    ]

-- a member and those after it
reads_more : (within : Reader) (mark now later : Mark) (p next : Partial) (text unread rest : List ℕ) (r : Body × List ℕ) → marked mark text ≡ (now, unread) → next_field within now p unread ≡ Ok (next, later, rest) → length rest < length text → Reads within later next rest r → Reads within mark p text r
reads_more within mark now later p next text unread rest r marks field shorter more zero l = absurd (omega arith)
reads_more within mark now later p next text unread rest r marks field shorter more (suc turns) l =
    ap (λ (m : Mark × List ℕ). turn within m.0 p (closing m.1) m.1 (λ q. members within turns q.1 q.0 q.2)) marks
    ∙ ap (λ found. turn within now p found unread (λ q. members within turns q.1 q.0 q.2)) (no_brace within now p unread _ field)
    ∙ after_ok _ _ _ field ∙ more turns (omega arith)

-- the closing brace
reads_end : (within : Reader) (mark : Mark) (levels leaves bytes : ℕ) (done : List Field) (rest : List ℕ) → 1 ≤ length done → bytes ≤ 65536 → Reads within mark (packed levels leaves bytes done) (125 ∷ rest) (record { whole = record { size = bytes; fields = listed done }; alignment = 1; mark = mark }, rest)
unfolding closed_record
reads_end within mark levels leaves bytes done rest some small zero l = absurd (omega arith)
reads_end within mark levels leaves bytes done rest some small (suc turns) l =
    let whole = closed_packed mark bytes done in
    rw (le-leb 1 (length done) some, whole, le-leb bytes 65536 small) refl
  where
    closed_packed : (mark : Mark) (bytes : ℕ) (done : List Field) → closed_size (is_aligning mark) (packed levels leaves bytes done) ≡ bytes
    closed_packed Aligned bytes done = multiple_of_one bytes
    closed_packed Native bytes done = refl
    closed_packed LittleMark bytes done = refl
    closed_packed BigMark bytes done = refl

-- padding, if there is any
reads_padding : (within : Reader) (gap levels leaves from : ℕ) (mark : Mark) (done : List Field) (rest : List ℕ) (r : Body × List ℕ) → from + gap ≤ 65536 → is_named rest ≡ false → Reads within mark (packed levels leaves (from + gap) done) rest r → Reads within mark (packed levels leaves from done) (written_pad gap ++ rest) r
reads_padding within zero levels leaves from mark done rest r small unnamed more = rw (add-zero from) at more
reads_padding within (suc n) levels leaves from mark done rest r small unnamed more =
    let digits = digits-decimal (suc n) (omega arith) in
    let some = decimal_nonempty (suc n) (omega arith) in
    let text : written_pad (suc n) ++ rest ≡ decimal (suc n) ++ 120 ∷ rest = append_assoc (decimal (suc n)) (120 ∷ []) rest in
    rw text
    (reads_more within mark mark mark (packed levels leaves from done) (packed levels leaves (from + suc n) done) (decimal (suc n) ++ 120 ∷ rest) (decimal (suc n) ++ 120 ∷ rest) rest r (marked_digits mark (decimal (suc n)) (120 ∷ rest) digits some)
    (reads_gap within mark (suc n) levels leaves from done rest small unnamed) (omega (arith, length-append (decimal (suc n)) (120 ∷ rest))) more)

-- a scalar and what follows it
reads_one : (within : Reader) (mark : Mark) (levels leaves from : ℕ) (done : List Field) (name : List ℕ) (scalar : Scalar) (rest : List ℕ) (r : Body × List ℕ) → MayGrow leaves from done name (ScalarDescr scalar) → Reads within (mark_of scalar) (grown levels leaves from done name (ScalarDescr scalar)) rest r → Reads within mark (packed levels leaves from done) (written_scalar scalar ++ (written_name name ++ rest)) r
reads_one within mark levels leaves from done name scalar rest r may more =
    let tail = 58 ∷ (name ++ 58 ∷ rest) in
    let text : written_scalar scalar ++ (written_name name ++ rest) ≡ written_mark scalar ++ (written_count scalar ++ (written_letter scalar ++ tail)) = simp append_assoc in
    rw text
    (reads_more within mark (mark_of scalar) (mark_of scalar) (packed levels leaves from done) (grown levels leaves from done name (ScalarDescr scalar)) (written_mark scalar ++ (written_count scalar ++ (written_letter scalar ++ tail))) (written_count scalar ++ (written_letter scalar ++ tail)) rest r (reads_scalar mark scalar tail may.some (omega (arith, may.small))).0
    (reads_field within levels leaves from done name scalar rest may) (simp length-append (omega arith)) more)

-- a record and what follows it
reads_within : (within : Reader) (mark later : Mark) (levels leaves from : ℕ) (done : List Field) (name : List ℕ) (structure : Structure) (text rest : List ℕ) (r : Body × List ℕ) → MayGrow leaves from done name (RecordDescr structure) → within mark leaves (text ++ 125 ∷ (58 ∷ (name ++ 58 ∷ rest))) ≡ Ok (record { whole = structure; alignment = 1; mark = later }, 58 ∷ (name ++ 58 ∷ rest)) → Reads within later (grown levels leaves from done name (RecordDescr structure)) rest r → Reads within mark (packed levels leaves from done) (braced text ++ (written_name name ++ rest)) r
reads_within within mark later levels leaves from done name structure text rest r may body more =
    let inner = text ++ 125 ∷ (58 ∷ (name ++ 58 ∷ rest)) in
    let joined : braced text ++ (written_name name ++ rest) ≡ 84 ∷ (123 ∷ inner) = simp append_assoc in
    let Goal : List ℕ → Type 0 = λ t. Reads within mark (packed levels leaves from done) t r in
    subst Goal (sym joined)
    (reads_more within mark mark later (packed levels leaves from done) (grown levels leaves from done name (RecordDescr structure)) (84 ∷ (123 ∷ inner)) (84 ∷ (123 ∷ inner)) rest r refl (reads_body within mark later levels leaves from done name structure inner rest may body) (simp length-append (omega arith)) more)

unnamed_scalar : (scalar : Scalar) (rest : List ℕ) → is_named (written_scalar scalar ++ rest) ≡ false
unnamed_scalar BoolScalar rest = refl
unnamed_scalar (Byte signed) rest = refl
unnamed_scalar (Int signed width Little) rest = refl
unnamed_scalar (Int signed width Big) rest = refl
unnamed_scalar (Bytes n) rest = refl

-- the current mark after fields
abbrev mark_behind : Mark → Fields → Mark
mark_behind mark no_more = mark
mark_behind mark (scalar_field name at scalar rest) = mark_behind (mark_of scalar) rest
mark_behind mark (record_field name at size inner rest) = mark_behind (mark_behind mark inner) rest

-- what must hold for the remaining fields, after those that are done
record MayRead (levels leaves from bytes : ℕ) (done : List Field) (fields : Fields) : Type 0 where
  order : InOrder from fields bytes
  small : bytes ≤ 65536
  some : 1 ≤ length done + length (fields_of fields)
  few : length done + length (fields_of fields) ≤ 64
  legal : list_all is_legal_name (names_of fields) ≡ true
  distinct : IsDistinct bytes_eq (names (done ++ fields_of fields))
  within : AreNamedWithin fields
  shallow : depth fields ≤ 1 + levels
  counted : leaves + leaf_count fields ≤ 2048

-- the next field meets the conditions to follow
next_grows : (levels leaves from bytes at : ℕ) (done : List Field) (name : List ℕ) (descr : Descr) (rest : List Field) → 1 ≤ item_size descr → at + item_size descr ≤ 65536 → is_legal_name name ≡ true → length done + (1 + length rest) ≤ 64 → IsDistinct bytes_eq (names (done ++ field_of name at descr ∷ rest)) → leaves + length (leaves_of descr) ≤ 2048 → MayGrow leaves at done name descr
next_grows levels leaves from bytes at done name descr rest some small legal few distinct counted =
    record { some = some; small = small; legal = legal; new = not_taken done rest (field_of name at descr) distinct; few = omega arith; counted = counted }

-- the fields after the first one
behind_one : (levels leaves from bytes at : ℕ) (done : List Field) (name : List ℕ) (descr : Descr) (rest : Fields) → MayRead levels leaves from bytes done (before name at descr rest) → MayRead levels (leaves + length (leaves_of descr)) (at + item_size descr) bytes (done ++ field_of name at descr ∷ []) rest
behind_one levels leaves from bytes at done name descr rest may =
    let field = field_of name at descr in
    let all = fields_of-before name at descr rest in
    let count = ap length all in
    let many = length-append done (field ∷ []) in
    let join = append_assoc done (field ∷ []) (fields_of rest) in
    record {
      order = (InOrder-before from name at descr rest bytes may.order).2;
      small = may.small;
      some = omega (arith, many);
      few = omega (arith, many, count, may.few);
      legal = (and_parts (is_legal_name name) (list_all is_legal_name (names_of rest)) (rw all at may.legal)).1;
      distinct = rw join (rw all at may.distinct);
      within = within_behind name at descr rest may.within;
      shallow = omega (arith, may.shallow, depth-before name at descr rest);
      counted = omega (arith, may.counted, leaf_count-before name at descr rest);
    }

-- a record within
inside_record : (levels leaves from bytes at : ℕ) (done : List Field) (name : List ℕ) (size : ℕ) (inner rest : Fields) → MayRead (suc levels) leaves from bytes done (record_field name at size inner rest) → MayRead levels leaves 0 size [] inner
inside_record levels leaves from bytes at done name size inner rest may =
    let ends = InOrder-within (at + size) rest bytes may.order.3 in
    record {
      order = may.order.2;
      small = omega (arith, may.small, ends);
      some = omega (arith, may.within.0.some);
      few = omega (arith, may.within.0.few);
      legal = may.within.0.named;
      distinct = may.within.0.distinct;
      within = may.within.1;
      shallow = omega (arith, may.shallow);
      counted = omega (arith, may.counted);
    }

-- a record, read from its first member on
reads_inner : (levels : ℕ) (mark later : Mark) (leaves : ℕ) (text rest : List ℕ) (structure : Structure) → Reads (record_within levels) mark (packed levels leaves 0 []) text (record { whole = structure; alignment = 1; mark = later }, rest) → record_within (suc levels) mark leaves text ≡ Ok (record { whole = structure; alignment = 1; mark = later }, rest)
unfolding record_within
reads_inner levels mark later leaves text rest structure reads = reads (length text) (omega arith)

abbrev body_of : ℕ → List Field → Mark → Body
body_of bytes fields mark = record { whole = record { size = bytes; fields = listed fields }; alignment = 1; mark = mark }

-- the remaining fields, one after another
reads_fields : (fields : Fields) (levels : ℕ) (mark : Mark) (leaves from bytes : ℕ) (done : List Field) (rest : List ℕ) → MayRead levels leaves from bytes done fields → Reads (record_within levels) mark (packed levels leaves from done) (written_fields from fields bytes ++ 125 ∷ rest) (body_of bytes (done ++ fields_of fields) (mark_behind mark fields), rest)
reads_fields no_more levels mark leaves from bytes done rest may =
    let whole : from + (bytes - from) ≡ bytes = omega (arith, may.order) in
    let none = append-nil done in
    let end = reads_end (record_within levels) mark levels leaves bytes done rest (omega (arith, may.some)) may.small in
    rw none (reads_padding (record_within levels) (bytes - from) levels leaves from mark done (125 ∷ rest) (body_of bytes done mark, rest) (omega (arith, may.small)) refl (rw whole end))
reads_fields (scalar_field name at scalar more) levels mark leaves from bytes done rest may =
    let descr = ScalarDescr scalar in
    let ends = InOrder-within (at + size scalar) more bytes may.order.2 in
    let gap : from + (at - from) ≡ at = omega (arith, may.order.0) in
    let legal = and_parts (is_legal_name name) (list_all is_legal_name (names_of more)) may.legal in
    let grows = next_grows levels leaves from bytes at done name descr (fields_of more) may.order.1 (omega (arith, may.small)) legal.0 (omega (arith, may.few)) may.distinct (omega (arith, may.counted)) in
    let tail = written_fields (at + size scalar) more bytes ++ 125 ∷ rest in
    let result : Body × List ℕ = (body_of bytes (done ++ field_of name at descr ∷ fields_of more) (mark_behind (mark_of scalar) more), rest) in
    let join = append_assoc done (field_of name at descr ∷ []) (fields_of more) in
    let later = reads_fields more levels (mark_of scalar) (leaves + 1) (at + size scalar) bytes (done ++ field_of name at descr ∷ []) rest (behind_one levels leaves from bytes at done name descr more may) in
    let one = reads_one (record_within levels) mark levels leaves at done name scalar tail result grows (rw join at later) in
    let text : written_fields from (scalar_field name at scalar more) bytes ++ 125 ∷ rest ≡ written_pad (at - from) ++ (written_scalar scalar ++ (written_name name ++ tail)) = simp append_assoc in
    let Goal : List ℕ → Type 0 = λ t. Reads (record_within levels) mark (packed levels leaves from done) t result in
    subst Goal (sym text) (reads_padding (record_within levels) (at - from) levels leaves from mark done (written_scalar scalar ++ (written_name name ++ tail)) result (omega (arith, may.small)) (unnamed_scalar scalar (written_name name ++ tail)) (rw gap one))
reads_fields (record_field name at size inner more) zero mark leaves from bytes done rest may = absurd (omega (arith, may.shallow, some_depth inner))
reads_fields (record_field name at size inner more) (suc levels) mark leaves from bytes done rest may =
    let structure : Structure = record { size = size; fields = inner } in
    let descr = RecordDescr structure in
    let ends = InOrder-within (at + size) more bytes may.order.3 in
    let gap : from + (at - from) ≡ at = omega (arith, may.order.0) in
    let legal = and_parts (is_legal_name name) (list_all is_legal_name (names_of more)) may.legal in
    let grows = next_grows (suc levels) leaves from bytes at done name descr (fields_of more) may.order.1 (omega (arith, may.small)) legal.0 (omega (arith, may.few)) may.distinct (omega (arith, may.counted, length-leaves_from 0 inner)) in
    let tail = written_fields (at + size) more bytes ++ 125 ∷ rest in
    let behind = mark_behind mark inner in
    let result : Body × List ℕ = (body_of bytes (done ++ field_of name at descr ∷ fields_of more) (mark_behind behind more), rest) in
    let join = append_assoc done (field_of name at descr ∷ []) (fields_of more) in
    let later = reads_fields more (suc levels) behind (leaves + length (leaves_from 0 inner)) (at + size) bytes (done ++ field_of name at descr ∷ []) rest (behind_one (suc levels) leaves from bytes at done name descr more may) in
    let members = reads_fields inner levels mark leaves 0 size [] (58 ∷ (name ++ 58 ∷ tail)) (inside_record levels leaves from bytes at done name size inner more may) in
    let same = listed-fields_of inner in
    let body = reads_inner levels mark behind leaves (written_fields 0 inner size ++ 125 ∷ (58 ∷ (name ++ 58 ∷ tail))) (58 ∷ (name ++ 58 ∷ tail)) structure (rw same at members) in
    let one = reads_within (record_within (suc levels)) mark behind (suc levels) leaves at done name structure (written_fields 0 inner size) tail result grows body (rw join at later) in
    let text : written_fields from (record_field name at size inner more) bytes ++ 125 ∷ rest ≡ written_pad (at - from) ++ (braced (written_fields 0 inner size) ++ (written_name name ++ tail)) = simp append_assoc in
    let Goal : List ℕ → Type 0 = λ t. Reads (record_within (suc levels)) mark (packed (suc levels) leaves from done) t result in
    subst Goal (sym text) (reads_padding (record_within (suc levels)) (at - from) (suc levels) leaves from mark done (braced (written_fields 0 inner size) ++ (written_name name ++ tail)) result (omega (arith, may.small)) refl (rw gap one))

-- a record that is the whole text
reads_record : (s : Structure) → IsLegal s → format_in_turns (written_format (RecordDescr s)) ≡ Ok (RecordDescr s)
unfolding record_alone nothing_follows
reads_record s h =
    let text = written_fields 0 s.fields s.size ++ 125 ∷ [] in
    let may : MayRead 3 0 0 s.size [] s.fields =
    record {
      order = h.in_order;
      small = h.small;
      some = omega (arith, h.named.some);
      few = omega (arith, h.named.few);
      legal = h.named.named;
      distinct = h.named.distinct;
      within = h.within;
      shallow = omega (arith, h.shallow);
      counted = omega (arith, h.few);
    } in
    let same = listed-fields_of s.fields in
    let body = reads_inner 3 Aligned (mark_behind Aligned s.fields) 0 text [] s (rw same at (reads_fields s.fields 3 Aligned 0 0 s.size [] [] may)) in
    after_ok _ _ _ body

reads_scalar_alone : (scalar : Scalar) → 1 ≤ size scalar → size scalar ≤ 65536 → format_in_turns (written_format (ScalarDescr scalar)) ≡ Ok (ScalarDescr scalar)
unfolding scalar_alone nothing_follows
reads_scalar_alone scalar some small =
    let text : written_scalar scalar ≡ written_mark scalar ++ (written_count scalar ++ (written_letter scalar ++ [])) = simp (append_assoc, append-nil) in
    let reads = reads_scalar Aligned scalar [] some small in
    ap format_in_turns text ∙ ap (λ (m : Mark × List ℕ). held_at (member_at m.0 m.1) >>= λ member. alone m.0 member.0 member.1) reads.0 ∙ after_ok _ _ _ reads.1

-- a descriptor that is a scalar
pub reads_scalar_back : (descr : Descr) (scalar : Scalar) → descr ≡ ScalarDescr scalar → 1 ≤ size scalar → size scalar ≤ 65536 → format (written_format descr) ≡ Ok descr
reads_scalar_back descr scalar is some small = same_format (written_format descr) ∙ rw is (reads_scalar_alone scalar some small)

pub reads_record_back : (descr : Descr) (structure : Structure) → descr ≡ RecordDescr structure → IsLegal structure → format (written_format descr) ≡ Ok descr
reads_record_back descr structure is legal = same_format (written_format descr) ∙ rw is (reads_record structure legal)
