-- The members of a record are the same by their pieces as when they are read in turns.
use Rattle.std.proofs.Common.{◌≡◌, ◌≤◌, ◌<◌, ◌+◌, ℕ, zero, suc, Bool, true, false, not, ◌&&◌, List, [], ◌∷◌, length, take, drop, ◌++◌, codes, inl, inr, Option, Some, None, Result, Ok, Err, IfOk, if◌then◌else◌, refl, sym, ap, subst, ◌∙◌, arith, nat_le, decimal}
use Rattle.elem_descr.specs.FormatTexts.{blank, marking}
use Rattle.elem_descr.proofs.Words.{PieceKind, Aligned, Native, LittleMark, BigMark, at_begin, behind_member, length-drop, is_ascii_digit, prefix_len, next_multiple_of, option_map, cases_Bool, leb-false, lt-leb, Refusal, BadDescriptor, DescriptorLeftOut, TooLarge, Scalar, Descr, ScalarDescr, RecordDescr, Body, Mark, ◌>>=◌, check, leaves_of, is_legal_name, is_one_of, size, Member, Value, Pad, Opened, own_alignment, aligned_to, Partial, empty, if_small, with_field, checked_name, added, widened, Behind, nothing, between_colons, lone_colon, Piece, letter, stray, is_colon, pieces, closed_body, part_of, called, with_member, with_pad, opened, unnamed, Reading, begun, within, beyond, closed_in, in_record, step, read_on, name_at, after, marked, is_named, is_opened, lettered_before, after_count, member_at, fitting, capped, as_held, named, Later, scalar_in, pad_in, body_in, taken_in, next_field, closing, turn, members, record_within, widened-capped, bind_same}
use Rattle.elem_descr.proofs.Pieces.{name_end, behind_colon, behind, name_at-ended, ended_name, pieces-colon, behind-colon, behind-other, pieces-letter}
use Rattle.elem_descr.proofs.PieceMembers.{bind_bind, one_of_one, sign_cases, Then, front, met, meant, member_met}

bind_three : {X Y Z W : Type 0} (r : Result X Refusal) (f : X → Result Y Refusal) (g : Y → Result Z Refusal) (h : Z → Result W Refusal) → (r >>= λ x. (f x >>= g) >>= h) ≡ (((r >>= f) >>= g) >>= h)
bind_three (Ok x) f g h = refl
bind_three (Err e) f g h = refl

-- ---- marks and blanks

pub marked_none : (mark : Mark) (b : ℕ) (rest : List ℕ) → after mark b ≡ None → marked mark (b ∷ rest) ≡ (mark, b ∷ rest)
marked_none mark b rest e = rw e refl

marked_some : (mark next : Mark) (b : ℕ) (rest : List ℕ) → after mark b ≡ Some next → marked mark (b ∷ rest) ≡ marked next rest
marked_some mark next b rest e = rw e refl

-- the text does not begin with a blank or a mark
abbrev pub Unmarked : Mark → List ℕ → Type 0
Unmarked mark [] = Unit {0}
Unmarked mark (b ∷ rest) = after mark b ≡ None

-- After its blanks and marks, a text does not begin with one of them, and is not longer.
pub marks_behind : (mark : Mark) (text : List ℕ) → Unmarked (marked mark text).0 (marked mark text).1 × (length (marked mark text).1 ≤ length text)
marks_behind mark [] = (tt, omega arith)
marks_behind mark (b ∷ rest) = by_after (after mark b) refl (λ next. marks_behind next rest)
  where
    Short : Mark × List ℕ → Type 0
    Short m = Unmarked m.0 m.1 × (length m.1 ≤ suc (length rest))

    by_after : (o : Option Mark) → after mark b ≡ o → ((next : Mark) → Unmarked (marked next rest).0 (marked next rest).1 × (length (marked next rest).1 ≤ length rest)) → Short (marked mark (b ∷ rest))
    by_after None e later = subst Short (sym (marked_none mark b rest e)) (e, omega arith)
    by_after (Some next) e later = subst Short (sym (marked_some mark next b rest e)) ((later next).0, omega (arith, (later next).1))

pub sign_letter : (mark next : Mark) (b : ℕ) (rest : List ℕ) → after mark b ≡ Some next → pieces (b ∷ rest) ≡ letter [] b (behind rest).0 ∷ pieces (behind rest).1
sign_letter mark next b rest e =
    pieces-letter b rest
    (sign_cases (λ c _. is_colon c ≡ false) mark next b e refl refl refl refl refl refl refl)
    (sign_cases (λ c _. is_one_of (123 ∷ []) c ≡ false) mark next b e refl refl refl refl refl refl refl)
    (sign_cases (λ c _. is_ascii_digit c ≡ false) mark next b e refl refl refl refl refl refl refl)
    (sign_cases (λ c _. (is_one_of (84 ∷ []) c && is_opened rest) ≡ false) mark next b e refl refl refl refl refl refl refl)

-- a state of reading in which a blank or a mark only changes the current mark, and must have no name
pub record TakesMarks (at : Mark → Reading) : Type 0 where
  pub signs : (mark next : Mark) (b : ℕ) → after mark b ≡ Some next → step (at mark) (letter [] b nothing) ≡ Ok (at next)
  pub names : (mark next : Mark) (b : ℕ) (bytes : List ℕ) → after mark b ≡ Some next → step (at mark) (letter [] b (between_colons bytes)) ≡ Err BadDescriptor
  pub colons : (mark next : Mark) (b : ℕ) → after mark b ≡ Some next → step (at mark) (letter [] b lone_colon) ≡ Err BadDescriptor
  pub strays : (mark : Mark) (behind : Behind) → step (at mark) (stray behind) ≡ Err BadDescriptor

takes_marks : (at : Mark → Reading) (used : Mark → Mark) (later : Mark → PieceKind → Result Reading Refusal) → ((mark : Mark) (piece : Piece) → step (at mark) piece ≡ (part_of (used mark) piece >>= later mark)) →
    ((mark : Mark) → later mark blank ≡ Ok (at mark)) → ((mark next : Mark) → later mark (marking next) ≡ Ok (at next)) → TakesMarks at
takes_marks at used later steps blanks marks = record {
  signs = λ mark next b e. steps mark (letter [] b nothing) ∙ sign_cases (λ c n. (part_of (used mark) (letter [] c nothing) >>= later mark) ≡ Ok (at n)) mark next b e (blanks mark) (marks mark Aligned) (marks mark Native) (marks mark LittleMark) (marks mark LittleMark) (marks mark BigMark) (marks mark BigMark);
  names = λ mark next b bytes e. steps mark (letter [] b (between_colons bytes)) ∙ sign_cases (λ c n. (part_of (used mark) (letter [] c (between_colons bytes)) >>= later mark) ≡ Err BadDescriptor) mark next b e refl refl refl refl refl refl refl;
  colons = λ mark next b e. steps mark (letter [] b lone_colon) ∙ sign_cases (λ c n. (part_of (used mark) (letter [] c lone_colon) >>= later mark) ≡ Err BadDescriptor) mark next b e refl refl refl refl refl refl refl;
  strays = λ mark behind. steps mark (stray behind);
}

pub marks_begun : TakesMarks begun
marks_begun = takes_marks begun (λ mark. mark) at_begin (λ _ _. refl) (λ _. refl) (λ _ _. refl)

marks_within : (p : Partial) (around : List (Mark × Partial)) → TakesMarks (λ mark. within mark p around)
marks_within p around = takes_marks (λ mark. within mark p around) (λ mark. mark) (λ mark. in_record mark p around) (λ _ _. refl) (λ _. refl) (λ _ _. refl)

pub marks_beyond : TakesMarks (λ mark. beyond)
marks_beyond = takes_marks (λ mark. beyond) (λ mark. Aligned) (λ mark. behind_member beyond) (λ _ _. refl) (λ _. refl) (λ _ _. refl)

-- one mark or blank
sign_read : (at : Mark → Reading) → TakesMarks at → (mark next : Mark) (b : ℕ) (rest : List ℕ) → after mark b ≡ Some next → read_on (at mark) (pieces (b ∷ rest)) ≡ read_on (at next) (pieces rest)
sign_read at takes mark next b rest e = by_rest rest
  where
    bare : (rest : List ℕ) → behind rest ≡ (nothing, rest) → read_on (at mark) (pieces (b ∷ rest)) ≡ read_on (at next) (pieces rest)
    bare rest is =
        ap (read_on (at mark)) (sign_letter mark next b rest e ∙ ap (λ s. letter [] b s.0 ∷ pieces s.1) is)
        ∙ ap (λ r. r >>= λ now. read_on now (pieces rest)) (takes.signs mark next b e)

    refused : (end : Option (List ℕ × List ℕ)) → read_on (at mark) (letter [] b (behind_colon end).0 ∷ pieces (behind_colon end).1) ≡ Err BadDescriptor
    refused None = ap (λ r. r >>= λ now. read_on now (pieces [])) (takes.colons mark next b e)
    refused (Some s) = ap (λ r. r >>= λ now. read_on now (pieces s.1)) (takes.names mark next b s.0 e)

    with_name : (c : ℕ) (text : List ℕ) → is_colon c ≡ true → read_on (at mark) (pieces (b ∷ (c ∷ text))) ≡ read_on (at next) (pieces (c ∷ text))
    with_name c text colon =
        ap (read_on (at mark)) (sign_letter mark next b (c ∷ text) e ∙ ap (λ s. letter [] b s.0 ∷ pieces s.1) (behind-colon c text colon))
        ∙ refused (name_end text)
        ∙ sym (ap (read_on (at next)) (pieces-colon c text colon) ∙ ap (λ r. r >>= λ now. read_on now (pieces (behind_colon (name_end text)).1)) (takes.strays next (behind_colon (name_end text)).0))

    by_rest : (rest : List ℕ) → read_on (at mark) (pieces (b ∷ rest)) ≡ read_on (at next) (pieces rest)
    by_rest [] = bare [] refl
    by_rest (c ∷ text) = elim (cases_Bool (is_colon c)) [ inl colon ↦ with_name c text colon | inr other ↦ bare (c ∷ text) (behind-other c text other) ]

-- A text is read like the rest after its blanks and marks.
pub marks_read : (at : Mark → Reading) → TakesMarks at → (mark : Mark) (text : List ℕ) → read_on (at mark) (pieces text) ≡ read_on (at (marked mark text).0) (pieces (marked mark text).1)
marks_read at takes mark [] = refl
marks_read at takes mark (b ∷ rest) = by_after (after mark b) refl (λ next. marks_read at takes next rest)
  where
    by_after : (o : Option Mark) → after mark b ≡ o → ((next : Mark) → read_on (at next) (pieces rest) ≡ read_on (at (marked next rest).0) (pieces (marked next rest).1)) → read_on (at mark) (pieces (b ∷ rest)) ≡ read_on (at (marked mark (b ∷ rest)).0) (pieces (marked mark (b ∷ rest)).1)
    by_after None e later = ap (λ m. read_on (at m.0) (pieces m.1)) (sym (marked_none mark b rest e))
    by_after (Some next) e later = sign_read at takes mark next b rest e ∙ later next ∙ ap (λ m. read_on (at m.0) (pieces m.1)) (sym (marked_some mark next b rest e))

-- ---- what follows a letter

pub behind_bare : (rest : List ℕ) → is_named rest ≡ false → behind rest ≡ (nothing, rest)
behind_bare [] e = refl
behind_bare (c ∷ text) e = behind-other c text e

behind_shorter : (rest : List ℕ) → length (behind rest).1 ≤ length rest
behind_shorter [] = omega arith
behind_shorter (c ∷ text) =
    elim (cases_Bool (is_colon c)) [
      | inl colon ↦ subst (λ s. length s.1 ≤ suc (length text)) (sym (behind-colon c text colon)) (omega (arith, end_shorter text))
      | inr other ↦ subst (λ s. length s.1 ≤ suc (length text)) (sym (behind-other c text other)) (omega arith)
    ]
  where
    longer : (b : ℕ) (end : Option (List ℕ × List ℕ)) → (behind_colon (option_map (λ r. (b ∷ r.0, r.1)) end)).1 ≡ (behind_colon end).1
    longer b None = refl
    longer b (Some r) = refl

    by_first : (t : Bool) (b : ℕ) (text : List ℕ) → length (behind_colon (name_end text)).1 ≤ length text → length (behind_colon (if t then Some ([], text) else option_map (λ r. (b ∷ r.0, r.1)) (name_end text))).1 ≤ suc (length text)
    by_first true b text few = omega arith
    by_first false b text few = subst (λ s. length s ≤ suc (length text)) (sym (longer b (name_end text))) (omega arith)

    end_shorter : (text : List ℕ) → length (behind_colon (name_end text)).1 ≤ length text
    end_shorter [] = omega arith
    end_shorter (b ∷ text) = by_first (is_colon b) b text (end_shorter text)

-- a name and the text after it
abbrev tupled : List ℕ → List ℕ → Result (List ℕ × List ℕ) Refusal
tupled rest bytes = Ok (bytes, rest)

-- The name that is read in turns is the name by the pieces.
named_called : (number : ℕ) (rest : List ℕ) → named number rest ≡ (called number (behind rest).0 >>= tupled (behind rest).1)
named_called number [] = refl
named_called number (c ∷ text) =
    elim (cases_Bool (is_colon c)) [
      | inl colon ↦ by_colon colon ∙ name_at-ended text ∙ ended_called (name_end text) ∙ ap (λ s. called number s.0 >>= tupled s.1) (sym (behind-colon c text colon))
      | inr other ↦ by_other other ∙ ap (λ s. called number s.0 >>= tupled s.1) (sym (behind-other c text other))
    ]
  where
    by_colon : is_colon c ≡ true → named number (c ∷ text) ≡ name_at text
    by_colon e = rw e refl

    by_other : is_colon c ≡ false → named number (c ∷ text) ≡ Ok (codes "f" ++ decimal number, c ∷ text)
    by_other e = rw e refl

    by_legal : (t : Bool) (bytes rest : List ℕ) → (if t then tupled rest bytes else Err DescriptorLeftOut) ≡ ((if t then Ok bytes else Err DescriptorLeftOut) >>= tupled rest)
    by_legal true bytes rest = refl
    by_legal false bytes rest = refl

    ended_called : (end : Option (List ℕ × List ℕ)) → ended_name end ≡ (called number (behind_colon end).0 >>= tupled (behind_colon end).1)
    ended_called None = refl
    ended_called (Some r) = by_legal (is_legal_name r.0) r.0 r.1

-- ---- a record with one more member

-- Padding and a member that is the whole text have no name.
pub unnamed_same : {X : Type 0} (rest : List ℕ) (f : List ℕ → Result X Refusal) → (check (not (is_named rest)) DescriptorLeftOut >>= λ _. f rest) ≡ (unnamed (behind rest).0 >>= λ _. f (behind rest).1)
unnamed_same [] f = refl
unnamed_same (c ∷ text) f =
    elim (cases_Bool (is_colon c)) [
      | inl colon ↦ by_colon colon ∙ refused (name_end text) ∙ ap (λ s. unnamed s.0 >>= λ _. f s.1) (sym (behind-colon c text colon))
      | inr other ↦ by_other other ∙ ap (λ s. unnamed s.0 >>= λ _. f s.1) (sym (behind-other c text other))
    ]
  where
    by_colon : is_colon c ≡ true → (check (not (is_colon c)) DescriptorLeftOut >>= λ _. f (c ∷ text)) ≡ Err DescriptorLeftOut
    by_colon e = rw e refl

    by_other : is_colon c ≡ false → (check (not (is_colon c)) DescriptorLeftOut >>= λ _. f (c ∷ text)) ≡ f (c ∷ text)
    by_other e = rw e refl

    refused : (end : Option (List ℕ × List ℕ)) → Err DescriptorLeftOut ≡ (unnamed (behind_colon end).0 >>= λ _. f (behind_colon end).1)
    refused None = refl
    refused (Some r) = refl

-- the record with the member, the current mark and the remaining text
abbrev further : Mark → List ℕ → Partial → Result Later Refusal
further mark rest q = Ok (q, mark, rest)

-- a name, and a field made with it
with_name : (called : Result (List ℕ) Refusal) (good : List ℕ → Result (Unit {0}) Refusal) (made : List ℕ → Result Partial Refusal) (mark : Mark) (rest : List ℕ) → ((called >>= tupled rest) >>= λ n. good n.0 >>= λ _. made n.0 >>= further mark n.1) ≡ ((called >>= λ bytes. good bytes >>= λ _. made bytes) >>= further mark rest)
with_name (Err e) good made mark rest = refl
with_name (Ok bytes) good made mark rest = by_good (good bytes)
  where
    by_good : (r : Result (Unit {0}) Refusal) → (r >>= λ _. made bytes >>= further mark rest) ≡ ((r >>= λ _. made bytes) >>= further mark rest)
    by_good (Err e) = refl
    by_good (Ok u) = refl

-- a scalar that is larger than any item makes a record too large
added_large : (p : Partial) (bytes : List ℕ) (alignment : ℕ) (scalar : Scalar) → nat_le (size scalar) 65536 ≡ false → added p bytes alignment (ScalarDescr scalar) ≡ Err TooLarge
unfolding added
added_large p bytes alignment scalar large = by_leaves (nat_le (p.leaves + 1) 2048)
  where
    by_leaves : (t : Bool) → (check t TooLarge >>= λ _. if_small (with_field p bytes alignment (ScalarDescr scalar))) ≡ Err TooLarge
    by_leaves false = refl
    by_leaves true =
        let over : nat_le (next_multiple_of p.size alignment + size scalar) 65536 ≡ false = lt-leb _ _ (omega (arith, leb-false (size scalar) 65536 large)) in
        rw over refl

scalar_same : (mark : Mark) (p : Partial) (scalar : Scalar) (rest : List ℕ) → scalar_in mark p (fitting scalar) rest ≡ (with_member mark p (behind rest).0 (own_alignment scalar) (ScalarDescr scalar) >>= further mark (behind rest).1)
unfolding scalar_in
scalar_same mark p scalar rest =
    elim (cases_Bool (nat_le (size scalar) 65536)) [
      | inl small ↦ let fits : fitting scalar ≡ Some scalar = rw small refl in ap (λ value. scalar_in mark p value rest) fits ∙ named_first field
      | inr large ↦
          let none : fitting scalar ≡ None = rw large refl in
          let refused : (λ bytes. Err TooLarge) ≡ field = λ i bytes. sym (added_large p bytes (aligned_to mark (own_alignment scalar)) scalar large) i in
          ap (λ value. scalar_in mark p value rest) none ∙ named_first (λ bytes. Err TooLarge) ∙ ap (λ made. (called (length p.fields) (behind rest).0 >>= λ bytes. checked_name p bytes >>= λ _. made bytes) >>= further mark (behind rest).1) refused
    ]
  where
    field : List ℕ → Result Partial Refusal
    field bytes = added p bytes (aligned_to mark (own_alignment scalar)) (ScalarDescr scalar)

    named_first : (made : List ℕ → Result Partial Refusal) → (named (length p.fields) rest >>= λ n. checked_name p n.0 >>= λ _. made n.0 >>= further mark n.1) ≡ ((called (length p.fields) (behind rest).0 >>= λ bytes. checked_name p bytes >>= λ _. made bytes) >>= further mark (behind rest).1)
    named_first made =
        ap (λ (r : Result (List ℕ × List ℕ) Refusal). r >>= λ n. checked_name p n.0 >>= λ _. made n.0 >>= further mark n.1) (named_called (length p.fields) rest)
        ∙ with_name (called (length p.fields) (behind rest).0) (checked_name p) made mark (behind rest).1

body_same : (mark : Mark) (p : Partial) (body : Body) (rest : List ℕ) → body_in mark p body rest ≡ (with_member mark p (behind rest).0 body.alignment (RecordDescr body.whole) >>= further body.mark (behind rest).1)
unfolding body_in
body_same mark p body rest =
    let made : List ℕ → Result Partial Refusal = λ bytes. added p bytes (aligned_to mark body.alignment) (RecordDescr body.whole) in
    ap (λ (r : Result (List ℕ × List ℕ) Refusal). r >>= λ n. checked_name p n.0 >>= λ _. made n.0 >>= further body.mark n.1) (named_called (length p.fields) rest)
    ∙ with_name (called (length p.fields) (behind rest).0) (checked_name p) made body.mark (behind rest).1

pad_same : (mark : Mark) (p : Partial) (n : ℕ) (rest : List ℕ) → pad_in mark p (capped n) rest ≡ (with_pad p n (behind rest).0 >>= further mark (behind rest).1)
unfolding pad_in
pad_same mark p n rest = rw (widened-capped p n) (by_wider (widened p n))
  where
    by_name : (q : Partial) (behind : Behind) (rest : List ℕ) → (unnamed behind >>= λ _. further mark rest q) ≡ ((unnamed behind >>= λ _. Ok q) >>= further mark rest)
    by_name q behind rest = sym (bind_bind (unnamed behind) (λ _. Ok q) (further mark rest))

    by_wider : (r : Result Partial Refusal) → (r >>= λ q. check (not (is_named rest)) DescriptorLeftOut >>= λ _. further mark rest q) ≡ ((r >>= λ q. unnamed (behind rest).0 >>= λ _. Ok q) >>= further mark (behind rest).1)
    by_wider (Err e) = refl
    by_wider (Ok q) = unnamed_same rest (λ rest. further mark rest q) ∙ by_name q (behind rest).0 (behind rest).1

-- ---- the levels of a record stay the same

abbrev Keeps : Partial → Result Partial Refusal → Type 0
Keeps p made = IfOk made (λ q. q.levels ≡ p.levels)

keeps_bind : {X : Type 0} (p : Partial) (r : Result X Refusal) (f : X → Result Partial Refusal) → ((x : X) → Keeps p (f x)) → Keeps p (r >>= f)
keeps_bind p (Ok x) f keeps = keeps x
keeps_bind p (Err e) f keeps = tt

keeps_small : (p q : Partial) (t : Bool) → q.levels ≡ p.levels → Keeps p (if t then Ok q else Err TooLarge)
keeps_small p q true same = same
keeps_small p q false same = tt

keeps_added : (p : Partial) (bytes : List ℕ) (alignment : ℕ) (descr : Descr) → Keeps p (added p bytes alignment descr)
unfolding added
keeps_added p bytes alignment descr = keeps_bind p (check (nat_le (p.leaves + length (leaves_of descr)) 2048) TooLarge) (λ _. if_small (with_field p bytes alignment descr)) (λ _. keeps_small p (with_field p bytes alignment descr) (nat_le (with_field p bytes alignment descr).size 65536) refl)

keeps_named : (mark : Mark) (p : Partial) (behind : Behind) (own : ℕ) (descr : Descr) → Keeps p (with_member mark p behind own descr)
keeps_named mark p behind own descr = keeps_bind p (called (length p.fields) behind) _ (λ bytes. keeps_bind p (checked_name p bytes) _ (λ _. keeps_added p bytes (aligned_to mark own) descr))

keeps_pad : (p : Partial) (n : ℕ) (behind : Behind) → Keeps p (with_pad p n behind)
unfolding widened
keeps_pad p n behind = by_wider (widened p n) (keeps_small p (record p { size = p.size + n }) (nat_le (p.size + n) 65536) refl)
  where
    by_wider : (r : Result Partial Refusal) → Keeps p r → Keeps p (r >>= λ q. unnamed behind >>= λ _. Ok q)
    by_wider (Err e) keeps = tt
    by_wider (Ok q) keeps = keeps_bind p (unnamed behind) (λ _. Ok q) (λ _. keeps)

-- ---- the members of a record

-- how reading goes on after a record, given the record and the remaining text
abbrev Ends : Type 0
Ends = Body × List ℕ → Result Descr Refusal

-- Reading goes on in the records around it.
abbrev Goes : List (Mark × Partial) → List ℕ → Ends → Type 0
Goes around text ends = (body : Body) (rest : List ℕ) → length rest < length text → (closed_in around body (behind rest).0 >>= λ next. read_on next (pieces (behind rest).1)) ≡ ends (body, rest)

abbrev Same : ℕ → Type 0
Same n = (levels turns : ℕ) (mark : Mark) (p : Partial) (around : List (Mark × Partial)) (text : List ℕ) (ends : Ends) → length text ≤ n → length text ≤ turns → p.levels ≡ levels → Goes around text ends → read_on (within mark p around) (pieces text) ≡ (members (record_within levels) turns mark p text >>= ends)

-- the members after the next one
abbrev others : ℕ → ℕ → Later → Result (Body × List ℕ) Refusal
others levels turns next = members (record_within levels) turns next.1 next.0 next.2

others_same : (n : ℕ) → Same n → (levels turns : ℕ) (around : List (Mark × Partial)) (text : List ℕ) (ends : Ends) → length text ≤ suc n → length text ≤ suc turns → Goes around text ends → (mark : Mark) (p : Partial) (rest : List ℕ) → p.levels ≡ levels → length rest < length text → (made : Result Partial Refusal) → Keeps p made → ((made >>= λ q. Ok (within mark q around)) >>= λ next. read_on next (pieces (behind rest).1)) ≡ (((made >>= further mark (behind rest).1) >>= others levels turns) >>= ends)
others_same n same levels turns around text ends few enough goes mark p rest level less (Err e) keeps = refl
others_same n same levels turns around text ends few enough goes mark p rest level less (Ok q) keeps =
    let left = behind_shorter rest in
    same levels turns mark q around (behind rest).1 ends (omega arith) (omega arith) (keeps ∙ level) (λ body later l. goes body later (omega arith))

-- how reading goes on after a piece within a record
abbrev then_in : Mark → Partial → List (Mark × Partial) → Then
then_in mark p around part more = in_record mark p around part >>= λ next. read_on next more

opened_same : (n : ℕ) → Same n → (levels turns : ℕ) (around : List (Mark × Partial)) (text : List ℕ) (ends : Ends) → length text ≤ suc n → length text ≤ suc turns → Goes around text ends → (mark : Mark) (p : Partial) (inner : List ℕ) → p.levels ≡ levels → length inner < length text → ((opened levels p.leaves >>= λ q. Ok (within mark q ((mark, p) ∷ around))) >>= λ next. read_on next (pieces inner)) ≡ (((record_within levels mark p.leaves inner >>= λ body. body_in mark p body.0 body.1) >>= others levels turns) >>= ends)
unfolding record_within
opened_same n same zero turns around text ends few enough goes mark p inner level less = refl
opened_same n same (suc levels) turns around text ends few enough goes mark p inner level less =
    let body_then : Body × List ℕ → Result Later Refusal = λ body. body_in mark p body.0 body.1 in
    let later : Ends = λ body. (body_then body >>= others (suc levels) turns) >>= ends in
    let read_members = members (record_within levels) (length inner) mark (empty levels p.leaves) inner in
    same levels (length inner) mark (empty levels p.leaves) ((mark, p) ∷ around) inner later (omega arith) (omega arith) refl
    (λ body rest l. others_same n same (suc levels) turns around text ends few enough goes body.mark p rest level (omega arith) (with_member mark p (behind rest).0 body.alignment (RecordDescr body.whole)) (keeps_named mark p (behind rest).0 body.alignment (RecordDescr body.whole))
    ∙ ap (λ r. (r >>= others (suc levels) turns) >>= ends) (sym (body_same mark p body rest)))
    ∙ bind_three read_members body_then (others (suc levels) turns) ends

taken_same : (n : ℕ) → Same n → (levels turns : ℕ) (around : List (Mark × Partial)) (text : List ℕ) (ends : Ends) → length text ≤ suc n → length text ≤ suc turns → Goes around text ends → (mark : Mark) (p : Partial) (it : Member) (rest : List ℕ) → p.levels ≡ levels → length rest < length text → met (then_in mark p around) it rest ≡ ((taken_in (record_within levels) mark p (as_held it) rest >>= others levels turns) >>= ends)
taken_same n same levels turns around text ends few enough goes mark p (Value scalar) rest level less =
    others_same n same levels turns around text ends few enough goes mark p rest level less (with_member mark p (behind rest).0 (own_alignment scalar) (ScalarDescr scalar)) (keeps_named mark p (behind rest).0 (own_alignment scalar) (ScalarDescr scalar))
    ∙ ap (λ r. (r >>= others levels turns) >>= ends) (sym (scalar_same mark p scalar rest))
taken_same n same levels turns around text ends few enough goes mark p (Pad count) rest level less =
    others_same n same levels turns around text ends few enough goes mark p rest level less (with_pad p count (behind rest).0) (keeps_pad p count (behind rest).0)
    ∙ ap (λ r. (r >>= others levels turns) >>= ends) (sym (pad_same mark p count rest))
taken_same n same levels turns around text ends few enough goes mark p Opened rest level less =
    let shorter = length-drop 1 rest in
    ap (λ l. (opened l p.leaves >>= λ q. Ok (within mark q ((mark, p) ∷ around))) >>= λ next. read_on next (pieces (drop 1 rest))) level
    ∙ opened_same n same levels turns around text ends few enough goes mark p (drop 1 rest) level (omega arith)

-- ---- a whole record

read_front : (mark : Mark) (p : Partial) (around : List (Mark × Partial)) (some : List Piece) → read_on (within mark p around) some ≡ front mark (then_in mark p around) some
read_front mark p around [] = refl
read_front mark p around (piece ∷ more) = bind_bind (part_of mark piece) (in_record mark p around) (λ next. read_on next more)

abbrev rest_or : List ℕ → Result (Member × List ℕ) Refusal → List ℕ
rest_or other (Ok m) = m.1
rest_or other (Err e) = other

member_shorter : (mark : Mark) (text : List ℕ) (m : Member × List ℕ) → member_at mark text ≡ Ok m → length m.1 < length text
member_shorter mark text m is =
    let n = prefix_len is_ascii_digit text in
    let dropped = length-drop n text in
    omega (arith, by_count (take n text) (drop n text) is)
  where
    by_member : (r : Result Member Refusal) (rest : List ℕ) → (r >>= λ it. Ok (it, rest)) ≡ Ok m → rest ≡ m.1
    by_member (Ok it) rest is = ap (rest_or rest) is
    by_member (Err e) rest is = let never : ⊥ = cc in absurd never

    by_count : (digits tail : List ℕ) → after_count mark digits tail ≡ Ok m → length m.1 < length tail
    by_count digits [] is = let never : ⊥ = cc in absurd never
    by_count digits (b ∷ rest) is = let same : rest ≡ m.1 = by_member (lettered_before mark digits b rest) rest is in subst (λ (r : List ℕ). length r < suc (length rest)) same (omega arith)

turn_same : (n : ℕ) → Same n → (levels turns : ℕ) (around : List (Mark × Partial)) (text : List ℕ) (ends : Ends) → length text ≤ suc n → length text ≤ suc turns → Goes around text ends → (mark : Mark) (p : Partial) (rest : List ℕ) → p.levels ≡ levels → length rest ≤ length text → Unmarked mark rest → read_on (within mark p around) (pieces rest) ≡ (turn (record_within levels) mark p (closing rest) rest (others levels turns) >>= ends)
unfolding next_field
turn_same n same levels turns around text ends few enough goes mark p [] level less plain = refl
turn_same n same levels turns around text ends few enough goes mark p (b ∷ rest) level less plain =
    elim (cases_Bool (is_one_of (125 ∷ []) b)) [
      | inl brac ↦ subst (λ c. read_on (within mark p around) (pieces (c ∷ rest)) ≡ (turn (record_within levels) mark p (closing (c ∷ rest)) (c ∷ rest) (others levels turns) >>= ends)) (sym (one_of_one 125 b brac)) (ap (read_on (within mark p around)) (pieces-letter 125 rest refl refl refl refl) ∙ by_body (closed_body mark p))
      | inr other ↦
          let open_yet : closing (b ∷ rest) ≡ None = rw other refl in
          read_front mark p around (pieces (b ∷ rest))
          ∙ member_met mark (then_in mark p around) (b ∷ rest) (plain, other)
          ∙ bind_same (member_at mark (b ∷ rest)) (meant (then_in mark p around)) (λ m. (taken_in (record_within levels) mark p (as_held m.0) m.1 >>= others levels turns) >>= ends) (λ m is.
          let shorter = member_shorter mark (b ∷ rest) m is in
          taken_same n same levels turns around text ends few enough goes mark p m.0 m.1 level (omega arith))
          ∙ bind_three (member_at mark (b ∷ rest)) (λ m. taken_in (record_within levels) mark p (as_held m.0) m.1) (others levels turns) ends
          ∙ ap (λ r. (r >>= others levels turns) >>= ends) (sym (bind_bind (member_at mark (b ∷ rest)) (λ m. Ok (as_held m.0, m.1)) (λ m. taken_in (record_within levels) mark p m.0 m.1)))
          ∙ ap (λ found. turn (record_within levels) mark p found (b ∷ rest) (others levels turns) >>= ends) (sym open_yet)
    ]
  where
    by_body : (r : Result Body Refusal) → ((r >>= λ body. closed_in around body (behind rest).0) >>= λ next. read_on next (pieces (behind rest).1)) ≡ ((r >>= λ body. Ok (body, rest)) >>= ends)
    by_body (Err e) = refl
    by_body (Ok body) = goes body rest (omega arith)

none_left : (levels turns : ℕ) (mark : Mark) (p : Partial) (ends : Ends) → Err BadDescriptor ≡ (members (record_within levels) turns mark p [] >>= ends)
unfolding next_field
none_left levels zero mark p ends = refl
none_left levels (suc turns) mark p ends = refl

pub members_same : (n : ℕ) → Same n
members_same zero levels turns mark p around [] ends few enough level goes = none_left levels turns mark p ends
members_same zero levels turns mark p around (b ∷ rest) ends few enough level goes = absurd (omega arith)
members_same (suc n) levels zero mark p around [] ends few enough level goes = none_left levels zero mark p ends
members_same (suc n) levels zero mark p around (b ∷ rest) ends few enough level goes = absurd (omega arith)
members_same (suc n) levels (suc turns) mark p around text ends few enough level goes =
    marks_read (λ mark. within mark p around) (marks_within p around) mark text
    ∙ turn_same n (members_same n) levels turns around text ends few enough goes (marked mark text).0 p (marked mark text).1 level (marks_behind mark text).1 (marks_behind mark text).0
