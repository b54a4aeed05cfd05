-- A text means the same by its pieces as by its members, read in turns.
use Rattle.std.proofs.Common.{◌≡◌, ℕ, Bool, true, false, not, ◌&&◌, List, [], ◌∷◌, length, drop, inl, inr, Option, Some, None, Result, Ok, Err, nat_le, if◌then◌else◌, refl, sym, ap, subst, ◌∙◌, arith}
use Rattle.elem_descr.proofs.Words.{list_all, ok_or, cases_Bool, Refusal, BadDescriptor, DescriptorLeftOut, TooLarge, Scalar, Descr, ScalarDescr, RecordDescr, Body, Mark, Aligned, ◌>>=◌, check, is_one_of, size, Member, Value, Pad, Opened, mark_meant, empty, Behind, nothing, between_colons, lone_colon, Piece, letter, is_colon, pieces, part_of, unnamed, Reading, begun, complete, beyond, at_begin, closed_in, behind_member, step, read_on, format, after, marked, is_named, member_at, fitting, as_held, held_at, record_within, nothing_follows, scalar_alone, record_alone, alone, format_in_turns, bind_same}
use Rattle.elem_descr.proofs.Pieces.{name_end, behind_colon, behind, behind-colon, pieces-letter, some_piece}
use Rattle.elem_descr.proofs.PieceMembers.{bind_bind, one_of_one, sign_cases, Then, front, met, meant, member_met}
use Rattle.elem_descr.proofs.SameMembers.{marked_none, Unmarked, marks_behind, sign_letter, marks_begun, marks_beyond, marks_read, behind_bare, unnamed_same, members_same}

-- ---- what follows a complete descriptor

-- A second member is unsupported, unless it is refused for an error of its own.
abbrev left_out : {X : Type 0} → X → Result Descr Refusal
left_out x = Err DescriptorLeftOut

-- how reading goes on with a piece that comes after a complete descriptor
abbrev then_after : Reading → Then
then_after now part more = behind_member now part >>= λ next. read_on next more

left_met : (now : Reading) (it : Member) (rest : List ℕ) → met (then_after now) it rest ≡ Err DescriptorLeftOut
left_met now (Value scalar) rest = refl
left_met now (Pad n) rest = refl
left_met now Opened rest = refl

-- a text that does not begin with a blank or a mark
after_plain : (now : Reading) (text : List ℕ) → Unmarked Aligned text → front Aligned (then_after now) (pieces text) ≡ (member_at Aligned text >>= left_out)
after_plain now [] plain = refl
after_plain now (b ∷ rest) plain =
    elim (cases_Bool (is_one_of (125 ∷ []) b)) [
      | inl brac ↦ subst (λ c. front Aligned (then_after now) (pieces (c ∷ rest)) ≡ (member_at Aligned (c ∷ rest) >>= left_out)) (sym (one_of_one 125 b brac)) (ap (front Aligned (then_after now)) (pieces-letter 125 rest refl refl refl refl))
      | inr other ↦ member_met Aligned (then_after now) (b ∷ rest) (plain, other) ∙ bind_same (member_at Aligned (b ∷ rest)) (meant (then_after now)) left_out (λ m is. left_met now m.0 m.1)
    ]

read_beyond : (some : List Piece) → read_on beyond some ≡ front Aligned (then_after beyond) some
read_beyond [] = refl
read_beyond (piece ∷ more) = bind_bind (part_of Aligned piece) (behind_member beyond) (λ next. read_on next more)

aligned_unmarked : (mark : Mark) (text : List ℕ) → Unmarked mark text → Unmarked Aligned text
aligned_unmarked mark [] plain = tt
aligned_unmarked mark (b ∷ rest) plain = by_blank (is_one_of (32 ∷ []) b) (mark_meant b) plain
  where
    by_blank : (t : Bool) (o : Option Mark) → (if t then Some mark else o) ≡ None → (if t then Some Aligned else o) ≡ None
    by_blank true o e = let never : ⊥ = cc in absurd never
    by_blank false o e = e

beyond_same : (mark : Mark) (text : List ℕ) → read_on beyond (pieces text) ≡ (member_at Aligned (marked mark text).1 >>= left_out)
beyond_same mark text =
    let rest = (marked mark text).1 in
    marks_read (λ mark. beyond) marks_beyond mark text
    ∙ read_beyond (pieces rest)
    ∙ after_plain beyond rest (aligned_unmarked (marked mark text).0 rest (marks_behind mark text).0)

-- a mark, which is not a blank
mark_beyond : (descr : Descr) (next : Mark) (b : ℕ) (rest : List ℕ) → after Aligned b ≡ Some next → is_one_of (32 ∷ []) b ≡ false → read_on (complete descr) (pieces (b ∷ rest)) ≡ read_on beyond (pieces (b ∷ rest))
mark_beyond descr next b rest e mark_only =
    let is = sign_letter Aligned next b rest e in
    ap (read_on (complete descr)) is ∙ ap (λ r. r >>= λ now. read_on now (pieces (behind rest).1)) (by_name (behind rest).0) ∙ sym (ap (read_on beyond) is)
  where
    never : true ≡ false → ⊥
    never e = cc

    by_name : (name : Behind) → step (complete descr) (letter [] b name) ≡ step beyond (letter [] b name)
    by_name nothing = sign_cases (λ c _. is_one_of (32 ∷ []) c ≡ false → step (complete descr) (letter [] c nothing) ≡ step beyond (letter [] c nothing)) Aligned next b e (λ f. absurd (never f)) (λ f. refl) (λ f. refl) (λ f. refl) (λ f. refl) (λ f. refl) (λ f. refl) mark_only
    by_name (between_colons bytes) = sign_cases (λ c _. step (complete descr) (letter [] c (between_colons bytes)) ≡ step beyond (letter [] c (between_colons bytes))) Aligned next b e refl refl refl refl refl refl refl
    by_name lone_colon = sign_cases (λ c _. step (complete descr) (letter [] c lone_colon) ≡ step beyond (letter [] c lone_colon)) Aligned next b e refl refl refl refl refl refl refl

-- the descriptor, once it is known that nothing follows
abbrev only : Descr → Unit {0} → Result Descr Refusal
only descr x = Ok descr

ended_blank : (rest : List ℕ) → is_named rest ≡ false → nothing_follows (32 ∷ rest) ≡ nothing_follows rest
unfolding nothing_follows
ended_blank rest e = rw e refl

ended_other : (b : ℕ) (rest : List ℕ) (descr : Descr) → is_colon b ≡ false → is_one_of (32 ∷ []) b ≡ false → (nothing_follows (b ∷ rest) >>= only descr) ≡ (member_at Aligned (marked Aligned (b ∷ rest)).1 >>= left_out)
unfolding nothing_follows
ended_other b rest descr colon other = by_tests (is_one_of (32 ∷ []) b) (is_colon b) other colon (list_all (is_one_of (32 ∷ [])) rest) (member_at Aligned (marked Aligned (b ∷ rest)).1)
  where
    none_of : {X : Type 0} → X → Result (Unit {0}) Refusal
    none_of x = Err DescriptorLeftOut

    by_member : (r : Result (Member × List ℕ) Refusal) → ((held_at r >>= λ x. none_of x) >>= only descr) ≡ (r >>= left_out)
    by_member (Ok m) = refl
    by_member (Err e) = refl

    by_tests : (t u : Bool) → t ≡ false → u ≡ false → (all : Bool) (r : Result (Member × List ℕ) Refusal) → ((if t && all then Ok tt else (check (not u) DescriptorLeftOut >>= λ _. held_at r >>= λ x. none_of x)) >>= only descr) ≡ (r >>= left_out)
    by_tests true u e f all r = let never : ⊥ = cc in absurd never
    by_tests false true e f all r = let never : ⊥ = cc in absurd never
    by_tests false false e f all r = by_member r

-- a blank with a name after it
blank_named : (descr : Descr) (c : ℕ) (text : List ℕ) → is_colon c ≡ true → read_on (complete descr) (pieces (32 ∷ (c ∷ text))) ≡ (nothing_follows (32 ∷ (c ∷ text)) >>= only descr)
unfolding nothing_follows
blank_named descr c text colon =
    ap (read_on (complete descr)) (pieces-letter 32 (c ∷ text) refl refl refl refl ∙ ap (λ s. letter [] 32 s.0 ∷ pieces s.1) (behind-colon c text colon))
    ∙ refused (name_end text)
    ∙ subst (λ k. Err BadDescriptor ≡ (nothing_follows (32 ∷ (k ∷ text)) >>= only descr)) (sym (one_of_one 58 c colon)) refl
  where
    refused : (end : Option (List ℕ × List ℕ)) → read_on (complete descr) (letter [] 32 (behind_colon end).0 ∷ pieces (behind_colon end).1) ≡ Err BadDescriptor
    refused None = refl
    refused (Some r) = refl

blank_bare : (descr : Descr) (rest : List ℕ) → is_named rest ≡ false → read_on (complete descr) (pieces (32 ∷ rest)) ≡ read_on (complete descr) (pieces rest)
blank_bare descr rest e = ap (read_on (complete descr)) (pieces-letter 32 rest refl refl refl refl ∙ ap (λ s. letter [] 32 s.0 ∷ pieces s.1) (behind_bare rest e))

ended_same : (descr : Descr) (text : List ℕ) → is_named text ≡ false → read_on (complete descr) (pieces text) ≡ (nothing_follows text >>= only descr)
unfolding nothing_follows
ended_same descr [] e = refl
ended_same descr (b ∷ rest) e = by_blank (ended_same descr rest)
  where
    on_blank : (rest : List ℕ) → (is_named rest ≡ false → read_on (complete descr) (pieces rest) ≡ (nothing_follows rest >>= only descr)) → read_on (complete descr) (pieces (32 ∷ rest)) ≡ (nothing_follows (32 ∷ rest) >>= only descr)
    on_blank [] later = refl
    on_blank (c ∷ text) later =
        elim (cases_Bool (is_colon c)) [
          | inl colon ↦ blank_named descr c text colon
          | inr other ↦ blank_bare descr (c ∷ text) other ∙ later other ∙ ap (λ r. r >>= only descr) (sym (ended_blank (c ∷ text) other))
        ]

    plain : after Aligned b ≡ None → read_on (complete descr) (pieces (b ∷ rest)) ≡ (member_at Aligned (b ∷ rest) >>= left_out)
    plain unmarked_byte =
        let first = some_piece b rest e in
        ap (read_on (complete descr)) first.2
        ∙ bind_bind (part_of Aligned first.0) (behind_member (complete descr)) (λ next. read_on next first.1)
        ∙ sym (ap (front Aligned (then_after (complete descr))) first.2)
        ∙ after_plain (complete descr) (b ∷ rest) unmarked_byte

    by_mark : (o : Option Mark) → after Aligned b ≡ o → is_one_of (32 ∷ []) b ≡ false → read_on (complete descr) (pieces (b ∷ rest)) ≡ (member_at Aligned (marked Aligned (b ∷ rest)).1 >>= left_out)
    by_mark None is other = plain is ∙ ap (λ m. member_at Aligned m.1 >>= left_out) (sym (marked_none Aligned b rest is))
    by_mark (Some next) is other = mark_beyond descr next b rest is other ∙ beyond_same Aligned (b ∷ rest)

    by_blank : (is_named rest ≡ false → read_on (complete descr) (pieces rest) ≡ (nothing_follows rest >>= only descr)) → read_on (complete descr) (pieces (b ∷ rest)) ≡ (nothing_follows (b ∷ rest) >>= only descr)
    by_blank later =
        elim (cases_Bool (is_one_of (32 ∷ []) b)) [
          | inl bl ↦ subst (λ c. read_on (complete descr) (pieces (c ∷ rest)) ≡ (nothing_follows (c ∷ rest) >>= only descr)) (sym (one_of_one 32 b bl)) (on_blank rest later)
          | inr other ↦ by_mark (after Aligned b) refl other ∙ sym (ended_other b rest descr e other)
        ]

-- If nothing may follow, a name may not.
ended_named : (rest : List ℕ) → is_named rest ≡ true → nothing_follows rest ≡ Err DescriptorLeftOut
unfolding nothing_follows
ended_named [] e = let never : ⊥ = cc in absurd never
ended_named (c ∷ text) e = subst (λ k. nothing_follows (k ∷ text) ≡ Err DescriptorLeftOut) (sym (one_of_one 58 c e)) refl

-- ---- the whole text

abbrev then_begin : Mark → Then
then_begin mark part more = at_begin mark part >>= λ next. read_on next more

read_begun : (mark : Mark) (some : List Piece) → read_on (begun mark) some ≡ front mark (then_begin mark) some
read_begun mark [] = refl
read_begun mark (piece ∷ more) = bind_bind (part_of mark piece) (at_begin mark) (λ next. read_on next more)

record_ends : (body : Body) (rest : List ℕ) → (closed_in [] body (behind rest).0 >>= λ next. read_on next (pieces (behind rest).1)) ≡ (nothing_follows rest >>= only (RecordDescr body.whole))
record_ends body rest =
    let descr = RecordDescr body.whole in
    bind_bind (unnamed (behind rest).0) (λ _. Ok (complete descr)) (λ next. read_on next (pieces (behind rest).1))
    ∙ sym (unnamed_same rest (λ r. read_on (complete descr) (pieces r)))
    ∙ by_name (is_named rest) refl
  where
    by_name : (t : Bool) → is_named rest ≡ t → (check (not (is_named rest)) DescriptorLeftOut >>= λ _. read_on (complete (RecordDescr body.whole)) (pieces rest)) ≡ (nothing_follows rest >>= only (RecordDescr body.whole))
    by_name true e = ap (λ t. check (not t) DescriptorLeftOut >>= λ _. read_on (complete (RecordDescr body.whole)) (pieces rest)) e ∙ ap (λ r. r >>= only (RecordDescr body.whole)) (sym (ended_named rest e))
    by_name false e = ap (λ t. check (not t) DescriptorLeftOut >>= λ _. read_on (complete (RecordDescr body.whole)) (pieces rest)) e ∙ ended_same (RecordDescr body.whole) rest e

scalar_ends : (mark : Mark) (scalar : Scalar) (rest : List ℕ) → met (then_begin mark) (Value scalar) rest ≡ scalar_alone (fitting scalar) rest
unfolding scalar_alone
scalar_ends mark scalar rest =
    bind_bind (unnamed (behind rest).0) (λ _. whole (nat_le (size scalar) 65536)) (λ next. read_on next (pieces (behind rest).1))
    ∙ sym (unnamed_same rest (λ r. whole (nat_le (size scalar) 65536) >>= λ next. read_on next (pieces r)))
    ∙ by_name (nat_le (size scalar) 65536) (is_named rest) refl
  where
    whole : Bool → Result Reading Refusal
    whole small = check small TooLarge >>= λ _. Ok (complete (ScalarDescr scalar))

    by_name : (small t : Bool) → is_named rest ≡ t → (check (not (is_named rest)) DescriptorLeftOut >>= λ _. whole small >>= λ next. read_on next (pieces rest)) ≡ (check (not (is_named rest)) DescriptorLeftOut >>= λ _. ok_or (if small then Some scalar else None) TooLarge >>= λ scalar. nothing_follows rest >>= only (ScalarDescr scalar))
    by_name false t e = refl
    by_name true true e =
        ap (λ t. check (not t) DescriptorLeftOut >>= λ _. read_on (complete (ScalarDescr scalar)) (pieces rest)) e
        ∙ sym (ap (λ t. check (not t) DescriptorLeftOut >>= λ _. nothing_follows rest >>= only (ScalarDescr scalar)) e)
    by_name true false e = ap (λ r. check (not (is_named rest)) DescriptorLeftOut >>= λ _. r) (ended_same (ScalarDescr scalar) rest e)

alone_same : (mark : Mark) (it : Member) (rest : List ℕ) → met (then_begin mark) it rest ≡ alone mark (as_held it) rest
unfolding record_alone record_within
alone_same mark (Value scalar) rest = scalar_ends mark scalar rest
alone_same mark (Pad n) rest = refl
alone_same mark Opened rest =
    let inner = drop 1 rest in
    members_same (length inner) 3 (length inner) mark (empty 3 0) [] inner (λ body. nothing_follows body.1 >>= only (RecordDescr body.0.whole)) (omega arith) (omega arith) refl (λ body later l. record_ends body later)

text_same : (mark : Mark) (text : List ℕ) → Unmarked mark text → read_on (begun mark) (pieces text) ≡ (held_at (member_at mark text) >>= λ m. alone mark m.0 m.1)
text_same mark [] plain = refl
text_same mark (b ∷ rest) plain =
    elim (cases_Bool (is_one_of (125 ∷ []) b)) [
      | inl brac ↦ subst (λ c. read_on (begun mark) (pieces (c ∷ rest)) ≡ (held_at (member_at mark (c ∷ rest)) >>= λ m. alone mark m.0 m.1)) (sym (one_of_one 125 b brac)) (ap (read_on (begun mark)) (pieces-letter 125 rest refl refl refl refl))
      | inr other ↦
          read_begun mark (pieces (b ∷ rest))
          ∙ member_met mark (then_begin mark) (b ∷ rest) (plain, other)
          ∙ bind_same (member_at mark (b ∷ rest)) (meant (then_begin mark)) (λ m. alone mark (as_held m.0) m.1) (λ m is. alone_same mark m.0 m.1)
          ∙ sym (bind_bind (member_at mark (b ∷ rest)) (λ m. Ok (as_held m.0, m.1)) (λ m. alone mark m.0 m.1))
    ]

pub same_format : (text : List ℕ) → format text ≡ format_in_turns text
same_format text = marks_read begun marks_begun Aligned text ∙ text_same (marked Aligned text).0 (marked Aligned text).1 (marks_behind Aligned text).0
