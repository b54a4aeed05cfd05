-- The members of a record, turn by turn.
use Rattle.std.proofs.Common.{◌≡◌, ◌≤◌, ◌<◌, ◌+◌, ◌-◌, ℕ, suc, List, [], ◌∷◌, length, get_or, take, drop, Option, Some, None, Result, Ok, Err, refl, sym, ap, ◌∙◌, arith, length-drop}
use Rattle.elem_descr.specs.declared.format_text.member.Member.TheVariants.{Opened as HeldOpened}
use Rattle.elem_descr.proofs.Words.{take_all, Body, RecordDescr, is_ascii_digit, prefix_len, Refusal, Held, Mark, DescriptorLeftOut, ◌>>=◌, Partial, empty, Member, closed_body, lettered_before, after_count, member_at, held_member, held_at, aligned_to, named, added, checked_name, body_in, Reader, marked, closing, next_field, turn, members, record_within}

-- If no levels are allowed, a record is refused.
pub no_levels : (levels : ℕ) (mark : Mark) (leaves : ℕ) (text : List ℕ) → levels ≡ 0 → record_within levels mark leaves text ≡ Err DescriptorLeftOut
unfolding record_within
no_levels levels mark leaves text none = rw none refl

-- a record before its first turn
pub members_begin : (levels : ℕ) (mark : Mark) (leaves : ℕ) (text : List ℕ) → 0 < levels → record_within levels mark leaves text ≡ members (record_within (levels - 1)) (length text - 0) mark (empty (levels - 1) leaves) text
unfolding record_within
members_begin levels mark leaves text some =
    let one : levels ≡ suc (levels - 1) = omega arith in
    let all : length text ≡ length text - 0 = omega arith in
    ap (λ (n : ℕ). record_within n mark leaves text) one ∙ ap (λ (turns : ℕ). members (record_within (levels - 1)) turns mark (empty (levels - 1) leaves) text) all

-- one of the remaining turns, after its blanks and marks are read
members_turn : (within : Reader) (n i : ℕ) (mark later : Mark) (p : Partial) (text unread : List ℕ) → i < n → (later, unread) ≡ marked mark text → members within (n - i) mark p text ≡ turn within later p (closing unread) unread (λ next. members within (n - (i + 1)) next.1 next.0 next.2)
members_turn within n i mark later p text unread l e =
    let one : n - i ≡ suc (n - (i + 1)) = omega arith in
    ap (λ (turns : ℕ). members within turns mark p text) one
    ∙ ap (λ (m : Mark × List ℕ). turn within m.0 p (closing m.1) m.1 (λ next. members within (n - (i + 1)) next.1 next.0 next.2)) (sym e)

pub members_closed : (within : Reader) (n i : ℕ) (mark later : Mark) (p : Partial) (text unread rest : List ℕ) → i < n → (later, unread) ≡ marked mark text → Some rest ≡ closing unread → members within (n - i) mark p text ≡ (closed_body later p >>= λ body. Ok (body, rest))
members_closed within n i mark later p text unread rest l e brace =
    members_turn within n i mark later p text unread l e
    ∙ ap (λ (found : Option (List ℕ)). turn within later p found unread (λ next. members within (n - (i + 1)) next.1 next.0 next.2)) (sym brace)

pub members_field : (levels n i : ℕ) (mark later : Mark) (p : Partial) (text unread : List ℕ) → p.levels ≡ levels → i < n → (later, unread) ≡ marked mark text → None ≡ closing unread → members (record_within levels) (n - i) mark p text ≡ (next_field (record_within p.levels) later p unread >>= λ next. members (record_within levels) (n - (i + 1)) next.1 next.0 next.2)
members_field levels n i mark later p text unread same l e no_brace =
    members_turn (record_within levels) n i mark later p text unread l e
    ∙ ap (λ (found : Option (List ℕ)). turn (record_within levels) later p found unread (λ next. members (record_within levels) (n - (i + 1)) next.1 next.0 next.2)) (sym no_brace)
    ∙ ap (λ (k : ℕ). next_field (record_within k) later p unread >>= λ next. members (record_within levels) (n - (i + 1)) next.1 next.0 next.2) (sym same)

-- a member as the code holds it, from its count and its letter
pub member_held : (mark : Mark) (text digits tail : List ℕ) (n d : ℕ) (read : Result Held Refusal) → n ≡ prefix_len is_ascii_digit text → digits ≡ take n text → tail ≡ drop n text → 1 ≤ length tail → read ≡ held_member (lettered_before mark digits (get_or tail 0 d) (take (length tail - 1) (drop 1 tail))) → held_at (member_at mark text) ≡ (read >>= λ member. Ok (member, take (length tail - 1) (drop 1 tail)))
member_held mark text digits tail n d read count front back some is =
    ap (λ (k : ℕ). held_at (after_count mark (take k text) (drop k text))) (sym count)
    ∙ ap (λ (ds : List ℕ). held_at (after_count mark ds (drop n text))) (sym front)
    ∙ ap (λ (l : List ℕ). held_at (after_count mark digits l)) (sym back)
    ∙ by_letter tail some is
  where
    by_member : (found : Result Member Refusal) (rest : List ℕ) → held_at (found >>= λ member. Ok (member, rest)) ≡ (held_member found >>= λ member. Ok (member, rest))
    by_member (Ok member) rest = refl
    by_member (Err refusal) rest = refl

    by_letter : (l : List ℕ) → 1 ≤ length l → read ≡ held_member (lettered_before mark digits (get_or l 0 d) (take (length l - 1) (drop 1 l))) → held_at (after_count mark digits l) ≡ (read >>= λ member. Ok (member, take (length l - 1) (drop 1 l)))
    by_letter [] e is = absurd (omega (arith, e))
    by_letter (b ∷ l) e is =
        ap (λ (rest : List ℕ). held_at (lettered_before mark digits b rest >>= λ member. Ok (member, rest))) (sym (take_all (length (b ∷ l) - 1) l (omega arith)))
        ∙ by_member (lettered_before mark digits b (take (length (b ∷ l) - 1) l)) (take (length (b ∷ l) - 1) l)
        ∙ ap (λ (r : Result Held Refusal). r >>= λ member. Ok (member, take (length (b ∷ l) - 1) l)) (sym is)

-- a member that is a record, whose name is read and not taken
pub next_record : (mark : Mark) (p : Partial) (text rest : List ℕ) (body : Body) (after name more : List ℕ) → held_at (member_at mark text) ≡ Ok (HeldOpened, rest) → record_within p.levels mark p.leaves (take (length rest - 1) (drop 1 rest)) ≡ Ok (body, after) →
    named (length p.fields) after ≡ Ok (name, more) → checked_name p name ≡ Ok tt → next_field (record_within p.levels) mark p text ≡ (added p name (aligned_to mark body.alignment) (RecordDescr body.whole) >>= λ q. Ok (q, body.mark, more))
unfolding next_field body_in
next_record mark p text rest body after name more opened within named_so free =
    let all : take (length rest - 1) (drop 1 rest) ≡ drop 1 rest = take_all (length rest - 1) (drop 1 rest) (omega (arith, length-drop 1 rest)) in
    rw (opened, rw all at within, named_so, free) refl
