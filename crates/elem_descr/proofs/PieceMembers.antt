-- The member at the front of a text is the same by its pieces and by its bytes.
use Rattle.std.proofs.Common.{◌≡◌, ◌≤◌, ◌+◌, inl, inr, ℕ, zero, suc, Bool, true, false, ◌&&◌, List, [], ◌∷◌, ◌++◌, take, drop, codes, Option, Some, None, Result, Ok, Err, cond, if◌then◌else◌, refl, sym, ap, subst, ◌∙◌, arith, unwrap_or}
use Rattle.elem_descr.proofs.Words.{option_map, is_ascii_digit, list_all, prefix_len, cases_eq, cases_Bool, and_parts, nat_tests, take-append-drop, Refusal, BadDescriptor, DescriptorLeftOut, Scalar, Descr, Mark, Aligned, Native, LittleMark, BigMark, ◌>>=◌, is_one_of, Member, Value, Pad, Opened, is_empty, mark_meant, number_letter, number_member, count_of, text_member, other_member, lettered, Behind, nothing, between_colons, lone_colon, Piece, letter, opening, is_colon, pieces, PieceKind, member, part_of, begins_with_digit, after, is_opened, lettered_before, after_count, member_at}
use Rattle.elem_descr.proofs.Fronts.{front_passes, one_more, some_left}
use Rattle.elem_descr.proofs.Pieces.{behind, pieces-colon, pieces-byte, pieces-letter, pieces-opening, pieces-digits, CountsNothing, last_digit}

-- ---- steps that may be refused

pub bind_bind : {X Y Z : Type 0} (r : Result X Refusal) (f : X → Result Y Refusal) (g : Y → Result Z Refusal) → ((r >>= f) >>= g) ≡ (r >>= λ x. f x >>= g)
bind_bind (Ok x) f g = refl
bind_bind (Err e) f g = refl

pub after_ok : {X Y : Type 0} (r : Result X Refusal) (f : X → Result Y Refusal) (x : X) → r ≡ Ok x → (r >>= f) ≡ f x
after_ok {X = X} r f x e = ap (λ (s : Result X Refusal). s >>= f) e

pub after_err : {X Y : Type 0} (r : Result X Refusal) (f : X → Result Y Refusal) (refusal : Refusal) → r ≡ Err refusal → (r >>= f) ≡ Err refusal
after_err {X = X} r f refusal e = ap (λ (s : Result X Refusal). s >>= f) e

-- ---- bytes by their meaning

pub one_of_one : (k b : ℕ) → is_one_of (k ∷ []) b ≡ true → b ≡ k
one_of_one k b e = grind (arith, nat_tests)

-- What holds for the blank and for each mark, holds for every byte that is one of them.
pub sign_cases : (P : ℕ → Mark → Type 0) (mark next : Mark) (b : ℕ) → after mark b ≡ Some next → P 32 mark → P 64 Aligned → P 94 Native → P 60 LittleMark → P 61 LittleMark → P 62 BigMark → P 33 BigMark → P b next
sign_cases P mark next b e p32 p64 p94 p60 p61 p62 p33 =
    by_byte 32 mark p32 (λ e. e) (λ n32.
    by_byte 64 Aligned p64 (λ e. e) (λ n64.
    by_byte 94 Native p94 (λ e. e) (λ n94.
    by_byte 60 LittleMark p60 (λ e. e) (λ n60.
    by_byte 61 LittleMark p61 (λ e. e) (λ n61.
    by_byte 62 BigMark p62 (λ e. e) (λ n62.
    by_byte 33 BigMark p33 (λ e. e) (λ n33. absurd (none n32 n64 n94 n60 n61 n62 n33))))))))
  where
    by_byte : (k : ℕ) (is : Mark) → P k is → (after mark k ≡ Some next → Some is ≡ Some next) → ((b ≡ k → ⊥) → P b next) → P b next
    by_byte k is p same other =
        elim (cases_eq b k) [
          | inl at ↦
              let there : after mark k ≡ Some next = subst (λ c. after mark c ≡ Some next) at e in
              let equal : is ≡ next = ap (λ o. unwrap_or o is) (same there) in
              subst (λ m. P b m) equal (subst (λ c. P c is) (sym at) p)
          | inr away ↦ other away
        ]

    none : (b ≡ 32 → ⊥) → (b ≡ 64 → ⊥) → (b ≡ 94 → ⊥) → (b ≡ 60 → ⊥) → (b ≡ 61 → ⊥) → (b ≡ 62 → ⊥) → (b ≡ 33 → ⊥) → ⊥
    none n32 n64 n94 n60 n61 n62 n33 = grind (arith, nat_tests)

-- What holds for each digit, holds for every byte that is a digit.
digit_cases : (P : ℕ → Type 0) (d : ℕ) → is_ascii_digit d ≡ true → P 48 → P 49 → P 50 → P 51 → P 52 → P 53 → P 54 → P 55 → P 56 → P 57 → P d
digit_cases P d e p0 p1 p2 p3 p4 p5 p6 p7 p8 p9 =
    by_digit 48 p0 (λ n0. by_digit 49 p1 (λ n1. by_digit 50 p2 (λ n2. by_digit 51 p3 (λ n3. by_digit 52 p4 (λ n4. by_digit 53 p5 (λ n5. by_digit 54 p6 (λ n6. by_digit 55 p7 (λ n7. by_digit 56 p8 (λ n8. by_digit 57 p9 (λ n9. absurd (omega (arith, range d e))))))))))))
  where
    by_digit : (k : ℕ) → P k → ((d ≡ k → ⊥) → P d) → P d
    by_digit k p other = elim (cases_eq d k) [ inl at ↦ subst P (sym at) p | inr away ↦ other away ]

    range : (d : ℕ) → is_ascii_digit d ≡ true → (48 ≤ d) × (d ≤ 57)
    range d e = grind (arith, nat_tests)

lettered_digit : (mark : Mark) (digits : List ℕ) (d : ℕ) → is_ascii_digit d ≡ true → lettered mark digits d ≡ Err BadDescriptor
lettered_digit mark digits d e = digit_cases (λ d. lettered mark digits d ≡ Err BadDescriptor) d e refl refl refl refl refl refl refl refl refl refl

-- ---- pieces by their meaning

-- a piece with digits
part_counted : (mark : Mark) (d : ℕ) (digits : List ℕ) (b : ℕ) (behind : Behind) → part_of mark (letter (d ∷ digits) b behind) ≡ (lettered mark (d ∷ digits) b >>= λ it. Ok (member it behind))
part_counted mark d digits b behind = rw (some_left d digits) refl

digit_part : (mark : Mark) (digits : List ℕ) (d : ℕ) → is_ascii_digit d ≡ true → part_of mark (letter digits d nothing) ≡ Err BadDescriptor
digit_part mark [] d e = digit_cases (λ d. part_of mark (letter [] d nothing) ≡ Err BadDescriptor) d e refl refl refl refl refl refl refl refl refl refl
digit_part mark (c ∷ digits) d e = part_counted mark c digits d nothing ∙ ap (λ r. r >>= λ it. Ok (member it nothing)) (lettered_digit mark (c ∷ digits) d e)

-- a piece without digits that is not a mark, a blank or a closing brace
part_single : (mark : Mark) (b : ℕ) (behind : Behind) → after mark b ≡ None → is_one_of (125 ∷ []) b ≡ false → part_of mark (letter [] b behind) ≡ (lettered mark [] b >>= λ it. Ok (member it behind))
part_single mark b nothing unmarked unclosed =
    let plain = by_blank (is_one_of (32 ∷ []) b) (mark_meant b) unmarked in
    rw (unclosed, plain.0, plain.1) refl
  where
    by_blank : (t : Bool) (o : Option Mark) → (if t then Some mark else o) ≡ None → (t ≡ false) × (o ≡ None)
    by_blank true o e = let never : ⊥ = cc in absurd never
    by_blank false o e = (refl, e)
part_single mark b (between_colons bytes) unmarked unclosed = rw unclosed refl
part_single mark b lone_colon unmarked unclosed = rw unclosed refl

-- how reading goes on, given the meaning of the first piece and the pieces after it
abbrev pub Then : Type 0
Then = PieceKind → List Piece → Result Descr Refusal

abbrev pub front : Mark → Then → List Piece → Result Descr Refusal
front mark later [] = Err BadDescriptor
front mark later (piece ∷ more) = part_of mark piece >>= λ part. later part more

-- how reading goes on after a member that is read from a text, if `rest` follows it
abbrev pub met : Then → Member → List ℕ → Result Descr Refusal
met later (Value scalar) rest = later (member (Value scalar) (behind rest).0) (pieces (behind rest).1)
met later (Pad n) rest = later (member (Pad n) (behind rest).0) (pieces (behind rest).1)
met later Opened rest = later (member Opened nothing) (pieces (drop 1 rest))

abbrev pub meant : Then → Member × List ℕ → Result Descr Refusal
meant later m = met later m.0 m.1

-- A letter never begins a record.
lettered_met : (mark : Mark) (later : Then) (digits : List ℕ) (b : ℕ) (rest : List ℕ) → ((lettered mark digits b >>= λ it. Ok (member it (behind rest).0)) >>= λ part. later part (pieces (behind rest).1)) ≡ ((lettered mark digits b >>= λ it. Ok (it, rest)) >>= meant later)
lettered_met mark later digits b rest = by_number (number_letter mark b)
  where
    after_pieces : Result Member Refusal → Result Descr Refusal
    after_pieces read = (read >>= λ it. Ok (member it (behind rest).0)) >>= λ part. later part (pieces (behind rest).1)

    after_turns : Result Member Refusal → Result Descr Refusal
    after_turns read = (read >>= λ it. Ok (it, rest)) >>= meant later

    by_empty : (t : Bool) (scalar : Scalar) → after_pieces (if t then Ok (Value scalar) else Err DescriptorLeftOut) ≡ after_turns (if t then Ok (Value scalar) else Err DescriptorLeftOut)
    by_empty true scalar = refl
    by_empty false scalar = refl

    by_count : (n : ℕ) → after_pieces (text_member n) ≡ after_turns (text_member n)
    by_count zero = refl
    by_count (suc n) = refl

    by_tests : (text pad out : Bool) (n : ℕ) →
        after_pieces (if text then text_member n else if pad then Ok (Pad n) else if out then Err DescriptorLeftOut else Err BadDescriptor)
        ≡ after_turns (if text then text_member n else if pad then Ok (Pad n) else if out then Err DescriptorLeftOut else Err BadDescriptor)
    by_tests true pad out n = by_count n
    by_tests false true out n = refl
    by_tests false false true n = refl
    by_tests false false false n = refl

    by_number : (number : Option Scalar) → after_pieces (unwrap_or (option_map (number_member digits) number) (other_member digits b)) ≡ after_turns (unwrap_or (option_map (number_member digits) number) (other_member digits b))
    by_number (Some scalar) = by_empty (is_empty digits) scalar
    by_number None = by_tests (is_one_of (codes "s") b) (is_one_of (codes "x") b) (is_one_of (codes "cnNPpefdgOZuwt&X(") b) (count_of digits)

-- ---- a member at the front

-- the text does not begin with a blank, a mark or a closing brace
abbrev pub Plain : Mark → List ℕ → Type 0
Plain mark [] = Unit {0}
Plain mark (b ∷ rest) = (after mark b ≡ None) × (is_one_of (125 ∷ []) b ≡ false)

fits_nowhere : (mark : Mark) (later : Then) (digits text : List ℕ) (more : List Piece) → list_all is_ascii_digit digits ≡ true → pieces text ≡ more → CountsNothing more → front mark later more ≡ Err BadDescriptor → front mark later (pieces (digits ++ text)) ≡ Err BadDescriptor
fits_nowhere mark later [] text more all is nothing_counted bad = ap (front mark later) is ∙ bad
fits_nowhere mark later (d ∷ digits) text more all is nothing_counted bad =
    let last = last_digit d digits text all (subst CountsNothing (sym is) nothing_counted) in
    ap (front mark later) last.is ∙ ap (λ r. r >>= λ part. later part last.more) (digit_part mark last.digits last.last last.digit)

opening_met : (mark : Mark) (later : Then) (digits text : List ℕ) → list_all is_ascii_digit digits ≡ true → front mark later (pieces (digits ++ 84 ∷ (123 ∷ text))) ≡ (after_count mark digits (84 ∷ (123 ∷ text)) >>= meant later)
opening_met mark later digits text all = ap (front mark later) (pieces-digits opening (λ d ds more. refl) digits (84 ∷ (123 ∷ text)) (pieces text) all (pieces-opening text)) ∙ counted digits
  where
    counted : (digits : List ℕ) → front mark later (opening digits ∷ pieces text) ≡ (after_count mark digits (84 ∷ (123 ∷ text)) >>= meant later)
    counted [] = refl
    counted (d ∷ digits) = rw (some_left d digits) refl

part_plain : (mark : Mark) (digits : List ℕ) (b : ℕ) (rest : List ℕ) (behind : Behind) → Plain mark (digits ++ b ∷ rest) → part_of mark (letter digits b behind) ≡ (lettered mark digits b >>= λ it. Ok (member it behind))
part_plain mark [] b rest behind plain = part_single mark b behind plain.0 plain.1
part_plain mark (d ∷ digits) b rest behind plain = part_counted mark d digits b behind

letter_met : (mark : Mark) (later : Then) (digits : List ℕ) (b : ℕ) (rest : List ℕ) → list_all is_ascii_digit digits ≡ true → Plain mark (digits ++ b ∷ rest) → is_colon b ≡ false → is_one_of (123 ∷ []) b ≡ false → is_ascii_digit b ≡ false → (is_one_of (84 ∷ []) b && is_opened rest) ≡ false → front mark later (pieces (digits ++ b ∷ rest)) ≡ (after_count mark digits (b ∷ rest) >>= meant later)
letter_met mark later digits b rest all plain colon brac digit bare =
    let before : lettered_before mark digits b rest ≡ lettered mark digits b = rw bare refl in
    ap (front mark later) (pieces-digits (λ ds. letter ds b (behind rest).0) (λ d ds more. refl) digits (b ∷ rest) (pieces (behind rest).1) all (pieces-letter b rest colon brac digit bare))
    ∙ ap (λ r. r >>= λ part. later part (pieces (behind rest).1)) (part_plain mark digits b rest (behind rest).0 plain)
    ∙ lettered_met mark later digits b rest
    ∙ ap (λ r. (r >>= λ it. Ok (it, rest)) >>= meant later) (sym before)

-- digits, and what follows them
digits_met : (mark : Mark) (later : Then) (digits text : List ℕ) → list_all is_ascii_digit digits ≡ true → begins_with_digit text ≡ false → Plain mark (digits ++ text) → front mark later (pieces (digits ++ text)) ≡ (after_count mark digits text >>= meant later)
digits_met mark later digits [] all stops plain = fits_nowhere mark later digits [] [] all refl (λ d. refl) refl
digits_met mark later digits (b ∷ rest) all stops plain =
    elim (cases_Bool (is_colon b)) [
      | inl colon ↦ at_byte 58 (one_of_one 58 b colon) (fits_nowhere mark later digits (58 ∷ rest) _ all (pieces-colon 58 rest refl) (λ d. refl) refl)
      | inr other ↦
          elim (cases_Bool (is_one_of (123 ∷ []) b)) [
            | inl brac ↦ at_byte 123 (one_of_one 123 b brac) (fits_nowhere mark later digits (123 ∷ rest) _ all (pieces-byte 123 rest refl) (λ d. refl) refl)
            | inr nor ↦
                elim (cases_Bool (is_one_of (84 ∷ []) b && is_opened rest)) [
                  | inl opens ↦ let h = and_parts (is_one_of (84 ∷ []) b) (is_opened rest) opens in at_byte 84 (one_of_one 84 b h.0) (opened_at rest h.1)
                  | inr bare ↦ letter_met mark later digits b rest all plain other nor stops bare
                ]
          ]
    ]
  where
    at_byte : (k : ℕ) → b ≡ k → front mark later (pieces (digits ++ k ∷ rest)) ≡ (after_count mark digits (k ∷ rest) >>= meant later) → front mark later (pieces (digits ++ b ∷ rest)) ≡ (after_count mark digits (b ∷ rest) >>= meant later)
    at_byte k is same = subst (λ c. front mark later (pieces (digits ++ c ∷ rest)) ≡ (after_count mark digits (c ∷ rest) >>= meant later)) (sym is) same

    opened_at : (rest : List ℕ) → is_opened rest ≡ true → front mark later (pieces (digits ++ 84 ∷ rest)) ≡ (after_count mark digits (84 ∷ rest) >>= meant later)
    opened_at [] e = let never : ⊥ = cc in absurd never
    opened_at (c ∷ text) e = subst (λ k. front mark later (pieces (digits ++ 84 ∷ (k ∷ text))) ≡ (after_count mark digits (84 ∷ (k ∷ text)) >>= meant later)) (sym (one_of_one 123 c e)) (opening_met mark later digits text all)

digits_stop : (text : List ℕ) → begins_with_digit (drop (prefix_len is_ascii_digit text) text) ≡ false
digits_stop [] = refl
digits_stop (b ∷ text) = by_first (is_ascii_digit b) refl (digits_stop text)
  where
    by_first : (t : Bool) → is_ascii_digit b ≡ t → begins_with_digit (drop (prefix_len is_ascii_digit text) text) ≡ false → begins_with_digit (drop (cond t (1 + prefix_len is_ascii_digit text) zero) (b ∷ text)) ≡ false
    by_first true e later = rw (one_more (prefix_len is_ascii_digit text)) later
    by_first false e later = e

pub member_met : (mark : Mark) (later : Then) (text : List ℕ) → Plain mark text → front mark later (pieces text) ≡ (member_at mark text >>= meant later)
member_met mark later text plain =
    let n = prefix_len is_ascii_digit text in
    let whole = take-append-drop n text in
    ap (λ t. front mark later (pieces t)) (sym whole)
    ∙ digits_met mark later (take n text) (drop n text) (front_passes is_ascii_digit text) (digits_stop text) (subst (Plain mark) (sym whole) plain)
