-- A member that is written is read back as the same member.
use Rattle.std.proofs.Common.{◌≡◌, ◌≤◌, ◌<◌, ℕ, zero, suc, min, Bool, true, false, List, [], ◌∷◌, ◌++◌, length, Some, None, Ok, refl, ap, ◌∙◌, not, arith, nat_le, ◌&&◌, decimal}
use Rattle.elem_descr.proofs.Words.{is_ascii_digit, list_all, prefix_len, nat_tests, decimal_nonempty, take-append_seam, drop-append_seam, le-leb, and_parts, min-eq_left, Little, Big, Two, Four, Eight, Scalar, BoolScalar, Byte, Int, Bytes, Mark, LittleMark, BigMark, size, value_of, is_legal_name, is_field_name_byte, Value, count_of, text_member, is_colon, after, marked, after_count, member_at, held_at, named, written_mark, written_count, written_letter, digits-decimal, value_of-decimal}
use Rattle.elem_descr.specs.declared.format_text.member.Member.TheVariants as held
use Rattle.elem_descr.proofs.Fronts.{some_left}

-- the elements that pass a test, before one that does not
prefix_len-passing : (p : ℕ → Bool) (xs : List ℕ) (y : ℕ) (ys : List ℕ) → list_all p xs ≡ true → p y ≡ false → prefix_len p (xs ++ y ∷ ys) ≡ length xs
prefix_len-passing p [] y ys all fails = rw fails refl
prefix_len-passing p (x ∷ xs) y ys all fails =
    let b = and_parts (p x) (list_all p xs) all in
    rw b.0 (omega (arith, prefix_len-passing p xs y ys b.1 fails))

-- digits are not marks and not blanks
pub marked_digits : (mark : Mark) (digits rest : List ℕ) → list_all is_ascii_digit digits ≡ true → 0 < length digits → marked mark (digits ++ rest) ≡ (mark, digits ++ rest)
marked_digits mark [] rest all some = absurd (omega arith)
marked_digits mark (d ∷ digits) rest all some =
    let first = (and_parts (is_ascii_digit d) (list_all is_ascii_digit digits) all).0 in
    let plain : after mark d ≡ None = grind (arith, nat_tests) in
    rw plain refl

-- the mark that is written for a scalar
unfoldable pub mark_of : Scalar → Mark
mark_of (Int signed width Big) = BigMark
mark_of scalar = LittleMark

-- digits count as their value
count_of-digits : (digits : List ℕ) → 1 ≤ length digits → count_of digits ≡ value_of digits
count_of-digits [] some = absurd (omega arith)
count_of-digits (d ∷ digits) some = refl

count_of-decimal : (n : ℕ) → n ≤ 65536 → count_of (decimal n) ≡ n
count_of-decimal n small = count_of-digits (decimal n) (decimal_nonempty n (omega arith)) ∙ value_of-decimal n (omega arith)

-- a count and the letter after it
count_and_letter : (mark : Mark) (n letter : ℕ) (rest : List ℕ) → n ≤ 65536 → is_ascii_digit letter ≡ false → member_at mark (decimal n ++ letter ∷ rest) ≡ after_count mark (decimal n) (letter ∷ rest)
count_and_letter mark n letter rest small other =
    rw (prefix_len-passing is_ascii_digit (decimal n) letter rest (digits-decimal n (omega arith)) other, take-append_seam (decimal n) (letter ∷ rest), drop-append_seam (decimal n) (letter ∷ rest)) refl

text_member-some : (n : ℕ) → 1 ≤ n → text_member n ≡ Ok (Value (Bytes n))
text_member-some zero some = absurd (omega arith)
text_member-some (suc n) some = refl

-- a scalar without its name: its mark, and then its count and its letter
pub reads_scalar : (mark : Mark) (scalar : Scalar) (rest : List ℕ) → 1 ≤ size scalar → size scalar ≤ 65536 →
    (let text = written_count scalar ++ (written_letter scalar ++ rest) in (marked mark (written_mark scalar ++ text) ≡ (mark_of scalar, text)) × (held_at (member_at (mark_of scalar) text) ≡ Ok (held.Value (Some scalar), rest)))
unfolding mark_of
reads_scalar mark BoolScalar rest some small = (refl, refl)
reads_scalar mark (Byte true) rest some small = (refl, refl)
reads_scalar mark (Byte false) rest some small = (refl, refl)
reads_scalar mark (Int true Two Little) rest some small = (refl, refl)
reads_scalar mark (Int true Two Big) rest some small = (refl, refl)
reads_scalar mark (Int true Four Little) rest some small = (refl, refl)
reads_scalar mark (Int true Four Big) rest some small = (refl, refl)
reads_scalar mark (Int true Eight Little) rest some small = (refl, refl)
reads_scalar mark (Int true Eight Big) rest some small = (refl, refl)
reads_scalar mark (Int false Two Little) rest some small = (refl, refl)
reads_scalar mark (Int false Two Big) rest some small = (refl, refl)
reads_scalar mark (Int false Four Little) rest some small = (refl, refl)
reads_scalar mark (Int false Four Big) rest some small = (refl, refl)
reads_scalar mark (Int false Eight Little) rest some small = (refl, refl)
reads_scalar mark (Int false Eight Big) rest some small = (refl, refl)
reads_scalar mark (Bytes n) rest some small = (
  marked_digits LittleMark (decimal n) (115 ∷ rest) (digits-decimal n (omega arith)) (decimal_nonempty n (omega arith)),
  ap held_at (count_and_letter LittleMark n 115 rest small refl) ∙ rw (count_of-decimal n small, text_member-some n some, le-leb n 65536 small) refl,
)

pub reads_pad : (mark : Mark) (n : ℕ) (rest : List ℕ) → n ≤ 65536 → held_at (member_at mark (decimal n ++ 120 ∷ rest)) ≡ Ok (held.Pad n, rest)
reads_pad mark n rest small =
    let fits : min n 65537 ≡ n = min-eq_left (omega (arith, small)) in
    ap held_at (count_and_letter mark n 120 rest small refl) ∙ rw (count_of-decimal n small, fits) refl

-- no byte of a name is a colon
colonless_name : (name : List ℕ) → list_all is_field_name_byte name ≡ true → list_all (λ b. not (is_colon b)) name ≡ true
colonless_name [] all = refl
colonless_name (b ∷ name) all =
    let h = and_parts (is_field_name_byte b) (list_all is_field_name_byte name) all in
    let other : not (is_colon b) ≡ true = grind (arith, nat_tests) in
    rw other (colonless_name name h.1)

pub reads_name : (number : ℕ) (name rest : List ℕ) → is_legal_name name ≡ true → named number (58 ∷ (name ++ 58 ∷ rest)) ≡ Ok (name, rest)
reads_name number name rest legal =
    let bytes = (and_parts (nat_le 1 (length name) && nat_le (length name) 64) (list_all is_field_name_byte name) legal).1 in
    let front = prefix_len-passing (λ b. not (is_colon b)) name 58 rest (colonless_name name bytes) refl in
    rw (front, take-append_seam name (58 ∷ rest), drop-append_seam name (58 ∷ rest), some_left 58 rest, legal) refl
