-- Bytes that are numbers.
use Rattle.std.proofs.Common.{◌≡◌, ◌≤◌, ◌<◌, ◌^◌, ◌+◌, ℕ, zero, suc, Bool, true, false, List, [], ◌∷◌, take, Some, None, if◌then◌else◌, nat_eq, refl, arith, cond, IfSome, length, drop, subst, length-drop}
use Rattle.script_lang.proofs.Words.{◌>>=◌, record_mark_at, is_blank, is_mark, is_name, is_name_byte, is_name_start, is_parted, starts_with, unspaced, word_at, name_at, length_at, integer_at, literal_within, literal_at, pow-le-pow_right, list_all, prefix_len}
use Rattle.script_lang.proofs.Shorter.{Few, two_within}

-- A number with fewer digits is below the power of ten for more digits.
pub below_power : (k n i : ℕ) → n < 10 ^ i → i ≤ k → n < 10 ^ k
below_power k n i small few = let powers : 10 ^ i ≤ 10 ^ k = pow-le-pow_right (omega arith) few in omega arith

passing_cons : (test : ℕ → Bool) (b : ℕ) (bytes : List ℕ) (t : Bool) → test b ≡ t → list_all test (take (prefix_len test bytes) bytes) ≡ true → list_all test (take (cond t (1 + prefix_len test bytes) 0) (b ∷ bytes)) ≡ true
passing_cons test b bytes false is rest = refl
passing_cons test b bytes true is rest =
    let next : 1 + prefix_len test bytes ≡ suc (prefix_len test bytes) = omega arith in
    rw (next, is) rest

-- Each element of the longest prefix that passes a test passes it.
pub passing_front : (test : ℕ → Bool) (bytes : List ℕ) → list_all test (take (prefix_len test bytes) bytes) ≡ true
passing_front test [] = refl
passing_front test (b ∷ bytes) = passing_cons test b bytes (test b) refl (passing_front test bytes)

-- The text after the marks and `T{` is at most as long as the whole text.
pub record_mark_shorter : (bytes inside : List ℕ) → record_mark_at bytes ≡ Some inside → length inside ≤ length bytes
unfolding record_mark_at
record_mark_shorter bytes inside found =
    let two = two_within (length bytes) 84 123 (drop (prefix_len is_mark bytes) bytes) (omega (arith, length-drop (prefix_len is_mark bytes) bytes)) in
    let less : length inside < length bytes = subst (λ o. IfSome o (Few (length bytes))) found two in
    omega arith

unspaced_cons : (b : ℕ) (bytes : List ℕ) (t : Bool) → is_blank b ≡ t → unspaced (unspaced bytes) ≡ unspaced bytes → unspaced (drop (cond t (1 + prefix_len is_blank bytes) 0) (b ∷ bytes)) ≡ drop (cond t (1 + prefix_len is_blank bytes) 0) (b ∷ bytes)
unspaced_cons b bytes false is rest = rw is refl
unspaced_cons b bytes true is rest =
    let next : 1 + prefix_len is_blank bytes ≡ suc (prefix_len is_blank bytes) = omega arith in
    rw next rest

-- No blanks follow the blanks at the front.
pub unspaced_twice : (bytes : List ℕ) → unspaced (unspaced bytes) ≡ unspaced bytes
unspaced_twice [] = refl
unspaced_twice (b ∷ bytes) = unspaced_cons b bytes (is_blank b) refl (unspaced_twice bytes)

pub integer_unspaced : (bytes : List ℕ) → integer_at (unspaced bytes) ≡ integer_at bytes
unfolding integer_at length_at
integer_unspaced bytes = rw (unspaced_twice bytes) refl

pub name_unspaced : (bytes : List ℕ) → name_at (unspaced bytes) ≡ name_at bytes
unfolding name_at word_at
name_unspaced bytes = rw (unspaced_twice bytes) refl

unnamed : (n : ℕ) (bytes : List ℕ) → starts_with is_name_start bytes ≡ false → is_name (take n bytes) ≡ false
unnamed zero bytes other = refl
unnamed (suc n) [] other = refl
unnamed (suc n) (b ∷ bytes) other = rw other refl

word_left_out : (word : List ℕ × List ℕ) (parted : Bool) → is_name word.0 ≡ false → ((if parted then Some word else None) >>= λ found. if is_name found.0 then Some found else None) ≡ None
word_left_out word false other = refl
word_left_out word true other = rw other refl

front_left_out : (front : List ℕ × List ℕ) (none : Bool) → is_name front.0 ≡ false → ((if none then None else Some front) >>= (λ word. if is_parted word.1 then Some word else None) >>= λ found. if is_name found.0 then Some found else None) ≡ None
front_left_out front true other = refl
front_left_out front false other = word_left_out front (is_parted front.1) other

-- There is no name where the first byte cannot start one.
pub no_name_start : (bytes : List ℕ) → starts_with is_name_start (unspaced bytes) ≡ false → name_at bytes ≡ None
unfolding name_at word_at
no_name_start bytes other =
    let n = prefix_len is_name_byte (unspaced bytes) in
    front_left_out (take n (unspaced bytes), drop n (unspaced bytes)) (nat_eq n 0) (unnamed n (unspaced bytes) other)

pub literal_unspaced : (bytes : List ℕ) → literal_at (unspaced bytes) ≡ literal_at bytes
unfolding literal_at literal_within
literal_unspaced bytes = rw (unspaced_twice bytes) refl
