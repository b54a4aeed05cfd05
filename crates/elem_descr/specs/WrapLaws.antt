-- Wrapped numbers: the lowest bits of a number, and the integer that they mean.
use Rattle.std.specs.Prelude.{◌≡◌, ◌≤◌, ◌<◌, ◌+◌, ◌-◌, ◌*◌, ◌/◌, ◌^◌, ℕ, Bool, List, ◌++◌, length, ℤ, pos, negsuc, neg_ℤ, ◌+ℤ◌, ◌-ℤ◌, ◌≤ℤ◌, ◌<ℤ◌, unsigned_abs, FitsSigned}
use Rattle.std.proofs.Common.{zero, suc, true, false, drop, refl, sym, ap, ◌∙◌, inl, inr, arith}
use Rattle.elem_descr.specs.Words.{w128, cast_unsigned, int_rem_euclid, w64, cast_signed, int_wrap, ints, int_rem_euclid_is, append-nil, drop_all, pow_pos, pow-add, two-pow-succ, low_bytes}
use Rattle.elem_descr.specs.Encoding.{low_bits, integer, FitsBytes, DifferByMultiple}
use Rattle.elem_descr.specs.inside.Signs.{with_sign}
use Rattle.elem_descr.specs.EncodingLaws.{by_sign, low_bits-lt}

above : (a m : ℕ) → suc a ≤ m → negsuc a +ℤ pos m ≡ pos (m - suc a)
above a m l = omega (arith, ints)

-- the lowest `n` bytes of a number of 128 bits are its lowest bits
pub low_bits-128 : (n : ℕ) (z : ℤ) → n ≤ 16 → FitsSigned w128 z → low_bytes w128 n z ≡ low_bits n z
low_bits-128 n (pos a) small fits = refl
low_bits-128 n (negsuc a) small fits =
    let all : (128 - 8 * n) + 8 * n ≡ 128 = omega arith in
    let whole : 2 ^ (128 - 8 * n) * 2 ^ (8 * n) ≡ 2 ^ 128 = sym (pow-add 2 (128 - 8 * n) (8 * n)) ∙ ap (λ (k : ℕ). 2 ^ k) all in
    let sum : negsuc a +ℤ pos (2 ^ (128 - 8 * n) * 2 ^ (8 * n)) ≡ pos (cast_unsigned w128 (negsuc a)) = ap (λ (m : ℕ). negsuc a +ℤ pos m) whole ∙ above a (2 ^ 128) (omega arith) in
    sym (ap unsigned_abs (int_rem_euclid_is (negsuc a) (pos (2 ^ (8 * n))) (2 ^ (8 * n)) (2 ^ (128 - 8 * n)) _ (pow_pos (8 * n)) refl sum))

-- the remainder of `z` divided by `d` differs from `z` by a multiple of `d`
remainder-differs : (d : ℕ) (z : ℤ) → 0 < d → DifferByMultiple d (pos (unsigned_abs (int_rem_euclid z (pos d)))) z
remainder-differs d (pos a) some = (a / d, inr (omega (arith, ints)))
remainder-differs d (negsuc a) some = (a / d + 1, inl (omega (arith, ints)))

with_sign-fits : (h d x : ℕ) → d ≡ h + h → x < d → (neg_ℤ (pos h) ≤ℤ with_sign h d x) × (with_sign h d x <ℤ pos h)
with_sign-fits h d x half below =
    by_sign (λ z. (neg_ℤ (pos h) ≤ℤ z) × (z <ℤ pos h)) h d x
    (λ l. (omega (arith, ints), omega (arith, ints)))
    (λ l. (omega (arith, ints), omega (arith, ints)))

-- If a number differs from `z` by a multiple of `d`, it still does after `d` is subtracted.
differ_below : (d x : ℕ) (z : ℤ) → DifferByMultiple d (pos x) z → DifferByMultiple d (pos x -ℤ pos d) z
differ_below d x z (zero, inl e) = (1, inr (omega (arith, ints)))
differ_below d x z (suc k, inl e) = (k, inl (omega (arith, ints)))
differ_below d x z (k, inr e) = (k + 1, inr (omega (arith, ints)))

with_sign-differs : (h d x : ℕ) (z : ℤ) → DifferByMultiple d (pos x) z → DifferByMultiple d (with_sign h d x) z
with_sign-differs h d x z e = by_sign (λ y. DifferByMultiple d y z) h d x (λ _. e) (λ _. differ_below d x z e)

-- Two numbers in a range of length `d` that differ by a multiple of `d` are equal.
multiple_below : (k d : ℕ) → k * d < d → k * d ≡ 0
multiple_below zero d l = omega arith
multiple_below (suc k) d l = omega arith

only_in_range : (low x y : ℤ) (d : ℕ) → low ≤ℤ x → x <ℤ (low +ℤ pos d) → low ≤ℤ y → y <ℤ (low +ℤ pos d) → DifferByMultiple d x y → x ≡ y
only_in_range low x y d lx hx ly hy (k, inl e) = let none = multiple_below k d (omega (arith, ints)) in omega (arith, ints)
only_in_range low x y d lx hx ly hy (k, inr e) = let none = multiple_below k d (omega (arith, ints)) in omega (arith, ints)

-- 2 ^ (8 * n) is twice 2 ^ (8 * n - 1)
halves : (n : ℕ) → 1 ≤ n → 2 ^ (8 * n) ≡ 2 ^ (8 * n - 1) + 2 ^ (8 * n - 1)
halves n some = let e : 8 * n ≡ suc (8 * n - 1) = omega arith in ap (λ (k : ℕ). 2 ^ k) e ∙ two-pow-succ (8 * n - 1)

pub integer-fits : (signed : Bool) (n x : ℕ) → 1 ≤ n → x < 2 ^ (8 * n) → FitsBytes signed n (integer signed n x)
integer-fits false n x some below = (omega (arith, ints), omega (arith, ints))
integer-fits true n x some below = with_sign-fits (2 ^ (8 * n - 1)) (2 ^ (8 * n)) x (halves n some) below

pub integer-differs : (signed : Bool) (n : ℕ) (z : ℤ) → DifferByMultiple (2 ^ (8 * n)) (integer signed n (low_bits n z)) z
integer-differs false n z = remainder-differs (2 ^ (8 * n)) z (pow_pos (8 * n))
integer-differs true n z = with_sign-differs (2 ^ (8 * n - 1)) (2 ^ (8 * n)) (low_bits n z) z (remainder-differs (2 ^ (8 * n)) z (pow_pos (8 * n)))

-- wrapping leaves a number that fits as it is
pub integer-low_bits : (signed : Bool) (n : ℕ) (z : ℤ) → 1 ≤ n → FitsBytes signed n z → integer signed n (low_bits n z) ≡ z
integer-low_bits false n z some fits =
    let there = integer-fits false n (low_bits n z) some (low_bits-lt n z) in
    only_in_range (pos 0) _ z (2 ^ (8 * n)) there.0 (omega (arith, ints)) fits.0 (omega (arith, ints)) (integer-differs false n z)
integer-low_bits true n z some fits =
    let there = integer-fits true n (low_bits n z) some (low_bits-lt n z) in
    let half = halves n some in
    only_in_range (neg_ℤ (pos (2 ^ (8 * n - 1)))) _ z (2 ^ (8 * n)) there.0 (omega (arith, ints)) fits.0 (omega (arith, ints)) (integer-differs true n z)

-- If the bytes of a number are written over a slice of the same length, the slice becomes these bytes.
pub written_whole : (n : ℕ) (z : ℤ) (f : ℕ → ℕ → List ℕ) (old new : List ℕ) → n ≤ 8 → FitsSigned w128 z → length old ≡ n → new ≡ f n (low_bytes w128 n z) ++ drop n old → new ≡ f n (low_bits n z)
written_whole n z f old new few fits whole e =
    e ∙ ap (λ (rest : List ℕ). f n (low_bytes w128 n z) ++ rest) (drop_all n old (omega arith)) ∙ append-nil (f n (low_bytes w128 n z)) ∙ ap (f n) (low_bits-128 n z (omega arith) fits)

pub int_wrap-low_bits : (z : ℤ) → int_wrap w64 z ≡ cast_signed w64 (low_bits 8 z)
unfolding int_wrap
int_wrap-low_bits z = refl
