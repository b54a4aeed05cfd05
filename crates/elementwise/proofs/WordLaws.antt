-- Operations on the lowest 64 bits, and their results in a scalar.
use Rattle.std.proofs.Common.{◌≡◌, ℕ, suc, ◌+◌, ◌-◌, ◌*◌, ◌%◌, ◌^◌, ◌<◌, ◌≤◌, inl, inr, Bool, true, false, refl, sym, ap, subst, ◌∙◌, arith, mul_assoc, ℤ, pos, negsuc, ◌+ℤ◌, ◌-ℤ◌, unsigned_abs, nat_lt}
use Rattle.elementwise.proofs.Words.{mod-mod, mod-eq_of_lt, mod-mod-pow, false≢true, ltb-true, ints, int_rem_euclid_is, pow_pos, pow-add, Scalar, Byte, Int, Bytes, IsNumber, width_size, integer, low_bits, wrap, truth, low_bits-integer, truth_suc, integer-differs, integer-fits, BinOp, Add, Subtract, Multiply, FloorDivide, Modulo, And, Or, Xor, ShiftLeft, ShiftRight, Divide, is_bool, AreBits, BoolScalar, IsTruth, exact, binary, of_bits}
use Rattle.elementwise.proofs.WorkLaws.{small_width}

-- bits are the bits of the number that they are
pub are_bits : (r : ℕ) → r < 2 ^ 64 → AreBits r (pos r)
are_bits r below = record { low = mod-eq_of_lt below; zero = λ none. ap pos none }

-- ---- fewer bits

split_64 : (n : ℕ) → n ≤ 8 → 2 ^ (64 - 8 * n) * 2 ^ (8 * n) ≡ 2 ^ 64
split_64 n few = let e : (64 - 8 * n) + 8 * n ≡ 64 = omega arith in sym (pow-add 2 (64 - 8 * n) (8 * n)) ∙ ap (λ (k : ℕ). 2 ^ k) e

fewer-neg : (n a k : ℕ) → n ≤ 8 → pos (low_bits 8 (negsuc a)) ≡ negsuc a +ℤ pos (k * 2 ^ 64) → low_bits n (pos (low_bits 8 (negsuc a))) ≡ low_bits n (negsuc a)
fewer-neg n a k few e =
    let whole : k * 2 ^ (64 - 8 * n) * 2 ^ (8 * n) ≡ k * 2 ^ 64 = mul_assoc k (2 ^ (64 - 8 * n)) (2 ^ (8 * n)) ∙ ap (λ m. k * m) (split_64 n few) in
    let sum : negsuc a +ℤ pos (k * 2 ^ (64 - 8 * n) * 2 ^ (8 * n)) ≡ pos (low_bits 8 (negsuc a)) = ap (λ m. negsuc a +ℤ pos m) whole ∙ sym e in
    sym (ap unsigned_abs (int_rem_euclid_is (negsuc a) (pos (2 ^ (8 * n))) (2 ^ (8 * n)) (k * 2 ^ (64 - 8 * n)) (low_bits 8 (negsuc a)) (pow_pos (8 * n)) refl sum))

-- the lowest `n` bytes of the lowest eight bytes
pub low_bits-fewer : (n : ℕ) (z : ℤ) → n ≤ 8 → low_bits n (pos (low_bits 8 z)) ≡ low_bits n z
low_bits-fewer n (pos a) few =
    let e : 64 ≡ (64 - 8 * n) + 8 * n = omega arith in
    ap (λ (k : ℕ). a % 2 ^ k % 2 ^ (8 * n)) e ∙ mod-mod-pow a (64 - 8 * n) (8 * n)
low_bits-fewer n (negsuc a) few =
    let differs = integer-differs false 8 (negsuc a) in
    elim differs.1 [
      | inl e ↦ fewer-neg n a differs.0 few e
      | inr e ↦ absurd (omega (arith, ints, e))
    ]

-- ---- results of the lowest bits

wrap-low : (s : Scalar) (z : ℤ) → IsNumber s → is_bool s ≡ false → wrap s (pos (low_bits 8 z)) ≡ wrap s z
wrap-low BoolScalar z is other = absurd (false≢true (sym other))
wrap-low (Byte signed) z is other = ap (integer signed 1) (low_bits-fewer 1 z (omega arith))
wrap-low (Int signed width order) z is other = ap (integer signed (width_size width)) (low_bits-fewer (width_size width) z (small_width width))
wrap-low (Bytes n) z never other = absurd never

truth-low : (z : ℤ) → unsigned_abs z < 2 ^ 64 → truth (low_bits 8 z) ≡ truth (unsigned_abs z)
truth-low (pos n) below = ap truth (mod-eq_of_lt below)
truth-low (negsuc n) below =
    let m = 2 ^ 64 - 2 - n in
    let low : low_bits 8 (negsuc n) ≡ suc m = omega (arith, mod-eq_of_lt (let less : n < 2 ^ 64 = omega (arith, below) in less)) in
    ap truth low ∙ truth_suc m ∙ sym (truth_suc n)

-- the results of operations on two bools are small
abbrev few : BinOp → ℤ → ℤ → Bool
few op a b = nat_lt (unsigned_abs (exact op BoolScalar a b)) 3

all_few : (op : BinOp) → (few op (pos 0) (pos 0) ≡ true) × (few op (pos 0) (pos 1) ≡ true) × (few op (pos 1) (pos 0) ≡ true) × (few op (pos 1) (pos 1) ≡ true)
all_few Add = (refl, refl, refl, refl)
all_few Subtract = (refl, refl, refl, refl)
all_few Multiply = (refl, refl, refl, refl)
all_few FloorDivide = (refl, refl, refl, refl)
all_few Modulo = (refl, refl, refl, refl)
all_few And = (refl, refl, refl, refl)
all_few Or = (refl, refl, refl, refl)
all_few Xor = (refl, refl, refl, refl)
all_few ShiftLeft = (refl, refl, refl, refl)
all_few ShiftRight = (refl, refl, refl, refl)
all_few Divide = (refl, refl, refl, refl)

few-at : (op : BinOp) (a b : ℤ) → IsTruth a → IsTruth b → few op a b ≡ true
few-at op a b (inl is) (inl is') = (λ i. few op (is i) (is' i)) ∙ (all_few op).0
few-at op a b (inl is) (inr is') = (λ i. few op (is i) (is' i)) ∙ (all_few op).1
few-at op a b (inr is) (inl is') = (λ i. few op (is i) (is' i)) ∙ (all_few op).2
few-at op a b (inr is) (inr is') = (λ i. few op (is i) (is' i)) ∙ (all_few op).3

applied_low : (op : BinOp) (s : Scalar) (a b : ℤ) → IsNumber s → (is_bool s ≡ true → IsTruth a) → (is_bool s ≡ true → IsTruth b) → wrap s (pos (low_bits 8 (exact op s a b))) ≡ binary op s a b
applied_low op BoolScalar a b is truth-a truth-b = ap pos (truth-low (exact op BoolScalar a b) (omega (arith, ltb-true (unsigned_abs (exact op BoolScalar a b)) 3 (few-at op a b (truth-a refl) (truth-b refl)))))
applied_low op (Byte signed) a b is truth-a truth-b = wrap-low (Byte signed) (exact op (Byte signed) a b) is refl
applied_low op (Int signed width order) a b is truth-a truth-b = wrap-low (Int signed width order) (exact op (Int signed width order) a b) is refl
applied_low op (Bytes n) a b never truth-a truth-b = absurd never

-- a number with the lowest bits of a result is the result
pub applied : (op : BinOp) (s : Scalar) (a b v : ℤ) (r : ℕ) → IsNumber s → (is_bool s ≡ true → IsTruth a) → (is_bool s ≡ true → IsTruth b) → v ≡ wrap s (pos r) → r ≡ low_bits 8 (exact op s a b) → v ≡ binary op s a b
applied op s a b v r is truth-a truth-b made low = made ∙ ap (λ n. wrap s (pos n)) low ∙ applied_low op s a b is truth-a truth-b

-- the same for one number, if it is not far from 0 when the scalar is a bool
pub applied_one : (s : Scalar) (z v : ℤ) (r : ℕ) → IsNumber s → (is_bool s ≡ true → unsigned_abs z < 2 ^ 64) → v ≡ wrap s (pos r) → r ≡ low_bits 8 z → v ≡ wrap s z
applied_one BoolScalar z v r is small made low = made ∙ ap (λ n. wrap BoolScalar (pos n)) low ∙ ap pos (truth-low z (small refl))
applied_one (Byte signed) z v r is small made low = made ∙ ap (λ n. wrap (Byte signed) (pos n)) low ∙ wrap-low (Byte signed) z is refl
applied_one (Int signed width order) z v r is small made low = made ∙ ap (λ n. wrap (Int signed width order) (pos n)) low ∙ wrap-low (Int signed width order) z is refl
applied_one (Bytes n) z v r never small made low = absurd never

few_bits : (n : ℕ) → n < 2 ^ 64 → (unsigned_abs (integer true 8 n -ℤ pos 0) < 2 ^ 64) × (unsigned_abs (integer true 8 n -ℤ pos 1) < 2 ^ 64)
few_bits n below = let fits = integer-fits true 8 n (omega arith) below in (omega (arith, ints, fits.0, fits.1), omega (arith, ints, fits.0, fits.1))

pub near_zero : (n : ℕ) (b : ℤ) → n < 2 ^ 64 → IsTruth b → unsigned_abs (integer true 8 n -ℤ b) < 2 ^ 64
near_zero n b below (inl is) = subst (λ z. unsigned_abs (integer true 8 n -ℤ z) < 2 ^ 64) (sym is) (few_bits n below).0
near_zero n b below (inr is) = subst (λ z. unsigned_abs (integer true 8 n -ℤ z) < 2 ^ 64) (sym is) (few_bits n below).1

-- ---- bits of two numbers

module _ (f : ℕ → ℕ → ℕ) (f-mod : (a b k : ℕ) → f a b % 2 ^ k ≡ f (a % 2 ^ k) (b % 2 ^ k)) where
  bits-at : (n : ℕ) (signed : Bool) (x : ℕ) → n ≤ 8 → x < 2 ^ 64 → low_bits n (integer signed 8 x) ≡ x % 2 ^ (8 * n)
  bits-at n signed x small below = sym (low_bits-fewer n (integer signed 8 x) small) ∙ ap (λ m. low_bits n (pos m)) (low_bits-integer signed 8 x below)

  combined-low : (n : ℕ) (signed : Bool) (x y : ℕ) → n ≤ 8 → x < 2 ^ 64 → y < 2 ^ 64 → low_bits n (pos (f x y)) ≡ low_bits n (pos (f (low_bits n (integer signed 8 x)) (low_bits n (integer signed 8 y))))
  combined-low n signed x y small below below' =
      let m = 2 ^ (8 * n) in
      f-mod x y (8 * n)
      ∙ sym (f-mod (x % m) (y % m) (8 * n) ∙ λ i. f (mod-mod x m i) (mod-mod y m i))
      ∙ sym (λ i. low_bits n (pos (f (bits-at n signed x small below i) (bits-at n signed y small below' i))))

  truth-bits : (signed : Bool) (x : ℕ) → x < 2 ^ 64 → IsTruth (integer signed 8 x) → low_bits 1 (integer signed 8 x) ≡ x
  truth-bits signed x below (inl is) = ap (low_bits 1) is ∙ sym (ap (low_bits 8) is) ∙ low_bits-integer signed 8 x below
  truth-bits signed x below (inr is) = ap (low_bits 1) is ∙ sym (ap (low_bits 8) is) ∙ low_bits-integer signed 8 x below

  combined : (s : Scalar) (signed : Bool) (x y : ℕ) → IsNumber s → x < 2 ^ 64 → y < 2 ^ 64 → (is_bool s ≡ true → IsTruth (integer signed 8 x)) → (is_bool s ≡ true → IsTruth (integer signed 8 y)) →
      wrap s (pos (f x y)) ≡ wrap s (of_bits f s (integer signed 8 x) (integer signed 8 y))
  combined BoolScalar signed x y is below below' truth-x truth-y = λ i. wrap BoolScalar (pos (f (sym (truth-bits signed x below (truth-x refl)) i) (sym (truth-bits signed y below' (truth-y refl)) i)))
  combined (Byte sign) signed x y is below below' truth-x truth-y = ap (integer sign 1) (combined-low 1 signed x y (omega arith) below below')
  combined (Int sign width order) signed x y is below below' truth-x truth-y = ap (integer sign (width_size width)) (combined-low (width_size width) signed x y (small_width width) below below')
  combined (Bytes n) signed x y never below below' truth-x truth-y = absurd never

  pub bits_applied : (s : Scalar) (signed : Bool) (a b v : ℤ) (x y : ℕ) → IsNumber s → x < 2 ^ 64 → y < 2 ^ 64 → (is_bool s ≡ true → IsTruth a) → (is_bool s ≡ true → IsTruth b) → a ≡ integer signed 8 x → b ≡ integer signed 8 y →
      v ≡ wrap s (pos (f x y)) → v ≡ wrap s (of_bits f s a b)
  bits_applied s signed a b v x y is below below' truth-a truth-b exact-a exact-b made =
      made
      ∙ combined s signed x y is below below' (λ bool. subst IsTruth exact-a (truth-a bool)) (λ bool. subst IsTruth exact-b (truth-b bool))
      ∙ sym (λ i. wrap s (of_bits f s (exact-a i) (exact-b i)))
