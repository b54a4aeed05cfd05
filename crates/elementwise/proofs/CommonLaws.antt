-- The smallest type that holds the numbers of two types.
use Rattle.std.proofs.Common.{◌≡◌, ◌⊎◌, inl, inr, ◌*◌, ◌-◌, ◌≤◌, ◌^◌, ℕ, ℤ, max, nat_le, Bool, true, false, cond, Result, Ok, Err, refl, sym, ap, subst, arith, not}
use Rattle.elementwise.proofs.Words.{is_ok, pow-le-pow_right, false≢true, cases_lt, leb-true, ints, Refusal, NeedsFloats, Two, Four, Eight, Scalar, Byte, Int, Bytes, IsNumber, IsValueOf, FitsBytes, size, width_size, same_answer, check_passed, check_test, is_signed, little, BoolScalar, integer_type, mixed_type, common_integers, common_type, Holds}

-- ---- integers of n bytes

abbrev IsSize : ℕ → Type 0
IsSize n = (n ≡ 1) ⊎ (n ≡ 2) ⊎ (n ≡ 4) ⊎ (n ≡ 8)

some_size : (n : ℕ) → IsSize n → 1 ≤ n
some_size n is = elim is [
  | inl is' ↦ omega (arith, is')
  | inr (inl is') ↦ omega (arith, is')
  | inr (inr (inl is')) ↦ omega (arith, is')
  | inr (inr (inr is')) ↦ omega (arith, is')
]

twice_size : (n : ℕ) → IsSize n → 2 * n ≤ 8 → IsSize (2 * n)
twice_size n is most = elim is [
  | inl is' ↦ inr (inl (omega (arith, is')))
  | inr (inl is') ↦ inr (inr (inl (omega (arith, is'))))
  | inr (inr (inl is')) ↦ inr (inr (inr (omega (arith, is'))))
  | inr (inr (inr is')) ↦ absurd (omega (arith, is', most))
]

larger : (n m : ℕ) → (max n m ≡ n) ⊎ (max n m ≡ m)
larger n m = elim (cases_lt n m) as (λ _. (max n m ≡ n) ⊎ (max n m ≡ m)) [ inl lt ↦ inr (omega (arith, lt)) | inr ge ↦ inl (omega (arith, ge)) ]

max_size : (n m : ℕ) → IsSize n → IsSize m → IsSize (max n m)
max_size n m is is' = elim (larger n m) [ inl e ↦ subst IsSize (sym e) is | inr e ↦ subst IsSize (sym e) is' ]

abbrev Fits : Bool → ℕ → Scalar → Type 0
Fits signed n s = (z : ℤ) → FitsBytes signed n z → IsValueOf s z

wider : (signed : Bool) (n m : ℕ) → 1 ≤ n → n ≤ m → (z : ℤ) → FitsBytes signed n z → FitsBytes signed m z
wider false n m some le z fits =
    let more : 2 ^ (8 * n) ≤ 2 ^ (8 * m) = pow-le-pow_right (omega arith) (omega (arith, le)) in
    (fits.0, omega (arith, ints, fits.1, more))
wider true n m some le z fits =
    let more : 2 ^ (8 * n - 1) ≤ 2 ^ (8 * m - 1) = pow-le-pow_right (omega arith) (omega (arith, some, le)) in
    (omega (arith, ints, fits.0, more), omega (arith, ints, fits.1, more))

with_sign : (n m : ℕ) → 1 ≤ n → 2 * n ≤ m → (z : ℤ) → FitsBytes false n z → FitsBytes true m z
with_sign n m some le z fits =
    let more : 2 ^ (8 * n) ≤ 2 ^ (8 * m - 1) = pow-le-pow_right (omega arith) (omega (arith, some, le)) in
    (omega (arith, ints, fits.0), omega (arith, ints, fits.1, more))

in_type : (signed : Bool) (n : ℕ) → IsSize n → Fits signed n (integer_type signed n)
in_type signed n is = elim is [
  | inl is' ↦ subst (λ k. Fits signed k (integer_type signed k)) (sym is') (λ z fits. fits)
  | inr (inl is') ↦ subst (λ k. Fits signed k (integer_type signed k)) (sym is') (λ z fits. fits)
  | inr (inr (inl is')) ↦ subst (λ k. Fits signed k (integer_type signed k)) (sym is') (λ z fits. fits)
  | inr (inr (inr is')) ↦ subst (λ k. Fits signed k (integer_type signed k)) (sym is') (λ z fits. fits)
]

-- ---- two types of integers

alike : (signed : Bool) (n m : ℕ) (s : Scalar) → IsSize n → IsSize m → ◌≡◌ {A = Result Scalar Refusal} (Ok (integer_type signed (max n m))) (Ok s) → Fits signed n s × Fits signed m s
alike signed n m s is is' found =
    let k = max n m in let fits = in_type signed k (max_size n m is is') in
    subst (λ t. Fits signed n t × Fits signed m t) (same_answer (integer_type signed k) s found)
    (λ z fits_n. fits z (wider signed n k (some_size n is) (omega arith) z fits_n), λ z fits_m. fits z (wider signed m k (some_size m is') (omega arith) z fits_m))

mixed : (n m : ℕ) (s : Scalar) → IsSize n → IsSize m → mixed_type n m ≡ Ok s → Fits false n s × Fits true m s
mixed n m s is is' found =
    let k = max (2 * n) m in
    let few : 2 * n ≤ 8 = leb-true (2 * n) 8 (check_test (nat_le (2 * n) 8) NeedsFloats (Ok (integer_type true k)) s found) in
    let fits = in_type true k (max_size (2 * n) m (twice_size n is few) is') in
    subst (λ t. Fits false n t × Fits true m t) (same_answer (integer_type true k) s (check_passed (nat_le (2 * n) 8) NeedsFloats (Ok (integer_type true k)) s found))
    (λ z fits_n. fits z (with_sign n k (some_size n is) (omega arith) z fits_n), λ z fits_m. fits z (wider true m k (some_size m is') (omega arith) z fits_m))

by_signs : (a b : Bool) (n m : ℕ) (s : Scalar) → IsSize n → IsSize m
    → cond a (cond b (Ok (integer_type true (max n m))) (mixed_type m n)) (cond b (mixed_type n m) (Ok (integer_type false (max n m)))) ≡ Ok s → Fits a n s × Fits b m s
by_signs true true n m s is is' found = alike true n m s is is' found
by_signs false false n m s is is' found = alike false n m s is is' found
by_signs false true n m s is is' found = mixed n m s is is' found
by_signs true false n m s is is' found = let both = mixed m n s is' is found in (both.1, both.0)

-- ---- two types of numbers

size_is : (s : Scalar) → IsNumber s → IsSize (size s)
size_is BoolScalar is = inl refl
size_is (Byte signed) is = inl refl
size_is (Int signed Two order) is = inr (inl refl)
size_is (Int signed Four order) is = inr (inr (inl refl))
size_is (Int signed Eight order) is = inr (inr (inr refl))
size_is (Bytes n) never = absurd never

holds-little : (s : Scalar) → Holds s (little s)
holds-little BoolScalar z is = is
holds-little (Byte signed) z is = is
holds-little (Int signed width order) z is = is
holds-little (Bytes n) z is = is

bit-fits : (signed : Bool) (z : ℤ) → IsValueOf BoolScalar z → FitsBytes signed 1 z
bit-fits false z (inl is) = (omega (arith, ints, is), omega (arith, ints, is))
bit-fits false z (inr is) = (omega (arith, ints, is), omega (arith, ints, is))
bit-fits true z (inl is) = (omega (arith, ints, is), omega (arith, ints, is))
bit-fits true z (inr is) = (omega (arith, ints, is), omega (arith, ints, is))

holds-bool : (s : Scalar) → IsNumber s → Holds BoolScalar (little s)
holds-bool BoolScalar is z bit = bit
holds-bool (Byte signed) is z bit = bit-fits signed z bit
holds-bool (Int signed width order) is z bit = wider signed 1 _ (omega arith) (some_size _ (size_is (Int signed width order) tt)) z (bit-fits signed z bit)
holds-bool (Bytes n) never z bit = absurd never

integers-held : (l r s : Scalar) → IsNumber l → IsNumber r → common_integers l r ≡ Ok s → Fits (is_signed l) (size l) s × Fits (is_signed r) (size r) s
integers-held l r s is is' found = by_signs (is_signed l) (is_signed r) (size l) (size r) s (size_is l is) (size_is r is') found

pub common-held : (l r s : Scalar) → IsNumber l → IsNumber r → common_type l r ≡ Ok s → Holds l s × Holds r s
common-held BoolScalar r s is is' found = subst (λ t. Holds BoolScalar t × Holds r t) (same_answer (little r) s found) (holds-bool r is', holds-little r)
common-held (Byte a) BoolScalar s is is' found = subst (λ t. Holds (Byte a) t × Holds BoolScalar t) (same_answer (Byte a) s found) (holds-little (Byte a), holds-bool (Byte a) is)
common-held (Int a w o) BoolScalar s is is' found = subst (λ t. Holds (Int a w o) t × Holds BoolScalar t) (same_answer (little (Int a w o)) s found) (holds-little (Int a w o), holds-bool (Int a w o) is)
common-held (Byte a) (Byte b) s is is' found = integers-held (Byte a) (Byte b) s is is' found
common-held (Byte a) (Int b w o) s is is' found = integers-held (Byte a) (Int b w o) s is is' found
common-held (Int a w o) (Byte b) s is is' found = integers-held (Int a w o) (Byte b) s is is' found
common-held (Int a w o) (Int b w' o') s is is' found = integers-held (Int a w o) (Int b w' o') s is is' found
common-held (Bytes n) r s never is' found = absurd never
common-held (Byte a) (Bytes n) s is never found = absurd never
common-held (Int a w o) (Bytes n) s is never found = absurd never

-- two integer types have no common type only if exactly one of them is signed
signs_differ : (a b : Bool) (n m : ℕ) (e : Refusal) → cond a (cond b (Ok (integer_type true (max n m))) (mixed_type m n)) (cond b (mixed_type n m) (Ok (integer_type false (max n m)))) ≡ Err e → not a ≡ b
signs_differ true false n m e found = refl
signs_differ false true n m e found = refl
signs_differ true true n m e found = absurd (false≢true (sym (ap is_ok found)))
signs_differ false false n m e found = absurd (false≢true (sym (ap is_ok found)))

pub common-signs : (l r : Scalar) (e : Refusal) → IsNumber l → IsNumber r → common_type l r ≡ Err e → not (is_signed l) ≡ is_signed r
common-signs BoolScalar r e is is' found = absurd (false≢true (sym (ap is_ok found)))
common-signs (Byte a) BoolScalar e is is' found = absurd (false≢true (sym (ap is_ok found)))
common-signs (Int a w o) BoolScalar e is is' found = absurd (false≢true (sym (ap is_ok found)))
common-signs (Byte a) (Byte b) e is is' found = signs_differ a b 1 1 e found
common-signs (Byte a) (Int b w o) e is is' found = signs_differ a b 1 (width_size w) e found
common-signs (Int a w o) (Byte b) e is is' found = signs_differ a b (width_size w) 1 e found
common-signs (Int a w o) (Int b w' o') e is is' found = signs_differ a b (width_size w) (width_size w') e found
common-signs (Bytes n) r e never is' found = absurd never
common-signs (Byte a) (Bytes n) e is never found = absurd never
common-signs (Int a w o) (Bytes n) e is never found = absurd never
