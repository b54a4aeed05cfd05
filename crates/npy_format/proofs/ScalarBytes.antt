-- The bytes of a scalar, read and written back.
use Rattle.std.proofs.Common.{◌≡◌, ℕ, zero, suc, ◌+◌, ◌-◌, ◌*◌, ◌/◌, ◌^◌, ◌<◌, List, [], ◌∷◌, ◌++◌, length, replicate, refl, sym, ap, ◌∙◌, arith, length-take, nat_eq}
use Rattle.npy_format.proofs.Words.{byte_at, bytes_low_first, bytes_high_first, mod-lt, div-mul-add, append-nil, take_all, suffix_len-le-length, little_from, big_from, little_number, big_number, little_bytes, big_bytes, little_from-cons, big_from-cons, little_from-lt, big_from-lt, length-bytes_low_first, length-bytes_high_first, little_number-reads_back, big_number-reads_back, Order, Little, Big, Scalar, Byte, Int, Bytes, size, decode, encode, number_in, bytes_of, truth, width_size, without_nuls, padded, low_bits-integer, without_nuls-back, nuls, AreBytes, number-lt, truth-twice, BoolScalar, limit}

-- ---- numbers

byte_at-lt : (k n : ℕ) → byte_at k n < 256
byte_at-lt zero n = mod-lt n (omega arith)
byte_at-lt (suc k) n = mod-lt (n / 256 ^ suc k) (omega arith)

low_are : (i n x : ℕ) → AreBytes (bytes_low_first i n x)
low_are i zero x k = omega arith
low_are i (suc n) x zero = byte_at-lt i x
low_are i (suc n) x (suc k) = low_are (suc i) n x k

high_are : (n x : ℕ) → AreBytes (bytes_high_first n x)
high_are zero x k = omega arith
high_are (suc n) x zero = byte_at-lt n x
high_are (suc n) x (suc k) = high_are n x k

-- Bytes that mean the same number are the same.
same_low : (n : ℕ) (xs ys : List ℕ) → length xs ≡ n → length ys ≡ n → AreBytes xs → AreBytes ys → little_from 0 n xs ≡ little_from 0 n ys → xs ≡ ys
same_low n [] [] long long' are are' e = refl
same_low (suc n) (x ∷ xs) (y ∷ ys) long long' are are' e =
    let low : x < 256 = are 0 in
    let low' : y < 256 = are' 0 in
    let sum : x + 256 * little_from 1 n (x ∷ xs) ≡ y + 256 * little_from 1 n (y ∷ ys) = e in
    let head : x ≡ y = omega (arith, sum, low, low') in
    let rest : little_from 1 n (x ∷ xs) ≡ little_from 1 n (y ∷ ys) = omega (arith, sum, low, low') in
    λ i. head i ∷ same_low n xs ys (omega (arith, long)) (omega (arith, long')) (λ k. are (suc k)) (λ k. are' (suc k)) (sym (little_from-cons 0 n x xs) ∙ rest ∙ little_from-cons 0 n y ys) i
same_low _ _ _ long long' are are' e = absurd (omega (arith, long, long'))

same_high : (n : ℕ) (xs ys : List ℕ) → length xs ≡ n → length ys ≡ n → AreBytes xs → AreBytes ys → big_from 0 n xs ≡ big_from 0 n ys → xs ≡ ys
same_high n [] [] long long' are are' e = refl
same_high (suc n) (x ∷ xs) (y ∷ ys) long long' are are' e =
    let below = big_from-lt 1 n (x ∷ xs) are in
    let below' = big_from-lt 1 n (y ∷ ys) are' in
    let sum : x * 256 ^ n + big_from 1 n (x ∷ xs) ≡ y * 256 ^ n + big_from 1 n (y ∷ ys) = e in
    let head : x ≡ y = sym (div-mul-add x (256 ^ n) (big_from 1 n (x ∷ xs)) below) ∙ ap (λ m. m / 256 ^ n) sum ∙ div-mul-add y (256 ^ n) (big_from 1 n (y ∷ ys)) below' in
    let rest : big_from 1 n (x ∷ xs) ≡ big_from 1 n (y ∷ ys) = omega (arith, sum, ap (λ m. m * 256 ^ n) head) in
    λ i. head i ∷ same_high n xs ys (omega (arith, long)) (omega (arith, long')) (λ k. are (suc k)) (λ k. are' (suc k)) (sym (big_from-cons 0 n x xs) ∙ rest ∙ big_from-cons 0 n y ys) i
same_high _ _ _ long long' are are' e = absurd (omega (arith, long, long'))

again : (order : Order) (n : ℕ) (bytes : List ℕ) → length bytes ≡ n → AreBytes bytes → bytes_of order n (number_in order n bytes) ≡ bytes
again Little n bytes long are =
    let x = little_number n bytes in
    same_low n (little_bytes n x) bytes (length-bytes_low_first 0 n x) long (low_are 0 n x) are
    (ap (little_number n) (sym (append-nil (little_bytes n x))) ∙ little_number-reads_back n x [] (little_from-lt 0 n bytes are))
again Big n bytes long are =
    let x = big_number n bytes in
    same_high n (big_bytes n x) bytes (length-bytes_high_first n x) long (high_are n x) are
    (ap (big_number n) (sym (append-nil (big_bytes n x))) ∙ big_number-reads_back n x [] (big_from-lt 0 n bytes are))

-- ---- byte strings

-- Padding a byte string without its NULs gives the byte string back.
text_again : (n : ℕ) (bytes : List ℕ) → length bytes ≡ n → padded n (without_nuls bytes) ≡ bytes
text_again n bytes long =
    let few = suffix_len-le-length (λ b. nat_eq b 0) bytes in
    let kept : length (without_nuls bytes) ≡ length bytes - nuls bytes = omega (arith, few, length-take (length bytes - nuls bytes) bytes) in
    let left : n - length (without_nuls bytes) ≡ nuls bytes = omega (arith, few, kept, long) in
    (λ i. take_all n (without_nuls bytes) (omega (arith, kept, long)) i ++ replicate (left i) 0)
    ∙ without_nuls-back bytes

-- ---- scalars

pub scalar_again : (scalar : Scalar) (bytes : List ℕ) → limit scalar ≡ 255 → length bytes ≡ size scalar → AreBytes bytes → encode scalar (decode scalar bytes) ≡ bytes
scalar_again BoolScalar bytes other long are = absurd (omega (arith, other))
scalar_again (Byte signed) bytes other long are = ap (little_bytes 1) (low_bits-integer signed 1 (little_number 1 bytes) (number-lt Little 1 bytes are)) ∙ again Little 1 bytes long are
scalar_again (Int signed width order) bytes other long are =
    let n = width_size width in
    ap (bytes_of order n) (low_bits-integer signed n (number_in order n bytes) (number-lt order n bytes are)) ∙ again order n bytes long are
scalar_again (Bytes n) bytes other long are = text_again n bytes long

-- the byte of a bool
pub bool_again : (b : ℕ) → encode BoolScalar (decode BoolScalar (b ∷ [])) ≡ truth b ∷ []
bool_again b = let same : b + 256 * 0 ≡ b = omega arith in ap (λ n. truth (truth n) ∷ []) same ∙ ap (λ n. n ∷ []) (truth-twice b)
