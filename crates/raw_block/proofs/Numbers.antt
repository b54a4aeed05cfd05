-- Numbers as bytes, lowest byte first.
use Rattle.std.proofs.Common.{◌≡◌, ℕ, zero, suc, ◌+◌, ◌*◌, ◌^◌, ◌<◌, ◌≤◌, List, ◌∷◌, take, get_or, refl, ap, arith, lit<}
use Rattle.raw_block.proofs.Words.{pow-suc, pow-le-pow_right, bytes_low_first, little_from}

-- one byte is added below a number of n bytes
pub little_step : (item : List ℕ) (number i n : ℕ) → number ≡ little_from (suc i) n item → number * 256 + get_or item i 0 ≡ little_from i (suc n) item
little_step item number i n e = omega (arith, e)

pub small_step : (number byte n : ℕ) → number < 256 ^ n → byte < 256 → number * 256 + byte < 256 ^ suc n
small_step number byte n lt small = omega (arith, pow-suc 256 n)

-- a number of at most seven bytes leaves room for another byte in a word
pub fits_word : (number n : ℕ) → number < 256 ^ n → n ≤ 7 → number < 2 ^ 56
fits_word number n lt le = let most : 256 ^ n ≤ 256 ^ 7 = pow-le-pow_right (lit< tt) le in omega arith

pub take-bytes_low_first : (i k n x : ℕ) → k ≤ n → take k (bytes_low_first i n x) ≡ bytes_low_first i k x
take-bytes_low_first i zero n x le = refl
take-bytes_low_first i (suc k) zero x le = absurd (omega arith)
take-bytes_low_first i (suc k) (suc n) x le = ap (λ l. get_or (bytes_low_first i 1 x) 0 0 ∷ l) (take-bytes_low_first (suc i) k n x (omega arith))
