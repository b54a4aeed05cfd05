-- Laws of products and of the number of items.
use Rattle.std.specs.Prelude.{◌≡◌, ℕ, ◌<◌, ◌≤◌, List, length, ◌+◌, ◌*◌, ◌/◌}
use Rattle.std.proofs.Common.{arith, zero, suc, get_or, sym, ◌∙◌, ap, zero-mul, mul-zero, min, drop, inl, inr, mul-suc, mul-le-mul_left}
use Rattle.shape_strides.specs.Words.{min-eq_left, min-eq_right, div-add-mod, cases_lt, drop_more, ◌∣◌, mod-eq-zero_of_dvd}
use Rattle.shape_strides.specs.Indexes.{count}

-- If a product is above a number, its second factor is not 0.
pub pos_of_factor : (n c k : ℕ) → k < n * c → 0 < c
pos_of_factor n zero k below = absurd (omega (arith, mul-zero n))
pos_of_factor n (suc c) k below = omega arith

-- Both factors of a product that is not 0 are not 0.
pub factors_pos : (n c : ℕ) → 0 < n * c → (0 < n) × (0 < c)
factors_pos zero c some = absurd (omega (arith, zero-mul c))
factors_pos (suc n) zero some = absurd (omega (arith, mul-zero (suc n)))
factors_pos (suc n) (suc c) some = (omega arith, omega arith)

-- If j is below n, j steps of `a` and one more are at most n steps.
pub mul-step : (a j n : ℕ) → j < n → a * j + a ≤ a * n
mul-step a j n below = omega (arith, mul-le-mul_left a below, mul-suc a j)

-- Capping a factor does not change the capped product.
pub min-mul : (a c top : ℕ) → min (min a top * c) top ≡ min (a * c) top
min-mul a zero top = ap (λ x. min x top) (mul-zero (min a top) ∙ sym (mul-zero a))
min-mul a (suc c) top =
    elim (cases_lt a top) [
      | inl below ↦ ap (λ x. min (x * suc c) top) (min-eq_left (omega arith))
      | inr above ↦
          let grown : top ≤ a * suc c = omega (arith, mul-suc a c) in
          let grown' : top ≤ top * suc c = omega (arith, mul-suc top c) in
          ap (λ x. min (x * suc c) top) (min-eq_right above) ∙ min-eq_right grown' ∙ sym (min-eq_right grown)
    ]

-- The number of items of the axes from k on is the length of axis k times the number for the axes after it.
pub count-drop : (shape : List ℕ) (k : ℕ) → k < length shape → count (drop k shape) ≡ get_or shape k 0 * count (drop (k + 1) shape)
count-drop shape k below = ap count (drop_more shape k 0 below)

pub times_of : (g n : ℕ) → g ∣ n → n ≡ g * (n / g)
times_of g n divides = omega (arith, div-add-mod n g, mod-eq-zero_of_dvd g divides)
