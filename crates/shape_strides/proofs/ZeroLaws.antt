-- Laws of overwritten lists and of strides of 0.
use Rattle.std.proofs.Common.{◌≡◌, ℕ, ℤ, pos, List, [], ◌∷◌, map, length, refl, sym, ap, ◌∙◌, arith}
use Rattle.shape_strides.proofs.Words.{refill, take-append_seam}

-- A list overwritten with the same number of new entries is the new entries.
pub refilled : {X : Type 0} (n : ℕ) (old new : List X) → length new ≡ n → refill n old new ≡ new
refilled n old new is = ap (λ m. refill m old new) (sym is) ∙ take-append_seam new _

pub zeros_for : {X Y : Type 0} (xs : List X) (ys : List Y) → length xs ≡ length ys → ◌≡◌ {A = List ℤ} (map (λ _. pos 0) xs) (map (λ _. pos 0) ys)
zeros_for [] [] same = refl
zeros_for (x ∷ xs) (y ∷ ys) same = ap (λ zeros. pos 0 ∷ zeros) (zeros_for xs ys (omega arith))
zeros_for _ _ same = absurd (omega arith)
