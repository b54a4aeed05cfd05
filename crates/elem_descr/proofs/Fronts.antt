-- The longest prefix of a list whose elements pass a test.
use Rattle.std.proofs.Common.{◌≡◌, ◌+◌, ℕ, zero, suc, Bool, true, false, List, [], ◌∷◌, take, cond, refl, IsTrue, arith}
use Rattle.elem_descr.proofs.Words.{list_all, prefix_len, nat_tests, is_empty}

pub one_more : (n : ℕ) → 1 + n ≡ suc n
one_more n = omega arith

pub front_passes : {X : Type 0} (p : X → Bool) (xs : List X) → IsTrue (list_all p (take (prefix_len p xs) xs))
front_passes p [] = refl
front_passes p (x ∷ xs) =
    elim (p x) as (λ t. p x ≡ t → list_all p (take (cond t (1 + prefix_len p xs) zero) (x ∷ xs)) ≡ true) [
      | true ↦ λ e. rw (one_more (prefix_len p xs), e) (front_passes p xs)
      | false ↦ λ _. refl
    ] refl

pub some_left : (b : ℕ) (rest : List ℕ) → is_empty (b ∷ rest) ≡ false
some_left b rest = grind (arith, nat_tests)
