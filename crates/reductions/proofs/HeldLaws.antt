-- The state of each line.
use Rattle.std.proofs.Common.{◌≡◌, ◌+◌, ◌<◌, ◌≤◌, ℕ, List, [], ◌∷◌, ◌++◌, length, get_or, set, inl, inr, sym, ap, subst, ◌∙◌, arith, get_or-append-add}
use Rattle.reductions.proofs.Words.{cases_lt, get_or_append_left, get_or-set_same, get_or-set_other, EachOf, EachPair}

-- one more value is appended
pub each_more : {X : Type 0} (P : ℕ → X → Type 0) (n : ℕ) (xs : List X) (x : X) → length xs ≡ n → EachOf n xs P → P n x → EachOf (n + 1) (xs ++ x ∷ []) P
each_more {X} P n xs x long so_far here j d low = elim (cases_lt j n) as (λ _. P j (get_or (xs ++ x ∷ []) j d)) [
  | inl early ↦ subst (P j) (sym (get_or_append_left xs (x ∷ []) d j (omega (arith, early, long)))) (so_far j d early)
  | inr late ↦
      let last : length xs + 0 ≡ n = omega (arith, long) in
      let is : n ≡ j = omega (arith, low, late) in
      subst (λ k. P k (get_or (xs ++ x ∷ []) k d)) is (subst (P n) (sym (ap (λ k. get_or (xs ++ x ∷ []) k d) (sym last) ∙ get_or-append-add xs (x ∷ []) 0 d)) here)
]

-- one value is replaced
pub pair_set : {X : Type 0} (P : ℕ → X → X → Type 0) (n : ℕ) (old now : List X) (y : X) → n < length now → EachPair n old now P → ((d : X) → P n (get_or old n d) y) → EachPair (n + 1) old (set now n y) P
pair_set {X} P n old now y low so_far here j d low' = elim (cases_lt j n) as (λ _. P j (get_or old j d) (get_or (set now n y) j d)) [
  | inl early ↦ subst (P j (get_or old j d)) (sym (get_or-set_other now n j y d (λ same. omega (arith, same, early)))) (so_far j d early)
  | inr late ↦
      let is : n ≡ j = omega (arith, low', late) in
      subst (λ k. P k (get_or old k d) (get_or (set now n y) k d)) is (subst (P n (get_or old n d)) (sym (get_or-set_same now n y d low)) (here d))
]

pub later_set : {X : Type 0} (n m : ℕ) (old now : List X) (y : X) → EachPair m now old (λ i x z. n ≤ i → x ≡ z) → EachPair m (set now n y) old (λ i x z. n + 1 ≤ i → x ≡ z)
later_set {X} n m old now y later j d low high = get_or-set_other now n j y d (λ same. omega (arith, same, high)) ∙ later j d low (omega (arith, high))
