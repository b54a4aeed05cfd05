-- Items that are written at different places: the order does not matter.
use Rattle.std.proofs.Common.{◌≡◌, ◌≢◌, ◌<◌, ◌⊎◌, inl, inr, ℕ, zero, suc, List, [], ◌∷◌, length, get_or, set, refl, sym, ap, subst, ◌∙◌, arith, length-set, get_or-set_same, get_or-set_other}
use Rattle.bench_engine.proofs.Words.{zip, IsPermutation, cases_eq, ext_get_or, get_or_default, Contains-get_or, IsPermutation-sym, Contains-permutation, unwrap_or-slice_get, get_or-zip, length-zip, IsNested, nested-reordered, write, placed_item, with_part}
use Rattle.bench_engine.proofs.Reordered.{Item}

-- the item at place `j` is not written
abbrev IsNone : List ℕ → ℕ → Type 0
IsNone places j = (k : ℕ) → k < length places → get_or places k 0 ≢ j

sought : (places : List ℕ) (j : ℕ) → ((k : ℕ) × (k < length places) × (get_or places k 0 ≡ j)) ⊎ IsNone places j
sought [] j = inr (λ k below. absurd (omega (arith, below)))
sought (place ∷ places) j =
    elim (cases_eq place j) [
      | inl here ↦ inl (0, omega arith, here)
      | inr off ↦ elim (sought places j) [
        | inl there ↦ inl (suc there.0, omega (arith, there.1), there.2)
        | inr none ↦ inr (others off none)
      ]
    ]
  where
    others : place ≢ j → IsNone places j → IsNone (place ∷ places) j
    others off none zero below = off
    others off none (suc k) below = none k (omega (arith, below))

abbrev AreApart : List ℕ → Type 0
AreApart places = (j k : ℕ) → j < k → k < length places → get_or places j 0 ≢ get_or places k 0

module _ (span : ℕ × ℕ) where
  length-write : (places : List ℕ) (new items : List Item) → length (write span places new items) ≡ length items
  length-write [] new items = refl
  length-write (place ∷ places) [] items = refl
  length-write (place ∷ places) (part ∷ new) items = length-write places new _ ∙ length-set items place _

  missed : (places : List ℕ) (new items : List Item) (j : ℕ) → IsNone places j → get_or (write span places new items) j [] ≡ get_or items j []
  missed [] new items j off = refl
  missed (place ∷ places) [] items j off = refl
  missed (place ∷ places) (part ∷ new) items j off =
      missed places new (set items place (with_part span part (placed_item items place))) j (λ k below. off (suc k) (omega (arith, below)))
      ∙ get_or-set_other items place j (with_part span part (placed_item items place)) [] (λ e. off 0 (omega arith) (sym e))

  -- the k-th place gets the k-th item
  hit : (places : List ℕ) (new items : List Item) (k : ℕ) → AreApart places → length new ≡ length places → k < length places → get_or places k 0 < length items →
      get_or (write span places new items) (get_or places k 0) [] ≡ with_part span (get_or new k []) (get_or items (get_or places k 0) [])
  hit [] new items k apart long below inside = absurd (omega (arith, below))
  hit (place ∷ places) [] items k apart long below inside = absurd (omega (arith, long))
  hit (place ∷ places) (part ∷ new) items zero apart long below inside =
      missed places new (set items place (with_part span part (placed_item items place))) place (λ k low is. apart 0 (suc k) (omega arith) (omega (arith, low)) (sym is))
      ∙ get_or-set_same items place (with_part span part (placed_item items place)) [] inside
      ∙ ap (with_part span part) (unwrap_or-slice_get items place [])
  hit (place ∷ places) (part ∷ new) items (suc k) apart long below inside =
      let at = get_or places k 0 in
      let first = with_part span part (placed_item items place) in
      hit places new (set items place first) k (λ i j before low. apart (suc i) (suc j) (omega (arith, before)) (omega (arith, low))) (omega (arith, long)) (omega (arith, below)) (omega (arith, inside, length-set items place first))
      ∙ ap (with_part span (get_or new k [])) (get_or-set_other items place at first [] (λ e. apart 0 (suc k) (omega arith) (omega (arith, below)) (sym e)))

  pub write-reordered : (places places' : List ℕ) (new new' items : List Item) → length new ≡ length places → length new' ≡ length places' → IsNested places 1 → IsPermutation places places' → IsPermutation (zip places new) (zip places' new') →
      write span places' new' items ≡ write span places new items
  write-reordered places places' new new' items long long' nested moved same =
      ext_get_or [] (write span places' new' items) (write span places new items) (length-write places' new' items ∙ sym (length-write places new items)) (λ j below.
      elim (sought places j) [
        | inl at ↦ subst (λ i. get_or (write span places' new' items) i [] ≡ get_or (write span places new items) i []) at.2 (both at.0 at.1 (omega (arith, below, length-write places' new' items, at.2)))
        | inr none ↦ missed places' new' items j (still none) ∙ sym (missed places new items j none)
      ])
    where
      apart : (all : List ℕ) → IsNested all 1 → AreApart all
      apart all far j k before below is = let one = far.apart j k before below in absurd (omega (arith, one, is))

      still : {j : ℕ} → IsNone places j → IsNone places' j
      still {j} none k below is =
          let there = Contains-permutation places' places (get_or places' k 0) (IsPermutation-sym places places' moved) (Contains-get_or places' k 0 below) in
          none there.0 there.1 (get_or_default places there.0 0 _ there.1 ∙ there.2 ∙ is)

      paired : (k m : ℕ) → k < length places → m < length (zip places' new') → get_or (zip places' new') m (0, []) ≡ get_or (zip places new) k (0, []) → get_or places k 0 < length items →
          get_or (write span places' new' items) (get_or places k 0) [] ≡ get_or (write span places new items) (get_or places k 0) []
      paired k m below in-zip is inside =
          let low : m < length places' = omega (arith, in-zip, length-zip places' new', long') in
          let pair : ◌≡◌ {A = ℕ × Item} (get_or places' m 0, get_or new' m []) (get_or places k 0, get_or new k []) =
          sym (get_or-zip places' new' m (0, []) low (omega (arith, low, long'))) ∙ is ∙ get_or-zip places new k (0, []) below (omega (arith, below, long)) in
          let place : get_or places' m 0 ≡ get_or places k 0 = ap (λ (p : ℕ × Item). p.0) pair in
          ap (λ i. get_or (write span places' new' items) i []) (sym place)
          ∙ hit places' new' items m (apart places' (nested-reordered 1 places places' moved nested)) long' low (omega (arith, place, inside))
          ∙ (λ i. with_part span (pair i).1 (get_or items (pair i).0 []))
          ∙ sym (hit places new items k (apart places nested) long below inside)

      both : (k : ℕ) → k < length places → get_or places k 0 < length items → get_or (write span places' new' items) (get_or places k 0) [] ≡ get_or (write span places new items) (get_or places k 0) []
      both k below inside =
          let there = Contains-permutation (zip places new) (zip places' new') (get_or (zip places new) k (0, [])) same (Contains-get_or (zip places new) k (0, []) (omega (arith, length-zip places new, below, long))) in
          paired k there.0 below there.1 (get_or_default (zip places' new') there.0 (0, []) _ there.1 ∙ there.2) inside
