-- What `exchanged` gives for two disjoint items: it swaps them, and leaves all other bytes unchanged.
use Rattle.std.specs.Prelude.{◌≡◌, ◌≢◌, ℕ, ◌+◌, ◌<◌, ◌≤◌, ◌⊎◌, List, length, drop, swap}
use Rattle.std.proofs.Common.{zero, suc, inl, inr, get_or, set, refl, sym, ap, ◌∙◌, arith, length-set, get_or-set_same, get_or-set_other}
use Rattle.raw_block.specs.Words.{ext_get_or, get_or-take, get_or-drop, swap_is, length-swap}
use Rattle.raw_block.specs.Bytes.{item_at, exchanged}
use Rattle.raw_block.specs.BytesLaws.{length-item_at}

module _ (xs : List ℕ) (i j : ℕ) (in_i : i < length xs) (in_j : j < length xs) where
  second : get_or (swap xs i j) j 0 ≡ get_or xs i 0
  second = ap (λ l. get_or l j 0) (sym (swap_is xs i j 0 in_i in_j)) ∙ get_or-set_same (set xs i (get_or xs j 0)) j (get_or xs i 0) 0 (omega (arith, length-set xs i (get_or xs j 0)))

  first : i ≢ j → get_or (swap xs i j) i 0 ≡ get_or xs j 0
  first ne = ap (λ l. get_or l i 0) (sym (swap_is xs i j 0 in_i in_j)) ∙ get_or-set_other (set xs i (get_or xs j 0)) j i (get_or xs i 0) 0 ne ∙ get_or-set_same xs i (get_or xs j 0) 0 in_i

  neither : (k : ℕ) → k ≢ i → k ≢ j → get_or (swap xs i j) k 0 ≡ get_or xs k 0
  neither k off_i off_j = ap (λ l. get_or l k 0) (sym (swap_is xs i j 0 in_i in_j)) ∙ get_or-set_other (set xs i (get_or xs j 0)) j k (get_or xs i 0) 0 off_j ∙ get_or-set_other xs i k (get_or xs j 0) 0 off_i

pub last_or_before : (i n : ℕ) → i < suc n → (i < n) ⊎ (i ≡ n)
last_or_before i zero lt = inr (omega arith)
last_or_before zero (suc n) lt = inl (omega arith)
last_or_before (suc i) (suc n) lt = elim (last_or_before i n (omega arith)) [ inl before ↦ inl (omega arith) | inr last ↦ inr (ap suc last) ]

pub length-exchanged : (a b width : ℕ) (bytes : List ℕ) → length (exchanged a b width bytes) ≡ length bytes
length-exchanged a b zero bytes = refl
length-exchanged a b (suc width) bytes = length-swap (exchanged a b width bytes) (a + width) (b + width) ∙ length-exchanged a b width bytes

module _ (a b : ℕ) (bytes : List ℕ) where
  -- a byte outside both items is unchanged
  pub exchanged-outside : (width k : ℕ) → a + width ≤ length bytes → b + width ≤ length bytes → (k < a) ⊎ (a + width ≤ k) → (k < b) ⊎ (b + width ≤ k) → get_or (exchanged a b width bytes) k 0 ≡ get_or bytes k 0
  exchanged-outside zero k in_a in_b off_a off_b = refl
  exchanged-outside (suc width) k in_a in_b off_a off_b =
      let now = exchanged a b width bytes in let long : length now ≡ length bytes = length-exchanged a b width bytes in
      let not_a : k ≢ a + width = λ e. elim off_a [ inl h ↦ omega arith | inr h ↦ omega arith ] in let not_b : k ≢ b + width = λ e. elim off_b [ inl h ↦ omega arith | inr h ↦ omega arith ] in
      neither now (a + width) (b + width) (omega arith) (omega arith) k not_a not_b
      ∙ exchanged-outside width k (omega arith) (omega arith) (elim off_a [ inl h ↦ inl h | inr h ↦ inr (omega arith) ]) (elim off_b [ inl h ↦ inl h | inr h ↦ inr (omega arith) ])

  pub exchanged-first : (width i : ℕ) → a + width ≤ length bytes → b + width ≤ length bytes → (a + width ≤ b) ⊎ (b + width ≤ a) → i < width → get_or (exchanged a b width bytes) (a + i) 0 ≡ get_or bytes (b + i) 0
  exchanged-first zero i in_a in_b apart lt = absurd (omega arith)
  exchanged-first (suc width) i in_a in_b apart lt =
      let now = exchanged a b width bytes in let long : length now ≡ length bytes = length-exchanged a b width bytes in let p = a + width in let q = b + width in
      let differ : p ≢ q = λ e. elim apart [ inl h ↦ omega arith | inr h ↦ omega arith ] in
      let less : (a + width ≤ b) ⊎ (b + width ≤ a) = elim apart [ inl h ↦ inl (omega arith) | inr h ↦ inr (omega arith) ] in
      elim (last_or_before i width lt) [
        | inl before ↦
            let off_p : a + i ≢ p = λ e. omega arith in let off_q : a + i ≢ q = λ e. elim apart [ inl h ↦ omega arith | inr h ↦ omega arith ] in
            neither now p q (omega arith) (omega arith) (a + i) off_p off_q ∙ exchanged-first width i (omega arith) (omega arith) less before
        | inr last ↦
            let outside : (q < a) ⊎ (a + width ≤ q) = elim apart [ inl h ↦ inr (omega arith) | inr h ↦ inl (omega arith) ] in
            ap (λ k. get_or (swap now p q) (a + k) 0) last ∙ first now p q (omega arith) (omega arith) differ
            ∙ exchanged-outside width q (omega arith) (omega arith) outside (inr (omega arith)) ∙ ap (λ k. get_or bytes (b + k) 0) (sym last)
      ]

  pub exchanged-second : (width i : ℕ) → a + width ≤ length bytes → b + width ≤ length bytes → (a + width ≤ b) ⊎ (b + width ≤ a) → i < width → get_or (exchanged a b width bytes) (b + i) 0 ≡ get_or bytes (a + i) 0
  exchanged-second zero i in_a in_b apart lt = absurd (omega arith)
  exchanged-second (suc width) i in_a in_b apart lt =
      let now = exchanged a b width bytes in let long : length now ≡ length bytes = length-exchanged a b width bytes in let p = a + width in let q = b + width in
      let less : (a + width ≤ b) ⊎ (b + width ≤ a) = elim apart [ inl h ↦ inl (omega arith) | inr h ↦ inr (omega arith) ] in
      elim (last_or_before i width lt) [
        | inl before ↦
            let off_q : b + i ≢ q = λ e. omega arith in let off_p : b + i ≢ p = λ e. elim apart [ inl h ↦ omega arith | inr h ↦ omega arith ] in
            neither now p q (omega arith) (omega arith) (b + i) off_p off_q ∙ exchanged-second width i (omega arith) (omega arith) less before
        | inr last ↦
            let outside : (p < b) ⊎ (b + width ≤ p) = elim apart [ inl h ↦ inl (omega arith) | inr h ↦ inr (omega arith) ] in
            ap (λ k. get_or (swap now p q) (b + k) 0) last ∙ second now p q (omega arith) (omega arith)
            ∙ exchanged-outside width p (omega arith) (omega arith) (inr (omega arith)) outside ∙ ap (λ k. get_or bytes (a + k) 0) (sym last)
      ]

  -- the two items are swapped
  pub exchanged-items : (width : ℕ) → a + width ≤ length bytes → b + width ≤ length bytes → (a + width ≤ b) ⊎ (b + width ≤ a)
      → (item_at a width (exchanged a b width bytes) ≡ item_at b width bytes) × (item_at b width (exchanged a b width bytes) ≡ item_at a width bytes)
  exchanged-items width in_a in_b apart =
      let new = exchanged a b width bytes in let long : length new ≡ length bytes = length-exchanged a b width bytes in
      let read : (l : List ℕ) (at i : ℕ) → i < width → get_or (item_at at width l) i 0 ≡ get_or l (at + i) 0 = λ l at i lt. get_or-take width (drop at l) i 0 lt ∙ get_or-drop at l i 0 in
      let counted : (l : List ℕ) (at : ℕ) → at + width ≤ length l → length (item_at at width l) ≡ width = λ l at le. length-item_at at width l le in
      let new_a = counted new a (omega arith) in let new_b = counted new b (omega arith) in (
        ext_get_or 0 (item_at a width new) (item_at b width bytes) (new_a ∙ sym (counted bytes b in_b)) (λ i lt. let inside : i < width = omega arith in read new a i inside ∙ exchanged-first width i in_a in_b apart inside ∙ sym (read bytes b i inside)),
        ext_get_or 0 (item_at b width new) (item_at a width bytes) (new_b ∙ sym (counted bytes a in_a)) (λ i lt. let inside : i < width = omega arith in read new b i inside ∙ exchanged-second width i in_a in_b apart inside ∙ sym (read bytes a i inside)),
      )
