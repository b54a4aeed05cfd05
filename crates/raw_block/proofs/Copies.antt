-- Copies to items that do not overlap: each item then equals its source, and all other bytes are unchanged.
use Rattle.std.proofs.Common.{◌≡◌, ℕ, zero, suc, ◌+◌, ◌<◌, ◌≤◌, ◌⊎◌, inl, inr, List, length, refl, sym, ap, ◌∙◌, arith, ℤ}
use Rattle.raw_block.proofs.Words.{place, item_at, copied, EachWithin, last_or_before, item_at-put_same, item_at-put_apart, length-item_at, length-put, place_within, fewer}

pub length-copied : (dst : ℕ) (dst_step : ℤ) (other : List ℕ) (src : ℕ) (src_step : ℤ) (width n : ℕ) (bytes : List ℕ) → EachWithin (length bytes) dst dst_step width n → EachWithin (length other) src src_step width n
    → length (copied dst dst_step other src src_step width n bytes) ≡ length bytes
length-copied dst dst_step other src src_step width zero bytes to from = refl
length-copied dst dst_step other src src_step width (suc n) bytes to from =
    let before = copied dst dst_step other src src_step width n bytes in let item = item_at (place src src_step n) width other in
    let same : length before ≡ length bytes = length-copied dst dst_step other src src_step width n bytes (fewer _ dst dst_step width n to) (fewer _ src src_step width n from) in
    let count : length item ≡ width = length-item_at (place src src_step n) width other (place_within _ src src_step width (suc n) n from (omega arith)) in
    let within = place_within (length bytes) dst dst_step width (suc n) n to (omega arith) in
    length-put (place dst dst_step n) item before (omega arith) ∙ same

module _ (dst : ℕ) (dst_step : ℤ) (other : List ℕ) (src : ℕ) (src_step : ℤ) (width : ℕ) (bytes : List ℕ) where
  abbrev after : ℕ → List ℕ
  after n = copied dst dst_step other src src_step width n bytes

  abbrev source : ℕ → List ℕ
  source n = item_at (place src src_step n) width other

  module _ (n : ℕ) (to : EachWithin (length bytes) dst dst_step width (suc n)) (from : EachWithin (length other) src src_step width (suc n)) where
    kept : length (after n) ≡ length bytes
    kept = length-copied dst dst_step other src src_step width n bytes (fewer _ dst dst_step width n to) (fewer _ src src_step width n from)

    counted : length (source n) ≡ width
    counted = length-item_at (place src src_step n) width other (place_within (length other) src src_step width (suc n) n from (omega arith))

    inside : place dst dst_step n + length (source n) ≤ length (after n)
    inside = let within = place_within (length bytes) dst dst_step width (suc n) n to (omega arith) in omega (arith, kept, counted)

    copied_apart : (at size : ℕ) → at + size ≤ length bytes → (at + size ≤ place dst dst_step n) ⊎ (place dst dst_step n + width ≤ at) → item_at at size (after (suc n)) ≡ item_at at size (after n)
    copied_apart at size le apart =
        item_at-put_apart (place dst dst_step n) (source n) (after n) at size inside (omega (arith, kept)) (elim apart [ inl h ↦ inl h | inr h ↦ inr (omega (arith, counted)) ])

  pub copied-outside : (n at size : ℕ) → EachWithin (length bytes) dst dst_step width n → EachWithin (length other) src src_step width n → at + size ≤ length bytes
      → ((k : ℕ) → k < n → (at + size ≤ place dst dst_step k) ⊎ (place dst dst_step k + width ≤ at)) → item_at at size (after n) ≡ item_at at size bytes
  copied-outside zero at size to from le apart = refl
  copied-outside (suc n) at size to from le apart =
      copied_apart n to from at size le (apart n (omega arith)) ∙ copied-outside n at size (fewer _ dst dst_step width n to) (fewer _ src src_step width n from) le (λ k lt. apart k (omega arith))

  pub copied-item : (n k : ℕ) → EachWithin (length bytes) dst dst_step width n → EachWithin (length other) src src_step width n → k < n
      → ((i j : ℕ) → i < j → j < n → (place dst dst_step i + width ≤ place dst dst_step j) ⊎ (place dst dst_step j + width ≤ place dst dst_step i)) → item_at (place dst dst_step k) width (after n) ≡ source k
  copied-item zero k to from lt apart = absurd (omega arith)
  copied-item (suc n) k to from lt apart = elim (last_or_before k n lt) [
    | inl before ↦ copied_apart n to from (place dst dst_step k) width (place_within (length bytes) dst dst_step width (suc n) k to lt) (apart k n before (omega arith))
        ∙ copied-item n k (fewer _ dst dst_step width n to) (fewer _ src src_step width n from) before (λ i j less below. apart i j less (omega arith))
    | inr last ↦ ap (λ i. item_at (place dst dst_step i) width (after (suc n))) last ∙ ap (λ m. item_at (place dst dst_step n) m (after (suc n))) (sym (counted n to from))
        ∙ item_at-put_same (place dst dst_step n) (source n) (after n) (inside n to from) ∙ ap source (sym last)
  ]
