-- Copies of items, and what they leave unchanged.
use Rattle.std.proofs.Common.{◌≡◌, ◌+◌, ◌≤◌, ◌⊎◌, inl, inr, ℕ, List, ◌∷◌, length, All, refl, sym, subst, ◌∙◌, arith}
use Rattle.overlap_copy.proofs.Words.{cases_lt, All-rest, All-head, put, item_at, length-item_at, length-put, item_at-put_apart, distance, assigned}

module _ (width : ℕ) (other : List ℕ) where
  abbrev IsIn : List ℕ → ℕ → Type 0
  IsIn block offset = offset + width ≤ length block

  -- one item is written to a block
  put-length : (at offset : ℕ) (block : List ℕ) → IsIn block at → IsIn other offset → length (put at (item_at offset width other) block) ≡ length block
  put-length at offset block in_block in_other = length-put at (item_at offset width other) block (omega (arith, length-item_at offset width other in_other, in_block))

  kept-once : (at offset place : ℕ) (block : List ℕ) → IsIn block at → IsIn other offset → IsIn block place → width ≤ distance place at → item_at place width (put at (item_at offset width other) block) ≡ item_at place width block
  kept-once at offset place block in_block in_other there apart =
      let long = length-item_at offset width other in_other in
      let item = item_at offset width other in
      let sides : place + width ≤ at ⊎ at + length item ≤ place = elim (cases_lt place at) [
        | inl below ↦ inl (omega (arith, below, apart))
        | inr above ↦ inr (omega (arith, above, apart, long))
      ] in
      item_at-put_apart at item block place width (omega (arith, long, in_block)) there sides

  -- an item that overlaps none of those written is unchanged
  pub kept : (place : ℕ) (to from block : List ℕ) → IsIn block place → All (IsIn block) to → All (IsIn other) from → All (λ at. width ≤ distance place at) to → item_at place width (assigned to from width other block) ≡ item_at place width block
  kept place (at ∷ to) (offset ∷ from) block there in_block in_other apart =
      let here = All-head (IsIn block) at to in_block in
      let first = All-head (IsIn other) offset from in_other in
      let same = put-length at offset block here first in
      let next = put at (item_at offset width other) block in
      let left : All (IsIn next) to = subst (λ n. All (λ o. o + width ≤ n) to) (sym same) (All-rest (IsIn block) at to (at ∷ to) refl in_block) in
      kept place to from next (subst (λ n. place + width ≤ n) (sym same) there) left (All-rest (IsIn other) offset from (offset ∷ from) refl in_other) (All-rest (λ o. width ≤ distance place o) at to (at ∷ to) refl apart)
      ∙ kept-once at offset place block here first there (All-head (λ o. width ≤ distance place o) at to apart)
  kept place _ _ block there in_block in_other apart = refl
