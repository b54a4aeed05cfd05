-- Copies of items, of `width` bytes, from offsets of one block to offsets of another, or of the same.
use Rattle.std.specs.Prelude.{◌≡◌, ◌+◌, ◌*◌, ◌≤◌, ℕ, List, length, All}
use Rattle.overlap_copy.specs.Words.{Fits, IsNested, Layout, assigned, items_at, multiples, offsets}

-- there are as many offsets `to` in `block` as offsets `from` in `other`, and the items at them lie within the two
pub record ArePaired (to from : List ℕ) (width : ℕ) (other block : List ℕ) : Type 0 where
  pub to_in : All (λ offset. offset + width ≤ length block) to
  pub from_in : All (λ offset. offset + width ≤ length other) from
  pub count : length from ≡ length to

-- two layouts of one block have as many items, which lie within it, and those of `dst` do not overlap
pub record CanMove (dst src : Layout) (width : ℕ) (block : List ℕ) : Type 0 where
  pub dst_fits : Fits dst (length block) width
  pub src_fits : Fits src (length block) width
  pub nested : IsNested (offsets dst) width
  pub count : length (offsets src) ≡ length (offsets dst)

-- `new` is `old` after the items at the offsets `from` of `other` are written to the offsets `to`
pub record Assigns (to from : List ℕ) (width : ℕ) (other old new : List ℕ) : Type 0 where
  pub written : new ≡ assigned to from width other old
  pub len : length new ≡ length old

-- the block consists of n adjacent items, which are `parts`
pub record IsPacked (n width : ℕ) (parts : List (List ℕ)) (block : List ℕ) : Type 0 where
  pub long : length block ≡ n * width
  pub items : items_at (multiples width n) width block ≡ parts
