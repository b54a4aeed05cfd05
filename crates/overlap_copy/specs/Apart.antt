-- Layouts in one block whose byte ranges and strides show that they are disjoint.
use Rattle.std.specs.Prelude.{◌≡◌, ◌+◌, ◌%◌, ◌<◌, ◌≤◌, ◌⊎◌, ℕ, List, ◌++◌, All, map, false, nat_le, if◌then◌else◌}
use Rattle.overlap_copy.specs.Words.{◌∣◌, Layout, offsets, Axis, axes}
use Rattle.overlap_copy.specs.Overlaps.{do_ranges_meet}

-- `g` is the greatest common divisor of the numbers: it divides each of them, and every common divisor divides it
pub record IsGreatestDivisor (g : ℕ) (numbers : List ℕ) : Type 0 where
  pub divides : All (λ n. g ∣ n) numbers
  pub greatest : (d : ℕ) → All (λ n. d ∣ n) numbers → d ∣ g

-- the number of bytes an axis steps over in either direction, or 0 if it has fewer than two items
abbrev pub step_of : Axis → ℕ
step_of axis = if nat_le 2 axis.len then axis.step else 0

abbrev pub steps : Layout → List ℕ
steps l = map step_of (axes l.strides l.shape)

-- The items of `m`, of `other` bytes, lie in the gaps between the items of `l`, of `item` bytes. Here, `g` is the
-- greatest common divisor of all steps, and `r` is the first offset of `m` minus that of `l`, modulo `g`. If bytes are
-- counted modulo `g` from the first offset of `l`, every item of `l` begins at 0 and ends at `r` or before, and every
-- item of `m` begins at `r` and ends at `g` or before.
pub record LieBetween (l : Layout) (item : ℕ) (m : Layout) (other : ℕ) : Type 0 where
  pub g : ℕ
  pub r : ℕ
  pub divisor : IsGreatestDivisor g (steps l ++ steps m)
  pub below : r < g
  pub difference : (l.offset + r) % g ≡ m.offset % g
  pub item_ends : item ≤ r
  pub other_ends : r + other ≤ g

-- the layouts are disjoint: one is empty, or every byte of one is below every byte of the other, or the items of one
-- lie in the gaps between those of the other
abbrev pub AreApart : Layout → ℕ → Layout → ℕ → Type 0
AreApart l item m other = (do_ranges_meet (offsets l) item (offsets m) other ≡ false) ⊎ LieBetween l item m other
