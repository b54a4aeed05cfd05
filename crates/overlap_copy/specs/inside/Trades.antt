-- Exchange of items between two blocks.
use Rattle.std.specs.Prelude.{◌≡◌, ℕ, List, ◌∷◌, length}
use Rattle.overlap_copy.specs.Words.{put, item_at}

-- the two blocks after the items at the offsets `to` of the first are exchanged with the items at the offsets `from` of
-- the second, one pair after the other
abbrev pub traded_at : List ℕ → List ℕ → ℕ → List ℕ × List ℕ → List ℕ × List ℕ
traded_at (at ∷ to) (offset ∷ from) width both = traded_at to from width (put at (item_at offset width both.1) both.0, put offset (item_at at width both.0) both.1)
traded_at _ _ width both = both

-- these are exchanged: the two blocks before and after
pub record Trades (to from : List ℕ) (width : ℕ) (old new : List ℕ × List ℕ) : Type 0 where
  pub traded : new ≡ traded_at to from width old
  pub len : length new.0 ≡ length old.0
  pub other_len : length new.1 ≡ length old.1
