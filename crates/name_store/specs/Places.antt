-- Element types, and blocks of their items.
use Rattle.std.specs.Prelude.{◌≡◌, ◌≤◌, ℕ, ◌*◌, List, length}
use Rattle.name_store.specs.Words.{Descr, IsLegal, size, item_size, max_bytes, ScalarDescr, RecordDescr}

-- a valid element type: a scalar of at least one byte, or a legal record
abbrev pub IsElementType : Descr → Type 0
IsElementType (ScalarDescr scalar) = 1 ≤ size scalar
IsElementType (RecordDescr structure) = IsLegal structure

-- the block consists of `items` items of a valid element type, and has at most `max_bytes` bytes
pub record HasJustItems (descr : Descr) (items : ℕ) (block : List ℕ) : Type 0 where
  pub legal : IsElementType descr
  pub whole : length block ≡ items * item_size descr
  pub small : length block ≤ max_bytes
