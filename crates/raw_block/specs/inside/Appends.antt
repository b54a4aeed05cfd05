-- Bytes that are appended to bytes.
use Rattle.std.specs.Prelude.{◌≡◌, ℕ, ◌+◌, ◌^◌, ◌<◌, List, ◌++◌, length}
use Rattle.raw_block.specs.declared.base.Base.{Base}
use Rattle.raw_block.specs.declared.base.Bytes.{Bytes}

-- the bytes begin at `base`, and the first byte without a value has the index `from`
pub record EndAt (base : Base) (from : ℕ) (bytes : Bytes) : Type 0 where
  pub begin : base.ptr ≡ bytes.at
  pub count : from ≡ length bytes.items
  pub small : from + bytes.room < 2 ^ 63

-- n bytes were appended
pub record AreAppended (n : ℕ) (added : List ℕ) (old new : Bytes) : Type 0 where
  pub begin : new.at ≡ old.at
  pub items : new.items ≡ old.items ++ added
  pub count : length new.items ≡ length old.items + n
  pub left : n + new.room ≡ old.room
