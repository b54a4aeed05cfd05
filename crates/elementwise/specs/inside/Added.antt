-- Bytes that are appended to a block.
use Rattle.std.specs.Prelude.{◌≡◌, ◌+◌, ◌++◌, ℕ, List}

-- `added` is appended to a block that is being filled, in which room for `n` bytes is used up
pub record AreAdded (n : ℕ) (added : List ℕ) (old new : List ℕ × ℕ) : Type 0 where
  pub bytes : new.0 ≡ old.0 ++ added
  pub left : n + new.1 ≡ old.1
