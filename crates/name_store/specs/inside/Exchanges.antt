-- Items that are a whole block, which a block of other items can replace.
use Rattle.std.specs.Prelude.{◌≡◌, ◌*◌, ℕ, List, length, IsTrue}
use Rattle.name_store.specs.Words.{is_c_contiguous}

-- the items of `width` bytes at these offsets are the whole block, in order
pub record AreAll (width : ℕ) (block os : List ℕ) : Type 0 where
  pub order : IsTrue (is_c_contiguous width os)
  pub whole : length block ≡ length os * width
