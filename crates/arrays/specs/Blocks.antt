-- Blocks that a layout fills exactly.
use Rattle.std.specs.Prelude.{◌≡◌, ◌≤◌, ◌*◌, ◌/◌, ◌||◌, List, length, map, IsTrue}
use Rattle.std.proofs.Common.{ℕ}
use Rattle.arrays.specs.Words.{Descr, item_size, Layout, MemoryOrder, C, Fortran, max_bytes, count, is_c_contiguous, is_f_contiguous, offsets, multiples, f_multiples, Fits, IsNested}

-- the offsets of items of `item` bytes that are adjacent in this order
abbrev pub offsets_in : MemoryOrder → ℕ → List ℕ → List ℕ
offsets_in C item shape = multiples item (count shape)
offsets_in Fortran item shape = f_multiples item shape

-- the places of items of `item` bytes with these offsets
abbrev pub places_of : ℕ → List ℕ → List ℕ
places_of item offsets = map (λ offset. offset / item) offsets

-- the items are adjacent in C order or in Fortran order, from the start to the end of the block
pub record FillsBlock (descr : Descr) (layout : Layout) (block : List ℕ) : Type 0 where
  pub some : 1 ≤ item_size descr
  pub few : item_size descr ≤ 65536
  pub in_order : IsTrue (is_c_contiguous (item_size descr) (offsets layout) || is_f_contiguous (item_size descr) layout.shape (offsets layout))
  pub whole : offsets layout ≡ map (λ place. item_size descr * place) (places_of (item_size descr) (offsets layout))
  pub fills : length block ≡ count layout.shape * item_size descr
  pub small : length block ≤ max_bytes
  pub fits : Fits layout (length block) (item_size descr)
  pub nested : IsNested (offsets layout) (item_size descr)
