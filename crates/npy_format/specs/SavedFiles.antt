-- Loading the file of an array.
use Rattle.std.specs.Prelude.{◌≡◌, ℕ, List, map, Ok}
use Rattle.npy_format.specs.Words.{Descr, LeafValue, item_size, item_from, offsets_in}
use Rattle.npy_format.specs.Files.{Loaded, load, file_order}

-- the file loads as an array of this element type and this shape, with these items in C order of their indexes, and no
-- bytes are left over
pub record LoadsAs (file : List ℕ) (descr : Descr) (shape : List ℕ) (items : List (List LeafValue)) : Type 0 where
  pub loaded : Loaded
  pub loads : load file ≡ Ok loaded
  pub same_descr : loaded.head.descr ≡ descr
  pub same_shape : loaded.head.shape ≡ shape
  pub same_items : map (item_from descr loaded.items) (offsets_in (file_order loaded.head.fortran) (item_size descr) shape) ≡ items
  pub no_rest : loaded.rest ≡ 0
