-- Index lists, item by item.
use Rattle.std.specs.Prelude.{◌≡◌, ℕ, false, List, ◌∷◌, ◌++◌, length}
use Rattle.fancy_index.specs.Words.{IndexItem, is_ellipsis, placed}
use Rattle.fancy_index.specs.IndexArrays.{IndexArray, item_axes, array_axes_taken}
use Rattle.fancy_index.specs.Sources.{index_items}
use Rattle.fancy_index.specs.declared.lists.Left.{Left}

abbrev pub items_left : Left → List (IndexItem IndexArray)
items_left left = index_items left.items.now

-- `item` is the first of `items` and takes `axes`, the first axes of `shape`. It leaves `shape'` to the later `items'`.
pub record IsNext (shape : List ℕ) (items : List (IndexItem IndexArray)) (item : IndexItem IndexArray) (axes shape' : List ℕ) (items' : List (IndexItem IndexArray)) : Type 0 where
  pub list : items ≡ item ∷ items'
  pub cut : shape ≡ axes ++ shape'
  pub many : is_ellipsis item ≡ false → length axes ≡ item_axes item
  pub placed : placed array_axes_taken shape items ≡ record { item = item; axes = axes } ∷ placed array_axes_taken shape' items'

-- the same for what is left before and after the item is taken
abbrev pub IsNextOf : Left → IndexItem IndexArray → List ℕ → Left → Type 0
IsNextOf old item axes new = IsNext old.axes.now (items_left old) item axes new.axes.now (items_left new)
