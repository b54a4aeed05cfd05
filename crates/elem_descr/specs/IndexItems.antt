-- The items of an index list.
use Rattle.std.specs.Prelude.{Bool, true, false}
use Rattle.elem_descr.specs.declared.index_item.IndexItem.{IndexItem}
use Rattle.elem_descr.specs.declared.index_item.IndexItem.TheVariants.{Ellipsis, Array}

-- any item but an array
abbrev pub is_basic : {A : Type 0} → IndexItem A → Bool
is_basic (Array a) = false
is_basic _ = true

-- whether the item is `...`
abbrev pub is_ellipsis : {A : Type 0} → IndexItem A → Bool
is_ellipsis Ellipsis = true
is_ellipsis _ = false
