-- The items of two layouts, paired.
use Rattle.std.specs.Prelude.{ℕ, List}
use Rattle.shape_strides.specs.Words.{zip}
use Rattle.shape_strides.specs.declared.layout.Layout.{Layout}
use Rattle.shape_strides.specs.Layouts.{offsets}

-- The offsets of two layouts with the same number of items: each offset of the target is paired with the one at the
-- same position of the source in C order.
abbrev pub item_pairs : Layout → Layout → List (ℕ × ℕ)
item_pairs target source = zip (offsets target) (offsets source)
