-- How parts of an array's text come from its block of bytes.
use Rattle.std.specs.Prelude.{◌≡◌, ℕ, zero, suc, List, [], map, drop}
use Rattle.std.proofs.Common.{take}
use Rattle.array_print.specs.Words.{signed_decimal, AllZip, Scalar, Byte, Int, Bytes, Leaf, Descr, size, decode, number_of, leaves_of, item_from, BoolScalar}
use Rattle.array_print.specs.Printed.{leaf_texts, leaf_widths, all_justified, item_text, items_from}

-- the text of the integer whose bytes begin at this place of a block
abbrev pub integer_at : Scalar → List ℕ → ℕ → List ℕ
integer_at scalar block place = signed_decimal (number_of (decode scalar (take (size scalar) (drop place block))))

-- the widths that texts of a scalar may have: 0 for a byte string, and any width for the others
abbrev pub IsWidth : Scalar → ℕ → Type 0
IsWidth BoolScalar width = Unit {0}
IsWidth (Byte signed) width = Unit {0}
IsWidth (Int signed size order) width = Unit {0}
IsWidth (Bytes n) width = width ≡ 0

-- one width for each leaf
abbrev pub AreWidths : List Leaf → List ℕ → Type 0
AreWidths leaves widths = AllZip (λ leaf width. IsWidth leaf.scalar width) leaves widths

-- the texts of the item whose bytes begin at an offset, each padded to its width
abbrev pub texts_at : Descr → List ℕ → List ℕ → ℕ → List (List ℕ)
texts_at descr widths block offset = all_justified widths (leaf_texts (leaves_of descr) (item_from descr block offset))

-- the text of that item
abbrev pub shown : Descr → List ℕ → List ℕ → ℕ → List ℕ
shown descr widths block offset = item_text descr widths (item_from descr block offset)

-- what comes before text `k` of texts that a separator joins: nothing before the first
abbrev pub lead : ℕ → List ℕ → List ℕ
lead zero separator = []
lead (suc k) separator = separator

-- the widths of the leaves of items that begin at these offsets, in an array with axes
abbrev pub widths_at : Descr → List ℕ → List ℕ → List ℕ
widths_at descr block offsets = leaf_widths (leaves_of descr) (map (leaf_texts (leaves_of descr)) (items_from descr block offsets))
