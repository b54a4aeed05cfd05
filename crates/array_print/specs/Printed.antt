-- The printed text of an array.
use Rattle.std.specs.Prelude.{ℕ, zero, suc, ◌+◌, ◌-◌, ◌/◌, ◌%◌, ℤ, pos, Bool, ◌&&◌, not, List, [], ◌∷◌, ◌++◌, length, map, replicate, drop, codes, fold, max, flat_map, slice_index, nat_eq, nat_le, if◌then◌else◌}
use Rattle.array_print.specs.Words.{signed_decimal, Scalar, Bytes, Leaf, Descr, LeafValue, number_of, text_of, is_one_of, leaves_of, Fields, no_more, scalar_field, record_field, leaf_count, blocks, item_from, count, BoolScalar, ScalarDescr, RecordDescr}

-- a hexadecimal digit, in lower case
abbrev pub hex_digit : ℕ → ℕ
hex_digit n = slice_index (codes "0123456789abcdef") n

-- whether a byte is printed as it is: a printable byte that is neither a single quote nor a backslash
abbrev pub stands_for_itself : ℕ → Bool
stands_for_itself byte = nat_le 32 byte && nat_le byte 126 && not (is_one_of (codes "'\\") byte)

-- the text of a byte inside b'..': the byte itself, or `\x` and two hexadecimal digits
abbrev pub escaped : ℕ → List ℕ
escaped byte = if stands_for_itself byte then byte ∷ [] else codes "\\x" ++ (hex_digit (byte / 16) ∷ (hex_digit (byte % 16) ∷ []))

-- the text of a bool
abbrev pub bool_text : ℤ → List ℕ
bool_text (pos zero) = codes "False"
bool_text value = codes "True"

-- the text of a byte string
abbrev pub byte_string_text : List ℕ → List ℕ
byte_string_text bytes = codes "b'" ++ flat_map escaped bytes ++ codes "'"

-- the text of a value
abbrev pub leaf_text : Scalar → LeafValue → List ℕ
leaf_text BoolScalar value = bool_text (number_of value)
leaf_text (Bytes n) value = byte_string_text (text_of value)
leaf_text integer value = signed_decimal (number_of value)

-- the texts of an item's values
abbrev pub leaf_texts : List Leaf → List LeafValue → List (List ℕ)
leaf_texts (leaf ∷ leaves) (value ∷ values) = leaf_text leaf.scalar value ∷ leaf_texts leaves values
leaf_texts _ _ = []

-- the length of the longest text
abbrev pub widest : List (List ℕ) → ℕ
widest texts = fold (λ width text. max width (length text)) 0 texts

-- the width to which the texts of a leaf are padded: 5 for bools, 0 for byte strings, and the longest length for
-- integers
abbrev pub leaf_width : Scalar → List (List ℕ) → ℕ
leaf_width BoolScalar texts = 5
leaf_width (Bytes n) texts = 0
leaf_width integer texts = widest texts

-- the first text of an item
abbrev pub first_text : List (List ℕ) → List ℕ
first_text [] = []
first_text (text ∷ texts) = text

-- the width of each leaf, from its texts in all items
abbrev pub leaf_widths : List Leaf → List (List (List ℕ)) → List ℕ
leaf_widths [] items = []
leaf_widths (leaf ∷ leaves) items = leaf_width leaf.scalar (map first_text items) ∷ leaf_widths leaves (map (drop 1) items)

-- the width of each leaf of an array: 0 if the array has no axes
abbrev pub widths : Descr → List ℕ → List (List LeafValue) → List ℕ
widths descr [] items = replicate (length (leaves_of descr)) 0
widths descr (n ∷ shape) items = leaf_widths (leaves_of descr) (map (leaf_texts (leaves_of descr)) items)

-- a text, padded with spaces on the left to a width
abbrev pub right_justified : ℕ → List ℕ → List ℕ
right_justified width text = replicate (width - length text) 32 ++ text

-- the texts, each padded to its width
abbrev pub all_justified : List ℕ → List (List ℕ) → List (List ℕ)
all_justified (width ∷ widths) (text ∷ texts) = right_justified width text ∷ all_justified widths texts
all_justified _ _ = []

-- the texts, joined by a separator
abbrev pub join_texts : List ℕ → List (List ℕ) → List ℕ
join_texts separator [] = []
join_texts separator (first ∷ []) = first
join_texts separator (first ∷ (next ∷ texts)) = first ++ separator ++ join_texts separator (next ∷ texts)

-- the end of a record with `n` texts. A single text has a comma after it.
abbrev pub record_end : ℕ → List ℕ
record_end n = if nat_eq n 1 then codes ",)" else codes ")"

-- the texts of a record in parentheses
abbrev pub in_parentheses : List (List ℕ) → List ℕ
in_parentheses texts = codes "(" ++ join_texts (codes ", ") texts ++ record_end (length texts)

-- the texts of fields, made of the texts of their leaves. A record within has parentheses of its own.
abbrev pub field_texts : Fields → List (List ℕ) → List (List ℕ)
field_texts no_more texts = []
field_texts (scalar_field name at scalar rest) texts = first_text texts ∷ field_texts rest (drop 1 texts)
field_texts (record_field name at size inner rest) texts =
    in_parentheses (field_texts inner texts) ∷ field_texts rest (drop (leaf_count inner) texts)

-- the text of an item from the texts of its leaves
abbrev pub structure_text : Descr → List (List ℕ) → List ℕ
structure_text (ScalarDescr scalar) texts = first_text texts
structure_text (RecordDescr structure) texts = in_parentheses (field_texts structure.fields texts)

-- the text of an item, in which the text of each leaf is padded to its width
abbrev pub item_text : Descr → List ℕ → List LeafValue → List ℕ
item_text descr widths values = structure_text descr (all_justified widths (leaf_texts (leaves_of descr) values))

-- What separates two blocks along an axis that has `inner` axes inside it and `brackets` brackets open before its own:
-- a space between items, and otherwise one newline for each inner axis and one space for each open bracket.
abbrev pub separator : ℕ → ℕ → List ℕ
separator brackets zero = codes " "
separator brackets (suc inner) = replicate (suc inner) 10 ++ replicate (brackets + 1) 32

-- the texts of items under a shape: the blocks along the first axis in brackets, or the one item if no axis is left
abbrev pub block_text : ℕ → List ℕ → List (List ℕ) → List ℕ
block_text brackets [] texts = join_texts [] texts
block_text brackets (n ∷ shape) texts =
    codes "[" ++ join_texts (separator brackets (length shape)) (map (block_text (brackets + 1) shape) (blocks (count shape) n texts)) ++ codes "]"

-- the text of an array. An array without items is `[]`.
abbrev pub array_text : Descr → List ℕ → List (List LeafValue) → List ℕ
array_text descr shape items =
    if nat_eq (count shape) 0 then codes "[]" else block_text 0 shape (map (item_text descr (widths descr shape items)) items)

-- the items of a block at these offsets
abbrev pub items_from : Descr → List ℕ → List ℕ → List (List LeafValue)
items_from descr block offsets = map (item_from descr block) offsets
