-- Parts of an item: the whole item, or the field that a path leads to. A path is a list of field numbers, each of which
-- is the number of a field in what the numbers before it lead to.
use Rattle.std.specs.Prelude.{◌<◌, ℕ, ◌+◌, Bool, List, [], ◌∷◌, ◌++◌, length, take, drop, nat_eq}
use Rattle.name_store.specs.Words.{list_any, range_with_len, Descr, leaves_of, leaves_in, fields, field_at, LeafValue}

-- each number of the path is that of an existing field
abbrev pub IsPathOf : Descr → List ℕ → Type 0
IsPathOf descr [] = Unit {0}
IsPathOf descr (k ∷ path) = (k < length (fields descr)) × IsPathOf (field_at descr k).descr path

-- the element type of a part
abbrev pub descr_at : Descr → List ℕ → Descr
descr_at descr [] = descr
descr_at descr (k ∷ path) = descr_at (field_at descr k).descr path

-- the offset of a part in its item, in bytes
abbrev pub start_at : Descr → List ℕ → ℕ
start_at descr [] = 0
start_at descr (k ∷ path) = (field_at descr k).at + start_at (field_at descr k).descr path

-- the number of the first leaf of a part, among the leaves of the item
abbrev pub first_at : Descr → List ℕ → ℕ
first_at descr [] = 0
first_at descr (k ∷ path) = leaves_in (take k (fields descr)) + first_at (field_at descr k).descr path

-- the leaves of a part: the number of the first one, and how many there are
abbrev pub span_at : Descr → List ℕ → ℕ × ℕ
span_at descr path = (first_at descr path, length (leaves_of (descr_at descr path)))

-- the values of a part, taken from those of its item
abbrev pub part_at : ℕ × ℕ → List LeafValue → List LeafValue
part_at span item = take span.1 (drop span.0 item)

-- the values of an item after those of a part are replaced
abbrev pub with_part : ℕ × ℕ → List LeafValue → List LeafValue → List LeafValue
with_part span new item = take span.0 item ++ new ++ drop (span.0 + span.1) item

-- the numbers of the leaves of a part
abbrev pub leaves_at : Descr → List ℕ → List ℕ
leaves_at descr path = let span = span_at descr path in range_with_len span.0 span.1

-- whether some number is in both lists
abbrev pub have_common : List ℕ → List ℕ → Bool
have_common left right = list_any (λ number. list_any (nat_eq number) right) left

-- whether two parts have a leaf in common
abbrev pub share_leaves : Descr → List ℕ → List ℕ → Bool
share_leaves descr path other = have_common (leaves_at descr path) (leaves_at descr other)
