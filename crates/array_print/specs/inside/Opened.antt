-- The text of an axis while it is being made.
use Rattle.std.specs.Prelude.{ℕ, ◌+◌, ◌-◌, List, ◌++◌, codes, length, map, drop}
use Rattle.array_print.specs.Words.{blocks, count}
use Rattle.array_print.specs.Printed.{block_text, join_texts, separator}

-- the opening bracket of an axis, and the text of its first `k` blocks
abbrev pub opened : (ℕ → List ℕ) → List ℕ → ℕ → ℕ → List ℕ → List ℕ
opened f axes axis k offsets =
    codes "[" ++ join_texts (separator axis (length axes - axis - 1)) (map (block_text (axis + 1) (drop (axis + 1) axes)) (blocks (count (drop (axis + 1) axes)) k (map f offsets)))
