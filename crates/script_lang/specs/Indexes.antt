-- Shapes, index lists and operands.
use Rattle.std.specs.Prelude.{ℕ, ℤ, List, codes, Option, Some, None, is_some, nat_le, count_by, not, ◌&&◌, if◌then◌else◌}
use Rattle.script_lang.specs.Words.{option_map, IndexItem, Integer, Slice, Ellipsis, NewAxis, Array, is_ellipsis}
use Rattle.script_lang.specs.declared.command.Operand.{Operand}
use Rattle.script_lang.specs.declared.command.Argument.{Argument}
use Rattle.script_lang.specs.declared.command.Argument.TheVariants as argument
use Rattle.script_lang.specs.Readers.{ReaderOf, ◌>>=◌, ◌or_else◌, if_found, one_part, two_parts, three_parts, only, optional}
use Rattle.script_lang.specs.Tokens.{unspaced, byte_at, symbol_at, behind, bytes_mark_at, keyword_at, name_at, length_at, integer_at}
use Rattle.script_lang.specs.Lists.{by_rule, none_or_more, one_or_more}
use Rattle.script_lang.specs.Literals.{literal_at}

-- numbers in parentheses
unfoldable pub numbers_at : {A : Type 0} → ReaderOf A → ReaderOf (List A)
numbers_at entry_at bytes = behind 40 (by_rule (none_or_more entry_at 41)) bytes

-- S: a shape
abbrev pub shape_at : ReaderOf (List ℕ)
shape_at bytes = numbers_at length_at bytes

-- S whose lengths may have signs
abbrev pub signed_shape_at : ReaderOf (List ℤ)
signed_shape_at bytes = numbers_at integer_at bytes

-- an integer, if there is one
unfoldable pub optional_integer_at : ReaderOf (Option ℤ)
optional_integer_at bytes = optional integer_at bytes

-- the step of a slice, if there is a second colon
abbrev pub step_at : ReaderOf (Option ℤ)
step_at bytes = if_found (symbol_at 58 bytes) optional_integer_at (Some (None, bytes))

-- a:b or a:b:c, each part optional
unfoldable pub slice_at : ReaderOf (IndexItem (List ℕ))
slice_at bytes = three_parts Slice optional_integer_at (behind 58 optional_integer_at) step_at bytes

-- `...`
unfoldable pub ellipsis_at : List ℕ → Option (List ℕ)
ellipsis_at bytes = symbol_at 46 bytes >>= byte_at 46 >>= byte_at 46

-- one item of an index list
unfoldable pub index_item_at : ReaderOf (IndexItem (List ℕ))
index_item_at bytes =
    slice_at bytes
    or_else one_part Integer integer_at bytes
    or_else option_map (λ rest. (Ellipsis, rest)) (ellipsis_at bytes)
    or_else option_map (λ rest. (NewAxis, rest)) (keyword_at (codes "None") bytes)
    or_else one_part Array name_at bytes

-- ix], after `[`: the items up to the closing bracket, with `...` at most once
unfoldable pub index_at : ReaderOf (List (IndexItem (List ℕ)))
index_at bytes = only (λ items. nat_le (count_by is_ellipsis items.0) 1) (by_rule (one_or_more index_item_at 93)) bytes

-- [ix], with the opening bracket at once
unfoldable pub bracket_at : ReaderOf (List (IndexItem (List ℕ)))
bracket_at bytes = byte_at 91 bytes >>= index_at

-- [ix], if the opening bracket is there, at once
unfoldable pub optional_index_at : ReaderOf (Option (List (IndexItem (List ℕ))))
optional_index_at bytes = if_found (byte_at 91 bytes) (one_part Some index_at) (Some (None, bytes))

abbrev pub operand_named : List ℕ → Option (List (IndexItem (List ℕ))) → Operand
operand_named name index = record { name = name; index = index }

-- Y or Y[ix]
unfoldable pub operand_at : ReaderOf Operand
operand_at bytes = two_parts operand_named name_at optional_index_at bytes

-- Z: an operand or a literal. A name begins an operand, unless it begins a bytes literal.
unfoldable pub argument_at : ReaderOf Argument
argument_at bytes =
    if not (is_some (bytes_mark_at (unspaced bytes))) && is_some (name_at bytes) then one_part argument.Operand operand_at bytes
    else one_part argument.Literal literal_at bytes
