-- What a line of the script says.
use Rattle.std.specs.Prelude.{ℕ, Bool, List, Option, Some, None, is_some, nat_eq, nat_le, if◌then◌else◌, ◌||◌, ◌&&◌}
use Rattle.script_lang.specs.Words.{list_all}
use Rattle.script_lang.specs.declared.command.Command.{Command}
use Rattle.script_lang.specs.Tokens.{unspaced, byte_at, symbol_at, is_at_end, length_at, integer_at}
use Rattle.script_lang.specs.Lists.{AnyTurns, one_or_more, none_or_more, row}
use Rattle.script_lang.specs.Literals.{text_byte_at, literal_within, literal_at, line_end_at}
use Rattle.script_lang.specs.Indexes.{index_item_at}
use Rattle.script_lang.specs.Commands.{command_at}

-- a tab, or a byte from 32 to 126
abbrev pub is_allowed : ℕ → Bool
is_allowed b = nat_eq b 9 || (nat_le 32 b && nat_le b 126)

-- only blanks, or a comment: the first byte that is not a blank is `#`
abbrev pub is_silent : List ℕ → Bool
is_silent line = is_at_end line || is_some (symbol_at 35 line)

-- what a line says
pub data Line : Type 0 where
  silent : Line
  bad_byte : Line
  misspelt : Line
  asks : Command → Line

abbrev pub spelled : Option Command → Line
spelled None = misspelt
spelled (Some command) = asks command

-- What a line says. The checks have this order: whether it is silent, whether all bytes are allowed, and the grammar.
unfoldable pub line_of : List ℕ → Line
line_of line = if is_silent line then silent else if list_all is_allowed line then spelled (command_at (unspaced line)) else bad_byte

-- For every kind of list in a line, its rule reads the same in any number of turns above the number of bytes: lengths,
-- integers, the items of an index, the bytes of a text, the values of a record, and the literals of a line.
abbrev pub EachListAnyTurns : Type 0
EachListAnyTurns =
    AnyTurns (none_or_more length_at 41) × AnyTurns (none_or_more integer_at 41) × AnyTurns (one_or_more index_item_at 93)
    × AnyTurns (row text_byte_at (byte_at 39)) × ((depth : ℕ) → AnyTurns (none_or_more (literal_within depth) 41)) × AnyTurns (row literal_at line_end_at)
