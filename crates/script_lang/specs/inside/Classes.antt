-- The classes of bytes that the scanners test.
use Rattle.std.specs.Prelude.{ℕ, Bool, not}
use Rattle.script_lang.specs.declared.grammar.tokens.Class.{Class}
use Rattle.script_lang.specs.declared.grammar.tokens.Class.TheVariants.{Blank, Filled, Digit, Name, Mark, Unquoted, File}
use Rattle.script_lang.specs.Words.{is_ascii_digit}
use Rattle.script_lang.specs.Tokens.{is_blank, is_name_byte, is_unquoted, is_file_byte}
use Rattle.script_lang.specs.Descriptors.{is_mark}

abbrev pub is_in : Class → ℕ → Bool
is_in Blank = is_blank
is_in Filled = λ b. not (is_blank b)
is_in Digit = is_ascii_digit
is_in Name = is_name_byte
is_in Mark = is_mark
is_in Unquoted = is_unquoted
is_in File = is_file_byte
