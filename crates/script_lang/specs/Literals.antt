-- Literals: integers, booleans, bytes and records.
use Rattle.std.specs.Prelude.{ℕ, zero, suc, ◌+◌, ◌-◌, ◌*◌, ◌==◌, ℤ, Bool, true, false, List, [], ◌∷◌, length, codes, Option, Some, None, nat_eq, nat_le, if◌then◌else◌, not, ◌&&◌}
use Rattle.script_lang.specs.Words.{option_map, is_ascii_digit}
use Rattle.script_lang.specs.declared.literal.ScalarLiteral.{ScalarLiteral}
use Rattle.script_lang.specs.declared.literal.ScalarLiteral.TheVariants.{Integer, Boolean, Bytes}
use Rattle.script_lang.specs.declared.literal.Literal.{Literal}
use Rattle.script_lang.specs.declared.literal.Literal.TheVariants.{Scalar, Record}
use Rattle.script_lang.specs.Readers.{ReaderOf, ◌>>=◌, ◌or_else◌, if_found, one_part, two_parts, only}
use Rattle.script_lang.specs.Tokens.{unspaced, byte_at, symbol_at, is_at_end, bytes_mark_at, keyword_at, integer_at}
use Rattle.script_lang.specs.Lists.{by_rule, none_or_more, row}
use Rattle.script_lang.specs.Listed.{all_values}

-- the value of a hexadecimal digit
unfoldable pub hex_value : ℕ → Option ℕ
hex_value b =
    if is_ascii_digit b then Some (b - 48)
    else if nat_le 97 b && nat_le b 102 then Some (b - 87)
    else if nat_le 65 b && nat_le b 70 then Some (b - 55)
    else None

unfoldable pub hex_digit_at : ReaderOf ℕ
hex_digit_at [] = None
hex_digit_at (b ∷ bytes) = option_map (λ digit. (digit, bytes)) (hex_value b)

-- after a backslash: `x` and two hexadecimal digits
unfoldable pub escape_at : ReaderOf ℕ
escape_at bytes = byte_at 120 bytes >>= two_parts (λ high low. high * 16 + low) hex_digit_at hex_digit_at

-- 32 to 126, except an apostrophe and a backslash
abbrev pub is_plain : ℕ → Bool
is_plain b = nat_le 32 b && nat_le b 126 && not (nat_eq b 39) && not (nat_eq b 92)

abbrev pub plain_byte_at : ReaderOf ℕ
plain_byte_at [] = None
plain_byte_at (b ∷ bytes) = if is_plain b then Some (b, bytes) else None

-- one byte of a bytes literal
unfoldable pub text_byte_at : ReaderOf ℕ
text_byte_at bytes = if_found (byte_at 92 bytes) escape_at (plain_byte_at bytes)

-- after `b'`: the bytes up to the closing apostrophe
unfoldable pub byte_text_at : ReaderOf (List ℕ)
byte_text_at bytes = by_rule (row text_byte_at (byte_at 39)) bytes

-- an integer, a boolean or bytes, given the bytes after the blanks
unfoldable pub scalar_at : ReaderOf ScalarLiteral
scalar_at bytes =
    if_found (bytes_mark_at bytes) (one_part Bytes byte_text_at)
    (one_part Integer integer_at bytes
    or_else option_map (λ rest. (Boolean true, rest)) (keyword_at (codes "True") bytes)
    or_else option_map (λ rest. (Boolean false, rest)) (keyword_at (codes "False") bytes))

-- after `(`: one or more values; a trailing comma is allowed
unfoldable pub record_at : ReaderOf Literal → ReaderOf Literal
record_at value_at bytes =
    one_part (λ values. Record (all_values values))
    (only (λ values. not (length values.0 == 0)) (by_rule (none_or_more value_at 41))) bytes

-- a literal of at most this depth: a scalar has depth 0, a record is one deeper than its deepest value
unfoldable pub literal_within : ℕ → ReaderOf Literal
literal_within zero bytes = one_part Scalar scalar_at (unspaced bytes)
literal_within (suc depth) bytes =
    if_found (symbol_at 40 bytes) (record_at (literal_within depth)) (one_part Scalar scalar_at (unspaced bytes))

-- L: a literal, of a depth of at most 4
unfoldable pub literal_at : ReaderOf Literal
literal_at bytes = literal_within 4 bytes

-- the end of a line, perhaps after blanks
abbrev pub line_end_at : List ℕ → Option (List ℕ)
line_end_at bytes = if is_at_end bytes then Some bytes else None

-- L..: zero or more literals, up to the end of the line
unfoldable pub literals_at : ReaderOf (List Literal)
literals_at bytes = by_rule (row literal_at line_end_at) bytes
