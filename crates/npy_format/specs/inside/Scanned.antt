-- Tokens as the code reads them from a text.
use Rattle.std.specs.Prelude.{ℕ, ◌||◌, nat_eq, List, ◌∷◌, Option, Some, None, Bool, false, Result, Ok, Err}
use Rattle.npy_format.specs.Words.{bytes_eq, Refusal, BadHeader, DescriptorLeftOut, ◌>>=◌, marked, value_of, Partial, widened}
use Rattle.npy_format.specs.RecordLists.{pad_kind}
use Rattle.npy_format.specs.declared.token.Token.{Token as Scanned}
use Rattle.npy_format.specs.declared.token.Token.TheVariants as scanned
use Rattle.npy_format.specs.Tokens.{Token, Text, Integer, Truth, Nothing, Symbol, Stray}

-- an apostrophe or a quotation mark
abbrev pub is_quote : ℕ → Bool
is_quote b = nat_eq b 39 || nat_eq b 34

abbrev pub token_of : Scanned → Token
token_of (scanned.Text bytes) = Text bytes.now
token_of (scanned.Integer digits) = Integer (value_of digits.now)
token_of (scanned.Truth is) = Truth is
token_of scanned.Nothing = Nothing
token_of (scanned.Symbol b) = Symbol b
token_of scanned.Stray = Stray

-- the string that comes next, if there is one, and the tokens after it
abbrev pub string_at : List Token → Option (List ℕ × List Token)
string_at (Text bytes ∷ rest) = Some (bytes, rest)
string_at _ = None

-- the integer that comes next, if there is one, and the tokens after it
abbrev pub integer_at : List Token → Option (ℕ × List Token)
integer_at (Integer n ∷ rest) = Some (n, rest)
integer_at _ = None

abbrev pub truth_at : List Token → Result Bool Refusal
truth_at (Truth is ∷ rest) = Ok is
truth_at _ = Err BadHeader

-- whether this string comes next
abbrev pub is_string_token : List ℕ → Option (List ℕ × List Token) → Bool
is_string_token bytes (Some found) = bytes_eq bytes found.0
is_string_token bytes None = false

-- the record with padding added, whose type string comes next
abbrev pub pad_at : Partial → Option (List ℕ × List Token) → Result Partial Refusal
pad_at p (Some found) = pad_kind (marked found.0).1 >>= widened p
pad_at p None = Err DescriptorLeftOut
