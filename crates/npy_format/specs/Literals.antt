-- Literals of Python, as productions over tokens. Each reader takes the remaining tokens, and returns what it reads and
-- the tokens after it. If it finds something else, the header is bad.
use Rattle.std.specs.Prelude.{ℕ, zero, suc, List, [], ◌∷◌, length, nat_eq, if◌then◌else◌, Option, Some, None, Result, Ok, Err}
use Rattle.npy_format.specs.Words.{ok_or, Refusal, BadHeader, ◌>>=◌}
use Rattle.npy_format.specs.Tokens.{Token}
use Rattle.npy_format.specs.Tokens as token
use Rattle.npy_format.specs.Values.{Round, Square, Text, Integer, Truth, Nothing, Dictionary, no_values}
use Rattle.npy_format.specs.Listed.{Literal, Plain, Row, Pair, all_listed_values}

-- what a reader returns: what it reads and the remaining tokens, or a refusal
abbrev pub Read : Type 0 → Type 0
Read A = Result (A × List Token) Refusal

-- the symbol `b`
abbrev pub symbol_token_at : ℕ → List Token → Option (List Token)
symbol_token_at b (token.Symbol c ∷ rest) = if nat_eq c b then Some rest else None
symbol_token_at b _ = None

-- `next` of what is found, or `other` if nothing is found
abbrev pub if_read : {A B : Type 0} → Option B → (B → A) → A → A
if_read None next other = other
if_read (Some found) next other = next found

-- a list that ends here
abbrev pub list_end : {A : Type 0} → List Token → Read (List A)
list_end rest = Ok ([], rest)

-- Zero or more entries, separated by commas, up to the symbol that closes them. A trailing comma is allowed. Each entry
-- takes at least one token, so as many turns as there are tokens are enough.
unfoldable pub entries_in : {A : Type 0} → (List Token → Read A) → ℕ → ℕ → List Token → Read (List A)
entries_in entry closing zero tokens = Err BadHeader
entries_in entry closing (suc turns) tokens = if_read (symbol_token_at closing tokens) list_end (do
  first ← entry tokens
  others ← if_read (symbol_token_at closing first.1) list_end (if_read (symbol_token_at 44 first.1) (entries_in entry closing turns) (Err BadHeader))
  Ok (first.0 ∷ others.0, others.1))

-- after `(`: nothing, or a value, a comma and more values
unfoldable pub tuple_in : (List Token → Read Literal) → List Token → Read Literal
tuple_in value tokens = if_read (symbol_token_at 41 tokens) (λ rest. Ok (Row Round no_values, rest)) (do
  first ← value tokens
  behind ← ok_or (symbol_token_at 44 first.1) BadHeader
  others ← entries_in value 41 (length behind) behind
  Ok (Row Round (all_listed_values (first.0 ∷ others.0)), others.1))

-- after `[`: values
unfoldable pub list_in : (List Token → Read Literal) → List Token → Read Literal
list_in value tokens = do
  values ← entries_in value 93 (length tokens) tokens
  Ok (Row Square (all_listed_values values.0), values.1)

-- a key, a colon and a value
unfoldable pub pair_in : (List Token → Read Literal) → List Token → Read Pair
pair_in value tokens = do
  key ← value tokens
  behind ← ok_or (symbol_token_at 58 key.1) BadHeader
  under ← value behind
  Ok (record { key = key.0; value = under.0 }, under.1)

-- after `{`: pairs
abbrev pub pairs_in : (List Token → Read Literal) → List Token → Read (List Pair)
pairs_in value tokens = entries_in (pair_in value) 125 (length tokens) tokens

unfoldable pub dictionary_in : (List Token → Read Literal) → List Token → Read Literal
dictionary_in value tokens = do
  pairs ← pairs_in value tokens
  Ok (Plain Dictionary, pairs.1)

-- after the symbol `b`: a tuple, a list or a dictionary
abbrev pub bracketed : (List Token → Read Literal) → ℕ → List Token → Read Literal
bracketed value b tokens =
    if nat_eq b 40 then tuple_in value tokens
    else if nat_eq b 91 then list_in value tokens
    else if nat_eq b 123 then dictionary_in value tokens
    else Err BadHeader

-- a literal whose brackets are nested at most `depth` deep
unfoldable pub literal_in : ℕ → List Token → Read Literal
literal_in depth [] = Err BadHeader
literal_in depth (token.Text bytes ∷ rest) = Ok (Plain (Text bytes), rest)
literal_in depth (token.Integer n ∷ rest) = Ok (Plain (Integer n), rest)
literal_in depth (token.Truth is ∷ rest) = Ok (Plain (Truth is), rest)
literal_in depth (token.Nothing ∷ rest) = Ok (Plain Nothing, rest)
literal_in depth (token.Stray ∷ rest) = Err BadHeader
literal_in zero (token.Symbol b ∷ rest) = Err BadHeader
literal_in (suc depth) (token.Symbol b ∷ rest) = bracketed (literal_in depth) b rest
