-- The header of a file: one dictionary, and what it says about an array.
use Rattle.std.specs.Prelude.{◌≡◌, ◌≤◌, ℕ, Bool, false, List, [], ◌∷◌, codes, length, nat_eq, if◌then◌else◌, Result, Ok, Err}
use Rattle.npy_format.specs.Words.{ok_or, bytes_eq, Refusal, BadHeader, ◌>>=◌, check, shape_of}
use Rattle.npy_format.specs.Tokens.{Token, tokens_in, tokens}
use Rattle.npy_format.specs.Values.{Round, Text, Integer, Truth}
use Rattle.npy_format.specs.Listed.{Literal, Plain, Row, Pair, value_literals}
use Rattle.npy_format.specs.declared.header.Header.{Header}
use Rattle.npy_format.specs.Literals.{Read, symbol_token_at, entries_in, pair_in, pairs_in, literal_in}
use Rattle.npy_format.specs.RecordLists.{descr_in}

-- how deep brackets may be nested in a value of the dictionary
abbrev pub max_value_depth : ℕ
max_value_depth = 15

-- the pairs of the dictionary that the tokens are; nothing may follow it
abbrev pub dictionary_of : List Token → Result (List Pair) Refusal
dictionary_of tokens = do
  inside ← ok_or (symbol_token_at 123 tokens) BadHeader
  pairs ← pairs_in (literal_in max_value_depth) inside
  _ ← check (nat_eq (length pairs.1) 0) BadHeader
  Ok pairs.0

-- whether a literal is this string
abbrev pub is_string : List ℕ → Literal → Bool
is_string bytes (Plain (Text text)) = bytes_eq bytes text
is_string bytes other = false

-- the value of the first pair with this key
abbrev pub value_under : List ℕ → List Pair → Result Literal Refusal
value_under key [] = Err BadHeader
value_under key (pair ∷ pairs) = if is_string key pair.key then Ok pair.value else value_under key pairs

abbrev pub truth_of : Literal → Result Bool Refusal
truth_of (Plain (Truth truth)) = Ok truth
truth_of other = Err BadHeader

-- the integers that the values are; any other value is refused
abbrev pub integers_of : List Literal → Result (List ℕ) Refusal
integers_of [] = Ok []
integers_of (Plain (Integer n) ∷ values) = integers_of values >>= λ integers. Ok (n ∷ integers)
integers_of (value ∷ values) = Err BadHeader

-- the integers of a tuple
abbrev pub lengths_of : Literal → Result (List ℕ) Refusal
lengths_of (Row Round values) = integers_of (value_literals values)
lengths_of other = Err BadHeader

-- There are three pairs, one for each of the three keys. The element type and the shape are checked only after all
-- three values are known to have the right form.
unfoldable pub header_of : List Pair → Result Header Refusal
header_of pairs = do
  _ ← check (nat_eq (length pairs) 3) BadHeader
  element ← value_under (codes "descr") pairs
  order ← value_under (codes "fortran_order") pairs
  fortran ← truth_of order
  tuple ← value_under (codes "shape") pairs
  lengths ← lengths_of tuple
  descr ← descr_in element
  shape ← shape_of lengths
  Ok (record { descr = descr; fortran = fortran; shape = shape })

-- what the text of a header says, or the refusal for the first error in it
abbrev pub header : List ℕ → Result Header Refusal
header text = dictionary_of (tokens text) >>= header_of

-- Entries are read the same in any number of turns that is at least the number of tokens.
abbrev pub EntriesAnyTurns : {A : Type 0} → (List Token → Read A) → ℕ → Type 0
EntriesAnyTurns entry closing = (turns : ℕ) (tokens : List Token) → length tokens ≤ turns → entries_in entry closing turns tokens ≡ entries_in entry closing (length tokens) tokens

-- The tokens of a header are the same in any number of turns that is at least the number of its bytes. So are the
-- values of each tuple and list and the pairs of each dictionary, if the number of turns is at least the number of
-- tokens.
abbrev pub HeaderAnyTurns : Type 0
HeaderAnyTurns =
    ((turns : ℕ) (text : List ℕ) → length text ≤ turns → tokens_in turns text ≡ tokens text)
    × ((depth : ℕ) → EntriesAnyTurns (literal_in depth) 41 × EntriesAnyTurns (literal_in depth) 93 × EntriesAnyTurns (pair_in (literal_in depth)) 125)
