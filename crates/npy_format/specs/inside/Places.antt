-- Tokens of a header that begin with some of its values.
use Rattle.std.specs.Prelude.{◌≡◌, ℕ, Bool, List, [], ◌∷◌, Option, Some, None, Result, Ok, Err, MatchResult}
use Rattle.npy_format.specs.Words.{Bor, Refusal, ◌>>=◌, shape_of}
use Rattle.npy_format.specs.Values.{Text, Round}
use Rattle.npy_format.specs.Listed.{Literal, Plain, Row, Pair, value_literals}
use Rattle.npy_format.specs.Tokens.{Token, tokens}
use Rattle.npy_format.specs.Literals.{Read, entries_in, pair_in, literal_in}
use Rattle.npy_format.specs.Headers.{max_value_depth, is_string, lengths_of}

abbrev pub is_key : List ℕ → Pair → Bool
is_key key pair = is_string key pair.key

abbrev pub value_in : List Token → Read Literal
value_in = literal_in max_value_depth

-- the tokens begin with this value
pub record Stands (tokens : List Token) (value : Literal) : Type 0 where
  pub rest : List Token
  pub is : value_in tokens ≡ Ok (value, rest)

-- the tokens begin with these entries and the symbol that closes them
pub record StandIn (A : Type 0) (entry : List Token → Read A) (closing : ℕ) (tokens : List Token) (entries : List A) : Type 0 where
  pub turns : ℕ
  pub rest : List Token
  pub is : entries_in entry closing turns tokens ≡ Ok (entries, rest)

-- the tokens begin with these values and the symbol that closes them
abbrev pub HasValues : ℕ → List Token → List Literal → Type 0
HasValues closing tokens values = StandIn Literal value_in closing tokens values

-- the tokens begin with the pairs of a dictionary and its closing brace
abbrev pub HasPairs : List Token → List Pair → Type 0
HasPairs tokens pairs = StandIn Pair (pair_in value_in) 125 tokens pairs

-- the shape with the lengths of a tuple, or why there is none
abbrev pub shape_under : Literal → Result (Result (List ℕ) Refusal) Refusal
shape_under value = lengths_of value >>= λ lengths. Ok (shape_of lengths)

-- A call returns a text that begins with what is found in `there`, or the same refusal.
abbrev pub BeginsWith : {A : Type 0} → (List Token → A → Type 0) → Result (Bor (List ℕ)) Refusal → Result A Refusal → Type 0
BeginsWith {A} Has result there = MatchResult result (λ text. (found : A) × (there ≡ Ok found) × Has (tokens text.now) found) (λ refusal. there ≡ Err refusal)

-- the name and the type of an entry
abbrev pub name_and_type : List Literal → Option (List ℕ × Literal)
name_and_type (Plain (Text name) ∷ type ∷ []) = Some (name, type)
name_and_type _ = None

abbrev pub entry_parts : Literal → Option (List ℕ × Literal)
entry_parts (Row Round values) = name_and_type (value_literals values)
entry_parts other = None
