-- The tokens that remain after reading.
use Rattle.std.specs.Prelude.{ℕ, Bool, true, false, List, length, Result, Ok}
use Rattle.npy_format.specs.Words.{Bor, ok_or, Refusal, BadHeader, ◌>>=◌, Answers}
use Rattle.npy_format.specs.Listed.{Literal}
use Rattle.npy_format.specs.Tokens.{Token, tokens}
use Rattle.npy_format.specs.Literals.{Read, symbol_token_at, entries_in, if_read, pair_in, literal_in}
use Rattle.npy_format.specs.Headers.{max_value_depth}

-- A call returns a text with the expected tokens `there`, or the same refusal.
abbrev pub Follows : Result (Bor (List ℕ)) Refusal → Result (List Token) Refusal → Type 0
Follows result there = Answers (λ rest. tokens rest.now) result there

-- the tokens after what is read
abbrev pub behind : {A : Type 0} → Read A → Result (List Token) Refusal
behind read = read >>= λ r. Ok r.1

-- the tokens after entries and the symbol that closes them
abbrev pub behind_entries : {A : Type 0} → (List Token → Read A) → ℕ → List Token → Result (List Token) Refusal
behind_entries entry closing tokens = behind (entries_in entry closing (length tokens) tokens)

-- the tokens after a key and its colon
abbrev pub behind_key : (List Token → Read Literal) → List Token → Result (List Token) Refusal
behind_key value tokens = behind (value tokens) >>= λ rest. ok_or (symbol_token_at 58 rest) BadHeader

-- the tokens after a comma, if there is one
abbrev pub behind_comma : List Token → List Token
behind_comma tokens = if_read (symbol_token_at 44 tokens) (λ rest. rest) tokens

-- the tokens after one of the entries, and after the comma if one follows it
abbrev pub behind_entry : {A : Type 0} → (List Token → Read A) → List Token → Result (List Token) Refusal
behind_entry entry tokens = behind (entry tokens) >>= λ rest. Ok (behind_comma rest)

-- the tokens after an entry, which is a pair or a value
abbrev pub behind_one : ℕ → Bool → List Token → Result (List Token) Refusal
behind_one depth true tokens = behind (pair_in (literal_in depth) tokens)
behind_one depth false tokens = behind (literal_in depth tokens)

-- the tokens after all such entries and the symbol that closes them
abbrev pub behind_all : ℕ → Bool → ℕ → List Token → Result (List Token) Refusal
behind_all depth true closing tokens = behind_entries (pair_in (literal_in depth)) closing tokens
behind_all depth false closing tokens = behind_entries (literal_in depth) closing tokens

-- the tokens after one of the entries, and after the comma if one follows it
abbrev pub behind_next : Bool → List Token → Result (List Token) Refusal
behind_next is_pair tokens = behind_one max_value_depth is_pair tokens >>= λ rest. Ok (behind_comma rest)
