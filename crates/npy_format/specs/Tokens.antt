-- The tokens of a header: the tokens of Python that its literals use.
use Rattle.std.specs.Prelude.{ℕ, zero, suc, Bool, true, false, not, ◌&&◌, ◌||◌, List, [], ◌∷◌, length, take, drop, codes, nat_eq, nat_le, if◌then◌else◌}
use Rattle.npy_format.specs.Words.{is_ascii_digit, is_ascii_alphabetic, prefix_len, bytes_eq, value_of}

-- A token: a string (its bytes), an unsigned integer, a word (`True`, `False` or `None`), a symbol (any byte that
-- begins no other token), or something that no literal contains.
pub data Token : Type 0 where
  Text : List ℕ → Token
  Integer : ℕ → Token
  Truth : Bool → Token
  Nothing : Token
  Symbol : ℕ → Token
  Stray : Token

-- a space, a tab, a newline or a carriage return
abbrev pub is_space : ℕ → Bool
is_space b = nat_eq b 32 || nat_eq b 9 || nat_eq b 10 || nat_eq b 13

-- a byte of a string between these quotes: 32 to 126, except the quote and a backslash
abbrev pub is_plain_byte : ℕ → ℕ → Bool
is_plain_byte quote b = nat_le 32 b && nat_le b 126 && not (nat_eq b quote) && not (nat_eq b 92)

-- the end of a string, after its bytes `plain`: the quote; anything else makes it `Stray`
abbrev pub ended_text : List ℕ → ℕ → List ℕ → Token × List ℕ
ended_text plain quote [] = (Stray, [])
ended_text plain quote (b ∷ rest) = if nat_eq b quote then (Text plain, rest) else (Stray, rest)

-- after a quote: a string, and the bytes after it
abbrev pub text_token : ℕ → List ℕ → Token × List ℕ
text_token quote bytes = let n = prefix_len (is_plain_byte quote) bytes in ended_text (take n bytes) quote (drop n bytes)

-- `0`, or digits that do not begin with 0
abbrev pub is_integer : List ℕ → Bool
is_integer [] = false
is_integer (b ∷ digits) = not (nat_eq b 48) || nat_eq (length digits) 0

-- the bytes after the digits of an integer, without an `L` that may follow the digits
abbrev pub behind_long : List ℕ → List ℕ
behind_long [] = []
behind_long (b ∷ rest) = if nat_eq b 76 then rest else b ∷ rest

-- an integer, and the bytes after it
abbrev pub integer_token : List ℕ → Token × List ℕ
integer_token bytes =
    let n = prefix_len is_ascii_digit bytes in
    (if is_integer (take n bytes) then Integer (value_of (take n bytes)) else Stray, behind_long (drop n bytes))

-- the words that are values
abbrev pub word : List ℕ → Token
word letters =
    if bytes_eq letters (codes "True") then Truth true
    else if bytes_eq letters (codes "False") then Truth false
    else if bytes_eq letters (codes "None") then Nothing
    else Stray

abbrev pub word_token : List ℕ → Token × List ℕ
word_token bytes = let n = prefix_len is_ascii_alphabetic bytes in (word (take n bytes), drop n bytes)

-- The token that begins with the byte `b`, which is not a space, and the bytes after it. A string begins with an
-- apostrophe or a quotation mark.
abbrev pub token_from : ℕ → List ℕ → Token × List ℕ
token_from b rest =
    if nat_eq b 39 || nat_eq b 34 then text_token b rest
    else if is_ascii_digit b then integer_token (b ∷ rest)
    else if is_ascii_alphabetic b then word_token (b ∷ rest)
    else (Symbol b, rest)

-- a text without the spaces at its front
abbrev pub unspaced_text : List ℕ → List ℕ
unspaced_text bytes = drop (prefix_len is_space bytes) bytes

-- the first token, and those that `later` reads after it
abbrev pub first_token : (List ℕ → List Token) → List ℕ → List Token
first_token later [] = []
first_token later (b ∷ rest) = let t = token_from b rest in t.0 ∷ later t.1

-- The tokens, read in at most `turns` turns, each of which takes at least one byte. Spaces may come before, between and
-- after them.
abbrev pub tokens_in : ℕ → List ℕ → List Token
tokens_in zero bytes = []
tokens_in (suc turns) bytes = first_token (tokens_in turns) (unspaced_text bytes)

-- the tokens of a text
unfoldable pub tokens : List ℕ → List Token
tokens text = tokens_in (length text) text
