-- The tokens of a line. Blanks may precede each token, except where a comment says 'at once'.
use Rattle.std.specs.Prelude.{ℕ, ℤ, pos, neg_ℤ, Bool, true, false, List, [], ◌∷◌, length, Option, Some, None, is_some, nat_eq, nat_le, if◌then◌else◌, take, drop, not, ◌||◌, ◌&&◌}
use Rattle.script_lang.specs.Words.{is_ascii_digit, is_ascii_alphabetic, prefix_len, list_all, option_map, bytes_eq, value_of}
use Rattle.script_lang.specs.Verbs.{verb_of, is_constant}
use Rattle.script_lang.specs.Readers.{ReaderOf, ◌>>=◌, if_found, one_part, only}

-- a space or a tab
abbrev pub is_blank : ℕ → Bool
is_blank b = nat_eq b 32 || nat_eq b 9

abbrev pub is_sign : ℕ → Bool
is_sign b = nat_eq b 43 || nat_eq b 45

-- a letter or an underscore
abbrev pub is_name_start : ℕ → Bool
is_name_start b = is_ascii_alphabetic b || nat_eq b 95

abbrev pub is_name_byte : ℕ → Bool
is_name_byte b = is_name_start b || is_ascii_digit b

-- the bytes after the blanks at the front
abbrev pub unspaced : List ℕ → List ℕ
unspaced bytes = drop (prefix_len is_blank bytes) bytes

-- the byte `b`, at once
abbrev pub byte_at : ℕ → List ℕ → Option (List ℕ)
byte_at b [] = None
byte_at b (c ∷ bytes) = if nat_eq c b then Some bytes else None

-- the byte `b`
abbrev pub symbol_at : ℕ → List ℕ → Option (List ℕ)
symbol_at b bytes = byte_at b (unspaced bytes)

-- what is read after the byte `b`
abbrev pub behind : {A : Type 0} → ℕ → ReaderOf A → ReaderOf A
behind b read bytes = symbol_at b bytes >>= read

-- only blanks remain
abbrev pub is_at_end : List ℕ → Bool
is_at_end bytes = nat_eq (length (unspaced bytes)) 0

-- the first n bytes, unless n is 0
abbrev pub front_of : ℕ → ReaderOf (List ℕ)
front_of n bytes = if nat_eq n 0 then None else Some (take n bytes, drop n bytes)

-- the longest prefix whose bytes pass the test, if it is not empty, at once
abbrev pub front_at : (ℕ → Bool) → ReaderOf (List ℕ)
front_at test bytes = front_of (prefix_len test bytes) bytes

-- `b'`, which begins a bytes literal, at once
unfoldable pub bytes_mark_at : List ℕ → Option (List ℕ)
bytes_mark_at bytes = byte_at 98 bytes >>= byte_at 39

-- Blanks must separate words, numbers and descriptors from a word or a number that follows. A bytes literal may follow
-- at once.
unfoldable pub is_parted : List ℕ → Bool
is_parted [] = true
is_parted (b ∷ bytes) = if is_name_byte b || is_sign b then is_some (bytes_mark_at (b ∷ bytes)) else true

-- a word: letters, digits and underscores
unfoldable pub word_at : ReaderOf (List ℕ)
word_at bytes = only (λ word. is_parted word.1) (front_at is_name_byte) (unspaced bytes)

-- the word `keyword`
unfoldable pub keyword_at : List ℕ → List ℕ → Option (List ℕ)
keyword_at keyword bytes = option_map (λ word. word.1) (only (λ word. bytes_eq word.0 keyword) word_at bytes)

-- a word that has a meaning
abbrev pub meaning_at : {A : Type 0} → (List ℕ → Option A) → ReaderOf A
meaning_at meaning bytes = word_at bytes >>= λ word. option_map (λ it. (it, word.1)) (meaning word.0)

-- the first byte passes the test
abbrev pub starts_with : (ℕ → Bool) → List ℕ → Bool
starts_with test [] = false
starts_with test (b ∷ bytes) = test b

-- a word that is the name of an array unless it is a verb: it does not begin with a digit, has at most 32 bytes and is
-- not `True`, `False` or `None`
abbrev pub names_unless_verb : List ℕ → Bool
names_unless_verb word = starts_with is_name_start word && nat_le (length word) 32 && not (is_constant word)

abbrev pub is_name : List ℕ → Bool
is_name word = names_unless_verb word && not (is_some (verb_of word))

-- X, Y: a name
unfoldable pub name_at : ReaderOf (List ℕ)
name_at bytes = only (λ word. is_name word.0) word_at bytes

-- one to 30 digits, at once
unfoldable pub number_at : ReaderOf ℕ
number_at bytes =
    one_part value_of (only (λ digits. nat_le (length digits.0) 30 && is_parted digits.1) (front_at is_ascii_digit)) bytes

-- an integer without a sign
unfoldable pub length_at : ReaderOf ℕ
length_at bytes = number_at (unspaced bytes)

-- an integer: digits after an optional sign
unfoldable pub integer_at : ReaderOf ℤ
integer_at bytes =
    if_found (symbol_at 45 bytes) (one_part (λ n. neg_ℤ (pos n)) number_at)
    (if_found (symbol_at 43 bytes) (one_part pos number_at) (one_part pos length_at bytes))

-- whether a word comes next
unfoldable pub flag_at : List ℕ → ReaderOf Bool
flag_at keyword bytes = if_found (keyword_at keyword bytes) (λ rest. Some (true, rest)) (Some (false, bytes))

abbrev pub is_unquoted : ℕ → Bool
is_unquoted b = not (nat_eq b 34)

-- the bytes between two quotation marks
unfoldable pub quoted_at : ReaderOf (List ℕ)
quoted_at bytes = do
  inside ← symbol_at 34 bytes
  rest ← byte_at 34 (drop (prefix_len is_unquoted inside) inside)
  Some (take (prefix_len is_unquoted inside) inside, rest)

-- a letter, a digit, an underscore, a full stop or a hyphen
abbrev pub is_file_byte : ℕ → Bool
is_file_byte b = is_name_byte b || nat_eq b 46 || nat_eq b 45

-- 1 to 64 of those bytes, beginning with neither a full stop nor a hyphen
abbrev pub is_file_name : List ℕ → Bool
is_file_name name = starts_with is_name_byte name && nat_le (length name) 64 && list_all is_file_byte name

-- the name of a file between quotation marks
unfoldable pub file_name_at : ReaderOf (List ℕ)
file_name_at bytes = only (λ name. is_file_name name.0) quoted_at bytes
