-- Format texts of PEP 3118: splitting a text into pieces, before they are given a meaning. `T{<5s:a:4x}` has the pieces
-- `T{`, `<`, `5s:a:`, `4x` and `}`.
use Rattle.std.specs.Prelude.{ℕ, Bool, List, [], ◌∷◌, codes, if◌then◌else◌}
use Rattle.elem_descr.specs.Words.{is_ascii_digit}
use Rattle.elem_descr.specs.TypeStrings.{is_one_of}

-- what directly follows a letter: nothing, a name between two colons, or a colon without a second one
pub data Behind : Type 0 where
  nothing : Behind
  between_colons : List ℕ → Behind
  lone_colon : Behind

-- A piece is a letter (any byte) with the digits before it and what follows it, or a `T{` with the digits before it. A
-- brace without a `T` before it, and a name without a letter before it, are pieces of their own, which are invalid.
pub data Piece : Type 0 where
  letter : List ℕ → ℕ → Behind → Piece
  opening : List ℕ → Piece
  brace : Piece
  stray : Behind → Piece

-- A digit belongs to the count of the letter or the `T{` that follows it. If none follows, it is a letter of its own,
-- which has no meaning.
abbrev pub digit_onto : ℕ → List Piece → List Piece
digit_onto d (letter digits b behind ∷ more) = letter (d ∷ digits) b behind ∷ more
digit_onto d (opening digits ∷ more) = opening (d ∷ digits) ∷ more
digit_onto d more = letter [] d nothing ∷ more

-- A letter takes the name that follows it, and `T` takes the brace that follows it.
abbrev pub letter_onto : ℕ → List Piece → List Piece
letter_onto b (stray behind ∷ more) = letter [] b behind ∷ more
letter_onto b (brace ∷ more) = if is_one_of (codes "T") b then opening [] ∷ more else letter [] b nothing ∷ (brace ∷ more)
letter_onto b more = letter [] b nothing ∷ more

-- the pieces `more` with one byte in front
abbrev pub byte_onto : ℕ → List Piece → List Piece
byte_onto b more =
    if is_one_of (codes "{") b then brace ∷ more
    else if is_ascii_digit b then digit_onto b more
    else letter_onto b more

-- the pieces of `bytes`, which contain no colon, followed by the pieces `more`
abbrev pub pieces_before : List Piece → List ℕ → List Piece
pieces_before more [] = more
pieces_before more (b ∷ bytes) = byte_onto b (pieces_before more bytes)

abbrev pub is_colon : ℕ → Bool
is_colon b = is_one_of (codes ":") b

-- the bytes before the first colon, and for each colon the bytes after it, up to the next colon or the end
abbrev pub cut_at_colons : List ℕ → List ℕ × List (List ℕ)
cut_at_colons [] = ([], [])
cut_at_colons (b ∷ rest) = let cut = cut_at_colons rest in if is_colon b then ([], cut.0 ∷ cut.1) else (b ∷ cut.0, cut.1)

-- Names are between the first colon and the second, between the third and the fourth, and so on.
abbrev pub pieces_between : List ℕ → List (List ℕ) → List Piece
pieces_between bytes [] = pieces_before [] bytes
pieces_between bytes (unended ∷ []) = pieces_before (stray lone_colon ∷ []) bytes
pieces_between bytes (called ∷ (next ∷ more)) = pieces_before (stray (between_colons called) ∷ pieces_between next more) bytes

-- the pieces of a text
abbrev pub pieces : List ℕ → List Piece
pieces text = let cut = cut_at_colons text in pieces_between cut.0 cut.1
