-- Writing the header of an array.
use Rattle.std.specs.Prelude.{ℕ, zero, suc, ◌+◌, ◌-◌, ◌%◌, Bool, true, false, List, [], ◌∷◌, ◌++◌, length, codes, decimal, replicate, nat_lt, if◌then◌else◌}
use Rattle.npy_format.specs.Words.{flat_map, little_bytes, Descr, size, Fields, no_more, scalar_field, record_field, spelling, shape_text, ScalarDescr, RecordDescr}
use Rattle.npy_format.specs.Files.{magic}

-- a Python string
abbrev pub quoted : List ℕ → List ℕ
quoted text = codes "'" ++ (text ++ codes "'")

-- an entry of a list: a name and a type
abbrev pub entry : List ℕ → List ℕ → List ℕ
entry name type = codes "(" ++ (quoted name ++ codes ", ") ++ (type ++ codes ")")

-- the entry of a gap of this size, if it is not 0
abbrev pub gap : ℕ → List (List ℕ)
gap zero = []
gap (suc n) = entry [] (quoted (codes "|V" ++ decimal (suc n))) ∷ []

-- entries in brackets, separated by commas
abbrev pub in_brackets : List (List ℕ) → List ℕ
in_brackets [] = codes "[]"
in_brackets (text ∷ texts) = codes "[" ++ (text ++ flat_map (λ later. codes ", " ++ later) texts ++ codes "]")

-- the entries of the fields from byte `from` on, and of the gaps before each and after the last
abbrev pub entries : ℕ → Fields → ℕ → List (List ℕ)
entries from no_more bytes = gap (bytes - from)
entries from (scalar_field name at scalar rest) bytes = gap (at - from) ++ (entry name (quoted (spelling scalar)) ∷ entries (at + size scalar) rest bytes)
entries from (record_field name at size inner rest) bytes = gap (at - from) ++ (entry name (in_brackets (entries 0 inner size)) ∷ entries (at + size) rest bytes)

-- an element type: a type string, or the list of a record's fields
abbrev pub written_descr : Descr → List ℕ
written_descr (ScalarDescr scalar) = quoted (spelling scalar)
written_descr (RecordDescr structure) = in_brackets (entries 0 structure.fields structure.size)

abbrev pub written_truth : Bool → List ℕ
written_truth true = codes "True"
written_truth false = codes "False"

-- the dictionary of a header
abbrev pub written_text : Descr → Bool → List ℕ → List ℕ
written_text descr fortran shape =
    codes "{'descr': " ++ (written_descr descr
    ++ (codes ", 'fortran_order': " ++ (written_truth fortran
    ++ (codes ", 'shape': " ++ (shape_text shape ++ codes ", }")))))

-- the maximum length of a text in version 1.0, which stores the length of the header in two bytes
abbrev pub max_short_text : ℕ
max_short_text = 65525

-- The text, the smallest number of spaces, and a newline, which make a multiple of 64 bytes together with the `before`
-- bytes in front of them.
abbrev pub padded_text : ℕ → List ℕ → List ℕ
padded_text before text = text ++ (replicate ((64 - (before + length text + 1) % 64) % 64) 32 ++ codes "\n")

-- the header in a version that stores the length of the padded text in `width` bytes
abbrev pub in_version : ℕ → ℕ → List ℕ → List ℕ
in_version version width text =
    let padded = padded_text (8 + width) text in
    magic ++ (version ∷ (0 ∷ (little_bytes width (length padded) ++ padded)))

-- the header in version 1.0, or in version 2.0 if the text is too long for 1.0
abbrev pub written_header : List ℕ → List ℕ
written_header text = if nat_lt max_short_text (length text) then in_version 2 4 text else in_version 1 2 text
