-- Parts of a written header.
use Rattle.std.specs.Prelude.{ℕ, ◌+◌, ◌-◌, ◌%◌, Bool, true, false, List, [], ◌∷◌, ◌++◌, codes, length}
use Rattle.npy_format.specs.Words.{little_bytes}
use Rattle.npy_format.specs.WrittenHeaders.{quoted}

-- an entry of a list, up to its type
abbrev pub opened_entry : List ℕ → List ℕ
opened_entry name = codes "(" ++ (quoted name ++ codes ", ")

-- the text before an entry: empty for the first entry
abbrev pub entry_separator : Bool → List ℕ
entry_separator true = []
entry_separator false = codes ", "

-- entries separated by commas; `first` says whether they begin with the first entry of the list
abbrev pub separated : Bool → List (List ℕ) → List ℕ
separated first [] = []
separated first (text ∷ texts) = entry_separator first ++ (text ++ separated false texts)

-- the smallest number of spaces that pad `bytes` bytes and a newline to a multiple of 64 bytes
abbrev pub spaces_after : ℕ → ℕ
spaces_after bytes = (64 - (bytes + 1) % 64) % 64

-- a header with its length in front, in `width` bytes
abbrev pub with_length : ℕ → List ℕ → List ℕ
with_length width text = little_bytes width (length text) ++ text
