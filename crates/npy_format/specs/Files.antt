-- Reading the bytes of NPY files, from the front.
use Rattle.std.specs.Prelude.{◌≡◌, ◌⊎◌, ℕ, ◌*◌, ◌^◌, Bool, List, [], ◌∷◌, length, take, drop, nat_le, if◌then◌else◌, Result, Ok, Err}
use Rattle.npy_format.specs.Words.{bytes_eq, little_number, Refusal, BadMagic, BadVersion, Truncated, TooLarge, OutOfMemory, ◌>>=◌, check, item_size, MemoryOrder, C, Fortran, max_bytes, count, offsets, Owned, offsets_in}
use Rattle.npy_format.specs.declared.header.Header.{Header}
use Rattle.npy_format.specs.Headers.{header}

-- the magic bytes: 93 hex and the letters `NUMPY`
abbrev pub magic : List ℕ
magic = 147 ∷ (78 ∷ (85 ∷ (77 ∷ (80 ∷ (89 ∷ [])))))

-- the maximum length of a header
abbrev pub max_header : ℕ
max_header = 2 ^ 20

-- the first `n` bytes and the bytes after them, or `Truncated` if there are fewer than `n`
abbrev pub split_front : ℕ → List ℕ → Result (List ℕ × List ℕ) Refusal
split_front n bytes = if nat_le n (length bytes) then Ok (take n bytes, drop n bytes) else Err Truncated

-- the number of bytes that store the length of the header: two in version 1.0, four in 2.0
abbrev pub length_bytes : List ℕ → Result ℕ Refusal
length_bytes version =
    if bytes_eq version (1 ∷ (0 ∷ [])) then Ok 2
    else if bytes_eq version (2 ∷ (0 ∷ [])) then Ok 4
    else Err BadVersion

-- the text of the header, whose length is the little-endian number in `field`, and the bytes after it
abbrev pub text_behind : List ℕ → List ℕ → Result (List ℕ × List ℕ) Refusal
text_behind field behind =
    let n = little_number (length field) field in
    check (nat_le n max_header) TooLarge >>= λ _. split_front n behind

-- whether a file begins with the magic bytes; a file that is too short for them does not
abbrev pub begins_well : List ℕ → Bool
begins_well file = bytes_eq (take 6 file) magic

-- the text of a file's header, and the bytes after it
unfoldable pub split_header : List ℕ → Result (List ℕ × List ℕ) Refusal
split_header file = do
  _ ← check (begins_well file) BadMagic
  version ← split_front 2 (drop 6 file)
  width ← length_bytes version.0
  field ← split_front width version.1
  text_behind field.0 field.1

-- the number of bytes of all items
abbrev pub data_size : Header → ℕ
data_size head = count head.shape * item_size head.descr

-- what is loaded from a file: its header, the bytes of the items, and the number of bytes left over
pub record Loaded : Type 0 where
  pub head : Header
  pub items : List ℕ
  pub rest : ℕ

-- what is loaded, given the text of the header and the bytes after it; the offset at which the items begin is not checked
unfoldable pub load_behind : List ℕ → List ℕ → Result Loaded Refusal
load_behind text behind = do
  head ← header text
  _ ← check (nat_le (data_size head) max_bytes) TooLarge
  body ← split_front (data_size head) behind
  Ok (record { head = head; items = body.0; rest = length body.1 })

-- what is loaded from a file, or the first refusal
unfoldable pub load : List ℕ → Result Loaded Refusal
load file = split_header file >>= λ parts. load_behind parts.0 parts.1

-- the order of the items in a file
abbrev pub file_order : Bool → MemoryOrder
file_order fortran = if fortran then Fortran else C

-- The array has the element type and the shape of the header, and these bytes as its block, in which its items have the
-- order of the file.
pub record HoldsFileItems (array : Owned) (head : Header) (items : List ℕ) : Type 0 where
  pub descr : array.descr ≡ head.descr
  pub shape : array.layout.shape ≡ head.shape
  pub order : offsets array.layout ≡ offsets_in (file_order head.fortran) (item_size head.descr) head.shape
  pub block : array.block ≡ items

-- A call returns the array and the number of bytes left over that `there` says, or the same refusal. Instead, it may
-- refuse because memory runs out.
abbrev pub Loads : Result (Owned × ℕ) Refusal → Result Loaded Refusal → Type 0
Loads (Ok answer) there = (l : Loaded) × (there ≡ Ok l) × HoldsFileItems answer.0 l.head l.items × (answer.1 ≡ l.rest)
Loads (Err refusal) there = (refusal ≡ OutOfMemory) ⊎ (there ≡ Err refusal)
