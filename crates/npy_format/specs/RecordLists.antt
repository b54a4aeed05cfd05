-- Element types in a header: a type string, or a list of the fields of a record.
use Rattle.std.specs.Prelude.{ℕ, zero, suc, false, ◌&&◌, not, List, [], ◌∷◌, nat_eq, if◌then◌else◌, Result, Ok, Err}
use Rattle.npy_format.specs.Words.{is_ascii_digit, list_all, Refusal, BadDescriptor, DescriptorLeftOut, Descr, ◌>>=◌, check, Structure, is_legal_name, marked, value_of, typestr, is_empty, Partial, max_depth, empty, checked_name, added, widened, closed_record, ScalarDescr, RecordDescr}
use Rattle.npy_format.specs.Values.{Round, Square, Text}
use Rattle.npy_format.specs.Listed.{Literal, Plain, Row, value_literals}

-- the number of bytes of padding: `V` and digits
abbrev pub pad_kind : List ℕ → Result ℕ Refusal
pad_kind [] = Err DescriptorLeftOut
pad_kind (b ∷ digits) =
    if nat_eq b 86 && not (is_empty digits) && list_all is_ascii_digit digits then Ok (value_of digits)
    else Err DescriptorLeftOut

-- the record with padding added, for an entry with an empty name. Its type is an optional mark, `V` and the number of
-- bytes.
abbrev pub pad_in : Partial → Literal → Result Partial Refusal
pad_in p (Plain (Text text)) = pad_kind (marked text).1 >>= widened p
pad_in p other = Err DescriptorLeftOut

-- the element type that a value means: a type string, or a list; other values are refused in this way
abbrev pub type_of : Refusal → (List Literal → Result Structure Refusal) → Literal → Result Descr Refusal
type_of refusal record_in (Plain (Text text)) = typestr text >>= λ scalar. Ok (ScalarDescr scalar)
type_of refusal record_in (Row Square values) = record_in (value_literals values) >>= λ whole. Ok (RecordDescr whole)
type_of refusal record_in other = Err refusal

-- reads the fields of a record, given the number of leaves of the whole type before it
abbrev pub Reader : Type 0
Reader = ℕ → List Literal → Result Structure Refusal

-- the record with one more field, directly after those before it
unfoldable pub field_in : Reader → Partial → List ℕ → Literal → Result Partial Refusal
field_in within p name type = do
  _ ← check (is_legal_name name) DescriptorLeftOut
  descr ← type_of DescriptorLeftOut (within p.leaves) type
  _ ← checked_name p name
  added p name 1 descr

-- the record with an entry added that consists of a name and a type
abbrev pub named_in : Reader → Partial → List Literal → Result Partial Refusal
named_in within p (Plain (Text name) ∷ type ∷ []) = if is_empty name then pad_in p type else field_in within p name type
named_in within p _ = Err DescriptorLeftOut

-- the record with an entry added: a tuple of a name and a type
abbrev pub entry_in : Reader → Partial → Literal → Result Partial Refusal
entry_in within p (Row Round values) = named_in within p (value_literals values)
entry_in within p other = Err DescriptorLeftOut

-- the record with all entries added, in order
abbrev pub fields_in : Reader → Partial → List Literal → Result Partial Refusal
fields_in within p [] = Ok p
fields_in within p (entry ∷ more) = entry_in within p entry >>= λ next. fields_in within next more

-- a record that is at most this deep, itself included; nothing in it is aligned
unfoldable pub record_in : ℕ → Reader
record_in zero leaves entries = Err DescriptorLeftOut
record_in (suc levels) leaves entries = fields_in (record_in levels) (empty levels leaves) entries >>= closed_record false

-- the element type of an array
abbrev pub descr_in : Literal → Result Descr Refusal
descr_in value = type_of BadDescriptor (record_in max_depth 0) value
