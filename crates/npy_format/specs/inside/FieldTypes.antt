-- The types of fields.
use Rattle.std.specs.Prelude.{ℕ, List, Result, Ok}
use Rattle.npy_format.specs.Words.{Refusal, DescriptorLeftOut, Descr, ◌>>=◌, Structure, typestr, ScalarDescr}
use Rattle.npy_format.specs.Listed.{Literal}
use Rattle.npy_format.specs.RecordLists.{type_of}

-- the scalar of a type string
abbrev pub scalar_in : List ℕ → Result Descr Refusal
scalar_in text = typestr text >>= λ scalar. Ok (ScalarDescr scalar)

-- the type of a field: a type string, or a list
abbrev pub type_in : (List Literal → Result Structure Refusal) → Literal → Result Descr Refusal
type_in record_in value = type_of DescriptorLeftOut record_in value
