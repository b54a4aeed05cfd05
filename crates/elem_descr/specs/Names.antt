-- The names of fields.
use Rattle.std.specs.Prelude.{ℕ, Bool, List, length, codes, nat_le, not, ◌&&◌}
use Rattle.elem_descr.specs.Words.{list_all}
use Rattle.elem_descr.specs.TypeStrings.{is_one_of}

-- a printable ASCII byte other than the two quotes, the backslash and the colon
abbrev pub is_field_name_byte : ℕ → Bool
is_field_name_byte b = nat_le 32 b && nat_le b 126 && not (is_one_of (codes "'\"\\:") b)

-- a name is 1 to 64 such bytes
abbrev pub is_legal_name : List ℕ → Bool
is_legal_name name = nat_le 1 (length name) && nat_le (length name) 64 && list_all is_field_name_byte name
