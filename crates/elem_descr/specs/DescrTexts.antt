-- A descriptor in a script: a type string or a format text.
use Rattle.std.specs.Prelude.{ℕ, Bool, List, [], ◌∷◌, codes, ◌&&◌, if◌then◌else◌, Result, Ok}
use Rattle.std.proofs.Common.{false}
use Rattle.elem_descr.specs.Words.{is_ascii_digit}
use Rattle.elem_descr.specs.declared.refusal.Refusal.{Refusal}
use Rattle.elem_descr.specs.declared.descr.Descr.{Descr}
use Rattle.elem_descr.specs.declared.descr.Descr.TheVariants.{Scalar as ScalarDescr}
use Rattle.elem_descr.specs.Refusals.{◌>>=◌}
use Rattle.elem_descr.specs.TypeStrings.{is_one_of, typestr}
use Rattle.elem_descr.specs.TypeStrings as type_strings
use Rattle.elem_descr.specs.FormatTexts.{format}

-- `S` alone, or a kind letter of NumPy followed by a digit
abbrev pub is_kind : List ℕ → Bool
is_kind (letter ∷ []) = is_one_of (codes "S") letter
is_kind (letter ∷ (next ∷ rest)) = is_one_of (codes "biuSfcmMOUV") letter && is_ascii_digit next
is_kind [] = false

-- an optional byte-order mark, followed by such a kind
abbrev pub is_type_string : List ℕ → Bool
is_type_string text = is_kind (type_strings.marked text).1

-- the descriptor that a text in a script means, or the refusal for the first error in it
unfoldable pub descriptor : List ℕ → Result Descr Refusal
descriptor text = if is_type_string text then (typestr text >>= λ scalar. Ok (ScalarDescr scalar)) else format text
