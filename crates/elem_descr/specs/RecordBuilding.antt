-- Building a record field by field.
use Rattle.std.specs.Prelude.{ℕ, ◌+◌, ◌≤◌, max, Bool, not, List, [], ◌∷◌, ◌++◌, length, nat_le, if◌then◌else◌, Result, Ok, Err}
use Rattle.std.proofs.Common.{nat_lt}
use Rattle.elem_descr.specs.Words.{next_multiple_of, list_any, bytes_eq}
use Rattle.elem_descr.specs.declared.refusal.Refusal.{Refusal}
use Rattle.elem_descr.specs.declared.refusal.Refusal.TheVariants.{BadDescriptor, DescriptorLeftOut, TooLarge}
use Rattle.elem_descr.specs.declared.descr.Field.{Field}
use Rattle.elem_descr.specs.declared.descr.Descr.{Descr}
use Rattle.elem_descr.specs.declared.descr.Descr.TheVariants.{Scalar as ScalarDescr, Record as RecordDescr}
use Rattle.elem_descr.specs.Refusals.{◌>>=◌, check}
use Rattle.elem_descr.specs.Fields.{Structure}
use Rattle.elem_descr.specs.Descriptors.{IsLegal, listed, depth}
use Rattle.elem_descr.specs.Items.{item_size, leaves_of}

-- the maximum number of bytes of an item
abbrev pub max_size : ℕ
max_size = 65536

-- the maximum depth of nested records, the outermost included
abbrev pub max_depth : ℕ
max_depth = 4

-- the maximum number of fields of a record
abbrev pub max_fields : ℕ
max_fields = 64

-- the maximum number of leaves of an item
abbrev pub max_leaves : ℕ
max_leaves = 2048

-- A record being built: its number of bytes so far, the greatest alignment of its fields, the number of leaves of the
-- whole type so far, how many levels of records may be nested in it, and its fields so far.
pub record Partial : Type 0 where
  pub size : ℕ
  pub alignment : ℕ
  pub leaves : ℕ
  pub levels : ℕ
  pub fields : List Field

abbrev pub built : ℕ → ℕ → ℕ → ℕ → List Field → Partial
built size alignment leaves levels fields = record { size = size; alignment = alignment; leaves = leaves; levels = levels; fields = fields }

-- a record before its first field
abbrev pub empty : ℕ → ℕ → Partial
empty levels leaves = record { size = 0; alignment = 1; leaves = leaves; levels = levels; fields = [] }

abbrev pub is_taken : List Field → List ℕ → Bool
is_taken fields name = list_any (λ field. bytes_eq field.name name) fields

-- the record with a field added after its bytes so far, at a multiple of the field's alignment
abbrev pub with_field : Partial → List ℕ → ℕ → Descr → Partial
with_field p name alignment descr =
    let at = next_multiple_of p.size alignment in
    record p {
      size = at + item_size descr;
      alignment = max p.alignment alignment;
      leaves = p.leaves + length (leaves_of descr);
      fields = p.fields ++ record { name = name; at = at; descr = descr } ∷ [];
    }

abbrev pub if_small : Partial → Result Partial Refusal
if_small p = if nat_le p.size max_size then Ok p else Err TooLarge

-- checks that the record may get one more field, and that the name is not taken
unfoldable pub checked_name : Partial → List ℕ → Result (Unit {0}) Refusal
checked_name p name = do
  _ ← check (not (is_taken p.fields name)) BadDescriptor
  check (nat_lt (length p.fields) max_fields) TooLarge

-- the record with a field added, refused if the type has too many leaves or the record too many bytes
unfoldable pub added : Partial → List ℕ → ℕ → Descr → Result Partial Refusal
added p name alignment descr = do
  _ ← check (nat_le (p.leaves + length (leaves_of descr)) max_leaves) TooLarge
  if_small (with_field p name alignment descr)

-- the record with `n` bytes of padding added
unfoldable pub widened : Partial → ℕ → Result Partial Refusal
widened p n = if_small (record p { size = p.size + n })

-- a field of a record in which records may be nested `levels` deep: a scalar, or a legal record that is not deeper
abbrev pub IsShallow : ℕ → Descr → Type 0
IsShallow levels (ScalarDescr scalar) = Unit {0}
IsShallow levels (RecordDescr structure) = IsLegal structure × (depth structure.fields ≤ levels)

-- the number of bytes of the complete record, rounded up to a multiple of its alignment if it is aligned
abbrev pub closed_size : Bool → Partial → ℕ
closed_size is_aligned p = if is_aligned then next_multiple_of p.size p.alignment else p.size

-- the complete record, refused if it has no fields or too many bytes
unfoldable pub closed_record : Bool → Partial → Result Structure Refusal
closed_record is_aligned p = do
  _ ← check (nat_le 1 (length p.fields)) DescriptorLeftOut
  _ ← check (nat_le (closed_size is_aligned p) max_size) TooLarge
  Ok (record { size = closed_size is_aligned p; fields = listed p.fields })
