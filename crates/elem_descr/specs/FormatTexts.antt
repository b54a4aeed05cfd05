-- Format texts of PEP 3118: the descriptor that a text means, or the refusal for the first error from the left.
use Rattle.std.specs.Prelude.{ℕ, ◌&&◌, List, [], ◌∷◌, ◌++◌, length, codes, decimal, nat_le, if◌then◌else◌, Option, Some, None, unwrap_or, Result, Ok, Err}
use Rattle.std.proofs.Common.{zero, suc}
use Rattle.elem_descr.specs.Words.{option_map}
use Rattle.elem_descr.specs.declared.refusal.Refusal.{Refusal}
use Rattle.elem_descr.specs.declared.refusal.Refusal.TheVariants.{BadDescriptor, DescriptorLeftOut, TooLarge}
use Rattle.elem_descr.specs.declared.descr.Descr.{Descr}
use Rattle.elem_descr.specs.declared.descr.Descr.TheVariants.{Scalar as ScalarDescr, Record as RecordDescr}
use Rattle.elem_descr.specs.declared.format_text.record.Body.{Body}
use Rattle.elem_descr.specs.declared.format_text.mark.Mark.{Mark}
use Rattle.elem_descr.specs.declared.format_text.mark.Mark.TheVariants.{Aligned}
use Rattle.elem_descr.specs.Refusals.{◌>>=◌, check}
use Rattle.elem_descr.specs.Encoding.{size}
use Rattle.elem_descr.specs.Names.{is_legal_name}
use Rattle.elem_descr.specs.TypeStrings.{is_one_of}
use Rattle.elem_descr.specs.FormatLetters.{Member, Value, Pad, Opened, is_empty, mark_meant, is_aligning, own_alignment, aligned_to, lettered}
use Rattle.elem_descr.specs.RecordBuilding.{max_size, max_depth, Partial, empty, checked_name, added, widened, closed_record}
use Rattle.elem_descr.specs.FormatPieces.{Behind, nothing, between_colons, lone_colon, Piece, letter, opening, pieces}

-- what a piece means under the current mark: a blank, a mark, a member, or the closing brace of a record
pub data PieceKind : Type 0 where
  blank : PieceKind
  marking : Mark → PieceKind
  member : Member → Behind → PieceKind
  closing_brace : Behind → PieceKind

-- a blank or a mark, which have no count and no name
abbrev pub sign : List ℕ → ℕ → Behind → Option PieceKind
sign [] b nothing = if is_one_of (codes " ") b then Some blank else option_map marking (mark_meant b)
sign digits b behind = None

-- the meaning of a piece under the current mark, or why it is refused
abbrev pub part_of : Mark → Piece → Result PieceKind Refusal
part_of mark (letter digits b behind) =
    if is_empty digits && is_one_of (codes "}") b then Ok (closing_brace behind)
    else unwrap_or (option_map Ok (sign digits b behind)) (lettered mark digits b >>= λ it. Ok (member it behind))
part_of mark (opening digits) = if is_empty digits then Ok (member Opened nothing) else Err DescriptorLeftOut
part_of mark other = Err BadDescriptor

-- Padding has no name, and neither has a scalar or a record that is the whole text.
abbrev pub unnamed : Behind → Result (Unit {0}) Refusal
unnamed nothing = Ok tt
unnamed behind = Err DescriptorLeftOut

-- the name of a field: the one between colons, or by default `f` and the field's number, counted from 0
abbrev pub called : ℕ → Behind → Result (List ℕ) Refusal
called number nothing = Ok (codes "f" ++ decimal number)
called number (between_colons bytes) = if is_legal_name bytes then Ok bytes else Err DescriptorLeftOut
called number lone_colon = Err BadDescriptor

-- a record with a field added that has this alignment of its own
abbrev pub with_member : Mark → Partial → Behind → ℕ → Descr → Result Partial Refusal
with_member mark p behind own descr = do
  bytes ← called (length p.fields) behind
  _ ← checked_name p bytes
  added p bytes (aligned_to mark own) descr

-- a record with padding added
abbrev pub with_pad : Partial → ℕ → Behind → Result Partial Refusal
with_pad p n behind = do
  wider ← widened p n
  _ ← unnamed behind
  Ok wider

-- a record at its opening brace, refused if no more levels of records are allowed
abbrev pub opened : ℕ → ℕ → Result Partial Refusal
opened zero leaves = Err DescriptorLeftOut
opened (suc levels) leaves = Ok (empty levels leaves)

-- a record at its closing brace, aligned if `@` is the current mark there
abbrev pub closed_body : Mark → Partial → Result Body Refusal
closed_body mark p = closed_record (is_aligning mark) p >>= λ whole. Ok (record { whole = whole; alignment = p.alignment; mark = mark })

-- How far a text is read: no member yet; within a record, with the records around it, innermost first, each with the
-- mark that was current when the record in it began; one complete descriptor; or a mark after that.
pub data Reading : Type 0 where
  begun : Mark → Reading
  within : Mark → Partial → List (Mark × Partial) → Reading
  complete : Descr → Reading
  beyond : Reading

-- The first member is the whole descriptor: a scalar or a record.
abbrev pub at_begin : Mark → PieceKind → Result Reading Refusal
at_begin mark blank = Ok (begun mark)
at_begin mark (marking next) = Ok (begun next)
at_begin mark (member (Value scalar) behind) = do
  _ ← unnamed behind
  _ ← check (nat_le (size scalar) max_size) TooLarge
  Ok (complete (ScalarDescr scalar))
at_begin mark (member (Pad n) behind) = Err DescriptorLeftOut
at_begin mark (member Opened behind) = opened max_depth 0 >>= λ p. Ok (within mark p [])
at_begin mark (closing_brace behind) = Err BadDescriptor

-- A record that ends becomes a field of the record around it, aligned if `@` was the mark at its `T`. If none is around
-- it, it is the whole descriptor.
abbrev pub closed_in : List (Mark × Partial) → Body → Behind → Result Reading Refusal
closed_in [] body behind = unnamed behind >>= λ _. Ok (complete (RecordDescr body.whole))
closed_in (outer ∷ around) body behind = do
  p ← with_member outer.0 outer.1 behind body.alignment (RecordDescr body.whole)
  Ok (within body.mark p around)

-- a piece within a record: a member, or the end of the record
abbrev pub in_record : Mark → Partial → List (Mark × Partial) → PieceKind → Result Reading Refusal
in_record mark p around blank = Ok (within mark p around)
in_record mark p around (marking next) = Ok (within next p around)
in_record mark p around (member (Value scalar) behind) = do
  next ← with_member mark p behind (own_alignment scalar) (ScalarDescr scalar)
  Ok (within mark next around)
in_record mark p around (member (Pad n) behind) = with_pad p n behind >>= λ next. Ok (within mark next around)
in_record mark p around (member Opened behind) = opened p.levels p.leaves >>= λ inner. Ok (within mark inner ((mark, p) ∷ around))
in_record mark p around (closing_brace behind) = closed_body mark p >>= λ body. closed_in around body behind

-- Only blanks may follow the descriptor. A second member is unsupported, and a mark without one is invalid.
abbrev pub behind_member : Reading → PieceKind → Result Reading Refusal
behind_member now blank = Ok now
behind_member now (marking next) = Ok beyond
behind_member now (member it behind) = Err DescriptorLeftOut
behind_member now (closing_brace behind) = Err BadDescriptor

-- reads one more piece
abbrev pub step : Reading → Piece → Result Reading Refusal
step (begun mark) piece = part_of mark piece >>= at_begin mark
step (within mark p around) piece = part_of mark piece >>= in_record mark p around
step now piece = part_of Aligned piece >>= behind_member now

-- the result if the text ends here
abbrev pub result : Reading → Result Descr Refusal
result (complete descr) = Ok descr
result now = Err BadDescriptor

-- reads the pieces one after another, from the left
abbrev pub read_on : Reading → List Piece → Result Descr Refusal
read_on now [] = result now
read_on now (piece ∷ more) = step now piece >>= λ next. read_on next more

-- the descriptor that a format text means, or the refusal for the first error in it
abbrev pub format : List ℕ → Result Descr Refusal
format text = read_on (begun Aligned) (pieces text)
