-- How the code reads a format text: one member after another, each from the remaining text.
use Rattle.std.specs.Prelude.{ℕ, ◌+◌, Bool, ◌&&◌, not, List, [], ◌∷◌, ◌++◌, length, take, codes, decimal, nat_le, if◌then◌else◌, Option, Some, None, unwrap_or, Result, Ok, Err}
use Rattle.std.proofs.Common.{zero, suc, min, false, drop}
use Rattle.elem_descr.specs.Words.{is_ascii_digit, list_all, prefix_len, option_map, ok_or}
use Rattle.elem_descr.specs.declared.refusal.Refusal.{Refusal}
use Rattle.elem_descr.specs.declared.refusal.Refusal.TheVariants.{BadDescriptor, DescriptorLeftOut, TooLarge}
use Rattle.elem_descr.specs.declared.scalar.Scalar.{Scalar}
use Rattle.elem_descr.specs.declared.descr.Descr.{Descr}
use Rattle.elem_descr.specs.declared.descr.Descr.TheVariants.{Scalar as ScalarDescr, Record as RecordDescr}
use Rattle.elem_descr.specs.declared.format_text.record.Body.{Body}
use Rattle.elem_descr.specs.declared.format_text.mark.Mark.{Mark}
use Rattle.elem_descr.specs.declared.format_text.mark.Mark.TheVariants.{Aligned}
use Rattle.elem_descr.specs.declared.format_text.member.Member.{Member as Held}
use Rattle.elem_descr.specs.declared.format_text.member.Member.TheVariants as held
use Rattle.elem_descr.specs.Refusals.{◌>>=◌, check}
use Rattle.elem_descr.specs.Encoding.{size}
use Rattle.elem_descr.specs.Names.{is_legal_name}
use Rattle.elem_descr.specs.TypeStrings.{is_one_of}
use Rattle.elem_descr.specs.FormatLetters.{Member, Value, Pad, Opened, is_empty, mark_meant, own_alignment, aligned_to, lettered}
use Rattle.elem_descr.specs.RecordBuilding.{max_size, max_depth, Partial, empty, checked_name, added, widened}
use Rattle.elem_descr.specs.FormatPieces.{is_colon}
use Rattle.elem_descr.specs.FormatTexts.{closed_body}

-- the current mark after a byte that is a blank or a mark
abbrev pub after : Mark → ℕ → Option Mark
after mark b = if is_one_of (codes " ") b then Some mark else mark_meant b

-- the current mark after the blanks and marks at the front, and the remaining text
abbrev pub marked : Mark → List ℕ → Mark × List ℕ
marked mark [] = (mark, [])
marked mark (b ∷ rest) = unwrap_or (option_map (λ next. marked next rest) (after mark b)) (mark, b ∷ rest)

abbrev pub is_named : List ℕ → Bool
is_named [] = false
is_named (b ∷ rest) = is_colon b

abbrev pub begins_with_digit : List ℕ → Bool
begins_with_digit [] = false
begins_with_digit (b ∷ rest) = is_ascii_digit b

-- the text begins with an opening brace
abbrev pub is_opened : List ℕ → Bool
is_opened [] = false
is_opened (b ∷ rest) = is_one_of (codes "{") b

-- the member that a count and a letter mean, if `rest` follows them
abbrev pub lettered_before : Mark → List ℕ → ℕ → List ℕ → Result Member Refusal
lettered_before mark digits letter rest =
    if is_one_of (codes "T") letter && is_opened rest then (if is_empty digits then Ok Opened else Err DescriptorLeftOut)
    else lettered mark digits letter

abbrev pub after_count : Mark → List ℕ → List ℕ → Result (Member × List ℕ) Refusal
after_count mark digits [] = Err BadDescriptor
after_count mark digits (letter ∷ rest) = do
  member ← lettered_before mark digits letter rest
  Ok (member, rest)

-- a member without its name (a count and a letter), and the remaining text
abbrev pub member_at : Mark → List ℕ → Result (Member × List ℕ) Refusal
member_at mark text = let n = prefix_len is_ascii_digit text in after_count mark (take n text) (drop n text)

-- the scalar, if it is not larger than an item may be
abbrev pub fitting : Scalar → Option Scalar
fitting scalar = if nat_le (size scalar) max_size then Some scalar else None

-- a number of bytes, capped at one more than an item may have
abbrev pub capped : ℕ → ℕ
capped n = min n (max_size + 1)

-- a member as the code holds it
abbrev pub as_held : Member → Held
as_held (Value scalar) = held.Value (fitting scalar)
as_held (Pad n) = held.Pad (capped n)
as_held Opened = held.Opened

abbrev pub held_member : Result Member Refusal → Result Held Refusal
held_member read = read >>= λ member. Ok (as_held member)

abbrev pub held_at : Result (Member × List ℕ) Refusal → Result (Held × List ℕ) Refusal
held_at read = read >>= λ member. Ok (as_held member.0, member.1)

-- the name up to its colon, and the text after the colon
abbrev pub name_at : List ℕ → Result (List ℕ × List ℕ) Refusal
name_at text =
    let n = prefix_len (λ b. not (is_colon b)) text in
    if is_empty (drop n text) then Err BadDescriptor
    else if is_legal_name (take n text) then Ok (take n text, drop 1 (drop n text))
    else Err DescriptorLeftOut

-- the name of a field (the one between colons, or by default `f` and the field's number), and the remaining text
abbrev pub named : ℕ → List ℕ → Result (List ℕ × List ℕ) Refusal
named number text = if is_named text then name_at (drop 1 text) else Ok (codes "f" ++ decimal number, text)

-- reads the members of a record up to its closing brace, given the current mark and the number of leaves before the
-- record, and returns the record and the text after the brace
abbrev pub Reader : Type 0
Reader = Mark → ℕ → List ℕ → Result (Body × List ℕ) Refusal

-- a record with one more member, the current mark after it, and the remaining text
abbrev pub Later : Type 0
Later = Partial × Mark × List ℕ

-- a member and what may follow it: a name after a scalar or a record, but not after padding
unfoldable pub scalar_in : Mark → Partial → Option Scalar → List ℕ → Result Later Refusal
scalar_in mark p value rest = do
  name ← named (length p.fields) rest
  _ ← checked_name p name.0
  scalar ← ok_or value TooLarge
  more ← added p name.0 (aligned_to mark (own_alignment scalar)) (ScalarDescr scalar)
  Ok (more, mark, name.1)

unfoldable pub pad_in : Mark → Partial → ℕ → List ℕ → Result Later Refusal
pad_in mark p count rest = do
  more ← widened p count
  _ ← check (not (is_named rest)) DescriptorLeftOut
  Ok (more, mark, rest)

unfoldable pub body_in : Mark → Partial → Body → List ℕ → Result Later Refusal
body_in mark p body rest = do
  name ← named (length p.fields) rest
  _ ← checked_name p name.0
  more ← added p name.0 (aligned_to mark body.alignment) (RecordDescr body.whole)
  Ok (more, body.mark, name.1)

abbrev pub taken_in : Reader → Mark → Partial → Held → List ℕ → Result Later Refusal
taken_in within mark p (held.Value value) rest = scalar_in mark p value rest
taken_in within mark p (held.Pad count) rest = pad_in mark p count rest
taken_in within mark p held.Opened rest = within mark p.leaves (drop 1 rest) >>= λ body. body_in mark p body.0 body.1

-- the next member of a record
unfoldable pub next_field : Reader → Mark → Partial → List ℕ → Result Later Refusal
next_field within mark p text = do
  member ← held_at (member_at mark text)
  taken_in within mark p member.0 member.1

-- the text after a closing brace, if the text begins with one
abbrev pub closing : List ℕ → Option (List ℕ)
closing [] = None
closing (b ∷ rest) = if is_one_of (codes "}") b then Some rest else None

-- ends the record at its closing brace, or reads a member and then those after it
abbrev pub turn : Reader → Mark → Partial → Option (List ℕ) → List ℕ → (Later → Result (Body × List ℕ) Refusal) → Result (Body × List ℕ) Refusal
turn within mark p None text later = next_field within mark p text >>= later
turn within mark p (Some rest) text later = closed_body mark p >>= λ body. Ok (body, rest)

-- the members of a record up to its closing brace, in at most `turns` turns
abbrev pub members : Reader → ℕ → Mark → Partial → List ℕ → Result (Body × List ℕ) Refusal
members within zero mark p text = Err BadDescriptor
members within (suc turns) mark p text =
    let m = marked mark text in turn within m.0 p (closing m.1) m.1 (λ next. members within turns next.1 next.0 next.2)

-- a record that is at most this deep, itself included
unfoldable pub record_within : ℕ → Reader
record_within zero mark leaves text = Err DescriptorLeftOut
record_within (suc levels) mark leaves text =
    members (record_within levels) (length text) mark (empty levels leaves) text

-- Only blanks may follow. A name or a second member is unsupported. Anything else is refused for its own error.
unfoldable pub nothing_follows : List ℕ → Result (Unit {0}) Refusal
nothing_follows text = if list_all (is_one_of (codes " ")) text then Ok tt else do
  _ ← check (not (is_named text)) DescriptorLeftOut
  _ ← held_at (member_at Aligned (marked Aligned text).1)
  Err DescriptorLeftOut

-- A member that is the whole text is a scalar or a record.
unfoldable pub scalar_alone : Option Scalar → List ℕ → Result Descr Refusal
scalar_alone value rest = do
  _ ← check (not (is_named rest)) DescriptorLeftOut
  scalar ← ok_or value TooLarge
  _ ← nothing_follows rest
  Ok (ScalarDescr scalar)

unfoldable pub record_alone : Mark → List ℕ → Result Descr Refusal
record_alone mark text = do
  body ← record_within max_depth mark 0 text
  _ ← nothing_follows body.1
  Ok (RecordDescr body.0.whole)

abbrev pub alone : Mark → Held → List ℕ → Result Descr Refusal
alone mark (held.Value value) rest = scalar_alone value rest
alone mark (held.Pad count) rest = Err DescriptorLeftOut
alone mark held.Opened rest = record_alone mark (drop 1 rest)

-- the descriptor that a format text means, or the refusal for the first error in it
abbrev pub format_in_turns : List ℕ → Result Descr Refusal
format_in_turns text =
    let m = marked Aligned text in
    held_at (member_at m.0 m.1) >>= λ member. alone m.0 member.0 member.1
