-- The text of a descriptor in a line.
use Rattle.std.specs.Prelude.{ℕ, ◌+◌, ◌-◌, Bool, true, false, List, [], ◌∷◌, length, Option, Some, None, nat_eq, if◌then◌else◌, take, drop, not, ◌||◌}
use Rattle.script_lang.specs.Words.{prefix_len, option_map}
use Rattle.script_lang.specs.Readers.{ReaderOf, ◌>>=◌, if_found}
use Rattle.script_lang.specs.Tokens.{is_blank, is_parted, byte_at, front_at}

-- the marks `<`, `>`, `!`, `=`, `@` and `^`
abbrev pub is_mark : ℕ → Bool
is_mark b = nat_eq b 60 || nat_eq b 62 || nat_eq b 33 || nat_eq b 61 || nat_eq b 64 || nat_eq b 94

-- the bytes after the marks, if any, and `T{`
unfoldable pub record_mark_at : List ℕ → Option (List ℕ)
record_mark_at bytes = byte_at 84 (drop (prefix_len is_mark bytes) bytes) >>= byte_at 123

-- the number of open braces after the byte `b`, which is between the two colons of a name or not
abbrev pub depth_behind : Bool → ℕ → ℕ → ℕ
depth_behind true b depth = depth
depth_behind false b depth = if nat_eq b 123 then depth + 1 else if nat_eq b 125 then depth - 1 else depth

-- whether the byte after `b` is between the two colons of a name
abbrev pub named_behind : Bool → ℕ → Bool
named_behind named b = if nat_eq b 58 then not named else named

-- The number of bytes up to and including the brace that closes the last open one, if there is such a brace. Braces
-- between the two colons of a name do not count.
unfoldable pub record_len : Bool → ℕ → List ℕ → Option ℕ
record_len named depth [] = None
record_len named depth (b ∷ bytes) = if nat_eq (depth_behind named b depth) 0 then Some 1 else option_map (λ n. n + 1) (record_len (named_behind named b) (depth_behind named b depth) bytes)

-- the text `bytes` up to the closing brace, given also the bytes after its `T{`
unfoldable pub record_text_at : List ℕ → ReaderOf (List ℕ)
record_text_at bytes inside = do
  n ← record_len false 1 inside
  if is_parted (drop n inside) then Some (take (length bytes - length inside + n) bytes, drop n inside) else None

-- a descriptor, after at least one blank: the text of a record, or the bytes up to the next blank
unfoldable pub descriptor_at : ReaderOf (List ℕ)
descriptor_at bytes = do
  blanks ← front_at is_blank bytes
  if_found (record_mark_at blanks.1) (record_text_at blanks.1) (front_at (λ b. not (is_blank b)) blanks.1)
