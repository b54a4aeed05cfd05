-- Readers, and how one is made of others. A reader takes the remaining bytes, and returns what it reads and the bytes
-- after it, or nothing.
use Rattle.std.specs.Prelude.{ℕ, Bool, List, Option, Some, None, if◌then◌else◌}
use Rattle.script_lang.specs.Words.{option_and_then}

abbrev pub ReaderOf : Type 0 → Type 0
ReaderOf A = List ℕ → Option (A × List ℕ)

infixl 10 ◌>>=◌
abbrev pub ◌>>=◌ : {A B : Type 0} → Option A → (A → Option B) → Option B
o >>= f = option_and_then f o

-- the first reading, or the second if the first finds nothing
infixl 8 ◌or_else◌
abbrev pub ◌or_else◌ : {A : Type 0} → Option A → Option A → Option A
None or_else second = second
(Some x) or_else second = Some x

-- `next` of what is found, or `other` if nothing is found
abbrev pub if_found : {A B : Type 0} → Option B → (B → Option A) → Option A → Option A
if_found None next other = other
if_found (Some found) next other = next found

-- a value made of one part
abbrev pub one_part : {A Z : Type 0} → (A → Z) → ReaderOf A → ReaderOf Z
one_part make first bytes = first bytes >>= λ a. Some (make a.0, a.1)

-- a value made of two parts, which are read one after the other; likewise of three and of four
abbrev pub two_parts : {A B Z : Type 0} → (A → B → Z) → ReaderOf A → ReaderOf B → ReaderOf Z
two_parts make first second bytes = first bytes >>= λ a. one_part (make a.0) second a.1

abbrev pub three_parts : {A B C Z : Type 0} → (A → B → C → Z) → ReaderOf A → ReaderOf B → ReaderOf C → ReaderOf Z
three_parts make first second third bytes = first bytes >>= λ a. two_parts (make a.0) second third a.1

abbrev pub four_parts : {A B C D Z : Type 0} → (A → B → C → D → Z) → ReaderOf A → ReaderOf B → ReaderOf C → ReaderOf D → ReaderOf Z
four_parts make first second third fourth bytes = first bytes >>= λ a. three_parts (make a.0) second third fourth a.1

-- what is read, if it and the bytes after it pass the test
abbrev pub only : {A : Type 0} → (A × List ℕ → Bool) → ReaderOf A → ReaderOf A
only test read bytes = read bytes >>= λ found. if test found then Some found else None

-- what is read, if it is there
abbrev pub optional : {A : Type 0} → ReaderOf A → ReaderOf (Option A)
optional read bytes = if_found (read bytes) (λ found. Some (Some found.0, found.1)) (Some (None, bytes))
