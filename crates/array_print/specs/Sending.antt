-- A text that is sent part by part.
use Rattle.std.specs.Prelude.{◌≡◌, ℕ, List, ◌++◌, Option}
use Rattle.array_print.specs.Words.{Appends}

-- all of the text was written, except for this suffix
abbrev pub Sends : Option (List ℕ) → Option (List ℕ) → List ℕ → List ℕ → Type 0
Sends written written' rest text = (gone : List ℕ) × (text ≡ gone ++ rest) × Appends written written' gone

-- a prefix of the text was written
abbrev pub SendsPart : Option (List ℕ) → Option (List ℕ) → List ℕ → Type 0
SendsPart written written' text = (rest : List ℕ) × Sends written written' rest text
