-- What a lookup ensures, and which items are asked for.
use Rattle.std.specs.Prelude.{◌≡◌, ℕ, List, Result, Ok, Err}
use Rattle.bench_c.specs.Words.{Array, ArrayRef, State, Shows, Refusal}
use Rattle.bench_c.specs.Arrays.{items_called, numbers_called}
use Rattle.bench_c.specs.declared.asked.Form.{Form}
use Rattle.bench_c.specs.declared.asked.Form.TheVariants.{Own, Number}

-- A lookup returns the array, or the refusal.
abbrev pub Looks : State → Result Array Refusal → Result ArrayRef Refusal → Type 0
Looks s there (Ok r) = (array : Array) × (there ≡ Ok array) × Shows s array r
Looks s there (Err refused) = there ≡ Err refused

-- the items of a name's array in this form
abbrev pub in_form : Form → List ℕ → State → Result (List ℕ) Refusal
in_form Own name s = items_called name s
in_form Number name s = numbers_called name s
