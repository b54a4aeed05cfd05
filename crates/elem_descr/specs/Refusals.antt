-- Results that may be refusals.
use Rattle.std.specs.Prelude.{◌≡◌, ◌⊎◌, Bool, true, false, Result, Ok, Err}
use Rattle.elem_descr.specs.declared.refusal.Refusal.{Refusal}
use Rattle.elem_descr.specs.declared.refusal.Refusal.TheVariants.{OutOfMemory}

-- A call returns the expected result `there`: the same refusal, or a value that `view` turns into the expected one.
-- Instead, it may refuse because memory runs out.
abbrev pub Gives : {X Y : Type 0} → (X → Y) → Result X Refusal → Result Y Refusal → Type 0
Gives view (Ok x) there = there ≡ Ok (view x)
Gives view (Err e) there = (e ≡ OutOfMemory) ⊎ (there ≡ Err e)

infixl 10 ◌>>=◌
-- the first refusal is the result
abbrev pub ◌>>=◌ : {X Y : Type 0} → Result X Refusal → (X → Result Y Refusal) → Result Y Refusal
(Ok x) >>= f = f x
(Err e) >>= f = Err e

-- refused unless the test holds
abbrev pub check : Bool → Refusal → Result (Unit {0}) Refusal
check true refusal = Ok tt
check false refusal = Err refusal

-- A call returns the expected result `there`: the same refusal, or a value that `view` turns into the expected one.
abbrev pub Answers : {X Y : Type 0} → (X → Y) → Result X Refusal → Result Y Refusal → Type 0
Answers view (Ok x) there = there ≡ Ok (view x)
Answers view (Err e) there = there ≡ Err e
