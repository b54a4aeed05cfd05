-- What a call that carries out a command ensures.
use Rattle.std.specs.Prelude.{◌≡◌, ◌⊎◌, ℕ, Bool, true, IsTrue, List, Result, Ok, Err}
use Rattle.bench_engine.specs.Words.{Refusal, OutOfMemory, State}
use Rattle.bench_engine.specs.Replies.{Reply, refusal}
use Rattle.bench_engine.specs.Machine.{Choice, Outcome, IsAllowed, accepted_with}

-- The refusal is out of memory, if the command may lack memory, or it is the machine's for every choice.
abbrev pub IsRefused : Bool → (Choice → Outcome) → Refusal → Type 0
IsRefused may_lack outcome refusal =
    ((refusal ≡ OutOfMemory) × IsTrue may_lack) ⊎ ((choice : Choice) → outcome choice ≡ Err refusal)

-- The command is carried out as the machine does it for some choice, with this text as the reply; or it is refused with
-- nothing changed.
abbrev pub CarriesOut : Bool → (Choice → Outcome) → State → State → List ℕ → Result (Unit {0}) Refusal → Type 0
CarriesOut may_lack outcome old new text (Ok _) =
    (choice : Choice) × IsAllowed old choice × (outcome choice ≡ accepted_with new text)
CarriesOut may_lack outcome old new text (Err refusal) = (new ≡ old) × IsRefused may_lack outcome refusal

-- `Done` holds for the reply: this text, accepted, or the reply for a refusal.
abbrev pub Carried : (Reply → Type 0) → List ℕ → Result (Unit {0}) Refusal → Type 0
Carried Done text (Ok _) = Done (record { text = text; accepted = true })
Carried Done text (Err refused) = Done (refusal refused)
