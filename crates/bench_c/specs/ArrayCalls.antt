-- What the calls for arrays do to a bench.
use Rattle.std.specs.Prelude.{◌≡◌, ◌⊎◌, ℕ, List, Option, Some, Result, Ok, Err}
use Rattle.bench_c.specs.Words.{Choice, Outcome, IsAllowed, accepted_with, creation_outcome, Contents, State, Refusal, OutOfMemory, refusal_text, ◌>>=◌}
use Rattle.bench_c.specs.declared.open_bench.OpenBench.{OpenBench}
use Rattle.bench_c.specs.declared.status.Status.{Status}
use Rattle.bench_c.specs.declared.status.Status.TheVariants.{Done, Refused}
use Rattle.bench_c.specs.declared.array_calls.Info.{Info}
use Rattle.bench_c.specs.Benches.{CopiesOut}
use Rattle.bench_c.specs.Calls.{StandsFor}
use Rattle.bench_c.specs.Arrays.{named}

-- a call to the bench behind an open handle, which stays open
abbrev pub StaysOpen : (OpenBench → OpenBench → Status → Type 0) → Option OpenBench → Option OpenBench → ℕ → Type 0
StaysOpen Does (Some old) (Some new) code = StandsFor (Does old new) code
StaysOpen Does old new code = ⊥

-- The reply is the refusal, and nothing else changes.
abbrev pub RefusesCall : OpenBench → Refusal → OpenBench → Status → Type 0
RefusesCall old refused new status = (new ≡ record old { reply = refusal_text refused }) × (status ≡ Refused)

-- Bytes that are asked for are copied out, and the bench stays as it is; or the question is refused, which it may also be
-- as out of memory, and nothing is copied.
abbrev pub GivesAsked : (State → Result (List ℕ) Refusal) → List ℕ → List ℕ → ℕ → OpenBench → OpenBench → Status → Type 0
GivesAsked asked out out' len old new status =
    ((bytes : List ℕ) × (asked old.bench.state ≡ Ok bytes) × (new ≡ old) × CopiesOut bytes out out' len status)
    ⊎ ((refused : Refusal) × ((refused ≡ OutOfMemory) ⊎ (asked old.bench.state ≡ Err refused)) × RefusesCall old refused new status × (out' ≡ out) × (len ≡ 0))

-- What is asked for is set, and the bench stays as it is; or the question is refused, and nothing is set.
abbrev pub GivesInfo : (State → Result Info Refusal) → Info → Info → OpenBench → OpenBench → Status → Type 0
GivesInfo asked info info' old new status =
    ((asked old.bench.state ≡ Ok info') × (new ≡ old) × (status ≡ Done))
    ⊎ ((refused : Refusal) × (asked old.bench.state ≡ Err refused) × RefusesCall old refused new status × (info' ≡ info))

-- X = array .., for a name and contents that are given
abbrev pub put_outcome : Choice → State → List ℕ → Result Contents Refusal → Outcome
put_outcome choice s name contents = named name >>= (λ name. creation_outcome choice s name contents)

-- The machine binds the name to an array with these contents, and the reply is the machine's; or the call is refused, which
-- it may also be as out of memory, and no array changes. No file changes.
pub record PutsArray (name : List ℕ) (contents : Result Contents Refusal) (old new : OpenBench) (status : Status) : Type 0 where
  pub files : new.files ≡ old.files
  pub puts : ((choice : Choice) × IsAllowed old.bench.state choice × (put_outcome choice old.bench.state name contents ≡ accepted_with new.bench.state new.reply) × (status ≡ Done))
      ⊎ ((refused : Refusal) × ((refused ≡ OutOfMemory) ⊎ ((choice : Choice) → put_outcome choice old.bench.state name contents ≡ Err refused)) × (new.bench.state ≡ old.bench.state) × (new.reply ≡ refusal_text refused) × (status ≡ Refused))
