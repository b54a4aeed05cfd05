-- Answers whose replies are sent, except for their ends.
use Rattle.std.specs.Prelude.{◌≡◌, ℕ, Bool, List, [], ◌∷◌, Option, Some, None, Result, Ok, Err}
use Rattle.array_print.specs.declared.bands.WriteFault.{WriteFault}
use Rattle.bench_engine.specs.Words.{Sends, SendsPart, Ask, Print, State, StoreState}
use Rattle.bench_engine.specs.Replies.{Reply}
use Rattle.bench_engine.specs.Steps.{World, world}
use Rattle.bench_engine.specs.Headline.{Meaning, AnswersMeaning}
use Rattle.bench_engine.specs.Memory.{MayAnswer}

-- the reply may answer this command, whatever the store is
abbrev pub MayPrint : State → List ℕ → Reply → Type 0
MayPrint s name reply = (shelf : StoreState) → MayAnswer (world s shelf) (Ask (Print name)) (world s shelf) reply

-- A line with this meaning is answered. It asks for nothing, and nothing is sent; or all of the reply is sent except
-- for this rest; or a write has failed.
abbrev pub SendsAnswer : World → World → Meaning → Option (List ℕ) → Option (List ℕ) → List ℕ → Result (Option Bool) WriteFault → Type 0
SendsAnswer from to meaning written written' rest (Ok None) = AnswersMeaning from meaning to [] × (written' ≡ written)
SendsAnswer from to meaning written written' rest (Ok (Some accepted)) =
    (reply : Reply) × AnswersMeaning from meaning to (reply ∷ []) × (reply.accepted ≡ accepted) × Sends written written' rest reply.text
SendsAnswer from to meaning written written' rest (Err fault) =
    (reply : Reply) × AnswersMeaning from meaning to (reply ∷ []) × SendsPart written written' reply.text
