-- What a session has done: after one line, after one turn, and when the script has ended.
use Rattle.std.specs.Prelude.{◌≡◌, ◌<◌, ◌+◌, ℕ, Bool, true, false, List, [], ◌∷◌, ◌++◌, length, Option, Result, Ok, Err}
use Rattle.bench_engine.specs.Words.{Appends, Consumes, IsAtEnd}
use Rattle.array_print.specs.declared.bands.WriteFault.{WriteFault}
use Rattle.bench_engine.specs.declared.session.Session.{Session}
use Rattle.bench_engine.specs.declared.runner.RunFault.{RunFault}
use Rattle.bench_engine.specs.declared.runner.RunFault.TheVariants.{Read, Write, Memory}
use Rattle.bench_engine.specs.Replies.{Reply}
use Rattle.bench_engine.specs.Steps.{World, world}
use Rattle.bench_engine.specs.Headline.{AnswersMeaning, meaning_of, trimmed, AreLines, output, reply_line, accepted_count, refused_count, Outside, first_world, AnswersWholeLines, AnswersFirstLines}
use Rattle.bench_engine.specs.Sessions.{HoldsPiece, HasTold, Fed}

-- The held line is answered, and the session has written and counted the reply.
pub record Told (from to : World) (written written' : Option (List ℕ)) (old new : Session) : Type 0 where
  pub replies : List Reply
  pub answers : (piece : List ℕ) → HoldsPiece old.line piece → AnswersMeaning from (meaning_of (trimmed piece)) to replies
  pub sent : Appends written written' (output replies)
  pub accepted : new.accepted ≡ old.accepted + accepted_count replies
  pub refused : new.refused ≡ old.refused + refused_count replies

-- The held line is answered, and the reply is cut short: at least its newline is missing.
pub record ToldInPart (from to : World) (written written' : Option (List ℕ)) (old : Session) : Type 0 where
  pub reply : Reply
  pub answers : (piece : List ℕ) → HoldsPiece old.line piece → AnswersMeaning from (meaning_of (trimmed piece)) to (reply ∷ [])
  pub gone : List ℕ
  pub missing : List ℕ
  pub broken : reply_line reply ≡ gone ++ missing
  pub some_missing : 0 < length missing
  pub sent : Appends written written' gone

-- the held line is answered, and the reply is written or cut short
abbrev pub TellsHeld : World → World → Option (List ℕ) → Option (List ℕ) → Session → Session → Result (Unit {0}) WriteFault → Type 0
TellsHeld from to written written' old new (Ok _) = Told from to written written' old new
TellsHeld from to written written' old new (Err _) = ToldInPart from to written written' old

-- The session was fed the bytes read so far.
pub record Reading (depth : ℕ) (before after : Outside) (s : Session) : Type 0 where
  pub input : List ℕ
  pub read : Consumes before.unread after.unread input
  pub fed : Fed (first_world depth before) (world s.bench.state after.store) before.written after.written input 0 0 s

-- The input has ended, and all lines of the bytes read are answered.
pub record Ended (depth : ℕ) (before after : Outside) (s : Session) : Type 0 where
  pub input : List ℕ
  pub lines : List (List ℕ)
  pub read : Consumes before.unread after.unread input
  pub ended : IsAtEnd after.unread
  pub are_lines : AreLines input lines
  pub told : HasTold (first_world depth before) (world s.bench.state after.store) before.written after.written lines 0 0 s

-- the outcome of one turn: the end of the script, more to read, or a fault, which is never `Memory`
abbrev pub Turned : Result Bool RunFault → ℕ → Outside → Outside → Session → Type 0
Turned (Ok true) depth before after s = Ended depth before after s
Turned (Ok false) depth before after s = Reading depth before after s
Turned (Err Read) depth before after s = AnswersWholeLines depth before after
Turned (Err Write) depth before after s = AnswersFirstLines depth before after
Turned (Err Memory) depth before after s = ⊥
