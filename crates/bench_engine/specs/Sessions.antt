-- The state of a session, and what it has done after some bytes of the script.
use Rattle.std.specs.Prelude.{◌≡◌, ◌<◌, ◌+◌, ℕ, Bool, true, false, List, [], ◌++◌, length, map, Option, Result, Ok, Err}
use Rattle.bench_engine.specs.Words.{Appends, start, StoreState}
use Rattle.array_print.specs.declared.bands.WriteFault.{WriteFault}
use Rattle.bench_engine.specs.declared.line.HeldLine.{HeldLine}
use Rattle.bench_engine.specs.declared.session.Session.{Session}
use Rattle.bench_engine.specs.Replies.{Reply}
use Rattle.bench_engine.specs.Steps.{World, world}
use Rattle.bench_engine.specs.Headline.{limit, Run, Splits, trimmed, AreLines, AreWholeLines, output, accepted_count, refused_count, AnswersInPart}

-- The session holds this piece of a line: its bytes, or only the fact that it is too long, even without a carriage
-- return at its end.
abbrev pub HoldsBytes : List ℕ → Bool → List ℕ → Type 0
HoldsBytes bytes true piece = limit + 1 < length piece
HoldsBytes bytes false piece = bytes ≡ piece

abbrev pub HoldsPiece : HeldLine → List ℕ → Type 0
HoldsPiece line piece = HoldsBytes line.bytes.items line.is_long piece

-- These lines are answered, all replies are written, and the session has added them to the earlier counts.
pub record HasTold (from to : World) (written written' : Option (List ℕ)) (lines : List (List ℕ)) (earlier_accepted earlier_refused : ℕ) (s : Session) : Type 0 where
  pub replies : List Reply
  pub run : Run from lines replies to
  pub sent : Appends written written' (output replies)
  pub accepted : s.accepted ≡ earlier_accepted + accepted_count replies
  pub refused : s.refused ≡ earlier_refused + refused_count replies

-- The lines that a newline ends in these bytes are answered, and the session holds the rest.
pub record Fed (from to : World) (written written' : Option (List ℕ)) (bytes : List ℕ) (earlier_accepted earlier_refused : ℕ) (s : Session) : Type 0 where
  pub pieces : List (List ℕ)
  pub rest : List ℕ
  pub splits : Splits bytes pieces rest
  pub told : HasTold from to written written' (map trimmed pieces) earlier_accepted earlier_refused s
  pub held : HoldsPiece s.line rest

-- a prefix of the lines that a newline ends in these bytes is answered, and the last reply is cut short
abbrev pub FedInPart : World → StoreState → Option (List ℕ) → Option (List ℕ) → List ℕ → Type 0
FedInPart first shelf written written' bytes = (lines : List (List ℕ)) × AreWholeLines bytes lines × AnswersInPart lines first shelf written written'

-- These bytes follow `held`, the piece of a line that the session holds. After `Ok`, each line that a newline ends is
-- answered, all replies are written and counted, and the session holds what follows the last newline.
abbrev pub Feeds : StoreState → StoreState → Option (List ℕ) → Option (List ℕ) → List ℕ → List ℕ → Session → Session → Result (Unit {0}) WriteFault → Type 0
Feeds shelf shelf' written written' held bytes old new (Ok _) =
    Fed (world old.bench.state shelf) (world new.bench.state shelf') written written' (held ++ bytes) old.accepted old.refused new
Feeds shelf shelf' written written' held bytes old new (Err _) = FedInPart (world old.bench.state shelf) shelf' written written' (held ++ bytes)

-- The piece that the session holds is answered as the last line, unless it is empty. After an error, the last reply is
-- cut short.
abbrev pub Ends : StoreState → StoreState → Option (List ℕ) → Option (List ℕ) → List ℕ → Session → Session → Result (Unit {0}) WriteFault → Type 0
Ends shelf shelf' written written' held old new (Ok _) =
    (lines : List (List ℕ)) × AreLines held lines × HasTold (world old.bench.state shelf) (world new.bench.state shelf') written written' lines old.accepted old.refused new
Ends shelf shelf' written written' held old new (Err _) =
    (lines : List (List ℕ)) × AreLines held lines × AnswersInPart lines (world old.bench.state shelf) shelf' written written'

-- a new session: it has read nothing, and its bench keeps up to `depth` earlier states
pub record IsNew (depth : ℕ) (s : Session) : Type 0 where
  pub bench : s.bench.state ≡ start depth
  pub line : HoldsPiece s.line []
  pub accepted : s.accepted ≡ 0
  pub refused : s.refused ≡ 0
