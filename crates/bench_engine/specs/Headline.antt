-- The headline: the outcome of a run, for every script, store and undo depth. `run` ensures `ComesTo`, the last
-- definition. Each definition uses those above it, and `MayAnswer`, the answer to a command.
use Rattle.std.specs.Prelude.{◌≡◌, ◌≢◌, ◌⊎◌, ◌<◌, ◌≤◌, ◌+◌, ◌-◌, ℕ, List, [], ◌∷◌, ◌++◌, length, map, take, count_by, not, nat_eq, nat_lt, if◌then◌else◌, All, Option, Some, None, IsTrue, Result, Ok, Err}
use Rattle.bench_engine.specs.Words.{Appends, Consumes, IsAtEnd, ends_with, flat_map, LineTooLong, ByteNotAllowed, Syntax, OutOfMemory, Line, line_of, silent, bad_byte, misspelt, asks, parts_take_memory, State, start, StoreState}
use Rattle.bench_engine.specs.declared.session.Summary.{Summary}
use Rattle.bench_engine.specs.declared.runner.RunFault.{RunFault}
use Rattle.bench_engine.specs.declared.runner.RunFault.TheVariants.{Read, Write, Memory}
use Rattle.bench_engine.specs.Replies.{Reply}
use Rattle.bench_engine.specs.Steps.{World, world, Refuses}
use Rattle.bench_engine.specs.Memory.{MayAnswer}

-- ---- how a line may be answered

-- the most bytes of a line
abbrev pub limit : ℕ
limit = 65536

-- the meaning of a line: it is too long, or what the grammar reads in it
pub data Meaning : Type 0 where
  too_long : Meaning
  says : Line → Meaning

unfoldable pub meaning_of : List ℕ → Meaning
meaning_of line = if nat_lt limit (length line) then too_long else says (line_of line)

-- there is exactly one reply, and P holds for it
abbrev pub OneReply : List Reply → (Reply → Type 0) → Type 0
OneReply replies P = (reply : Reply) × (replies ≡ reply ∷ []) × P reply

-- A command is answered as `MayAnswer` says. If reading its parts takes memory, this may also run out, with nothing
-- changed.
abbrev pub AnswersMeaning : World → Meaning → World → List Reply → Type 0
AnswersMeaning old too_long new replies = OneReply replies (Refuses old new LineTooLong)
AnswersMeaning old (says silent) new replies = (new ≡ old) × (replies ≡ [])
AnswersMeaning old (says bad_byte) new replies = OneReply replies (Refuses old new ByteNotAllowed)
AnswersMeaning old (says misspelt) new replies = OneReply replies (λ reply. Refuses old new Syntax reply ⊎ Refuses old new OutOfMemory reply)
AnswersMeaning old (says (asks command)) new replies = OneReply replies (λ reply. MayAnswer old command new reply ⊎ (IsTrue (parts_take_memory command) × Refuses old new OutOfMemory reply))

-- the lines are answered one after the other
abbrev pub Run : World → List (List ℕ) → List Reply → World → Type 0
Run old [] replies new = (replies ≡ []) × (new ≡ old)
Run old (line ∷ lines) replies new = (mid : World) × (first rest : List Reply) × (replies ≡ first ++ rest) × AnswersMeaning old (meaning_of line) mid first × Run mid lines rest new

-- ---- the lines of a script

-- these bytes contain no newline
abbrev pub IsUnbroken : List ℕ → Type 0
IsUnbroken bytes = All (λ b. b ≢ 10) bytes

-- The bytes are pieces, each followed by a newline, and then a rest. Neither the pieces nor the rest contain a newline.
pub record Splits (bytes : List ℕ) (pieces : List (List ℕ)) (rest : List ℕ) : Type 0 where
  pub joined : bytes ≡ flat_map (λ piece. piece ++ 10 ∷ []) pieces ++ rest
  pub pieces_unbroken : All IsUnbroken pieces
  pub rest_unbroken : IsUnbroken rest

-- a piece without its last byte, if that is a carriage return
abbrev pub trimmed : List ℕ → List ℕ
trimmed piece = if ends_with nat_eq piece (13 ∷ []) then take (length piece - 1) piece else piece

-- one piece, or none if it is empty
abbrev pub if_any : List ℕ → List (List ℕ)
if_any [] = []
if_any (b ∷ bytes) = (b ∷ bytes) ∷ []

-- the lines that a newline ends
abbrev pub AreWholeLines : List ℕ → List (List ℕ) → Type 0
AreWholeLines bytes lines = (pieces : List (List ℕ)) × (rest : List ℕ) × Splits bytes pieces rest × (lines ≡ map trimmed pieces)

-- the lines that a newline ends, and the rest as the last line unless it is empty
abbrev pub AreLines : List ℕ → List (List ℕ) → Type 0
AreLines bytes lines = (pieces : List (List ℕ)) × (rest : List ℕ) × Splits bytes pieces rest × (lines ≡ map trimmed (pieces ++ if_any rest))

-- ---- what goes out

-- a reply with its newline
abbrev pub reply_line : Reply → List ℕ
reply_line reply = reply.text ++ 10 ∷ []

abbrev pub output : List Reply → List ℕ
output replies = flat_map reply_line replies

abbrev pub accepted_count : List Reply → ℕ
accepted_count replies = count_by (λ r. r.accepted) replies

abbrev pub refused_count : List Reply → ℕ
refused_count replies = count_by (λ r. not r.accepted) replies

-- ---- the outcome of a run

-- The count, if there is one, rises by this number.
abbrev pub RisesBy : Option ℕ → Option ℕ → ℕ → Type 0
RisesBy (Some before) (Some after) n = after ≡ before + n
RisesBy None None n = Unit {0}
RisesBy before after n = ⊥

-- It rises by at most this number.
abbrev pub RisesAtMost : Option ℕ → Option ℕ → ℕ → Type 0
RisesAtMost (Some before) (Some after) n = after ≤ before + n
RisesAtMost None None n = Unit {0}
RisesAtMost before after n = ⊥

-- The surroundings of a run: the bytes still to be read and the bytes written, if they are known, and the store of
-- files.
pub record Outside : Type 0 where
  pub unread : Option (List ℕ)
  pub written : Option (List ℕ)
  pub store : StoreState

abbrev pub outside : Option (List ℕ) → Option (List ℕ) → StoreState → Outside
outside unread written store = record { unread = unread; written = written; store = store }

-- the world in which a run with this undo depth begins
abbrev pub first_world : ℕ → Outside → World
first_world depth before = world (start depth) before.store

-- The bytes read are a whole script, up to the end of the input. A run of the machine answers its lines, and ends with
-- the summary's bench and the files in the store. Exactly its replies are written, and the summary counts them. If the
-- script was known, the bytes read are that script: lemma `known_script` in `proofs/Whole.antt`.
pub record AnswersScript (depth : ℕ) (before after : Outside) (summary : Summary) : Type 0 where
  pub script : List ℕ
  pub lines : List (List ℕ)
  pub replies : List Reply
  pub read : Consumes before.unread after.unread script
  pub ended : IsAtEnd after.unread
  pub are_lines : AreLines script lines
  pub run : Run (first_world depth before) lines replies (world summary.bench.state after.store)
  pub sent : Appends before.written after.written (output replies)
  pub accepted : summary.accepted ≡ accepted_count replies
  pub refused : summary.refused ≡ refused_count replies

-- The lines that a newline ends in the bytes read are answered, and exactly their replies are written.
pub record AnswersWholeLines (depth : ℕ) (before after : Outside) : Type 0 where
  pub input : List ℕ
  pub lines : List (List ℕ)
  pub replies : List Reply
  pub state : State
  pub read : Consumes before.unread after.unread input
  pub are_lines : AreWholeLines input lines
  pub run : Run (first_world depth before) lines replies (world state after.store)
  pub sent : Appends before.written after.written (output replies)

-- The source may be read if no read has failed, each line that a newline ends is answered, and all replies are written.
abbrev pub ReadsInTime : {S : Type 0} → (S → Option (List ℕ)) → (S → Option ℕ) → (S → Option (List ℕ) → Type 0) → ℕ → S → Outside → Type 0
ReadsInTime {S} remaining failures MayRead depth source before =
    (now : S) (written : Option (List ℕ)) (store : StoreState) → failures now ≡ failures source
    → AnswersWholeLines depth before (outside (remaining now) written store) → MayRead now written

-- A prefix of these lines is answered, and the store is as they leave it. All their replies are written, except that
-- the last one is cut short: at least its newline is missing.
pub record AnswersInPart (lines : List (List ℕ)) (first : World) (shelf : StoreState) (written written' : Option (List ℕ)) : Type 0 where
  pub answered : List (List ℕ)
  pub later : List (List ℕ)
  pub replies : List Reply
  pub last : Reply
  pub state : State
  pub gone : List ℕ
  pub missing : List ℕ
  pub front : lines ≡ answered ++ later
  pub run : Run first answered (replies ++ last ∷ []) (world state shelf)
  pub broken : reply_line last ≡ gone ++ missing
  pub some_missing : 0 < length missing
  pub sent : Appends written written' (output replies ++ gone)

-- A prefix of the lines is answered, and the last reply is cut short. The lines are those that a newline ends in the
-- bytes read, or all lines if the input has ended. If the script was known, the same holds for all lines of the script:
-- lemma `known_lines` in `proofs/Whole.antt`.
pub record AnswersFirstLines (depth : ℕ) (before after : Outside) : Type 0 where
  pub input : List ℕ
  pub lines : List (List ℕ)
  pub read : Consumes before.unread after.unread input
  pub are_lines : AreWholeLines input lines ⊎ (IsAtEnd after.unread × AreLines input lines)
  pub some : AnswersInPart lines (first_world depth before) after.store before.written after.written

-- After `Ok`, the whole script is answered. After `Read` (a read failed, or there were too many), the lines that a
-- newline ends are answered. After `Write`, a prefix of the lines is answered, and the last reply is cut short. After
-- `Memory`, there was not enough memory to start, and nothing has changed.
abbrev pub ComesTo : ℕ → Outside → Outside → Result Summary RunFault → Type 0
ComesTo depth before after (Ok summary) = AnswersScript depth before after summary
ComesTo depth before after (Err Read) = AnswersWholeLines depth before after
ComesTo depth before after (Err Write) = AnswersFirstLines depth before after
ComesTo depth before after (Err Memory) = after ≡ before
