-- The outcome of a run, from the state of its session.
use Rattle.std.proofs.Common.{◌≡◌, ◌≢◌, [], ◌⊎◌, inl, inr, ◌++◌, ap, ◌∙◌, sym, append_assoc, zero-add, ℕ, List, Option, Some, None, Err, subst, IfSome, refl, map}
use Rattle.bench_engine.proofs.Words.{Consumes-nil, Consumes, IsAtEnd, StoreState, RunFault, Read, Write, Session, Summary, World, world, IsNew, AreLines, AreWholeLines, Outside, first_world, AnswersScript, AnswersWholeLines, AnswersInPart, AnswersFirstLines, ComesTo, trimmed, Ended, Reading, Turned, All-nil, appends_nothing}
use Rattle.bench_engine.specs.declared.runner.RunFault.TheVariants.{Memory}
use Rattle.bench_engine.proofs.Lines.{splits-one, lines-front}
use Rattle.bench_engine.proofs.Known.{all_read}

all-known : (a b : Option (List ℕ)) (script : List ℕ) → Consumes a b script → IsAtEnd b → IfSome a (λ bytes. script ≡ bytes)
all-known None b script read ended = tt
all-known (Some bytes) b script read ended = all_read bytes b script read ended

-- If the script was known, the bytes read are that script.
pub known_script : (depth : ℕ) (before after : Outside) (summary : Summary) (is : AnswersScript depth before after summary) → IfSome before.unread (λ bytes. is.script ≡ bytes)
known_script depth before after summary is = all-known before.unread after.unread is.script is.read is.ended

-- the session has ended
pub answers-script : (depth : ℕ) (before after : Outside) (session : Session) (summary : Summary) → Ended depth before after session → summary.bench ≡ session.bench → summary.accepted ≡ session.accepted → summary.refused ≡ session.refused → AnswersScript depth before after summary
answers-script depth before after session summary end bench accepted refused = record {
  script = end.input;
  lines = end.lines;
  replies = end.told.replies;
  read = end.read;
  ended = end.ended;
  are_lines = end.are_lines;
  run = rw bench end.told.run;
  sent = end.told.sent;
  accepted = accepted ∙ end.told.accepted ∙ zero-add _;
  refused = refused ∙ end.told.refused ∙ zero-add _;
}

-- a prefix of some lines is a prefix of more lines
extended : (lines later : List (List ℕ)) (first : World) (shelf : StoreState) (written written' : Option (List ℕ)) → AnswersInPart lines first shelf written written' → AnswersInPart (lines ++ later) first shelf written written'
extended lines later first shelf written written' part = record {
  answered = part.answered;
  later = part.later ++ later;
  replies = part.replies;
  last = part.last;
  state = part.state;
  gone = part.gone;
  missing = part.missing;
  front = ap (λ l. l ++ later) part.front ∙ append_assoc part.answered part.later later;
  run = part.run;
  broken = part.broken;
  some_missing = part.some_missing;
  sent = part.sent;
}

-- the lines of the bytes read are a prefix of the lines of the script
known-part : (first : World) (shelf : StoreState) (a b written written' : Option (List ℕ)) (input : List ℕ) (lines : List (List ℕ)) → Consumes a b input → AreWholeLines input lines ⊎ (IsAtEnd b × AreLines input lines) → AnswersInPart lines first shelf written written' →
    IfSome a (λ script. (all : List (List ℕ)) × AreLines script all × AnswersInPart all first shelf written written')
known-part first shelf None b written written' input lines read come some = tt
known-part first shelf (Some script) None written written' input lines read come some = absurd read
known-part first shelf (Some script) (Some rest) written written' input lines read (inl whole) some =
    let front = lines-front input rest lines whole in
    (lines ++ front.0, subst (λ (bytes : List ℕ). AreLines bytes (lines ++ front.0)) (sym read) front.1, extended lines front.0 first shelf written written' some)
known-part first shelf (Some script) (Some rest) written written' input lines read (inr come) some = (lines, subst (λ (bytes : List ℕ). AreLines bytes lines) (all_read script (Some rest) input read come.0) come.1, some)

-- If the script was known, a prefix of its lines is answered, and the last reply is cut short.
pub known_lines : (depth : ℕ) (before after : Outside) → AnswersFirstLines depth before after →
    IfSome before.unread (λ script. (all : List (List ℕ)) × AreLines script all × AnswersInPart all (first_world depth before) after.store before.written after.written)
known_lines depth before after is = known-part (first_world depth before) after.store before.unread after.unread before.written after.written is.input is.lines is.read is.are_lines is.some

pub first-lines : (depth : ℕ) (before after : Outside) (input : List ℕ) (lines : List (List ℕ)) → Consumes before.unread after.unread input → AreWholeLines input lines ⊎ (IsAtEnd after.unread × AreLines input lines) →
    AnswersInPart lines (first_world depth before) after.store before.written after.written → AnswersFirstLines depth before after
first-lines depth before after input lines read come some = record {
  input = input;
  lines = lines;
  read = read;
  are_lines = come;
  some = some;
}

-- nothing is read yet
pub reading-new : (depth : ℕ) (before : Outside) (session : Session) → IsNew depth session → Reading depth before before session
reading-new depth before session new = record {
  input = [];
  read = Consumes-nil before.unread;
  fed = record {
    pieces = [];
    rest = [];
    splits = splits-one [] (All-nil (λ b. b ≢ 10));
    told = record {
      replies = [];
      run = (refl, ap (λ s. world s before.store) new.bench);
      sent = appends_nothing before.written;
      accepted = new.accepted;
      refused = new.refused;
    };
    held = new.line;
  };
}

-- before a read, all lines that a newline ends are answered
pub whole-lines : (depth : ℕ) (before after : Outside) (session : Session) → Reading depth before after session → AnswersWholeLines depth before after
whole-lines depth before after session reading = record {
  input = reading.input;
  lines = map trimmed reading.fed.pieces;
  replies = reading.fed.told.replies;
  state = session.bench.state;
  read = reading.read;
  are_lines = (reading.fed.pieces, reading.fed.rest, reading.fed.splits, refl);
  run = reading.fed.told.run;
  sent = reading.fed.told.sent;
}

-- a turn that ends in a fault
pub ended-by : (depth : ℕ) (before after : Outside) (session : Session) (fault : RunFault) → Turned (Err fault) depth before after session → ComesTo depth before after (Err fault)
ended-by depth before after session Read turned = turned
ended-by depth before after session Write turned = turned
ended-by depth before after session Memory turned = absurd turned
