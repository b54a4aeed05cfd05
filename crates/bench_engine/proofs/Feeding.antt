-- A session that is fed more bytes.
use Rattle.std.proofs.Common.{◌≡◌, ◌≢◌, ◌<◌, ◌+◌, ℕ, Bool, true, false, List, [], ◌∷◌, ◌++◌, length, map, Option, refl, sym, ap, ◌∙◌, subst, arith, append_assoc, add_assoc, not, cond, ◌&&◌, nat_eq, count_by, Result, Ok, Err, OnOk, OnErr}
use Rattle.bench_engine.proofs.Words.{Appends, eqb-suc-zero, false≢true, All-nil, sum_by-append, append-nil, map-append, flat_map-append, State, StoreState, appends_nothing, appends_then, Sends, Session, Reply, World, world, Meaning, AnswersMeaning, meaning_of, Run, IsUnbroken, trimmed, output, reply_line, accepted_count, refused_count, AnswersInPart, HoldsPiece, HoldsBytes, HasTold, Fed, FedInPart, Ends, Told, ToldInPart, TellsHeld, WriteFault}
use Rattle.bench_engine.proofs.Lines.{splits, splits-one, splits-more, splits-then, splits-on, lines-one, lines-none}

count_by-append : (p : Reply → Bool) (xs ys : List Reply) → count_by p (xs ++ ys) ≡ count_by p xs + count_by p ys
count_by-append p xs ys = sum_by-append (λ r. cond (p r) 1 0) xs ys

-- if something is held, the piece is not empty
held-some : (bytes : List ℕ) (is_long : Bool) (piece : List ℕ) → (nat_eq (length bytes) 0 && not is_long) ≡ false → HoldsBytes bytes is_long piece → 0 < length piece
held-some bytes true piece some holds = omega arith
held-some [] false piece some holds = cc
held-some (b ∷ bytes) false piece some holds = omega (arith, ap length holds)

-- if nothing is held, the piece is empty
held-none : (bytes : List ℕ) (is_long : Bool) (piece : List ℕ) → (nat_eq (length bytes) 0 && not is_long) ≡ true → HoldsBytes bytes is_long piece → piece ≡ []
held-none [] true piece none holds = cc
held-none (b ∷ bytes) true piece none holds = absurd (false≢true (rw (eqb-suc-zero (length bytes)) at none))
held-none [] false piece none holds = sym holds
held-none (b ∷ bytes) false piece none holds = absurd (false≢true (rw (eqb-suc-zero (length bytes)) at none))

-- a reply whose rest is written, followed by a newline
sent-line : (w w' w'' : Option (List ℕ)) (rest text : List ℕ) → Sends w w' rest text → Appends w' w'' (rest ++ 10 ∷ []) → Appends w w'' (text ++ 10 ∷ [])
sent-line w w' w'' rest text sent more =
    subst (Appends w w'') (sym (append_assoc sent.0 rest (10 ∷ [])) ∙ ap (λ t. t ++ 10 ∷ []) (sym sent.1)) (appends_then w w' w'' sent.0 (rest ++ 10 ∷ []) sent.2 more)

counted : (reply : Reply) (accepted : Bool) → reply.accepted ≡ accepted → (accepted_count (reply ∷ []) ≡ cond accepted 1 0) × (refused_count (reply ∷ []) ≡ cond accepted 0 1)
counted reply true is = rw is (refl, refl)
counted reply false is = rw is (refl, refl)

-- the line that a session holds is answered
module _ (from to : World) (meaning : Meaning) (old : Session) (reads : (piece : List ℕ) → HoldsPiece old.line piece → meaning ≡ meaning_of (trimmed piece)) where
  held : (replies : List Reply) → AnswersMeaning from meaning to replies → (piece : List ℕ) → HoldsPiece old.line piece → AnswersMeaning from (meaning_of (trimmed piece)) to replies
  held replies answers piece holds = subst (λ (m : Meaning). AnswersMeaning from m to replies) (reads piece holds) answers

  -- it asks for nothing
  pub told-none : (new : Session) (w w' : Option (List ℕ)) → AnswersMeaning from meaning to [] → w' ≡ w → new.accepted ≡ old.accepted → new.refused ≡ old.refused → Told from to w w' old new
  told-none new w w' answers same same-accepted same-refused = record {
    replies = [];
    answers = held [] answers;
    sent = subst (λ (x : Option (List ℕ)). Appends w x []) (sym same) (appends_nothing w);
    accepted = omega arith;
    refused = omega arith;
  }

  -- the reply is sent
  told-sent : (new : Session) (w w' w'' : Option (List ℕ)) (rest : List ℕ) (reply : Reply) (accepted : Bool) → AnswersMeaning from meaning to (reply ∷ []) → reply.accepted ≡ accepted → Sends w w' rest reply.text → Appends w' w'' (rest ++ 10 ∷ []) →
      new.accepted ≡ old.accepted + cond accepted 1 0 → new.refused ≡ old.refused + cond accepted 0 1 → Told from to w w'' old new
  told-sent new w w' w'' rest reply accepted answers is sent more more_accepted more_refused = record {
    replies = reply ∷ [];
    answers = held (reply ∷ []) answers;
    sent = subst (Appends w w'') (sym (append-nil (reply.text ++ 10 ∷ []))) (sent-line w w' w'' rest reply.text sent more);
    accepted = more_accepted ∙ ap (λ n. old.accepted + n) (sym (counted reply accepted is).0);
    refused = more_refused ∙ ap (λ n. old.refused + n) (sym (counted reply accepted is).1);
  }

  -- the reply is cut short
  pub cut-sent : (w w' w'' : Option (List ℕ)) (rest : List ℕ) (reply : Reply) → AnswersMeaning from meaning to (reply ∷ []) → Sends w w' rest reply.text → ((gone missing : List ℕ) × (rest ++ 10 ∷ [] ≡ gone ++ missing) × (0 < length missing) × Appends w' w'' gone) → ToldInPart from to w w'' old
  cut-sent w w' w'' rest reply answers sent part = record {
    reply = reply;
    answers = held (reply ∷ []) answers;
    gone = sent.0 ++ part.0;
    missing = part.1;
    broken = ap (λ t. t ++ 10 ∷ []) sent.1 ∙ append_assoc sent.0 rest (10 ∷ []) ∙ ap (λ t. sent.0 ++ t) part.2 ∙ sym (append_assoc sent.0 part.0 part.1);
    some_missing = part.3;
    sent = appends_then w w' w'' sent.0 part.0 sent.2 part.4;
  }

  -- the rest of the reply is sent, or cut short
  pub tells-held : (new : Session) (w w' w'' : Option (List ℕ)) (rest : List ℕ) (reply : Reply) (accepted : Bool) (result : Result (Unit {0}) WriteFault) → AnswersMeaning from meaning to (reply ∷ []) → reply.accepted ≡ accepted → Sends w w' rest reply.text →
      OnOk result (Appends w' w'' (rest ++ 10 ∷ [])) → OnErr result ((gone missing : List ℕ) × (rest ++ 10 ∷ [] ≡ gone ++ missing) × (0 < length missing) × Appends w' w'' gone) →
      new.accepted ≡ old.accepted + cond accepted 1 0 → new.refused ≡ old.refused + cond accepted 0 1 → TellsHeld from to w w'' old new result
  tells-held new w w' w'' rest reply accepted (Ok _) answers is sent more part more_accepted more_refused = told-sent new w w' w'' rest reply accepted answers is sent more more_accepted more_refused
  tells-held new w w' w'' rest reply accepted (Err _) answers is sent more part more_accepted more_refused = cut-sent w w' w'' rest reply answers sent part

-- two runs in a row
run-append : (old mid new : World) (lines more : List (List ℕ)) (xs ys : List Reply) → Run old lines xs mid → Run mid more ys new → Run old (lines ++ more) (xs ++ ys) new
run-append old mid new [] more xs ys first second = rw first.0 (subst (λ (s : World). Run s more ys new) first.1 second)
run-append old mid new (line ∷ lines) more xs ys first second =
    (first.0, first.1, first.2 ++ ys, ap (λ x. x ++ ys) first.3 ∙ append_assoc first.1 first.2 ys, first.4, run-append first.0 mid new lines more first.2 ys first.5 second)

-- a run over one line
run-one : (old new : World) (line : List ℕ) (replies : List Reply) → AnswersMeaning old (meaning_of line) new replies → Run old (line ∷ []) replies new
run-one old new line replies answered = (new, replies, [], sym (append-nil replies), answered, (refl, refl))

module _ (start mid to : World) (before written written' : Option (List ℕ)) (a r : ℕ) (old new : Session) where
  -- more lines are answered, and their counts are added
  pub told-on : (first second : List (List ℕ)) → HasTold start mid before written first a r old → HasTold mid to written written' second old.accepted old.refused new → HasTold start to before written' (first ++ second) a r new
  told-on first second early late = record {
    replies = early.replies ++ late.replies;
    run = run-append start mid to first second early.replies late.replies early.run late.run;
    sent = rw (flat_map-append reply_line early.replies late.replies) (appends_then before written written' (output early.replies) (output late.replies) early.sent late.sent);
    accepted = late.accepted ∙ ap (λ n. n + accepted_count late.replies) early.accepted ∙ add_assoc a (accepted_count early.replies) (accepted_count late.replies) ∙ ap (λ n. a + n) (sym (count_by-append (λ x. x.accepted) early.replies late.replies));
    refused = late.refused ∙ ap (λ n. n + refused_count late.replies) early.refused ∙ add_assoc r (refused_count early.replies) (refused_count late.replies) ∙ ap (λ n. r + n) (sym (count_by-append (λ x. not x.accepted) early.replies late.replies));
  }

  -- more bytes are fed
  pub fed-on : (read bytes : List ℕ) (early : Fed start mid before written read a r old) → Fed mid to written written' (early.rest ++ bytes) old.accepted old.refused new → Fed start to before written' (read ++ bytes) a r new
  fed-on read bytes early late = record {
    pieces = early.pieces ++ late.pieces;
    rest = late.rest;
    splits = splits-on read bytes early.pieces late.pieces early.rest late.rest early.splits late.splits;
    told = rw (map-append trimmed early.pieces late.pieces) (told-on (map trimmed early.pieces) (map trimmed late.pieces) early.told late.told);
    held = late.held;
  }

module _ (start mid : World) (shelf : StoreState) (before written written' : Option (List ℕ)) (a r : ℕ) (old : Session) where
  -- more lines are answered, and the last reply is cut short
  pub cut-on : (first second : List (List ℕ)) → HasTold start mid before written first a r old → AnswersInPart second mid shelf written written' → AnswersInPart (first ++ second) start shelf before written'
  cut-on first second early part = record {
    answered = first ++ part.answered;
    later = part.later;
    replies = early.replies ++ part.replies;
    last = part.last;
    state = part.state;
    gone = part.gone;
    missing = part.missing;
    front = ap (λ l. first ++ l) part.front ∙ sym (append_assoc first part.answered part.later);
    run = rw (append_assoc early.replies part.replies (part.last ∷ [])) (run-append start mid (world part.state shelf) first part.answered early.replies (part.replies ++ part.last ∷ []) early.run part.run);
    broken = part.broken;
    some_missing = part.some_missing;
    sent = rw (flat_map-append reply_line early.replies part.replies, append_assoc (output early.replies) (output part.replies) part.gone) (appends_then before written written' (output early.replies) (output part.replies ++ part.gone) early.sent part.sent);
  }

-- one line is answered
told-one : (from to : World) (written written' : Option (List ℕ)) (piece : List ℕ) (old new : Session) → HoldsPiece old.line piece → Told from to written written' old new → HasTold from to written written' (trimmed piece ∷ []) old.accepted old.refused new
told-one from to written written' piece old new holds told = record {
  replies = told.replies;
  run = run-one from to (trimmed piece) told.replies (told.answers piece holds);
  sent = told.sent;
  accepted = told.accepted;
  refused = told.refused;
}

-- the first of some lines is answered, and its reply is cut short
cut-one : (from : World) (state : State) (shelf : StoreState) (written written' : Option (List ℕ)) (piece : List ℕ) (later : List (List ℕ)) (old : Session) → HoldsPiece old.line piece → ToldInPart from (world state shelf) written written' old →
    AnswersInPart (trimmed piece ∷ later) from shelf written written'
cut-one from state shelf written written' piece later old holds part = record {
  answered = trimmed piece ∷ [];
  later = later;
  replies = [];
  last = part.reply;
  state = state;
  gone = part.gone;
  missing = part.missing;
  front = refl;
  run = run-one from (world state shelf) (trimmed piece) (part.reply ∷ []) (part.answers piece holds);
  broken = part.broken;
  some_missing = part.some_missing;
  sent = part.sent;
}

-- a session that holds a piece of a line, before it is fed more bytes
pub fed-nothing : (shelf : StoreState) (written : Option (List ℕ)) (held : List ℕ) (s : Session) → IsUnbroken held → HoldsPiece s.line held →
    Fed (world s.bench.state shelf) (world s.bench.state shelf) written written held s.accepted s.refused s
fed-nothing shelf written held s unbroken holds = record {
  pieces = [];
  rest = held;
  splits = splits-one held unbroken;
  told = record {
    replies = [];
    run = (refl, refl);
    sent = appends_nothing written;
    accepted = omega arith;
    refused = omega arith;
  };
  held = holds;
}

module _ (start : World) (before : Option (List ℕ)) (a r : ℕ) where
  -- a piece without a newline is held
  pub fed-piece : (to : World) (written : Option (List ℕ)) (read piece : List ℕ) (old new : Session) → IsUnbroken piece → new.accepted ≡ old.accepted → new.refused ≡ old.refused →
      ((held : List ℕ) → HoldsPiece old.line held → HoldsPiece new.line (held ++ piece)) → Fed start to before written read a r old → Fed start to before written (read ++ piece) a r new
  fed-piece to written read piece old new unbroken same-accepted same-refused holds fed = record {
    pieces = fed.pieces;
    rest = fed.rest ++ piece;
    splits = splits-more read piece fed.pieces fed.rest fed.splits unbroken;
    told = record {
      replies = fed.told.replies;
      run = fed.told.run;
      sent = fed.told.sent;
      accepted = same-accepted ∙ fed.told.accepted;
      refused = same-refused ∙ fed.told.refused;
    };
    held = holds fed.rest fed.held;
  }

  -- a newline comes, and the line before it is answered
  pub fed-newline : (mid to : World) (written written' : Option (List ℕ)) (read : List ℕ) (old new : Session) → HoldsPiece new.line [] → Told mid to written written' old new →
      Fed start mid before written read a r old → Fed start to before written' (read ++ 10 ∷ []) a r new
  fed-newline mid to written written' read old new empty line fed = record {
    pieces = fed.pieces ++ fed.rest ∷ [];
    rest = [];
    splits = splits-then read [] fed.pieces [] fed.rest [] fed.splits (splits-one [] (All-nil (λ b. b ≢ 10)));
    told = rw (map-append trimmed fed.pieces (fed.rest ∷ []))
        (told-on start mid to before written written' a r old new (map trimmed fed.pieces) (trimmed fed.rest ∷ []) fed.told (told-one mid to written written' fed.rest old new fed.held line));
    held = empty;
  }

  -- a newline comes, and the reply to the line before it is cut short
  pub cut-newline : (mid : World) (state : State) (shelf : StoreState) (written written' : Option (List ℕ)) (read more : List ℕ) (old : Session) → ToldInPart mid (world state shelf) written written' old →
      Fed start mid before written read a r old → FedInPart start shelf before written' (read ++ 10 ∷ more)
  cut-newline mid state shelf written written' read more old part fed =
      let s = splits more in (
        map trimmed fed.pieces ++ trimmed fed.rest ∷ map trimmed s.0,
        (fed.pieces ++ fed.rest ∷ s.0, s.1, splits-then read more fed.pieces s.0 fed.rest s.1 fed.splits s.2, sym (map-append trimmed fed.pieces (fed.rest ∷ s.0))),
        cut-on start mid shelf before written written' a r old (map trimmed fed.pieces) (trimmed fed.rest ∷ map trimmed s.0) fed.told (cut-one mid state shelf written written' fed.rest (map trimmed s.0) old fed.held part),
      )

  pub fed_along : (to : World) (written : Option (List ℕ)) (xs ys : List ℕ) (s : Session) → xs ≡ ys → Fed start to before written xs a r s → Fed start to before written ys a r s
  fed_along to written xs ys s same fed = subst (λ bytes. Fed start to before written bytes a r s) same fed

pub fed_in_part_along : (start : World) (shelf : StoreState) (before written : Option (List ℕ)) (xs ys : List ℕ) → xs ≡ ys → FedInPart start shelf before written xs → FedInPart start shelf before written ys
fed_in_part_along start shelf before written xs ys same cut = subst (λ bytes. FedInPart start shelf before written bytes) same cut

-- ---- the end

-- the last line is answered, and its reply is written or cut short
pub ends-line : (shelf shelf' : StoreState) (written written' : Option (List ℕ)) (held : List ℕ) (old new : Session) (result : Result (Unit {0}) WriteFault) → IsUnbroken held → (nat_eq (length old.line.bytes.items) 0 && not old.line.is_long) ≡ false → HoldsPiece old.line held →
    TellsHeld (world old.bench.state shelf) (world new.bench.state shelf') written written' old new result → Ends shelf shelf' written written' held old new result
ends-line shelf shelf' written written' held old new (Ok _) unbroken some holds told =
    (trimmed held ∷ [], lines-one held unbroken (held-some _ _ held some holds), told-one _ _ written written' held old new holds told)
ends-line shelf shelf' written written' held old new (Err _) unbroken some holds part =
    (trimmed held ∷ [], lines-one held unbroken (held-some _ _ held some holds), cut-one _ _ shelf' written written' held [] old holds part)

-- there is no last line
pub ends-empty : (shelf : StoreState) (written : Option (List ℕ)) (held : List ℕ) (s : Session) → (nat_eq (length s.line.bytes.items) 0 && not s.line.is_long) ≡ true → HoldsPiece s.line held → Ends shelf shelf written written held s s (Ok tt)
ends-empty shelf written held s none holds =
    subst (λ (bytes : List ℕ). Ends shelf shelf written written bytes s s (Ok tt)) (sym (held-none _ _ held none holds)) (
      [],
      lines-none,
      record {
        replies = [];
        run = (refl, refl);
        sent = appends_nothing written;
        accepted = omega arith;
        refused = omega arith;
      },
    )
