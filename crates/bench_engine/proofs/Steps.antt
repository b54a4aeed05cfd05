-- The answers to a command and to a line, from what the calls that carry them out ensure.
use Rattle.std.proofs.Common.{◌⊎◌, Bool, IsTrue, Result, ◌≡◌, ◌≤◌, ◌+◌, ℕ, suc, false, List, [], ◌∷◌, Some, None, refl, sym, ap, subst, ◌∙◌, inl, inr, arith, Err, Ok}
use Rattle.bench_engine.proofs.Words.{unsigned_tied, ne_eqb, nat_cmp, AllByRecursion, FinMap, get, get-entries, find, entries, All-from_recursion, Refusal, LineTooLong, OutOfMemory, Command, Line, silent, bad_byte, misspelt, asks, MayLackRoom, Says, State, Buffer, StoreState, Array, Reply, refusal, Choice, IsAllowed, Outcome, after_outcome, World, world, Refuses, DoesAlone, Meaning, too_long, says, AnswersMeaning, MayAnswer, IsRefused, CarriesOut, Carried, ReadsAs}

over : List (ℕ × Buffer) → ℕ
over [] = 0
over (e ∷ es) = suc e.0 + over es

find-over : (es : List (ℕ × Buffer)) (q : ℕ) → over es ≤ q → find nat_cmp q es ≡ None
unfolding over
find-over [] q h = refl
find-over (e ∷ es) q h = rw (unsigned_tied q e.0 ∙ ne_eqb q e.0 (λ same. omega arith)) (find-over es q (omega arith))

over_kept : List (List (List ℕ × Array) × FinMap nat_cmp Buffer) → ℕ
over_kept [] = 0
over_kept (k ∷ kept) = over (entries k.1) + over_kept kept

unkept : (kept : List (List (List ℕ × Array) × FinMap nat_cmp Buffer)) (q : ℕ) → over_kept kept ≤ q → AllByRecursion (λ k. get k.1 q ≡ None) kept
unfolding over_kept
unkept [] q h = tt
unkept (k ∷ kept) q h = (get-entries k.1 q ∙ find-over (entries k.1) q (omega arith), unkept kept q (omega arith))

-- some choice is always allowed
pub spare : (s : State) → (choice : Choice) × IsAllowed s choice
spare s =
    let n : ℕ = over (entries s.buffers) + over_kept s.kept in (
      record { fresh = n },
      record {
        unused = get-entries s.buffers n ∙ find-over (entries s.buffers) n (omega arith);
        unkept = All-from_recursion _ s.kept (unkept s.kept n (omega arith));
      },
    )

-- a refused command
refused : (old new : State) (shelf : StoreState) (may : Bool) (outcome : Choice → Outcome) (r : Refusal) → new ≡ old → IsRefused may outcome r →
    DoesAlone (world old shelf) outcome (world new shelf) (refusal r) ⊎ (IsTrue may × Refuses (world old shelf) (world new shelf) OutOfMemory (refusal r))
refused old new shelf may outcome r same (inl lacks) = inr (lacks.1, (ap (λ s. world s shelf) same, ap refusal lacks.0))
refused old new shelf may outcome r same (inr is) =
    let any = spare old in
    inl (refl, (any.0, any.1, ap (after_outcome old) (is any.0) ∙ ap (λ (s : State). (s, refusal r)) (sym same)))

-- a command that does not ask the store is carried out, or is refused
pub carried : (old new : State) (shelf : StoreState) (may : Bool) (outcome : Choice → Outcome) (text : List ℕ) (result : Result (Unit {0}) Refusal) → CarriesOut may outcome old new text result →
    Carried (λ reply. DoesAlone (world old shelf) outcome (world new shelf) reply ⊎ (IsTrue may × Refuses (world old shelf) (world new shelf) OutOfMemory reply)) text result
carried old new shelf may outcome text (Ok done) h = inl (refl, (h.0, h.1, ap (after_outcome old) h.2))
carried old new shelf may outcome text (Err e) h = refused old new shelf may outcome e h.0 h.1

-- a line that asks for a command
asked : (old new : World) (line : Line) (command : Command) (reply : Reply) → line ≡ asks command → MayAnswer old command new reply → AnswersMeaning old (says line) new (reply ∷ [])
asked old new line command reply is done = subst (λ (l : Line). AnswersMeaning old (says l) new (reply ∷ [])) (sym is) (reply, refl, inl done)

pub answered : (old new : World) (meaning : Meaning) (command : Command) (reply : Reply) → ReadsAs (Ok (Some command)) meaning → MayAnswer old command new reply → AnswersMeaning old meaning new (reply ∷ [])
answered old new too_long command reply is done = cc
answered old new (says line) command reply is done = asked old new line command reply is done

lacking : (old : World) (line : Line) → MayLackRoom line → AnswersMeaning old (says line) old (refusal OutOfMemory ∷ [])
lacking old silent h = absurd h
lacking old bad_byte h = absurd h
lacking old misspelt h = (refusal OutOfMemory, refl, inr (refl, refl))
lacking old (asks command) h = (refusal OutOfMemory, refl, inr (h, (refl, refl)))

-- a line that is refused
misread : (old : World) (line : Line) (r : Refusal) → Says (Err r) line → AnswersMeaning old (says line) old (refusal r ∷ [])
misread old line r (inl p) = subst (λ (l : Line). AnswersMeaning old (says l) old (refusal r ∷ [])) (sym p.1) (refusal r, refl, inl (refl, ap refusal p.0))
misread old line r (inr (inl p)) = subst (λ (l : Line). AnswersMeaning old (says l) old (refusal r ∷ [])) (sym p.1) (refusal r, refl, (refl, ap refusal p.0))
misread old line r (inr (inr p)) = subst (λ (e : Refusal). AnswersMeaning old (says line) old (refusal e ∷ [])) (sym p.0) (lacking old line p.1)

pub refused_line : (old : World) (meaning : Meaning) (r : Refusal) → ReadsAs (Err r) meaning → AnswersMeaning old meaning old (refusal r ∷ [])
refused_line old too_long r is = let which : r ≡ LineTooLong = cc in (refusal r, refl, (refl, ap refusal which))
refused_line old (says line) r is = misread old line r is

-- a line that asks for nothing
nothing_asked : (old : World) (line : Line) → line ≡ silent → AnswersMeaning old (says line) old []
nothing_asked old line is = subst (λ (l : Line). AnswersMeaning old (says l) old []) (sym is) (refl, refl)

pub silent_line : (old : World) (meaning : Meaning) → ReadsAs (Ok None) meaning → AnswersMeaning old meaning old []
silent_line old too_long is = cc
silent_line old (says line) is = nothing_asked old line is
