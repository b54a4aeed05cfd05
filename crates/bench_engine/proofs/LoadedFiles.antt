-- Arrays that are loaded.
use Rattle.std.proofs.Common.{◌≡◌, ◌∙◌, ℕ, true, false, List, refl, sym, ap, subst, inl, inr, arith, Option, Some, None, Result, Ok, Err}
use Rattle.bench_engine.proofs.Words.{get, Refusal, TooManyNames, OutOfMemory, item_size, items_in, count, Owned, places_of, StoreState, IsSameStore, FaultHasCause, IsRead, StoreFault, Device, TooLong, Memory, Loaded, Loads, HoldsFileItems, file_order, Bind, State, has_room_for, LoadValue, held, CarriesOut, Carried, Finds, refusal, MayAnswer, Choice, IsAllowed, after_outcome, world, Found, MayFind, loaded, loaded_contents, bound_loaded, load_outcome, LoadStep}
use Rattle.bench_engine.proofs.Stored.{places-stored}
use Rattle.bench_engine.proofs.Steps.{spare}

-- the contents of an owned array whose items lie as in a file
pub contents-held : (o : Owned) (l : Loaded) → HoldsFileItems o l.head l.items → loaded_contents l ≡ held o
contents-held o l has = λ i. record {
  shape = sym has.shape i;
  places = (sym (places-stored (file_order l.head.fortran) (item_size l.head.descr) l.head.shape (omega (arith, o.fills_block.some, ap item_size has.descr))) ∙ λ j. places_of (item_size (sym has.descr j)) (sym has.order j)) i;
  buffer = record { descr = sym has.descr i; items = items_in (sym has.descr i) (count (sym has.shape i)) (sym has.block i) };
}

load-bad : (choice : Choice) (s : State) (name : List ℕ) (found : Found) (e : Refusal) → loaded found ≡ Err e → load_outcome choice s name found ≡ Err e
unfolding load_outcome
load-bad choice s name found e bad = rw bad refl

load-done : (choice : Choice) (s : State) (name : List ℕ) (found : Found) (l : Loaded) → loaded found ≡ Ok l → load_outcome choice s name found ≡ bound_loaded choice s name l.rest (loaded_contents l)
unfolding load_outcome
load-done choice s name found l good = rw good refl

-- there is no room for the name
pub load-full : (s : State) (shelf : StoreState) (name file : List ℕ) → has_room_for s name ≡ false → MayAnswer (world s shelf) (Bind name (LoadValue file)) (world s shelf) (refusal TooManyNames)
load-full s shelf name file full = inl (rw full (refl, refl))

-- out of memory, after the store was asked, counts as an answer of the store
load-lacks : (s t : State) (old new : StoreState) (name file : List ℕ) (found : Found) (e : Refusal) → has_room_for s name ≡ true → MayFind old new file found → t ≡ s → e ≡ OutOfMemory → LoadStep (world s old) name file (world t new) (refusal e)
load-lacks s t old new name file found e room may same lacks =
    let any = spare s in
    rw room (
      Err Memory,
      record { same = may.same; files = may.files; cause = tt; read = λ _. tt },
      (any.0, any.1, ap (after_outcome s) (load-bad any.0 s name (Err Memory) OutOfMemory refl) ∙ (λ i. (sym same i, refusal (sym lacks i)))),
    )

-- the answer of the store leads to a refusal
pub find-refused : (s : State) (old new : StoreState) (name file : List ℕ) (e : Refusal) → has_room_for s name ≡ true → Finds old new file (Err e) → MayAnswer (world s old) (Bind name (LoadValue file)) (world s new) (refusal e)
find-refused s old new name file e room finds =
    inl (elim finds.loads as (λ _. LoadStep (world s old) name file (world s new) (refusal e)) [
      | inl lacks ↦ load-lacks s s old new name file finds.found e room finds.may refl lacks
      | inr bad ↦ let any = spare s in rw room (finds.found, finds.may, (any.0, any.1, ap (after_outcome s) (load-bad any.0 s name finds.found e bad)))
    ])

done-step : (s t : State) (old new : StoreState) (name file text : List ℕ) (found : Found) (choice : Choice) → has_room_for s name ≡ true → MayFind old new file found → IsAllowed s choice →
    after_outcome s (load_outcome choice s name found) ≡ (t, record { text = text; accepted = true }) → LoadStep (world s old) name file (world t new) (record { text = text; accepted = true })
done-step s t old new name file text found choice room may allowed is = rw room (found, may, (choice, allowed, is))

-- the name is bound to the loaded array
pub load-answers : (s t : State) (old new : StoreState) (name file text : List ℕ) (o : Owned) (rest : ℕ) (result : Result (Unit {0}) Refusal) → has_room_for s name ≡ true → Finds old new file (Ok (o, rest)) →
    CarriesOut true (λ choice. bound_loaded choice s name rest (held o)) s t text result → Carried (MayAnswer (world s old) (Bind name (LoadValue file)) (world t new)) text result
load-answers s t old new name file text o rest (Ok done) room finds h =
    let l : Loaded = finds.loads.0 in
    let is : load_outcome h.0 s name finds.found ≡ bound_loaded h.0 s name rest (held o) =
    load-done h.0 s name finds.found l finds.loads.1 ∙ (λ i. bound_loaded h.0 s name (sym finds.loads.3 i) (contents-held o l finds.loads.2 i)) in
    inl (done-step s t old new name file text finds.found h.0 room finds.may h.1 (ap (after_outcome s) (is ∙ h.2)))
load-answers s t old new name file text o rest (Err e) room finds (kept, inl lacks) =
    inl (load-lacks s t old new name file finds.found e room finds.may kept lacks.0)
load-answers s t old new name file text o rest (Err e) room finds (kept, inr bad) =
    let any = spare s in let no = bad any.0 in cc

-- an answer of the store, with the bytes as a view shows them
abbrev pub as-found : {V : Type 0} → (V → List ℕ) → Result (Option V) StoreFault → Found
as-found view (Ok None) = Ok None
as-found view (Ok (Some bytes)) = Ok (Some (view bytes))
as-found view (Err fault) = Err fault

may-find : {V : Type 0} (view : V → List ℕ) (old new : StoreState) (file : List ℕ) (answer : Result (Option V) StoreFault) → IsSameStore old new → new.files ≡ old.files → FaultHasCause old new answer → (old.honest ≡ true → IsRead view old.limit (get old.files file) answer) → MayFind old new file (as-found view answer)
may-find view old new file (Ok None) same files cause read = record { same = same; files = files; cause = tt; read = read }
may-find view old new file (Ok (Some bytes)) same files cause read = record { same = same; files = files; cause = tt; read = read }
may-find view old new file (Err Device) same files cause read = record { same = same; files = files; cause = cause; read = read }
may-find view old new file (Err TooLong) same files cause read = record { same = same; files = files; cause = tt; read = read }
may-find view old new file (Err Memory) same files cause read = record { same = same; files = files; cause = tt; read = read }

pub finds : {V : Type 0} (view : V → List ℕ) (old new : StoreState) (name file : List ℕ) (answer answer' : Result (Option V) StoreFault) (result : Result (Owned × ℕ) Refusal) → name ≡ file → answer ≡ answer' → IsSameStore old new → new.files ≡ old.files → FaultHasCause old new answer →
    (old.honest ≡ true → IsRead view old.limit (get old.files name) answer) → Loads result (loaded (as-found view answer')) → Finds old new file result
finds {V} view old new name file answer answer' result same is kept files cause read loads = record {
  found = as-found view answer;
  may = may-find view old new file answer kept files cause (subst (λ (n : List ℕ). old.honest ≡ true → IsRead view old.limit (get old.files n) answer) same read);
  loads = subst (λ (a : Result (Option V) StoreFault). Loads result (loaded (as-found view a))) (sym is) loads;
}
