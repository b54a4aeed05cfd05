-- Arrays that are saved.
use Rattle.std.proofs.Common.{◌≡◌, ◌⊎◌, ◌∙◌, ℕ, true, List, ◌++◌, length, map, codes, decimal, refl, sym, ap, inl, inr, subst, Some, None, Result, Ok, Err}
use Rattle.bench_engine.proofs.Words.{Refusal, UnknownName, OutOfMemory, item_from, offsets, StoreState, IsSameStore, FaultHasCause, IsKept, IsWritten, saved, Save, State, find_array, is_bound, Shows, ArrayRef, Array, Reply, refusal, world, store_refusal, Stored, file_of_name, save_reply, SaveStep, MayAnswer, refused, Puts}

unknown : (s : State) (name : List ℕ) → find_array s.names name ≡ None → file_of_name s name ≡ Err UnknownName
unfolding file_of_name
unknown s name none = rw none refl

-- the file of a shown array
file-shown : (s : State) (name : List ℕ) (a : Array) (r : ArrayRef) → find_array s.names name ≡ Some a → Shows s a r →
    file_of_name s name ≡ saved r.descr.now r.layout.now.shape (offsets r.layout.now) (map (item_from r.descr.now r.block.now) (offsets r.layout.now))
unfolding file_of_name
file-shown s name a r is shows = rw is (λ i. saved (shows.descr i) (sym shows.view.laid.shape i) (sym shows.view.laid.places i) (shows.reads i))

-- there is no file to write
not-there : (s : State) (shelf : StoreState) (name file : List ℕ) (e : Refusal) → file_of_name s name ≡ Err e → SaveStep (world s shelf) name file (world s shelf) (refusal e)
not-there s shelf name file e bad = rw bad (refl, refl)

pub save-unknown : (s : State) (shelf : StoreState) (name file : List ℕ) → find_array s.names name ≡ None → MayAnswer (world s shelf) (Save name file) (world s shelf) (refusal UnknownName)
save-unknown s shelf name file none = inl (not-there s shelf name file UnknownName (unknown s name none))

pub save-refused : (s : State) (shelf : StoreState) (name file : List ℕ) (a : Array) (r : ArrayRef) (e : Refusal) → find_array s.names name ≡ Some a → is_bound s name ≡ true → Shows s a r →
    (e ≡ OutOfMemory) ⊎ (saved r.descr.now r.layout.now.shape (offsets r.layout.now) (map (item_from r.descr.now r.block.now) (offsets r.layout.now)) ≡ Err e) →
    MayAnswer (world s shelf) (Save name file) (world s shelf) (refusal e)
save-refused s shelf name file a r e is bound shows (inl lacks) = inr (rw bound refl, (refl, ap refusal lacks))
save-refused s shelf name file a r e is bound shows (inr bad) = inl (not-there s shelf name file e (file-shown s name a r is shows ∙ bad))

told-refusal : (n : ℕ) (stored : Stored) (e : Refusal) → Err e ≡ refused stored → refusal e ≡ save_reply n stored
told-refusal n (Ok done) e is = cc
told-refusal n (Err fault) e is = let same : e ≡ store_refusal fault = cc in ap refusal same

told-done : (n : ℕ) (stored : Stored) (done : Unit {0}) → Ok done ≡ refused stored → record { text = codes "ok save " ++ decimal n; accepted = true } ≡ save_reply n stored
told-done n (Ok done) _ is = refl
told-done n (Err fault) done is = cc

-- the store is asked
asked : (s : State) (old new : StoreState) (name file bytes : List ℕ) (result : Result (Unit {0}) Refusal) (reply : Reply) → file_of_name s name ≡ Ok bytes → (puts : Puts old new file bytes result) → reply ≡ save_reply (length bytes) puts.stored →
    MayAnswer (world s old) (Save name file) (world s new) reply
asked s old new name file bytes result reply is puts told = inl (rw is (refl, puts.stored, puts.may, told))

-- the store has written the file
pub save-done : (s : State) (old new : StoreState) (name file bytes : List ℕ) (a : Array) (r : ArrayRef) (done : Unit {0}) → find_array s.names name ≡ Some a → Shows s a r →
    saved r.descr.now r.layout.now.shape (offsets r.layout.now) (map (item_from r.descr.now r.block.now) (offsets r.layout.now)) ≡ Ok bytes → Puts old new file bytes (Ok done) →
    MayAnswer (world s old) (Save name file) (world s new) (record { text = codes "ok save " ++ decimal (length bytes); accepted = true })
save-done s old new name file bytes a r done is shows good puts =
    asked s old new name file bytes (Ok done) _ (file-shown s name a r is shows ∙ good) puts (told-done (length bytes) puts.stored done puts.tells)

-- the store reports a fault
pub save-not-stored : (s : State) (old new : StoreState) (name file bytes : List ℕ) (a : Array) (r : ArrayRef) (e : Refusal) → find_array s.names name ≡ Some a → Shows s a r →
    saved r.descr.now r.layout.now.shape (offsets r.layout.now) (map (item_from r.descr.now r.block.now) (offsets r.layout.now)) ≡ Ok bytes → Puts old new file bytes (Err e) →
    MayAnswer (world s old) (Save name file) (world s new) (refusal e)
save-not-stored s old new name file bytes a r e is shows good puts =
    asked s old new name file bytes (Err e) _ (file-shown s name a r is shows ∙ good) puts (told-refusal (length bytes) puts.stored e puts.tells)

-- the answer of a store that was asked to write the file
pub puts-answer : (old new : StoreState) (name file bytes : List ℕ) (answer answer' : Stored) (result : Result (Unit {0}) Refusal) → name ≡ file → answer ≡ answer' → IsSameStore old new → FaultHasCause old new answer → IsKept name answer old.files new.files →
    (old.honest ≡ true → IsWritten old name bytes answer new.files) → result ≡ refused answer' → Puts old new file bytes result
puts-answer old new name file bytes answer answer' result same is store cause kept written tells = record {
  stored = answer;
  may = record {
    same = store;
    cause = cause;
    kept = subst (λ (n : List ℕ). IsKept n answer old.files new.files) same kept;
    written = subst (λ (n : List ℕ). old.honest ≡ true → IsWritten old n bytes answer new.files) same written;
  };
  tells = tells ∙ ap refused (sym is);
}
