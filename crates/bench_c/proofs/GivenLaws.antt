-- Arrays that are given, and names that are bound to them.
use Rattle.std.proofs.Common.{◌≡◌, ◌≢◌, ◌⊎◌, ◌≤◌, ◌*◌, ◌<◌, ◌++◌, ℕ, List, [], length, codes, true, false, Result, Ok, Err, refl, sym, ap, ◌∙◌, inl, inr}
use Rattle.bench_c.proofs.Facts.{eq-eqb, le-leb, lt-leb, ne_eqb}
use Rattle.bench_c.specs.Words.{array_type, bound_new, creation_outcome, Contents, Choice, Gives, Answers, Refusal, OutOfMemory, Syntax, NumberOfValues, TooManyNames, Descr, item_size, items_in, Owned, offsets, offsets_in, C, State, has_room_for, count, Line, line_of, asks, Command, Ask, Bind, Delete, Save, Set, Undo, Update}
use Rattle.bench_engine.specs.declared.replies.Origin.TheVariants as origin
use Rattle.script_lang.specs.Reading.{Says}
use Rattle.bench_c.specs.Arrays.{deleted, given_contents, named}
use Rattle.bench_c.specs.ArrayCalls.{put_outcome}
use Rattle.bench_engine.specs.inside.Contract.{CarriesOut}
use Rattle.bench_engine.specs.inside.OwnContents.{held}
use Rattle.bench_engine.specs.NewArrayLaws.{creation-refused, held-is, in-order, made-answers, same-answers}

-- ---- names

pub other-command : (command : Command) → ((name : List ℕ) → command ≡ Delete name → ⊥) → deleted (asks command) ≡ Err Syntax
other-command (Bind name value) not = refl
other-command (Set name index value) not = refl
other-command (Update name index operation value) not = refl
other-command (Delete name) not = absurd (not name refl)
other-command Undo not = refl
other-command (Save name file) not = refl
other-command (Ask question) not = refl

pub named-long : (name : List ℕ) → 32 < length name → named name ≡ Err Syntax
unfolding named
named-long name long = rw (lt-leb (length name) 32 long) refl

pub named-short : (name : List ℕ) → length name ≤ 32 → named name ≡ deleted (line_of (codes "del " ++ name))
unfolding named
named-short name short = rw (le-leb (length name) 32 short) refl

pub named-refused : (name line : List ℕ) (e : Refusal) → length name ≤ 32 → line ≡ codes "del " ++ name → Says (Err e) (line_of line) → (e ≡ OutOfMemory) ⊎ (named name ≡ Err e)
named-refused name line e short same (inl (is, wrong)) = inr (named-short name short ∙ ap (λ l. deleted (line_of l)) (sym same) ∙ ap deleted wrong ∙ ap Err (sym is))
named-refused name line e short same (inr (inl (is, wrong))) = inr (named-short name short ∙ ap (λ l. deleted (line_of l)) (sym same) ∙ ap deleted wrong ∙ ap Err (sym is))
named-refused name line e short same (inr (inr lacks)) = inl lacks.0

pub named-says : (name line : List ℕ) (said : Line) → length name ≤ 32 → line ≡ codes "del " ++ name → line_of line ≡ said → named name ≡ deleted said
named-says name line said short same is = named-short name short ∙ ap (λ l. deleted (line_of l)) (sym same) ∙ ap deleted is

-- ---- contents

pub given-number : (text lengths bytes : List ℕ) (descr : Descr) (shape : List ℕ) → array_type text lengths ≡ Ok (descr, shape) → length bytes ≢ count shape * item_size descr → given_contents text lengths bytes ≡ Err NumberOfValues
unfolding given_contents
given-number text lengths bytes descr shape good other = rw (good, ne_eqb (length bytes) (count shape * item_size descr) other) refl

pub given-done : (text lengths bytes : List ℕ) (descr : Descr) (shape : List ℕ) (o : Owned) → array_type text lengths ≡ Ok (descr, shape) → length bytes ≡ count shape * item_size descr →
    o.descr ≡ descr → o.layout.shape ≡ shape → o.block ≡ bytes → offsets o.layout ≡ offsets_in C (item_size descr) shape → given_contents text lengths bytes ≡ Ok (held o)
unfolding given_contents
given-done text lengths bytes descr shape o good many typed shaped filled laid =
    rw (good, eq-eqb (length bytes) (count shape * item_size descr) many) (ap Ok (held-is o descr shape bytes (items_in descr (count shape) bytes) typed shaped filled refl (in-order o descr shape typed shaped laid)))

-- ---- binding

creation-full : (choice : Choice) (s : State) (name : List ℕ) (contents : Result Contents Refusal) → has_room_for s name ≡ false → creation_outcome choice s name contents ≡ Err TooManyNames
unfolding creation_outcome
creation-full choice s name contents full = rw full refl

-- what creates an array under the name that is spelled puts the array that is given
on-name : (s new : State) (name name' : List ℕ) (contents : Result Contents Refusal) (text : List ℕ) (result : Result (Unit {0}) Refusal) → named name ≡ Ok name' → CarriesOut true (λ choice. creation_outcome choice s name' contents) s new text result → CarriesOut true (λ choice. put_outcome choice s name contents) s new text result
on-name s new name name' contents text result is h =
    same-answers s new true true (λ choice. creation_outcome choice s name' contents) (λ choice. put_outcome choice s name contents) text result refl (λ choice. rw is refl) h

pub binds-unnamed : (s : State) (name : List ℕ) (contents : Result Contents Refusal) (e : Refusal) (text : List ℕ) → (e ≡ OutOfMemory) ⊎ (named name ≡ Err e) → CarriesOut true (λ choice. put_outcome choice s name contents) s s text (Err e)
binds-unnamed s name contents e text (inl lacks) = (refl, inl (lacks, refl))
binds-unnamed s name contents e text (inr bad) = (refl, inr (λ choice. rw bad refl))

pub binds-full : (s : State) (name name' : List ℕ) (contents : Result Contents Refusal) (text : List ℕ) → named name ≡ Ok name' → has_room_for s name' ≡ false → CarriesOut true (λ choice. put_outcome choice s name contents) s s text (Err TooManyNames)
binds-full s name name' contents text is full = on-name s s name name' contents text (Err TooManyNames) is (refl, inr (λ choice. creation-full choice s name' contents full))

pub binds-bad : (s : State) (name name' : List ℕ) (contents : Result Contents Refusal) (e : Refusal) (text : List ℕ) → named name ≡ Ok name' → has_room_for s name' ≡ true → (e ≡ OutOfMemory) ⊎ (contents ≡ Err e) → CarriesOut true (λ choice. put_outcome choice s name contents) s s text (Err e)
binds-bad s name name' contents e text is room why = on-name s s name name' contents text (Err e) is (refl, creation-refused s name' contents e room why)

pub binds-made : (s new : State) (name name' : List ℕ) (contents : Result Contents Refusal) (o : Owned) (result : Result (Unit {0}) Refusal) (text : List ℕ) → named name ≡ Ok name' → has_room_for s name' ≡ true → contents ≡ Ok (held o) →
    CarriesOut true (λ choice. bound_new choice s name' origin.New (held o)) s new text result → CarriesOut true (λ choice. put_outcome choice s name contents) s new text result
binds-made s new name name' contents o result text is room good binds =
    on-name s new name name' contents text result is (made-answers s new name' contents o result text room good binds)

pub given-name : (x there : Result (List ℕ) Refusal) → Answers (λ (n : List ℕ). n) x there → Gives (λ (n : List ℕ). n) x there
given-name (Ok name) there is = is
given-name (Err e) there is = inr is
