-- Names that are looked up, and questions about their arrays.
use Rattle.std.proofs.Common.{◌≡◌, ◌&&◌, ℕ, true, false, List, [], ◌∷◌, Ok, refl, sym, ap, Option, Some, None, Err, is_some}
use Rattle.bench_engine.proofs.Words.{list_all, UnknownName, Refusal, Ask, Print, offsets, array_text, items_from, State, find_array, is_bound, Shows, ArrayRef, Array, and-true, refusal, may_lack_memory, IsRefused, MayPrint, question_outcome, accepted_with}
use Rattle.bench_engine.specs.Words.{Finds}
use Rattle.script_lang.specs.declared.command.Question.TheVariants as question
use Rattle.bench_engine.proofs.Steps.{spare, carried}

-- a lookup finds the array of a bound name, and nothing for an unbound one
pub not_found : (s : State) (found : Option Array) → Finds s found None → found ≡ None
not_found s None h = refl
not_found s (Some array) h = absurd h

nothing : (found : Option Array) → (is_some found && true) ≡ false → found ≡ None
nothing None none = refl
nothing (Some array) none = cc

pub unbound : (s : State) (name : List ℕ) → list_all (is_bound s) (name ∷ []) ≡ false → find_array s.names name ≡ None
unbound s name none = nothing (find_array s.names name) none

pub bound : (s : State) (name : List ℕ) (array : Array) → find_array s.names name ≡ Some array → is_bound s name ≡ true
bound s name array is = ap is_some is

-- print
pub print-unknown : (s : State) (name : List ℕ) → find_array s.names name ≡ None → question_outcome s (question.Print name) ≡ Err UnknownName
print-unknown s name none = rw none refl

pub print-found : (s : State) (name : List ℕ) (a : Array) (r : ArrayRef) → find_array s.names name ≡ Some a → Shows s a r →
    question_outcome s (question.Print name) ≡ accepted_with s (array_text r.descr.now r.layout.now.shape (items_from r.descr.now r.block.now (offsets r.layout.now)))
print-found s name a r is shows = rw is (λ i. accepted_with s (array_text (shows.descr i) (sym shows.view.laid.shape i) (shows.reads i)))

-- the reply to `print`, and its refusal
pub may-print : (s : State) (name text : List ℕ) → question_outcome s (question.Print name) ≡ accepted_with s text → MayPrint s name (record { text = text; accepted = true })
may-print s name text is shelf =
    let any = spare s in
    carried s s shelf (may_lack_memory s (Ask (Print name))) (λ choice. question_outcome s (question.Print name)) text (Ok tt) (any.0, any.1, is)

pub may-refuse : (s : State) (name : List ℕ) (r : Refusal) → IsRefused (is_bound s name) (λ choice. question_outcome s (question.Print name)) r → MayPrint s name (refusal r)
may-refuse s name r is shelf =
    carried s s shelf (may_lack_memory s (Ask (Print name))) (λ choice. question_outcome s (question.Print name)) [] (Err r) (refl, rw and-true is)
