-- The outcome of the question whether two arrays share cells.
use Rattle.std.proofs.Common.{◌≡◌, ℕ, false, ◌&&◌, is_some, inl, inr, List, refl, sym, ap, ◌∙◌, Option, Some, None, Err}
use Rattle.bench_engine.proofs.Words.{Refusal, UnknownName, State, find_array, is_bound, share_cells, AnswersShares, Array, IsRefused, question_outcome, accepted_with, shares_text}
use Rattle.script_lang.specs.declared.command.Question.TheVariants.{Shares}

pub shares-done : (s : State) (left right : List ℕ) (a b : Array) → find_array s.names left ≡ Some a → find_array s.names right ≡ Some b → question_outcome s (Shares left right) ≡ accepted_with s (shares_text (share_cells s a b))
shares-done s left right a b is-a is-b = rw (is-a, is-b) refl

shares-none : (s : State) (left right : List ℕ) (a b : Option Array) → find_array s.names left ≡ a → find_array s.names right ≡ b → (is_some a && is_some b) ≡ false → question_outcome s (Shares left right) ≡ Err UnknownName
shares-none s left right None b is-a is-b none = rw is-a refl
shares-none s left right (Some a) None is-a is-b none = rw (is-a, is-b) refl
shares-none s left right (Some a) (Some b) is-a is-b none = cc

pub shares-refused : (s : State) (left right : List ℕ) (e : Refusal) → AnswersShares s left right (Err e) → IsRefused (is_bound s left && is_bound s right) (λ choice. question_outcome s (Shares left right)) e
shares-refused s left right e (inl (none, is)) = inr (λ choice. shares-none s left right (find_array s.names left) (find_array s.names right) refl refl none ∙ ap Err (sym is))
shares-refused s left right e (inr (both', is)) = inl (is, both')
