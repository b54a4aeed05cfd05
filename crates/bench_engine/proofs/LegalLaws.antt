-- Shapes within the limits, and items stretched to their own shape.
use Rattle.std.proofs.Common.{◌≡◌, ℕ, true, List, [], ◌∷◌, Result, Ok, Err, sym, ap, ◌∙◌, arith}
use Rattle.bench_engine.proofs.Words.{is_ok, false≢true, Refusal, ◌>>=◌, shape_of, IsShape, shape_read, can_stretch, common_shape}
use Rattle.bench_engine.proofs.StretchLaws.{common-lengths}

pub none-legal : IsShape []
none-legal = record { axes = omega arith; lengths = λ k d below. absurd (omega (arith, below)); items = omega arith }

pub no-refusal : (e : Refusal) → shape_of [] ≡ Err e → ⊥
no-refusal e bad = false≢true (sym (ap is_ok bad) ∙ ap is_ok (shape_read [] none-legal))

-- the common shape of a shape and one that stretches to it is the first of them
pub legal-common : (target shape : List ℕ) → IsShape target → can_stretch shape target ≡ true → common_shape (target ∷ shape ∷ []) ≡ Ok target
unfolding common_shape
legal-common target shape is can = ap (λ (r : Result (List ℕ) Refusal). r >>= shape_of) (common-lengths target shape can) ∙ shape_read target is
