-- Whether a list is affine in a shape. The type of the answer says what is proved, whichever test finds the answer.
use Rattle.std.specs.Prelude.{◌≡◌, ℕ, List}
use Rattle.std.proofs.Common.{true, false, refl, sym, ◌∙◌}
use Rattle.reshape_rule.specs.Words.{false≢true}
use Rattle.reshape_rule.specs.Reshapes.{AffineOrNot, affine, not_affine}
use Rattle.reshape_rule.specs.inside.Tests.{is_affine}
use Rattle.reshape_rule.specs.AffineLaws.{affine-from_test, test_from_affine}

unfoldable pub affine_or_not : (list shape : List ℕ) → AffineOrNot list shape
affine_or_not list shape = elim (is_affine list shape) as (λ b. is_affine list shape ≡ b → AffineOrNot list shape) [
  | true ↦ λ yes. affine (affine-from_test list shape yes)
  | false ↦ λ no. not_affine (λ strides. false≢true (sym no ∙ test_from_affine list shape strides))
] refl
