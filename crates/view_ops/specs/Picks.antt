-- What is picked from the axes of a layout, with slices as runs.
use Rattle.std.specs.Prelude.{◌<◌, ℕ, List, [], ◌∷◌}
use Rattle.view_ops.specs.declared.picks.AxisPick.{AxisPick}
use Rattle.view_ops.specs.declared.picks.AxisPick.TheVariants.{At as AtAxis, Along as AlongAxis, New as NewAxis}
use Rattle.view_ops.specs.Slices.{run_numbers, IsRunWithin}
use Rattle.view_ops.specs.Basics.{Pick, At, Along, New}

abbrev pub pick_shown : AxisPick → Pick
pick_shown (AtAxis number) = At number
pick_shown (AlongAxis run) = Along (run_numbers run)
pick_shown NewAxis = New

-- Each pick is within its axis of the shape, and each axis has one pick.
abbrev pub ArePicks : List ℕ → List AxisPick → Type 0
ArePicks shape (NewAxis ∷ picks) = ArePicks shape picks
ArePicks [] [] = Unit {0}
ArePicks (n ∷ shape) (AtAxis number ∷ picks) = (number < n) × ArePicks shape picks
ArePicks (n ∷ shape) (AlongAxis run ∷ picks) = IsRunWithin run n × ArePicks shape picks
ArePicks _ _ = ⊥

-- the first number that a pick takes on its axis. A new axis has none.
abbrev pub first_of : AxisPick → List ℕ
first_of (AtAxis number) = number ∷ []
first_of (AlongAxis run) = run.first ∷ []
first_of NewAxis = []
