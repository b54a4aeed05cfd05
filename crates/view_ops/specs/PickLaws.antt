-- Laws of runs of numbers.
use Rattle.std.specs.Prelude.{◌≡◌, ℕ, ◌<◌, pos, ◌+ℤ◌, length}
use Rattle.std.proofs.Common.{get_or, ap, ◌∙◌, arith}
use Rattle.view_ops.specs.Words.{length-map-range_with_len, get_or-map-range_with_len, *ℤ-zero, +ℤ_idr, natural}
use Rattle.view_ops.specs.declared.slice.Progression.{Progression}
use Rattle.view_ops.specs.Slices.{run_number, run_numbers}

pub length-run : (run : Progression) → length (run_numbers run) ≡ run.count
length-run run = length-map-range_with_len (run_number run) 0 run.count

pub number_at : (run : Progression) (k : ℕ) → k < run.count → get_or (run_numbers run) k 0 ≡ run_number run k
number_at run k low = get_or-map-range_with_len (run_number run) 0 run.count k k 0 low (omega arith)

pub first_number : (run : Progression) → run_number run 0 ≡ run.first
first_number run = ap (λ z. natural (pos run.first +ℤ z)) (*ℤ-zero run.step) ∙ ap natural (+ℤ_idr (pos run.first))
