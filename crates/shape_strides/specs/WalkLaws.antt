-- Laws for loops over a walk.
use Rattle.std.specs.Prelude.{◌≡◌, List, ◌∷◌, ℕ, ◌+◌, length, pos, ◌+ℤ◌, ◌*ℤ◌}
use Rattle.std.proofs.Common.{◌∙◌, arith, length-append}
use Rattle.shape_strides.specs.Words.{length-map, length-map-range_with_len, numbers_from}
use Rattle.shape_strides.specs.declared.runs.Run.{Run}
use Rattle.shape_strides.specs.Addresses.{natural}
use Rattle.shape_strides.specs.Runs.{run_offsets, runs}
use Rattle.shape_strides.specs.RunPairs.{all_offsets}

pub length-run_offsets : (run : Run) → length (run_offsets run) ≡ run.count
length-run_offsets run =
    let number = λ (k : ℕ). pos run.offset +ℤ run.step *ℤ pos k in
    length-map (numbers_from (pos run.offset) run.step run.count) natural ∙ length-map-range_with_len number 0 run.count

pub length-first : (run : Run) (runs : List Run) → length (all_offsets (run ∷ runs)) ≡ run.count + length (all_offsets runs)
length-first run runs = omega (arith, length-append (run_offsets run) (all_offsets runs), length-run_offsets run)
