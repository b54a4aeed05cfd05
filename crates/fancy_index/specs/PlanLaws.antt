-- Laws about what a plan writes.
use Rattle.std.specs.Prelude.{◌≡◌, ℕ, ℤ, List, [], ◌∷◌, ◌++◌, length}
use Rattle.std.proofs.Common.{zero, suc, refl, sym, ap, ◌∙◌}
use Rattle.fancy_index.specs.Words.{put, place, EachWithin, filled, fewer, Run, run_offsets, run_offsets-more}
use Rattle.fancy_index.specs.Plans.{put_each}

-- Writing an item at `to ++ to'` is the same as writing it at `to`, and then at `to'`.
pub put_each-append : (to to' item block : List ℕ) → put_each (to ++ to') item block ≡ put_each to' item (put_each to item block)
put_each-append [] to' item block = refl
put_each-append (at ∷ to) to' item block = put_each-append to to' item (put at item block)

-- Filling a run is the same as writing the item at each offset of the run.
pub filled-run : (len at : ℕ) (step : ℤ) (item : List ℕ) (n : ℕ) (block : List ℕ) → EachWithin len at step (length item) n →
    filled at step item n block ≡ put_each (run_offsets (record { offset = at; count = n; step = step })) item block
filled-run len at step item zero block to = refl
filled-run len at step item (suc n) block to =
    let here : Run = record { offset = at; count = n; step = step } in
    ap (put (place at step n) item) (filled-run len at step item n block (fewer len at step (length item) n to))
    ∙ sym (put_each-append (run_offsets here) (place at step n ∷ []) item block)
    ∙ λ i. put_each (sym (run_offsets-more len at step (length item) n to) i) item block
