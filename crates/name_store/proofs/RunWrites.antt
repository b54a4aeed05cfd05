-- One item written at the offsets of runs.
use Rattle.std.proofs.Common.{◌≡◌, ℕ, List, ◌∷◌, length, sym, ap, ◌∙◌}
use Rattle.name_store.proofs.Words.{flat_map, filled, EachWithin, Run, run_offsets, put_each, put_each-append, filled-run}

-- one more run is filled
pub filled-next : (len : ℕ) (left left' : List Run) (run : Run) (item block block' whole : List ℕ) → left ≡ run ∷ left' → EachWithin len run.offset run.step (length item) run.count →
    block' ≡ filled run.offset run.step item run.count block → put_each (flat_map run_offsets left) item block ≡ whole → put_each (flat_map run_offsets left') item block' ≡ whole
filled-next len left left' run item block block' whole walked within is so_far =
    ap (put_each (flat_map run_offsets left') item) (is ∙ filled-run len run.offset run.step item run.count block within)
    ∙ sym (put_each-append (run_offsets run) (flat_map run_offsets left') item block)
    ∙ ap (λ runs. put_each (flat_map run_offsets runs) item block) (sym walked)
    ∙ so_far
