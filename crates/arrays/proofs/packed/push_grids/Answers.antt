use Rattle.std.proofs.Common.{◌≡◌, ◌+◌, ◌*◌, ◌≤◌, [], ◌∷◌, ◌++◌, map, length, All, sym, ap, subst, ◌∙◌, arith}
use Rattle.arrays.proofs.Words.{All-rest, All-head, Grid, grid_items, EachWithin, GridWithin, Run, LieWithin, offsets, max_bytes, run_along, run_offsets, all_offsets, lie-within, runs-within, joined_at, rows_of}
use Rattle.arrays.proofs.GridLaws.{grid-within, grid-bytes, rows-first, rows-rest, rows-count, rows-pushed}
use Rattle.arrays.proofs.packed.push_grids.Goals as goal
use Rattle.arrays.proofs.packed.push_grids.Goals.{After-grid_of}

pub loop-run-init : goal.loop-run-init
loop-run-init g c =
    let N = g.row.N in let block = c.args.block.now in let along = c.rows-starts.result.along in
    let rows = c.rows-starts.ensures in
    let same : c.into_iter-run-iterator.result ≡ c.rows-starts.result.starts = c.into_iter-run-iterator.ensures.into_iter_gives in
    let all : all_offsets (rows_of along c.into_iter-run-iterator.result) ≡ offsets c.args.layout.now = ap (λ rs. all_offsets (rows_of along rs)) same ∙ rows.offsets in
    let lies = λ (run : Run). LieWithin (run.count ∷ []) (run.step ∷ []) run.offset max_bytes 1 in
    record {
      bytes = ap (λ os. c.args.items.now.0 ++ joined_at os N block) all;
      left = omega (arith, ap (λ os. length os * N) all);
      from = runs-within (length block) N (λ (run : Run). run) (rows_of along c.into_iter-run-iterator.result) (subst (λ rs. All lies (rows_of along rs)) (sym same) rows.lie) (subst (All (λ o. o + N ≤ length block)) (sym all) c.requires.inside);
      begin = subst (All lies) (sym same) rows.begin;
      some = subst (All (λ (run : Run). 1 ≤ run.count)) (sym same) rows.some;
    }

-- the offsets at which the next rows begin are within the limit
starts-within : (g : _) (c : After-grid_of g) → EachWithin max_bytes c.in-Some.run'.offset c.in-Some.run'.step 1 c.in-Some.run'.count
starts-within g c =
    let lies = λ (run : Run). LieWithin (run.count ∷ []) (run.step ∷ []) run.offset max_bytes 1 in
    lie-within max_bytes 1 c.in-Some.run' (All-head lies c.in-Some.run' _ (subst (All lies) c.in-Some.ensures.steps c.loop-run.invariant.begin))

rows-within : (g : _) (c : After-grid_of g) → All (λ run. EachWithin (length c.args.block.now) run.offset run.step g.row.N run.count) (map (run_along c.rows-starts.result.along) (run_offsets c.in-Some.run'))
rows-within g c =
    rows-first c.rows-starts.result.along c.in-Some.run' _ _ c.in-Some.ensures.steps (λ (run : Run). EachWithin (length c.args.block.now) run.offset run.step g.row.N run.count) c.loop-run.invariant.from

pub push_grid-requires-clause-room : goal.push_grid-requires-clause-room
push_grid-requires-clause-room g c =
    let N = g.row.N in
    let some = rows-count c.rows-starts.result.along c.in-Some.run' _ _ c.in-Some.ensures.steps N in
    let size : c.grid_of.result.rows * (c.grid_of.result.columns * N) ≡ c.in-Some.run'.count * (c.rows-starts.result.along.len * N) = ap (λ (grid : Grid). grid.rows * (grid.columns * N)) c.grid_of.ensures in
    omega (arith, some, size, c.loop-run.invariant.left, c.requires.room)

pub push_grid-requires-clause-source : goal.push_grid-requires-clause-source
push_grid-requires-clause-source g c =
    let run = c.in-Some.run' in let some = All-head (λ (run : Run). 1 ≤ run.count) run _ (subst (All (λ (run : Run). 1 ≤ run.count)) c.in-Some.ensures.steps c.loop-run.invariant.some) in
    subst (λ grid. GridWithin (length c.args.block.now) grid g.row.N) (sym c.grid_of.ensures)
    (grid-within (length c.args.block.now) g.row.N c.rows-starts.result.along run (starts-within g c) (rows-within g c) some)

pub loop-run-preserved : goal.loop-run-preserved
loop-run-preserved g c =
    let N = g.row.N in let block = c.args.block.now in let along = c.rows-starts.result.along in let run = c.in-Some.run' in
    let inv = c.loop-run.invariant in let steps = c.in-Some.ensures.steps in let now = (goal.at.loop-run-preserved g c).After-grid_of in
    let before = c.loop-run.items.0 in
    let pushed : c.push_grid.new.self.0 ≡ before ++ joined_at (all_offsets (map (run_along along) (run_offsets run))) N block =
    c.push_grid.ensures.bytes ∙ ap (λ (grid : Grid). before ++ grid_items grid N block) c.grid_of.ensures ∙ ap (λ l. before ++ l) (grid-bytes (length block) N along run (starts-within g now) (rows-within g now) block) in
    let some = rows-count along run _ _ steps N in
    let size : c.grid_of.result.rows * (c.grid_of.result.columns * N) ≡ run.count * (along.len * N) = ap (λ (grid : Grid). grid.rows * (grid.columns * N)) c.grid_of.ensures in
    record {
      bytes = rows-pushed along run _ _ steps N block _ before pushed ∙ inv.bytes;
      left = omega (arith, some, size, inv.left, c.push_grid.ensures.left);
      from = rows-rest along run _ _ steps (λ (run : Run). EachWithin (length block) run.offset run.step N run.count) inv.from;
      begin = All-rest (λ (run : Run). LieWithin (run.count ∷ []) (run.step ∷ []) run.offset max_bytes 1) _ _ _ steps inv.begin;
      some = All-rest (λ (run : Run). 1 ≤ run.count) _ _ _ steps inv.some;
    }
