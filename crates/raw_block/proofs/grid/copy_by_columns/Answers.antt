use Rattle.std.proofs.Common.{◌≡◌, ◌+◌, ◌*◌, suc, sym, subst, ◌∙◌, w64, arith}
use Rattle.raw_block.proofs.Words.{to_z_pos, copied}
use Rattle.raw_block.proofs.Grids.{AreWritten, one_more, all_written}
use Rattle.raw_block.proofs.grid.copy_by_columns.Goals as goal

pub loop-column-preserved : goal.loop-column-preserved
loop-column-preserved g c =
    let N = g.row.N in let grid = c.args.grid in let other = c.args.other.now in let j = c.loop-column.column in let bytes = c.loop-column.bytes in
    let is = c.copy_arrays.ensures ∙ (λ i. copied (j * N) (to_z_pos w64 (grid.columns * N) c.requires.small i) other (c.column-from.ensures.0 i) (c.column-from.ensures.1 i) N grid.rows bytes) in
    let next : suc j ≡ j + 1 = omega arith in
    subst (λ m. AreWritten grid N other m c.copy_arrays.new.bytes) next
    (subst (AreWritten grid N other (suc j)) (sym is) (one_more grid N other j c.loop-column-test.true bytes c.loop-column.invariant c.requires.source))

pub returns : goal.returns
returns g c =
    let all : c.loop-column.column ≡ c.args.grid.columns = omega (arith, c.loop-column-test.false, c.loop-column.auto.column-end) in
    all_written c.args.grid g.row.N c.args.other.now c.loop-column.bytes (subst (λ m. AreWritten c.args.grid g.row.N c.args.other.now m c.loop-column.bytes) all c.loop-column.invariant)
