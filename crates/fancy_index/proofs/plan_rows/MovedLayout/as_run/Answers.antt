use Rattle.std.proofs.Common.{All, map, length, subst, sym, ap, arith}
use Rattle.fancy_index.proofs.Words.{length-map, length-offsets, length-run_offsets, max_bytes, run_offsets, IsMoved, IsRunOf, moved_offset}
use Rattle.fancy_index.proofs.plan_rows.MovedLayout.as_run.Goals as goal

pub moved_run-requires-clause-some : goal.moved_run-requires-clause-some
moved_run-requires-clause-some c =
    omega (arith, length-run_offsets c.in_ok-run.run', ap length c.in_ok-run.ensures.items, length-offsets c.args.self.layout.now, c.items.ensures.value, c.if-items-eq0.false)

pub moved_run-requires-clause-lies : goal.moved_run-requires-clause-lies
moved_run-requires-clause-lies c = c.in_ok-run.ensures.lie max_bytes 1 c.args.self.layout.now.within_limit

pub moved_run-requires-clause-moved : goal.moved_run-requires-clause-moved
moved_run-requires-clause-moved c = subst (All (IsMoved c.args.self.layout.now.offset c.args.self.start)) (sym c.in_ok-run.ensures.items) c.args.self.moved

pub returns-clause-run : goal.returns-clause-run
returns-clause-run c =
    subst (λ offsets. IsRunOf (map (moved_offset c.args.self.layout.now.offset c.args.self.start) offsets) c.moved_run.result) c.in_ok-run.ensures.items c.moved_run.ensures

pub returns-clause-some : goal.returns-clause-some
returns-clause-some c =
    let run = c.in_ok-run.run' in
    omega (arith, length-run_offsets run, ap length c.in_ok-run.ensures.items, length-offsets c.args.self.layout.now, c.items.ensures.value, c.if-items-eq0.false, c.moved_run.ensures.count, length-map (run_offsets run) (moved_offset c.args.self.layout.now.offset c.args.self.start))
