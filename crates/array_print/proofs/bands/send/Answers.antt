use Rattle.std.proofs.Common.{take, ◌++◌}
use Rattle.array_print.proofs.Words.{appends_then, split_later}
use Rattle.array_print.proofs.bands.send.Goals as goal

pub loop-rest-preserved : goal.loop-rest-preserved
loop-rest-preserved g c =
    let so_far = c.loop-rest.invariant in
    (so_far.0 ++ take c.in-Ok.n c.loop-rest.rest.now, split_later _ _ _ c.in-Ok.n so_far.1, appends_then _ _ _ _ _ so_far.2 c.in-Ok.ensures.bytes)
