use Rattle.bench_c.proofs.ArrayLaws.{bytes-given}
use Rattle.bench_c.proofs.asked.cast_to.Goals as goal

pub returns : goal.returns
returns c s a shows =
    let e = c.cast.ensures in
    bytes-given s a c.args.array.now c.args.descr.now c.cast.result shows e.descr e.items e.encoded e.can e.within e.refused
