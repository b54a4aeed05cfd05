use Rattle.std.proofs.Common.{subst, List, ℕ, Ok, false}
use Rattle.bench_engine.proofs.Words.{false≢true, GivesView, stretched}
use Rattle.bench_engine.proofs.Views.{viewed-part}
use Rattle.bench_engine.proofs.view.broadcast.Goals as goal

pub returns : goal.returns
returns c s array shows =
    let r = c.args.array.now in
    let shape = c.in_ok-shape.shape in
    let given = subst (λ (old : List ℕ). GivesView r.layout.now (Ok c.in_ok-layout.layout) (stretched old shape)) shows.view.laid.shape c.in_ok-layout.ensures in
    rw c.in_ok-shape.ensures (viewed-part s array r false (stretched array.shape shape) c.items.result _ shows c.items.ensures.bound c.items.ensures.descr given (λ free. absurd (false≢true free)))
