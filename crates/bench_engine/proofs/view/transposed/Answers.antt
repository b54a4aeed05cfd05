use Rattle.std.proofs.Common.{subst, ap, ◌∙◌, List, ℕ, Ok, option_copied}
use Rattle.bench_engine.proofs.Words.{GivesView, transposed}
use Rattle.name_store.specs.declared.bound.Bound.TheVariants.{View}
use Rattle.bench_engine.proofs.Views.{viewed-part}
use Rattle.bench_engine.proofs.view.transposed.Goals as goal

pub returns : goal.returns
returns c s array shows =
    let r = c.args.array.now in
    let axes = option_copied c.args.axes in
    let given = subst (λ (shape : List ℕ). GivesView r.layout.now (Ok c.in_ok-layout.layout) (transposed shape axes)) shows.view.laid.shape c.in_ok-layout.ensures.view in
    viewed-part s array r array.writable (transposed array.shape axes) c.items.result _ shows (c.items.ensures.bound ∙ ap (View r.number r.path.now c.in_ok-layout.layout) shows.view.laid.writable_is) c.items.ensures.descr
    given (λ free. (free, c.in_ok-layout.ensures.nested))
