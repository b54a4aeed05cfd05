use Rattle.bench_engine.specs.NewArrayLaws.{new-answers}
use Rattle.bench_engine.proofs.create.bind_new.Goals as goal

pub returns-clause-answers : goal.returns-clause-answers
returns-clause-answers c =
    new-answers _ _ _ c.args.origin c.args.owned c.bind.result c.set_bound_text.new.out c.requires.room
    c.in_ok-set_bound_text.ensures c.bind.ensures.answers
