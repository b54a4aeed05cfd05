use Rattle.std.proofs.Common.{subst}
use Rattle.bench_engine.proofs.Words.{IsGiven, Given}
use Rattle.bench_engine.proofs.GivenLaws.{part-given}
use Rattle.bench_engine.proofs.write.source_of.Goals as goal

pub items-requires : goal.items-requires
items-requires c =
    let is = subst (λ (g : Given). IsGiven c.requires.given.0 c.requires.given.1 g) c.in-Items.is c.requires.given.2 in
    (c.requires.given.0, is.1, is.4)

pub returns-in-Items : goal.returns-in-Items
returns-in-Items c s value given =
    let is = subst (λ (g : Given). IsGiven s value g) c.in-Items.is given in
    rw is.2 (part-given s is.0 c.args.descr.now c.args.shape.now is.1 _ c.items.result c.fitted.result is.3 (c.items.ensures.stands s is.1 is.4) (rw c.number.ensures (c.items.ensures.lies s is.1 is.4)) c.fitted.ensures)
