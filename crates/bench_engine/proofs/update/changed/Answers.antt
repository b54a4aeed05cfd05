use Rattle.std.proofs.Common.{subst}
use Rattle.bench_engine.proofs.Words.{operand_values, IsGiven, Given}
use Rattle.bench_engine.proofs.OperandLaws.{all-stand}
use Rattle.bench_engine.proofs.update.changed.Goals as goal

pub items-requires : goal.items-requires
items-requires c =
    let is = subst (λ (g : Given). IsGiven c.requires.given.0 c.requires.given.1 g) c.in-Items.is c.requires.given.2 in
    (c.requires.given.0, is.1, is.4)

pub returns-in-Literal : goal.returns-in-Literal
returns-in-Literal c s value v given stands =
    let is = subst (λ (g : Given). IsGiven s value g) c.in-Literal.is given in
    rw is (c.changed_by_literal.ensures v stands)

pub returns-in-Items : goal.returns-in-Items
returns-in-Items c s value v given stands =
    let is = subst (λ (g : Given). IsGiven s value g) c.in-Items.is given in
    rw (is.2, is.3) (c.changed_by_items.ensures v (operand_values s is.1) stands (all-stand s is.1 _ (c.items.ensures.stands s is.1 is.4)))
