use Rattle.std.proofs.Common.{◌∙◌}
use Rattle.fancy_index.proofs.RestLaws.{gives_rest, gives_memory}
use Rattle.fancy_index.proofs.other_axes.rest.Goals as goal

pub returns-clause-ok : goal.returns-clause-ok
returns-clause-ok c = gives_rest c.args.layout.now c.args.parts.now c.as_slice.result.now c.with_picks.result (c.as_slice.ensures ∙ c.in_ok-picks.ensures) c.requires.few c.with_picks.ensures.view

pub returns-clause-err : goal.returns-clause-err
returns-clause-err c = gives_memory c.args.layout.now c.args.parts.now c.as_slice.result.now c.with_picks.result (c.as_slice.ensures ∙ c.in_ok-picks.ensures) c.requires.few c.with_picks.ensures.view
