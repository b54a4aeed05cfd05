use Rattle.std.proofs.Common.{map, arith}
use Rattle.fancy_index.proofs.Words.{shown_part}
use Rattle.fancy_index.proofs.PlaceLaws.{place-end, place-within}
use Rattle.fancy_index.proofs.result_axes.points_place.Goals as goal

pub returns-clause-within : goal.returns-clause-within
returns-clause-within c = omega (arith, place-end c.args.parts.now c.loop-part.part-index c.loop-part.place c.loop-part.stretch c.loop-part-test.false, c.loop-part.invariant.left, place-within (map shown_part c.args.parts.now))
