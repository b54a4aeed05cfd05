use Rattle.fancy_index.specs.inside.Items.{numbers_in}
use Rattle.fancy_index.proofs.PointLaws.{ranks-read}
use Rattle.fancy_index.proofs.points.Ranks.take.Goals as goal

pub returns-in-Named-clause-ranks : goal.returns-in-Named-clause-ranks
returns-in-Named-clause-ranks c = rw c.in-Named.is (ranks-read _ c.in-Named.named.n (numbers_in c.in-Named.named.array) c.places.result c.places.ensures)
