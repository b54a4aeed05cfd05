use Rattle.std.proofs.Common.{◌≡◌, length}
use Rattle.disk_tests.proofs.Words.{get, found}
use Rattle.disk_tests.proofs.cached.latest.Given as goal

abbrev pub invariant-loop-rest : goal.invariant-loop-rest
invariant-loop-rest l = get (found l.rest) l.name ≡ get (found l.events) l.name

abbrev pub decreases-loop-rest : goal.decreases-loop-rest
decreases-loop-rest l = length l.rest
