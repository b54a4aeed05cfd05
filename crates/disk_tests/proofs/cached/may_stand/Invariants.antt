use Rattle.std.proofs.Common.{◌↔◌, length}
use Rattle.disk_tests.proofs.Words.{bytes_of_change, MayStand}
use Rattle.disk_tests.proofs.cached.may_stand.Given as goal

abbrev pub invariant-loop-rest : goal.invariant-loop-rest
invariant-loop-rest l = MayStand l.rest l.name (bytes_of_change l.left) ↔ MayStand l.events l.name (bytes_of_change l.left)

abbrev pub decreases-loop-rest : goal.decreases-loop-rest
decreases-loop-rest l = length l.rest
