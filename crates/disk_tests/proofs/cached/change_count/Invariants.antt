use Rattle.std.proofs.Common.{◌≡◌, ◌+◌, ◌≤◌, length}
use Rattle.disk_tests.proofs.Words.{change_count}
use Rattle.disk_tests.proofs.cached.change_count.Given as goal

abbrev pub invariant-loop-rest : goal.invariant-loop-rest
invariant-loop-rest l = record {
  counted : l.count + change_count l.rest l.name ≡ change_count l.events l.name;
  short : l.count + length l.rest ≤ length l.events;
}

abbrev pub decreases-loop-rest : goal.decreases-loop-rest
decreases-loop-rest l = length l.rest
