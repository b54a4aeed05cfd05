use Rattle.std.proofs.Common.{◌≡◌, length}
use Rattle.disk_tests.proofs.Words.{is_synced}
use Rattle.disk_tests.proofs.cached.are_bytes_synced.Given as goal

abbrev pub invariant-loop-rest : goal.invariant-loop-rest
invariant-loop-rest l = is_synced l.rest l.name ≡ is_synced l.events l.name

abbrev pub decreases-loop-rest : goal.decreases-loop-rest
decreases-loop-rest l = length l.rest
