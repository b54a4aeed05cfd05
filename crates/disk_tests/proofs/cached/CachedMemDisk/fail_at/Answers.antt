use Rattle.std.proofs.Common.{refl}
use Rattle.disk_tests.proofs.Events.{still_same}
use Rattle.disk_tests.proofs.cached.CachedMemDisk.fail_at.Goals as goal

pub returns-clause-same : goal.returns-clause-same
returns-clause-same c = still_same _ _ refl
