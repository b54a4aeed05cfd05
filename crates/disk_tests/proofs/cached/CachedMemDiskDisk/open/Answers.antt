use Rattle.disk_tests.proofs.Events.{still_same}
use Rattle.disk_tests.proofs.cached.CachedMemDiskDisk.open.Goals as goal

pub returns-in_err-bytes-clause-same : goal.returns-in_err-bytes-clause-same
returns-in_err-bytes-clause-same c = λ honest. still_same _ _ c.look.ensures.events
