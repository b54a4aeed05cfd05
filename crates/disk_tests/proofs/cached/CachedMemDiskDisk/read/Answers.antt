use Rattle.std.proofs.Common.{refl}
use Rattle.disk_tests.proofs.Events.{still_same}
use Rattle.disk_tests.proofs.cached.CachedMemDiskDisk.read.Goals as goal

pub returns-in_err-count_call-clause-same : goal.returns-in_err-count_call-clause-same
returns-in_err-count_call-clause-same c = λ honest. still_same _ _ refl

pub returns-clause-same : goal.returns-clause-same
returns-clause-same c = λ honest. still_same _ _ refl
