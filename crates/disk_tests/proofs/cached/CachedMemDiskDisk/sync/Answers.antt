use Rattle.std.proofs.Common.{refl}
use Rattle.disk_tests.proofs.Events.{file_synced, still_same}
use Rattle.disk_tests.proofs.cached.CachedMemDiskDisk.sync.Goals as goal

pub returns-in_err-count_call-clause-same : goal.returns-in_err-count_call-clause-same
returns-in_err-count_call-clause-same c = λ honest. still_same _ _ refl

pub returns-in_err-name-clause-same : goal.returns-in_err-name-clause-same
returns-in_err-name-clause-same c = λ honest. still_same _ _ refl

pub returns-in_err-insert-clause-same : goal.returns-in_err-insert-clause-same
returns-in_err-insert-clause-same c = λ honest. still_same _ _ c.in_err-insert.ensures.items

pub returns-clause-same : goal.returns-clause-same
returns-clause-same c = λ honest. file_synced _ _ _ c.in_ok-insert.ensures.items
