use Rattle.std.proofs.Common.{refl}
use Rattle.disk_tests.proofs.Events.{still_but}
use Rattle.disk_tests.proofs.cached.CachedMemDiskDisk.create.Goals as goal

pub returns-in_err-count_call-clause-others : goal.returns-in_err-count_call-clause-others
returns-in_err-count_call-clause-others c = λ honest. still_but c.args.name.now _ _ refl

pub returns-in_err-called-clause-others : goal.returns-in_err-called-clause-others
returns-in_err-called-clause-others c = λ honest. still_but c.args.name.now _ _ refl
