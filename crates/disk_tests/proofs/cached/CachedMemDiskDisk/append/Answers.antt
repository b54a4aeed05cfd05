use Rattle.disk_tests.proofs.Events.{still_but}
use Rattle.disk_tests.proofs.cached.CachedMemDiskDisk.append.Goals as goal

pub returns-in_err-all-clause-others : goal.returns-in_err-all-clause-others
returns-in_err-all-clause-others c = λ honest. still_but c.args.file.now.name.items _ _ c.look.ensures.events

pub returns-in_err-extend_from_slice-clause-others : goal.returns-in_err-extend_from_slice-clause-others
returns-in_err-extend_from_slice-clause-others c = λ honest. still_but c.args.file.now.name.items _ _ c.look.ensures.events
