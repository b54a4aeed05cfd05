use Rattle.std.proofs.Common.{refl}
use Rattle.disk_tests.proofs.Events.{changes_only, still_but}
use Rattle.disk_tests.proofs.cached.change.Goals as goal

pub returns-in_err-name-clause-others : goal.returns-in_err-name-clause-others
returns-in_err-name-clause-others c = still_but c.args.name.now _ _ refl

pub returns-in_err-insert-clause-others : goal.returns-in_err-insert-clause-others
returns-in_err-insert-clause-others c = still_but c.args.name.now _ _ c.in_err-insert.ensures.items

pub returns-clause-others : goal.returns-clause-others
returns-clause-others c = changes_only c.args.name.now c.args.bytes c.args.is_whole c.in_ok-name.name c.in_ok-name.ensures.items _ _ c.in_ok-insert.ensures.items
