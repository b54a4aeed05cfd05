use Rattle.std.proofs.Common.{sym, ◌∙◌, rules}
use Rattle.name_store.proofs.KeepLaws.{gone-users, gone-same}
use Rattle.name_store.proofs.history.keep.Goals.{in_default-gone, in_default-gone-2}
use Rattle.name_store.proofs.history.keep.Goals as goal

pub returns-in-Bind-default-Some-clause-users : goal.returns-in-Bind-default-Some-clause-users
returns-in-Bind-default-Some-clause-users c =
    gone-users c.args.history.now _ c.args.change c.in-Some.gone c.requires.short (sym c.in-Some.is ∙ c.push.ensures.value) c.push.ensures.items c.args.slots.now.cells.items _ _ (search rules) c.release.ensures.users

pub returns-in-Some-clause-users : goal.returns-in-Some-clause-users
returns-in-Some-clause-users c =
    gone-same c.args.history.now _ c.args.change c.in-Some.gone c.requires.short (sym c.in-Some.is ∙ c.push.ensures.value) c.push.ensures.items c.args.slots.now.cells.items (search rules)
