use Rattle.std.proofs.Common.{List, IsTrue, refl, rules, subst}
use Rattle.disk_tests.proofs.Words.{Event, bytes_of_change, MayStand}
use Rattle.disk_tests.proofs.Events.{may_be_left, still_but}
use Rattle.disk_tests.proofs.cached.CachedMemDisk.crash.Goals as goal

pub returns-clause-may : goal.returns-clause-may
returns-clause-may c =
    let yes : IsTrue c.may_stand.result = search rules in
    let may = subst (λ (l : List Event). MayStand l c.args.name.now (bytes_of_change c.args.left)) c.deref.ensures.value (c.may_stand.ensures.0 yes) in
    (λ told. may_be_left c.args.self.now.events.items c.args.name.now (bytes_of_change c.args.left) may, λ some. refl)

pub returns-then-not-may_stand-clause-others : goal.returns-then-not-may_stand-clause-others
returns-then-not-may_stand-clause-others c = still_but c.args.name.now _ _ refl
