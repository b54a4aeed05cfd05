use Rattle.std.proofs.Common.{◌≡◌, ◌≢◌, ap, sym, ◌∙◌, rules}
use Rattle.disk_tests.proofs.Words.{bytes_of_change}
use Rattle.disk_tests.proofs.Events.{found_here, found_later, found_nowhere}
use Rattle.disk_tests.proofs.cached.latest.Goals as goal

pub returns-in-Changed : goal.returns-in-Changed
returns-in-Changed c =
    let same : c.args.name.now ≡ c.in-Changed.other.items = search rules in
    sym c.loop-rest.invariant ∙ found_here c.loop-rest.rest.now c.event-item.result c.args.name.now c.in-Changed.other c.in-Changed.bytes c.in-Changed.is_whole c.in-len1-up.len_at_least c.event-item.is c.in-Changed.is same ∙ ap bytes_of_change (sym c.as_ref.ensures.value)

pub loop-rest-preserved-else-eq : goal.loop-rest-preserved-else-eq
loop-rest-preserved-else-eq c =
    let far : c.args.name.now ≢ c.in-Changed.other.items = search rules in
    found_later c.loop-rest.rest.now c.event-item.result c.args.name.now c.in-Changed.other c.in-Changed.bytes c.in-Changed.is_whole c.in-len1-up.len_at_least c.event-item.is c.in-Changed.is far ∙ c.loop-rest.invariant

pub returns : goal.returns
returns c = sym c.loop-rest.invariant ∙ found_nowhere c.loop-rest.rest.now c.args.name.now c.in_default.len_below
