use Rattle.std.proofs.Common.{◌∷◌, ◌∙◌, true, List, Some, None, sym, ap, rules}
use Rattle.disk_tests.proofs.Words.{Event, Changed, is_synced}
use Rattle.disk_tests.proofs.Events.{renames, still_there}
use Rattle.disk_tests.proofs.cached.CachedMemDiskDisk.rename.Goals as goal

pub returns-in_err-bytes-clause-others : goal.returns-in_err-bytes-clause-others
returns-in_err-bytes-clause-others c = λ honest. still_there _ _ _ _ c.look.ensures.events

pub returns-in_err-to-clause-others : goal.returns-in_err-to-clause-others
returns-in_err-to-clause-others c = λ honest. still_there _ _ _ _ c.look.ensures.events

pub returns-in_err-from-clause-others : goal.returns-in_err-from-clause-others
returns-in_err-from-clause-others c = λ honest. still_there _ _ _ _ c.look.ensures.events

pub returns-in_err-reserve-clause-others : goal.returns-in_err-reserve-clause-others
returns-in_err-reserve-clause-others c = λ honest. still_there _ _ _ _ (c.reserve.ensures.items ∙ c.look.ensures.events)

pub returns : goal.returns
returns c =
    let bytes = Some c.in_ok-bytes.bytes in
    let whole = c.are_bytes_synced-is_whole.ensures ∙ ap (λ (l : List Event). is_synced l c.args.from.now) (c.deref.ensures.value ∙ c.look.ensures.events) in
    let made = c.in_ok-insert-2.ensures.items ∙ ap (λ (l : List Event). Changed c.in_ok-from.from None true ∷ l) (c.in_ok-insert.ensures.items ∙ ap (λ (l : List Event). Changed c.in_ok-to.to bytes c.are_bytes_synced-is_whole.result ∷ l) (c.reserve.ensures.items ∙ c.look.ensures.events)) in
    let all = renames c.args.self.now.events.items _ c.in_ok-to.to c.in_ok-from.from bytes c.are_bytes_synced-is_whole.result c.args.from.now c.args.to.now c.requires c.in_ok-from.ensures.items c.in_ok-to.ensures.items made (sym c.in_ok-bytes.ensures.found) whole in
    record { renamed = λ honest. all.renamed; synced = λ honest. all.synced; others = λ honest. all.others; memory = search rules; passes = search rules; cause = search rules }
