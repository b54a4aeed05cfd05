use Rattle.std.proofs.Common.{◌≡◌, ◌∷◌, refl, rules}
use Rattle.disk_tests.proofs.Words.{NamesSynced}
use Rattle.disk_tests.proofs.Events.{names_synced, still_same}
use Rattle.disk_tests.proofs.cached.CachedMemDiskDisk.sync_names.Goals as goal

pub returns-in_err-count_call-clause-same : goal.returns-in_err-count_call-clause-same
returns-in_err-count_call-clause-same c = λ honest. still_same _ _ refl

pub returns-then-is_err-clause-same : goal.returns-then-is_err-clause-same
returns-then-is_err-clause-same c = λ honest.
    let same : c.insert.new.self.items ≡ c.args.self.now.events.items = search rules in
    still_same _ _ same

pub returns-clause-same : goal.returns-clause-same
returns-clause-same c = λ honest.
    let added : c.insert.new.self.items ≡ NamesSynced ∷ c.args.self.now.events.items = search rules in
    names_synced _ _ added
