use Rattle.std.proofs.Common.{◌≡◌, drop}
use Rattle.name_store.proofs.Words.{IsPathOf, descr_at}
use Rattle.name_store.proofs.path.Path.descr_in.Given as goal

-- the remaining numbers lead from here to where the whole path leads
abbrev pub invariant-loop-number : goal.invariant-loop-number
invariant-loop-number l = record {
  path : IsPathOf l.descr (drop l.number-index l.number-items);
  leads : descr_at l.descr (drop l.number-index l.number-items) ≡ descr_at l.fn.whole l.fn.self;
}
