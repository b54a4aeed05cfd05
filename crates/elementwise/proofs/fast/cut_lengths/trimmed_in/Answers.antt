use Rattle.std.proofs.Common.{◌+◌, ◌≤◌, ℕ, List, length, All, sym, subst, arith}
use Rattle.elementwise.proofs.Words.{without_nuls, item_at, offsets, can-itself}
use Rattle.elementwise.proofs.ShrunkLaws.{all_seen}
use Rattle.elementwise.proofs.TrimmedLaws.{as_wide, fewer_inside}
use Rattle.elementwise.proofs.fast.cut_lengths.trimmed_in.Goals as goal

pub returns-then-items-clause-cut : goal.returns-then-items-clause-cut
returns-then-items-clause-cut c = as_wide c.args.items c.args.width

pub without_repeats-requires-clause-stretches : goal.without_repeats-requires-clause-stretches
without_repeats-requires-clause-stretches c = can-itself c.args.items.layout.now.shape

pub without_repeats-requires-clause-also : goal.without_repeats-requires-clause-also
without_repeats-requires-clause-also c = can-itself c.args.items.layout.now.shape

pub longest-requires-clause-inside : goal.longest-requires-clause-inside
longest-requires-clause-inside c =
    let x = c.args.items in
    let kept = c.in_ok-small.ensures.first.inside (length x.block.now) c.args.width (fewer_inside x c.args.width c.args.width c.requires.descr (omega arith)) in
    subst (λ bytes. All (λ offset. offset + c.args.width ≤ length bytes) (offsets c.in_ok-small.small.0)) (sym c.bytes.ensures) kept

pub returns-clause-cut : goal.returns-clause-cut
returns-clause-cut c =
    let x = c.args.items in
    let small = c.in_ok-small.small.0 in
    let least = λ (bytes : List ℕ). All (λ offset. length (without_nuls (item_at offset c.args.width bytes)) ≤ c.longest.result) (offsets small) in (
      c.longest.ensures.within,
      all_seen (λ offset. length (without_nuls (item_at offset c.args.width x.block.now)) ≤ c.longest.result) x.layout.now small small.shape c.in_ok-small.ensures.first (subst least c.bytes.ensures c.longest.ensures.least),
    )
