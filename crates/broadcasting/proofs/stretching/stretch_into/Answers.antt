use Rattle.std.proofs.Common.{inr}
use Rattle.broadcasting.proofs.IntoLaws.{not_single, are_single, rest_beyond, gives_into}
use Rattle.broadcasting.proofs.stretching.stretch_into.Goals as goal

pub returns-then-not-are_single : goal.returns-then-not-are_single
returns-then-not-are_single c =
    inr (not_single c.args.layout.now.shape c.as_slice-lengths.result.now c.args.target.now c.rank.result c.saturating_sub-beyond.result c.are_single.result c.as_slice-lengths.ensures.value c.rank.ensures.value c.saturating_sub-beyond.ensures c.are_single.ensures c.if-not-are_single.true)

pub returns : goal.returns
returns c =
    let single = are_single c.args.layout.now.shape c.as_slice-lengths.result.now c.args.target.now c.rank.result c.saturating_sub-beyond.result c.are_single.result c.as_slice-lengths.ensures.value c.rank.ensures.value c.saturating_sub-beyond.ensures c.are_single.ensures c.if-not-are_single.false in
    let rest = rest_beyond c.args.layout.now c.in_ok-rest.rest c.as_slice-lengths.result.now c.args.target.now c.rank.result c.saturating_sub-beyond.result c.as_slice-lengths.ensures.value c.rank.ensures.value c.saturating_sub-beyond.ensures c.in_ok-rest.ensures in
    gives_into c.args.layout.now c.in_ok-rest.rest c.args.target.now c.stretch.result single rest c.stretch.ensures
