use Rattle.overlap_copy.proofs.Words.{Assigns, offsets, pair_even, firsts-reordered, seconds-reordered, flipped-reordered, nested-reordered, assigns-reordered}
use Rattle.overlap_copy.proofs.PairCopies.{flipped-paired, paired-reordered}
use Rattle.overlap_copy.proofs.TradeLaws.{items-assigned, trades-apart}
use Rattle.overlap_copy.proofs.exchanges.exchange.Goals as goal
use Rattle.overlap_copy.proofs.exchanges.exchange.Goals.{After-exchange_pairs}

pub exchange_pairs-requires : goal.exchange_pairs-requires
exchange_pairs-requires c = paired-reordered c.in-Some.pair c.in-Some.ensures.pairs c.requires.paired

reordered : (c : After-exchange_pairs) → Assigns (offsets c.args.dst.now) (offsets c.args.src.now) c.args.width c.args.other.now c.args.block.now c.exchange_pairs.new.block
    × Assigns (offsets c.args.src.now) (offsets c.args.dst.now) c.args.width c.args.block.now c.args.other.now c.exchange_pairs.new.other
reordered c =
    let pair = c.in-Some.pair in
    let to = offsets c.args.dst.now in
    let from = offsets c.args.src.now in
    let paired = c.requires.paired in
    let same = c.in-Some.ensures.pairs in
    let nested = nested-reordered c.args.width to (offsets pair.target) (firsts-reordered to from (offsets pair.target) (offsets pair.source) paired.count (pair_even pair) same) c.requires.nested in
    let other_nested = nested-reordered c.args.width from (offsets pair.source) (seconds-reordered to from (offsets pair.target) (offsets pair.source) paired.count (pair_even pair) same) c.requires.other_nested in
    let both = trades-apart nested other_nested (paired-reordered pair same paired) c.exchange_pairs.ensures in (
      assigns-reordered same c.requires.nested paired both.0,
      assigns-reordered (flipped-reordered to from (offsets pair.target) (offsets pair.source) same) c.requires.other_nested (flipped-paired paired) both.1,
    )

pub returns-in-Some-clause-to : goal.returns-in-Some-clause-to
returns-in-Some-clause-to c = (reordered (goal.at.returns-in-Some-clause-to c).After-exchange_pairs).0

pub returns-in-Some-clause-old : goal.returns-in-Some-clause-old
returns-in-Some-clause-old c = items-assigned c.requires.other_nested (flipped-paired c.requires.paired) (reordered (goal.at.returns-in-Some-clause-old c).After-exchange_pairs).1

pub returns-in-None-clause-to : goal.returns-in-None-clause-to
returns-in-None-clause-to c = (trades-apart c.requires.nested c.requires.other_nested c.requires.paired c.exchange_pairs-in-None.ensures).0

pub returns-in-None-clause-old : goal.returns-in-None-clause-old
returns-in-None-clause-old c =
    items-assigned c.requires.other_nested (flipped-paired c.requires.paired) (trades-apart c.requires.nested c.requires.other_nested c.requires.paired c.exchange_pairs-in-None.ensures).1
