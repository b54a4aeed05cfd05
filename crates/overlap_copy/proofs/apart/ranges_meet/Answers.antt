use Rattle.std.proofs.Common.{◌&&◌, nat_lt, sym, ap, ◌∙◌}
use Rattle.overlap_copy.proofs.Words.{lt-ltb, le-ltb, and_left, offsets}
use Rattle.overlap_copy.proofs.OverlapLaws.{IsSpanOf, meet-spans, apart-common}
use Rattle.overlap_copy.proofs.apart.ranges_meet.Goals as goal

pub returns-then-a-b-clause-value : goal.returns-then-a-b-clause-value
returns-then-a-b-clause-value c =
    let a = c.span-a.result in
    let b = c.span-b.result in
    let span-a : IsSpanOf (offsets c.args.a.now) c.args.a_item a.start a.end = record { empty = c.span-a.ensures.empty; low = c.span-a.ensures.low; high = c.span-a.ensures.high; first = c.span-a.ensures.first; last = c.span-a.ensures.last } in
    let span-b : IsSpanOf (offsets c.args.b.now) c.args.b_item b.start b.end = record { empty = c.span-b.ensures.empty; low = c.span-b.ensures.low; high = c.span-b.ensures.high; first = c.span-b.ensures.first; last = c.span-b.ensures.last } in
    sym (meet-spans (offsets c.args.a.now) (offsets c.args.b.now) c.args.a_item c.args.b_item a.start a.end b.start b.end span-a span-b
    ∙ ap (λ t. t && nat_lt b.start a.end) (lt-ltb a.start b.end c.if-a-b.true))

pub returns-then-a-b-clause-sound : goal.returns-then-a-b-clause-sound
returns-then-a-b-clause-sound c = λ apart.
    apart-common (offsets c.args.a.now) c.args.a_item (offsets c.args.b.now) c.args.b_item (sym (returns-then-a-b-clause-value c) ∙ apart)

pub returns-else-a-b-clause-value : goal.returns-else-a-b-clause-value
returns-else-a-b-clause-value c =
    let a = c.span-a.result in
    let b = c.span-b.result in
    let span-a : IsSpanOf (offsets c.args.a.now) c.args.a_item a.start a.end = record { empty = c.span-a.ensures.empty; low = c.span-a.ensures.low; high = c.span-a.ensures.high; first = c.span-a.ensures.first; last = c.span-a.ensures.last } in
    let span-b : IsSpanOf (offsets c.args.b.now) c.args.b_item b.start b.end = record { empty = c.span-b.ensures.empty; low = c.span-b.ensures.low; high = c.span-b.ensures.high; first = c.span-b.ensures.first; last = c.span-b.ensures.last } in
    let apart = le-ltb a.start b.end c.if-a-b.false in
    apart ∙ sym (meet-spans (offsets c.args.a.now) (offsets c.args.b.now) c.args.a_item c.args.b_item a.start a.end b.start b.end span-a span-b
    ∙ and_left (nat_lt a.start b.end) (nat_lt b.start a.end) apart)

pub returns-else-a-b-clause-sound : goal.returns-else-a-b-clause-sound
returns-else-a-b-clause-sound c = λ apart.
    apart-common (offsets c.args.a.now) c.args.a_item (offsets c.args.b.now) c.args.b_item (sym (returns-else-a-b-clause-value c) ∙ apart)
