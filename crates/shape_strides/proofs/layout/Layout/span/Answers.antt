use Rattle.std.proofs.Common.{◌≡◌, ◌+◌, ◌-◌, ◌<◌, ◌≤◌, Contains, length, refl, sym, ap, arith, subst}
use Rattle.shape_strides.proofs.Words.{max_bytes, count, offsets, reach_above, reach_below, length-offsets}
use Rattle.shape_strides.proofs.SpanLaws.{below_offset, end_within, none_lower, none_higher, lowest_among, highest_among}
use Rattle.shape_strides.proofs.layout.Layout.span.Goals as goal
use Rattle.shape_strides.proofs.layout.Layout.span.Goals.{After-reach_of-reach}

pub returns-then-items-eq0-clause-high : goal.returns-then-items-eq0-clause-high
returns-then-items-eq0-clause-high c = λ k d below. absurd (omega (arith, c.items.ensures.value, length-offsets c.args.self.now))

pub returns-then-items-eq0-clause-first : goal.returns-then-items-eq0-clause-first
returns-then-items-eq0-clause-first c = λ some. absurd (omega (arith, c.items.ensures.value, length-offsets c.args.self.now))

pub returns-then-items-eq0-clause-last : goal.returns-then-items-eq0-clause-last
returns-then-items-eq0-clause-last c = λ some. absurd (omega (arith, c.items.ensures.value, length-offsets c.args.self.now))

-- ---- a layout with items

some : (c : After-reach_of-reach) → 0 < count c.args.self.now.shape
some c = omega (arith, c.items.ensures.value)

below-is : (c : After-reach_of-reach) → c.reach_of-reach.result.below ≡ reach_below c.args.self.now.strides c.args.self.now.shape
below-is c = rw (c.as_slice-strides.ensures, c.as_slice-lengths.ensures.value) at c.reach_of-reach.ensures.below

above-is : (c : After-reach_of-reach) → c.reach_of-reach.result.above ≡ reach_above c.args.self.now.strides c.args.self.now.shape
above-is c = rw (c.as_slice-strides.ensures, c.as_slice-lengths.ensures.value) at c.reach_of-reach.ensures.above

low : (c : After-reach_of-reach) → c.reach_of-reach.result.below ≤ c.args.self.now.offset
low c = omega (arith, below-is c, below_offset c.args.self.now (some c))

high : (c : After-reach_of-reach) → c.args.self.now.offset + c.reach_of-reach.result.above + c.args.item ≤ max_bytes
high c = omega (arith, above-is c, end_within c.args.self.now (some c) max_bytes c.args.item c.requires)

pub overflow_cast-start : goal.overflow_cast-start
overflow_cast-start c = record { fits = omega (arith, low (goal.at.overflow_cast-start c).After-reach_of-reach) }

pub overflow_sub-start : goal.overflow_sub-start
overflow_sub-start c = omega (arith, low (goal.at.overflow_sub-start c).After-reach_of-reach)

pub overflow_cast-end : goal.overflow_cast-end
overflow_cast-end c = record { fits = omega (arith, high (goal.at.overflow_cast-end c).After-reach_of-reach) }

pub overflow_add-end : goal.overflow_add-end
overflow_add-end c = record { fits = omega (arith, high (goal.at.overflow_add-end c).After-reach_of-reach) }

pub overflow_add-end-2 : goal.overflow_add-end-2
overflow_add-end-2 c = record { fits = omega (arith, high (goal.at.overflow_add-end-2 c).After-reach_of-reach) }

pub returns-clause-low : goal.returns-clause-low
returns-clause-low c =
    let at = (goal.at.returns-clause-low c).After-reach_of-reach in
    none_lower c.args.self.now (some at) (c.args.self.now.offset - c.reach_of-reach.result.below) (omega (arith, below-is at, low at))

pub returns-clause-high : goal.returns-clause-high
returns-clause-high c =
    let at = (goal.at.returns-clause-high c).After-reach_of-reach in
    λ k d inside. omega (arith, above-is at, none_higher c.args.self.now (some at) k d inside)

pub returns-clause-first : goal.returns-clause-first
returns-clause-first c =
    let at = (goal.at.returns-clause-first c).After-reach_of-reach in
    λ _. lowest_among c.args.self.now (some at) (c.args.self.now.offset - c.reach_of-reach.result.below) (omega (arith, below-is at, low at))

pub returns-clause-last : goal.returns-clause-last
returns-clause-last c =
    let l = c.args.self.now in
    let at = (goal.at.returns-clause-last c).After-reach_of-reach in
    let highest = subst (Contains (offsets l)) (ap (λ r. l.offset + r) (sym (above-is at))) (highest_among l (some at)) in
    λ _. (highest.0, l.offset + c.reach_of-reach.result.above, highest.1, highest.2, refl)

pub returns-clause-limit : goal.returns-clause-limit
returns-clause-limit c = omega (arith, high (goal.at.returns-clause-limit c).After-reach_of-reach)

pub returns-clause-empty : goal.returns-clause-empty
returns-clause-empty c = λ none. absurd (omega (arith, c.items.ensures.value, length-offsets c.args.self.now, ap length none))
