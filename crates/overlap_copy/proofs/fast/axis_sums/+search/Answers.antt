use Rattle.std.proofs.Common.{rules, ◌<◌, ◌≤◌, List, arith, ◌-◌, length, take, drop, subst, sym, length-take, length-drop, refl, ◌∙◌}
use Rattle.overlap_copy.proofs.Words.{Axis, HasSum, IfSome_then, false≢true}
use Rattle.overlap_copy.proofs.SearchLaws.{no_axis, first_rest, still, none_at_first, none_more, none_beyond, with_first, forward_rest, reach_rest}
use Rattle.overlap_copy.proofs.StepsBackLaws.{none_turned}
use Rattle.overlap_copy.proofs.fast.axis_sums.+search.Goals as goal

pub loop-k-init : goal.loop-k-init
loop-k-init t c =
    let axes = c.args.axes.now in
    let some = c.in-len1-up.len_at_least in
    none_at_first _ _ c.args.low c.args.high _ c.saturating_sub.result c.div_ceil-least.result (omega (arith, c.if-first-eq0.false)) (reach_rest axes c.args.reach some c.requires.reach) c.saturating_sub.ensures c.div_ceil-least.ensures

pub returns-then-taken-high : goal.returns-then-taken-high
returns-then-taken-high t c = (
  λ yes. absurd (false≢true yes),
  λ s.
      let split = first_rest c.args.axes.now c.in-len1-up.len_at_least in
      absurd (none_beyond _ _ c.args.low c.args.high c.loop-k.k c.loop-k.invariant c.if-taken-high.true (subst (λ l. HasSum l c.args.low c.args.high) split s)),
)

pub returns-then-left-turn : goal.returns-then-left-turn
returns-then-left-turn t c = (
  λ yes. absurd (false≢true yes),
  λ s.
      let split = first_rest c.args.axes.now c.in-len1-up.len_at_least in
      let turn = c.turn_at-turn in
      absurd (none_turned _ _ c.args.low c.args.high turn.result.steps turn.result.far c.loop-k.k turn.ensures c.loop-k.invariant c.if-k-turn.true (omega (arith, c.if-taken-high.false, c.if-left-turn.true)) (subst (λ l. HasSum l c.args.low c.args.high) split s)),
)

shorter : (axes : List Axis) → 1 ≤ length axes → length (take (length axes - 1) (drop 1 axes)) < length axes
shorter axes some = omega (arith, length-take (length axes - 1) (drop 1 axes), length-drop 1 axes)

pub search-requires : goal.search-requires
search-requires t c =
    let axes = c.args.axes.now in
    let some = c.in-len1-up.len_at_least in
    (search (rules, shorter axes some), (forward_rest axes some c.requires.forward, reach_rest axes c.args.reach some c.requires.reach))

pub search-requires-in-loop-k : goal.search-requires-in-loop-k
search-requires-in-loop-k t c =
    let axes = c.args.axes.now in
    let some = c.in-len1-up.len_at_least in
    (search (rules, shorter axes some), (forward_rest axes some c.requires.forward, reach_rest axes c.args.reach some c.requires.reach))

pub turn_at-turn-requires-clause-forward : goal.turn_at-turn-requires-clause-forward
turn_at-turn-requires-clause-forward t c = forward_rest c.args.axes.now c.in-len1-up.len_at_least c.requires.forward

pub returns-then-first-eq0 : goal.returns-then-first-eq0
returns-then-first-eq0 t c =
    let some = c.in-len1-up.len_at_least in
    let split = first_rest c.args.axes.now some in
    let same = still _ _ c.args.low c.args.high c.if-first-eq0.true (c.requires.forward.items 0 no_axis some) in
    IfSome_then c.search.result c.search.ensures (λ yes is. (λ t. subst (λ l. HasSum l c.args.low c.args.high) (sym split) (same.0 (is.0 t)), λ s. is.1 (same.1 (subst (λ l. HasSum l c.args.low c.args.high) split s))))

pub returns-then-branch : goal.returns-then-branch
returns-then-branch t c =
    let split = first_rest c.args.axes.now c.in-len1-up.len_at_least in
    (λ _. subst (λ l. HasSum l c.args.low c.args.high) (sym split) (with_first _ _ c.args.low c.args.high c.loop-k.k _ c.loop-k-test.true c.if-taken-high.false c.saturating_sub-in-loop-k.ensures (c.in_ok-search.ensures.0 c.if-branch.true)), λ _. refl)

pub loop-k-preserved : goal.loop-k-preserved
loop-k-preserved t c =
    none_more _ _ c.args.low c.args.high c.loop-k.k _ c.loop-k.invariant c.saturating_sub-in-loop-k.ensures (λ s. false≢true (sym c.if-branch.false ∙ c.in_ok-search.ensures.1 s))
