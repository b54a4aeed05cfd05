use Rattle.std.proofs.Common.{◌≡◌, ◌≤◌, ◌+◌, ◌*◌, ◌/◌, ◌++◌, ap, ◌∙◌, arith}
use Rattle.elementwise.proofs.Words.{joined, joined-add, number_pair, made_of}
use Rattle.elementwise.proofs.AddedLaws.{added-as, added-more, none-added}
use Rattle.elementwise.proofs.loops.numbers.Numbers.push_each.Goals as goal

pub push_array-requires : goal.push_array-requires
push_array-requires g c =
    let one : g.T.Number.WIDTH ≡ 1 = omega (arith, c.if-WIDTH-gt1.false, c.WIDTH.ensures, g.met.T.Number.is_small.0) in
    let count = c.args.pairs.left.run.count in
    let room : count ≤ c.args.block.1 = omega (arith, c.requires.room, ap (λ w. count * w) one) in
    (omega arith, omega (arith, room, c.loop-group-test.true, c.loop-group.invariant.left))

pub loop-group-preserved : goal.loop-group-preserved
loop-group-preserved g c =
    let begun = 16 * c.loop-group.group in
    let made = made_of (number_pair (g.A.Number.scalar g.O.Ordered.order) (g.B.Number.scalar g.O.Ordered.order) (g.T.Number.scalar g.Q.Ordered.order) g.K.Kernel.makes) c.args.pairs in
    let next : begun + 16 ≡ 16 * (c.loop-group.group + 1) = omega arith in
    added-as (begun + 16) (16 * (c.loop-group.group + 1)) _ _ c.args.block _
    (added-more begun 16 (joined made begun) (joined (λ j. made (begun + j)) 16) c.args.block c.loop-group.block _ c.loop-group.invariant (record { bytes = c.push_array.ensures.bytes ∙ ap (λ l. c.loop-group.block.0 ++ l) c.sixteen.ensures; left = c.push_array.ensures.left }))
    next (joined-add made begun 16 ∙ ap (joined made) next)

pub returns-then-WIDTH-gt1 : goal.returns-then-WIDTH-gt1
returns-then-WIDTH-gt1 g c = c.push_from.ensures c.args.block (none-added g.T.Number.WIDTH c.args.block)

pub returns : goal.returns
returns g c =
    let one : g.T.Number.WIDTH ≡ 1 = omega (arith, c.if-WIDTH-gt1.false, c.WIDTH.ensures, g.met.T.Number.is_small.0) in
    let groups = c.args.pairs.left.run.count / 16 in
    let made = made_of (number_pair (g.A.Number.scalar g.O.Ordered.order) (g.B.Number.scalar g.O.Ordered.order) (g.T.Number.scalar g.Q.Ordered.order) g.K.Kernel.makes) c.args.pairs in
    let all : c.loop-group.group ≡ groups = omega (arith, c.loop-group-test.false, c.loop-group.auto.group-end) in
    c.push_from-2.ensures c.args.block (added-as _ _ _ _ c.args.block c.loop-group.block c.loop-group.invariant (omega (arith, all, ap (λ w. 16 * groups * w) one)) (ap (λ n. joined made (16 * n)) all))
