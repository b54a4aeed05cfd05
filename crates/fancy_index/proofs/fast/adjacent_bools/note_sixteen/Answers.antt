use Rattle.std.proofs.Common.{◌≡◌, ◌+◌, ◌*◌, ◌%◌, ◌^◌, ◌≤◌, ◌++◌, replicate, take, get_or, sym, ap, subst, ◌∙◌, arith, rules, pos}
use Rattle.fancy_index.proofs.Words.{zip2, bools_in, AreBits, ranks_from}
use Rattle.fancy_index.proofs.BoolLaws.{length-bools, byte-within, loaded-bits, found_added}
use Rattle.fancy_index.proofs.FourLaws.{wrapped, shifted, four_ranks, none_added}
use Rattle.fancy_index.proofs.fast.adjacent_bools.note_sixteen.Goals as goal
use Rattle.fancy_index.proofs.fast.adjacent_bools.note_sixteen.Goals.{After-bits_of-bits}

loaded : (c : After-bits_of-bits) → AreBits c.args.bools c.args.at 16 c.bits_of-bits.result
loaded c = loaded-bits c.args.bools c.requires.lie c.requires.adjacent c.args.at 16 c.bits_of-bits.result c.array_at-loaded.result c.array_at-loaded.ensures c.requires.end c.bits_of-bits.ensures

pub overflow_add-bools : goal.overflow_add-bools
overflow_add-bools c = record { fits = omega (arith, c.ranges.bools, byte-within c.args.bools c.requires.lie c.requires.adjacent c.args.at (omega (arith, c.requires.end))) }

pub array_at-loaded-requires : goal.array_at-loaded-requires
array_at-loaded-requires c =
    (omega arith, omega (arith, byte-within c.args.bools c.requires.lie c.requires.adjacent (c.args.at + 15) (omega (arith, c.requires.end))))

pub returns-then-bits-eq0-clause-found : goal.returns-then-bits-eq0-clause-found
returns-then-bits-eq0-clause-found c whole before =
    let bools = c.args.bools in
    ap (λ l. take c.args.many c.args.found.now ++ l) (sym (none_added (bools_in bools) bools.rank c.args.at c.bits_of-bits.result (omega (arith, c.requires.end, length-bools bools)) (loaded (goal.at.returns-then-bits-eq0-clause-found c).After-bits_of-bits) c.if-bits-eq0.true)) ∙ before

pub loop-init : goal.loop-init
loop-init c =
    let bools = c.args.bools in
    let at : c.args.at ≡ c.args.at + 0 = omega arith in
    record {
      size = search rules;
      many = omega arith;
      first = ap (λ n. replicate 4 (bools.rank + n)) at;
      are = subst (λ n. AreBits bools n 16 c.bits_of-bits.result) at (loaded (goal.at.loop-init c).After-bits_of-bits);
      noted = λ whole before. ap (λ n. take c.args.many c.args.found.now ++ ranks_from bools n) (sym at) ∙ before;
    }

pub loop-preserved : goal.loop-preserved
loop-preserved c =
    let bools = c.args.bools in
    let inv = c.loop.invariant in
    let k = c.args.at + 4 * c.loop.counter in
    let next : c.args.at + 4 * (c.loop.counter + 1) ≡ k + 4 = omega arith in
    let low : bools.rank + k + 4 ≤ 16777216 = omega (arith, c.loop-test.true, c.requires.end, c.requires.lie.few) in
    let rank : (bools.rank + k + 4) % 2 ^ 32 ≡ bools.rank + (c.args.at + 4 * (c.loop.counter + 1)) = omega (arith, low) in
    record {
      size = c.note_four-many.auto.found ∙ inv.size;
      many = omega (arith, c.note_four-many.ensures.many, inv.many);
      first = ap (λ ranks. zip2 wrapped ranks (replicate 4 4)) inv.first ∙ ap (replicate 4) rank;
      are = λ j inside.
          let there : c.args.at + 4 * (c.loop.counter + 1) + j ≡ k + (4 + j) = omega arith in
          ap (λ n. get_or (bools_in bools) n (pos 0)) there ∙ inv.are (4 + j) (omega (arith, inside)) ∙ ap (λ n. pos (n % 2)) (shifted c.loop.bits 4 j);
      noted = λ whole before.
          ap (λ n. take c.note_four-many.result c.note_four-many.new.found ++ ranks_from bools n) next
          ∙ found_added _ _ _ whole _ _ (c.note_four-many.ensures.found (bools.rank + k) inv.first low)
          (four_ranks (bools_in bools) bools.rank k c.loop.bits (omega (arith, c.loop-test.true, c.requires.end, length-bools bools)) (λ j inside. inv.are j (omega (arith, inside, c.loop-test.true)))) (inv.noted whole before);
    }
