-- A number of thirty digits fits into the integer type.
use Rattle.std.proofs.Common.{◌<◌, ◌^◌, arith}
use Rattle.script_lang.proofs.Spelling.{below_power}
use Rattle.script_lang.proofs.grammar.numbers.value_of.Goals as goal

pub overflow_mul-n : goal.overflow_mul-n
overflow_mul-n c =
    let small : c.loop-d.n < 10 ^ 29 = below_power 29 c.loop-d.n c.loop-d.d-index c.loop-d.invariant.few (omega arith) in
    omega arith

pub overflow_add-n : goal.overflow_add-n
overflow_add-n c =
    let small : c.loop-d.n < 10 ^ 29 = below_power 29 c.loop-d.n c.loop-d.d-index c.loop-d.invariant.few (omega arith) in
    omega arith

pub returns-clause-small : goal.returns-clause-small
returns-clause-small c =
    let small : c.loop-d.n < 10 ^ 30 = below_power 30 c.loop-d.n c.loop-d.d-index c.loop-d.invariant.few (omega arith) in
    omega arith
