-- The values of a record have fewer nodes than it.
use Rattle.std.proofs.Common.{arith, ap}
use Rattle.script_lang.specs.Nodes.{literal_nodes}
use Rattle.script_lang.specs.RecordLaws.{inner-literal_nodes}
use Rattle.text_tests.proofs.lines.show.+put_unspaced.Goals as goal

pub loop-value-init : goal.loop-value-init
loop-value-init t c = rw (c.in-Record.is, c.as_slice-value-items.ensures) (inner-literal_nodes c.in-Record.values)

pub put_unspaced-requires : goal.put_unspaced-requires
put_unspaced-requires t c =
    let less = c.loop-value.invariant c.loop-value.value-index c.value-item.result c.loop-value-test.true in
    (omega (arith, less, c.decreases, ap literal_nodes c.value-item.is), tt)
