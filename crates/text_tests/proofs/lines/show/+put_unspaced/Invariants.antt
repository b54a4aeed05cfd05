use Rattle.std.proofs.Common.{◌<◌}
use Rattle.std.specs.List.{All}
use Rattle.script_lang.specs.Nodes.{literal_nodes}
use Rattle.text_tests.proofs.lines.show.+put_unspaced.Given as goal

abbrev pub decreases-put_unspaced : goal.decreases-put_unspaced
decreases-put_unspaced l = literal_nodes l.literal.now

-- each value has fewer nodes than the record
abbrev pub invariant-loop-value : goal.invariant-loop-value
invariant-loop-value l = All (λ value. literal_nodes value < literal_nodes l.literal) l.value-items
