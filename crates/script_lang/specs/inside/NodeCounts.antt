-- The depth of a literal is at most the number of its nodes.
use Rattle.std.specs.Prelude.{◌≤◌, max, List, [], ◌∷◌}
use Rattle.std.proofs.Common.{arith}
use Rattle.script_lang.specs.Words.{most}
use Rattle.script_lang.specs.declared.literal.Literal.{Literal}
use Rattle.script_lang.specs.declared.literal.Literal.TheVariants.{Scalar, Record}
use Rattle.script_lang.specs.declared.literal.RecordLiteral.TheDeep.{deep-Literal}
use Rattle.script_lang.specs.RecordValues.{node_count}
use Rattle.script_lang.specs.Listed.{all_values}

-- The depth of the deepest of the literals is at most the number of nodes in all of them.
pub depth_le-node_count : (literals : List Literal) → max (most deep-Literal literals) 0 ≤ node_count (all_values literals)
depth_le-node_count [] = omega arith
depth_le-node_count (Scalar scalar ∷ literals) = omega (arith, depth_le-node_count literals)
depth_le-node_count (Record inner ∷ literals) = omega (arith, depth_le-node_count literals)
