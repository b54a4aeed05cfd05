-- Whether the parts of a part take memory of their own.
use Rattle.std.specs.Prelude.{ℕ, Bool, List, [], Option, unwrap_or}
use Rattle.script_lang.specs.Words.{IndexItem}
use Rattle.script_lang.specs.declared.literal.ScalarLiteral.{ScalarLiteral}
use Rattle.script_lang.specs.declared.literal.Literal.TheVariants.{Scalar}
use Rattle.script_lang.specs.Reading.{literal_room, index_room}

abbrev pub scalar_room : ScalarLiteral → Bool
scalar_room scalar = literal_room (Scalar scalar)

abbrev pub optional_index_room : Option (List (IndexItem (List ℕ))) → Bool
optional_index_room index = index_room (unwrap_or index [])
