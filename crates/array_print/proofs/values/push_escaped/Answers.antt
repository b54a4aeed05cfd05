use Rattle.std.proofs.Common.{◌≡◌, ◌∷◌, [], rules}
use Rattle.array_print.proofs.Words.{escaped}
use Rattle.array_print.proofs.PushLaws.{pushes-same}
use Rattle.array_print.proofs.values.push_escaped.Goals as goal

pub returns-then-stands_for_itself : goal.returns-then-stands_for_itself
returns-then-stands_for_itself g c =
    let is : c.args.byte ∷ [] ≡ escaped c.args.byte = search rules in
    pushes-same is c.push_byte.ensures
