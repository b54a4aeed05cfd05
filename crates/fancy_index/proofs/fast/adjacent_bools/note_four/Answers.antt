use Rattle.std.proofs.Common.{refl, ◌∙◌, arith}
use Rattle.fancy_index.proofs.Words.{zip2_of_maps, splat_is_map}
use Rattle.fancy_index.proofs.FourLaws.{few, four_written, places, wide, wrapped}
use Rattle.fancy_index.proofs.fast.adjacent_bools.note_four.Goals as goal

pub overflow_add-result : goal.overflow_add-result
overflow_add-result c = record { fits = omega (arith, few c.args.row c.requires.row, c.requires.few) }

pub returns-clause-many : goal.returns-clause-many
returns-clause-many c = omega (arith, few c.args.row c.requires.row)

pub returns-clause-found : goal.returns-clause-found
returns-clause-found c rank lanes low =
    let each = places c.args.row in
    let are = zip2_of_maps wrapped (λ place. place) (λ _. rank) each refl (lanes ∙ splat_is_map each 4 rank (wide c.args.row c.requires.row)) in
    four_written c.args.row c.requires.row (λ place. wrapped place rank) c.args.found.now _ c.args.many rank (λ k below. omega (arith, below, low)) are c.requires.few
