use Rattle.bench_engine.proofs.create.type_in_script.Goals as goal

pub returns-clause-value : goal.returns-clause-value
returns-clause-value c = rw c.as_slice.ensures at (c.array_type.ensures.value c.args.lengths.now c.shape_of.ensures)
