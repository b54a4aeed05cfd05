use Rattle.bench_engine.proofs.write.new_items.Goals as goal

pub source_of-requires-clause-given : goal.source_of-requires-clause-given
source_of-requires-clause-given c = (c.requires.0, c.requires.1, c.requires.2)
