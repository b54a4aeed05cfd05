use Rattle.std.proofs.Common.{arith}
use Rattle.shape_strides.proofs.Words.{offsets_within}
use Rattle.shape_strides.proofs.RunLaws.{runs-offsets, runs-alone}
use Rattle.shape_strides.proofs.PairLaws.{runs-some_each}
use Rattle.shape_strides.proofs.RunBounds.{runs-lie}
use Rattle.shape_strides.proofs.runs.Runs.new.Goals as goal

pub returns-clause-offsets : goal.returns-clause-offsets
returns-clause-offsets c = runs-offsets c.args.layout.now

pub returns-clause-alone : goal.returns-clause-alone
returns-clause-alone c = runs-alone c.args.layout.now

pub returns-clause-within : goal.returns-clause-within
returns-clause-within c = offsets_within c.args.layout.now

pub returns-clause-lie : goal.returns-clause-lie
returns-clause-lie c = runs-lie c.args.layout.now

pub returns-clause-some : goal.returns-clause-some
returns-clause-some c = runs-some_each c.args.layout.now (omega (arith, c.items.ensures.value, c.items.ensures.limit))
