use Rattle.std.proofs.Common.{arith}
use Rattle.bench_c.proofs.ArrayLaws.{called-long, looks-found, looks-none}
use Rattle.bench_c.proofs.asked.array_called.Goals as goal

pub returns-then-name-gt-LONGEST_NAME : goal.returns-then-name-gt-LONGEST_NAME
returns-then-name-gt-LONGEST_NAME c = called-long _ _ (omega arith)

pub returns-in-Some : goal.returns-in-Some
returns-in-Some c = looks-found _ _ _ (omega arith) (rw c.from_slice-name.ensures at c.in-Some.ensures)

pub returns : goal.returns
returns c = looks-none _ _ (omega arith) (rw c.from_slice-name.ensures at c.in-None.ensures)
