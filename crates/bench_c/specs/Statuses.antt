-- The number of each status in C.
use Rattle.std.specs.Prelude.{ℕ}
use Rattle.bench_c.specs.declared.status.Status.{Status}
use Rattle.bench_c.specs.declared.status.Status.TheVariants.{Done, Refused, Silent, NoMemory, TooLong, NoFile, NoRoom, Invalid}

abbrev pub code_of : Status → ℕ
code_of Done = 0
code_of Refused = 1
code_of Silent = 2
code_of NoMemory = 3
code_of TooLong = 4
code_of NoFile = 5
code_of NoRoom = 6
code_of Invalid = 7
