-- How the program ends.
use Rattle.std.specs.Prelude.{ℕ, List, codes, Result, Ok, Err, nat_eq, if◌then◌else◌}
use Rattle.bench_engine.specs.declared.session.Summary.{Summary}
use Rattle.bench_engine.specs.declared.runner.RunFault.{RunFault}
use Rattle.bench_engine.specs.declared.runner.RunFault.TheVariants.{Read, Write, Memory}

-- the status, and the text for standard error
abbrev pub outcome_of : Result Summary RunFault → ℕ × List ℕ
outcome_of (Ok summary) = (if nat_eq summary.refused 0 then 0 else 1, codes "")
outcome_of (Err Read) = (3, codes "bench: read fault")
outcome_of (Err Write) = (3, codes "bench: write fault")
outcome_of (Err Memory) = (3, codes "bench: out of memory")
