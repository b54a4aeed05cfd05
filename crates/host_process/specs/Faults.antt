-- Why the arguments of the command line give no options.
use Rattle.std.specs.Prelude.{◌≢◌}
use Rattle.clap.specs.declared.error.kind.ErrorKind.TheVariants.{OutOfMemory}
use Rattle.clap.specs.Words.{kind_of}
use Rattle.host_process.specs.declared.words.OptionsFault.{OptionsFault}
use Rattle.host_process.specs.declared.words.OptionsFault.TheVariants.{Words, Memory}

-- a lack of memory is reported as such, and never as invalid arguments
abbrev pub IsToldApart : OptionsFault → Type 0
IsToldApart (Words error) = kind_of error ≢ OutOfMemory
IsToldApart Memory = Unit {0}
