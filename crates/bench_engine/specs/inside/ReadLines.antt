-- What a line means once it is read.
use Rattle.std.specs.Prelude.{IsErrOf, Option, Result}
use Rattle.bench_engine.specs.Words.{Refusal, LineTooLong, Command, Says}
use Rattle.bench_engine.specs.declared.line.Line.{Line as ReadLine}
use Rattle.bench_engine.specs.declared.line.Line.TheVariants.{Held, TooLong}
use Rattle.bench_engine.specs.Headline.{Meaning, too_long, says, meaning_of}

-- the meaning of a line that was read
abbrev pub meaning_of_read : ReadLine → Meaning
meaning_of_read (Held line) = meaning_of line.now
meaning_of_read TooLong = too_long

-- the result of reading a line: what the grammar says, or the refusal of a line that is too long
abbrev pub ReadsAs : Result (Option Command) Refusal → Meaning → Type 0
ReadsAs result too_long = IsErrOf result LineTooLong
ReadsAs result (says line) = Says result line
