use Rattle.std.proofs.Common.{refl, arith}
use Rattle.bench_engine.proofs.Meanings.{meaning_of-long, meaning_of-short}
use Rattle.bench_engine.proofs.engine.read_line.Goals as goal

pub returns-then-bytes-gt-MAX_LINE_LEN : goal.returns-then-bytes-gt-MAX_LINE_LEN
returns-then-bytes-gt-MAX_LINE_LEN c = rw (c.in-Held.is, meaning_of-long c.in-Held.bytes.now (omega arith)) refl

pub returns : goal.returns
returns c = rw (c.in-Held.is, meaning_of-short c.in-Held.bytes.now (omega arith)) c.parse.ensures.command
