use Rattle.std.proofs.Common.{◌≡◌, ◌<◌, ◌^◌, take}
use Rattle.script_lang.proofs.Words.{value_of}
use Rattle.script_lang.proofs.grammar.numbers.value_of.Given as goal

-- the digits so far are read
abbrev pub invariant-loop-d : goal.invariant-loop-d
invariant-loop-d l = record { value : l.n ≡ value_of (take l.d-index l.digits); few : l.n < 10 ^ l.d-index }
