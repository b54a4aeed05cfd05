use Rattle.std.proofs.Common.{◌≡◌, ◌+◌, min, take}
use Rattle.elem_descr.proofs.Words.{value_of}
use Rattle.elem_descr.proofs.digits.capped_value.Given as goal

-- the digits so far are read
abbrev pub invariant-loop-digit : goal.invariant-loop-digit
invariant-loop-digit l = l.value ≡ min (value_of (take l.digit-index l.digits)) (l.most + 1)
