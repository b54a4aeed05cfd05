use Rattle.std.proofs.Common.{◌≡◌, ◌++◌, drop}
use Rattle.elem_descr.proofs.Words.{listed, leaves_from}
use Rattle.elem_descr.proofs.descr.Record.try_new.Given as goal

-- the leaves of the fields so far are appended
abbrev pub invariant-loop-field : goal.invariant-loop-field
invariant-loop-field l = l.leaves.items ++ leaves_from 0 (listed (drop l.field-index l.field-items)) ≡ leaves_from 0 (listed l.field-items)
