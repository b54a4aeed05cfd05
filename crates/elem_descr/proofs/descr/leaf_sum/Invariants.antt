use Rattle.std.proofs.Common.{◌≡◌, ◌+◌, drop}
use Rattle.elem_descr.proofs.Words.{leaves_in}
use Rattle.elem_descr.proofs.descr.leaf_sum.Given as goal

-- the sum counts the leaves of the fields so far
abbrev pub invariant-loop-field : goal.invariant-loop-field
invariant-loop-field l = l.sum + leaves_in (drop l.field-index l.fields) ≡ leaves_in l.fields
