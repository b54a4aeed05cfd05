use Rattle.std.proofs.Common.{◌≡◌, take}
use Rattle.elem_descr.proofs.descr.+copy.Given as goal

-- the fields so far are copied
abbrev pub invariant-Record::try_copy-loop-field : goal.invariant-Record::try_copy-loop-field
invariant-Record::try_copy-loop-field l = l.fields.items ≡ take l.field-index l.field-items
