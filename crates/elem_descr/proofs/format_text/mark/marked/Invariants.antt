use Rattle.std.proofs.Common.{◌≡◌, drop}
use Rattle.elem_descr.proofs.Words.{marked}
use Rattle.elem_descr.proofs.format_text.mark.marked.Given as goal

-- the marks so far are read
abbrev pub invariant-loop-i : goal.invariant-loop-i
invariant-loop-i l = marked l.fn.mark l.text ≡ marked l.mark (drop l.i l.text)
