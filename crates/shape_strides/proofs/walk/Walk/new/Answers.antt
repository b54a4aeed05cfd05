use Rattle.std.proofs.Common.{sym, ◌∙◌}
use Rattle.shape_strides.proofs.Words.{length-offsets, offsets_within, offsets_at}
use Rattle.shape_strides.proofs.AdvanceLaws.{offsets-at}
use Rattle.shape_strides.proofs.walk.Walk.new.Goals as goal

pub returns-clause-items : goal.returns-clause-items
returns-clause-items c =
    let l = c.args.layout.now in
    c.over.ensures ∙ (λ i. offsets_at (c.as_slice.ensures.value i) (c.as_slice-2.ensures i) l.offset) ∙ sym (offsets-at l)

pub returns-clause-count : goal.returns-clause-count
returns-clause-count c = length-offsets c.args.layout.now

pub returns-clause-within : goal.returns-clause-within
returns-clause-within c = offsets_within c.args.layout.now
