use Rattle.std.proofs.Common.{ap, ◌∙◌, FitsSigned}
use Rattle.elem_descr.proofs.Words.{w128, to_z-of_z, decode, decode_encode, wrap_fits, wraps_to, wrap_stays}
use Rattle.elem_descr.proofs.number.num_write.Goals as goal

pub returns-clause-reads_back : goal.returns-clause-reads_back
returns-clause-reads_back c =
    let fits : FitsSigned w128 c.args.value = c.ranges.value in
    ap (decode c.args.scalar) (simp to_z-of_z at c.wrapped_write.ensures) ∙ decode_encode c.args.scalar c.args.value c.requires.number

pub returns-clause-in_range : goal.returns-clause-in_range
returns-clause-in_range c = wrap_fits c.args.scalar c.args.value c.requires.number

pub returns-clause-wraps : goal.returns-clause-wraps
returns-clause-wraps c = wraps_to c.args.scalar c.args.value c.requires.number

pub returns-clause-in_range_stays : goal.returns-clause-in_range_stays
returns-clause-in_range_stays c = wrap_stays c.args.scalar c.args.value
