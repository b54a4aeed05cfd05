use Rattle.std.proofs.Common.{rules}
use Rattle.npy_format.proofs.Words.{value_of, widened-capped}
use Rattle.npy_format.proofs.record_list.add_pad.Goals as goal

pub returns-clause-answers : goal.returns-clause-answers
returns-clause-answers c =
    let padded = rw (c.capped_value.ensures, widened-capped c.args.builder.now (value_of c.in_ok-digits.digits.now)) at c.pad.ensures.answers in
    search rules
