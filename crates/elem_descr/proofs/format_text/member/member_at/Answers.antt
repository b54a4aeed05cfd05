use Rattle.elem_descr.proofs.Turns.{member_held}
use Rattle.elem_descr.proofs.format_text.member.member_at.Goals as goal

pub returns-in-Ok-clause-answers : goal.returns-in-Ok-clause-answers
returns-in-Ok-clause-answers c = member_held _ _ _ _ _ 0 _ c.digits_len.ensures.value c.split_at.ensures.front c.split_at.ensures.back c.in-len1-up.len_at_least c.in-Ok.ensures

pub returns-in-Err-clause-answers : goal.returns-in-Err-clause-answers
returns-in-Err-clause-answers c = member_held _ _ _ _ _ 0 _ c.digits_len.ensures.value c.split_at.ensures.front c.split_at.ensures.back c.in-len1-up.len_at_least c.in-Err.ensures
