use Rattle.std.proofs.Common.{◌≡◌, List, ℕ, drop, rules, sym, ap, ◌∙◌}
use Rattle.elem_descr.proofs.Words.{take_rest, Mark, ◌>>=◌, member_at, held_at, alone, record_alone, format_in_turns}
use Rattle.elem_descr.specs.declared.format_text.member.Member.{Member}
use Rattle.elem_descr.proofs.PieceMembers.{after_ok}
use Rattle.elem_descr.proofs.SameFormat.{same_format}
use Rattle.elem_descr.proofs.format_text.read.format_read.Goals as goal

pub returns-in-Ok-Value-default : goal.returns-in-Ok-Value-default
returns-in-Ok-Value-default c = rw (same_format c.args.text.now) (search rules)

pub returns-in-Ok-Pad-default : goal.returns-in-Ok-Pad-default
returns-in-Ok-Pad-default c = rw (same_format c.args.text.now) (search rules)

pub returns-in-Ok-Opened-default : goal.returns-in-Ok-Opened-default
returns-in-Ok-Opened-default c =
    let marks = ap (λ (m : Mark × List ℕ). held_at (member_at m.0 m.1) >>= λ it. alone m.0 it.0 it.1) (sym c.marked-mark.ensures) in
    let is : format_in_turns c.args.text.now ≡ record_alone c.marked-mark.result.0 (drop 1 c.in-Ok-Opened-default.rest.now) = marks ∙ after_ok _ _ _ c.in-Ok-Opened-default.ensures.answers ∙ ap (λ (it : Member). alone c.marked-mark.result.0 it c.in-Ok-Opened-default.rest.now) c.in-Ok-Opened-default.field-0-0-is in
    let whole = take_rest c.in-Ok-Opened-default.rest.now 1 in
    rw (same_format c.args.text.now, is) (rw whole at c.record_alone.ensures)

pub returns-in-Err : goal.returns-in-Err
returns-in-Err c = rw (same_format c.args.text.now) (search rules)
