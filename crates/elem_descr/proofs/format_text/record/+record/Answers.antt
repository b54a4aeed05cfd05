use Rattle.std.proofs.Common.{◌≡◌, ◌<◌, ◌-◌, ◌∙◌, ⊎_elim, inl, inr, length, ap, arith}
use Rattle.elem_descr.proofs.Words.{err_from_is_err_and, Partial, record_within}
use Rattle.elem_descr.proofs.PieceMembers.{after_ok, after_err}
use Rattle.elem_descr.proofs.Turns.{no_levels, members_begin, members_closed, members_field, next_record}
use Rattle.elem_descr.proofs.format_text.record.+record.Goals as goal

pub record_within-returns-then-levels-eq0-clause-gives : goal.record_within-returns-then-levels-eq0-clause-gives
record_within-returns-then-levels-eq0-clause-gives t c = inr (no_levels c.args.levels c.args.mark c.args.leaves c.args.text.now c.if-levels-eq0.true)

pub record_within-loop-turn-init : goal.record_within-loop-turn-init
record_within-loop-turn-init t c =
    let some : 0 < c.args.levels = omega arith in
    let levels = ap (λ (p : Partial). p.levels) c.new-builder.ensures in
    record {
      read = rw c.new-builder.ensures (members_begin c.args.levels c.args.mark c.args.leaves c.args.text.now some);
      levels = omega (arith, levels);
    }

pub record_within-returns-in_err-body-clause-gives : goal.record_within-returns-in_err-body-clause-gives
record_within-returns-in_err-body-clause-gives t c =
    let p = err_from_is_err_and c.from_residual.result c.from_residual.ensures.1 in
    let at = members_closed (record_within (c.args.levels - 1)) (length c.args.text.now) c.loop-turn._turn c.loop-turn.mark c.marked-now.result.0 c.loop-turn.builder c.loop-turn.rest.now c.marked-now.result.1.now c.in-Some.after.now c.loop-turn-test.true c.marked-now.ensures c.in-Some.ensures in
    rw (p.1, p.2) (⊎_elim inl (λ e. inr (c.loop-turn.invariant.read ∙ at ∙ after_err _ _ _ e)) c.in_err-body.ensures.gives)

pub record_within-returns-in-Some-clause-gives : goal.record_within-returns-in-Some-clause-gives
record_within-returns-in-Some-clause-gives t c =
    let at = members_closed (record_within (c.args.levels - 1)) (length c.args.text.now) c.loop-turn._turn c.loop-turn.mark c.marked-now.result.0 c.loop-turn.builder c.loop-turn.rest.now c.marked-now.result.1.now c.in-Some.after.now c.loop-turn-test.true c.marked-now.ensures c.in-Some.ensures in
    c.loop-turn.invariant.read ∙ at ∙ after_ok _ _ _ c.in_ok-body.ensures.gives

pub record_within-returns-in_err-later-clause-gives : goal.record_within-returns-in_err-later-clause-gives
record_within-returns-in_err-later-clause-gives t c =
    let p = err_from_is_err_and c.from_residual-in_err-later.result c.from_residual-in_err-later.ensures.1 in
    let levels : c.loop-turn.builder.levels ≡ c.args.levels - 1 = omega (arith, c.loop-turn.invariant.levels) in
    let at = members_field (c.args.levels - 1) (length c.args.text.now) c.loop-turn._turn c.loop-turn.mark c.marked-now.result.0 c.loop-turn.builder c.loop-turn.rest.now c.marked-now.result.1.now levels c.loop-turn-test.true c.marked-now.ensures c.in_default.ensures in
    rw (p.1, p.2) (⊎_elim inl (λ e. inr (c.loop-turn.invariant.read ∙ at ∙ after_err _ _ _ e)) c.in_err-later.ensures.gives)

pub record_within-loop-turn-preserved : goal.record_within-loop-turn-preserved
record_within-loop-turn-preserved t c =
    let levels : c.loop-turn.builder.levels ≡ c.args.levels - 1 = omega (arith, c.loop-turn.invariant.levels) in
    let at = members_field (c.args.levels - 1) (length c.args.text.now) c.loop-turn._turn c.loop-turn.mark c.marked-now.result.0 c.loop-turn.builder c.loop-turn.rest.now c.marked-now.result.1.now levels c.loop-turn-test.true c.marked-now.ensures c.in_default.ensures in
    record {
      read = c.loop-turn.invariant.read ∙ at ∙ after_ok _ _ _ c.in_ok-later.ensures.gives;
      levels = omega (arith, c.loop-turn.invariant.levels, c.field_at.ensures.levels);
    }

pub field_at-returns-in_err-add-in-Ok-Opened-default-clause-gives : goal.field_at-returns-in_err-add-in-Ok-Opened-default-clause-gives
field_at-returns-in_err-add-in-Ok-Opened-default-clause-gives t c =
    let p = err_from_is_err_and c.from_residual-in_err-add-in-Ok-Opened-default.result c.from_residual-in_err-add-in-Ok-Opened-default.ensures.1 in
    let at = next_record c.args.mark c.args.builder.now c.args.text.now _ _ _ _ _ (rw c.in-Ok-Opened-default.field-0-0-is at c.in-Ok-Opened-default.ensures.answers)
    (rw (c.levels-levels.ensures.value, c.leaves-leaves.ensures.value) at c.in_ok-body-in-Ok-Opened-default.ensures.gives)
    (rw c.len-in-Ok-Opened-default.ensures.value at c.in_ok-name-in-Ok-Opened-default.ensures.gives)
    (rw c.as_slice-in-Ok-Opened-default.ensures at c.in_ok-check_name-in-Ok-Opened-default.ensures.answers) in
    rw (p.1, p.2) (⊎_elim inl (λ e. inr (at ∙ after_err _ _ _ e)) (rw c.aligned-alignment-in-Ok-Opened-default.ensures.value at c.in_err-add-in-Ok-Opened-default.ensures.gives))

pub field_at-returns-in_ok-add-in-Ok-Opened-default-clause-gives : goal.field_at-returns-in_ok-add-in-Ok-Opened-default-clause-gives
field_at-returns-in_ok-add-in-Ok-Opened-default-clause-gives t c =
    let at = next_record c.args.mark c.args.builder.now c.args.text.now _ _ _ _ _ (rw c.in-Ok-Opened-default.field-0-0-is at c.in-Ok-Opened-default.ensures.answers)
    (rw (c.levels-levels.ensures.value, c.leaves-leaves.ensures.value) at c.in_ok-body-in-Ok-Opened-default.ensures.gives)
    (rw c.len-in-Ok-Opened-default.ensures.value at c.in_ok-name-in-Ok-Opened-default.ensures.gives)
    (rw c.as_slice-in-Ok-Opened-default.ensures at c.in_ok-check_name-in-Ok-Opened-default.ensures.answers) in
    at ∙ after_ok _ _ _ (rw c.aligned-alignment-in-Ok-Opened-default.ensures.value at c.in_ok-add-in-Ok-Opened-default.ensures.gives)
