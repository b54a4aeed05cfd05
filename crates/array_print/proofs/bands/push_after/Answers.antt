use Rattle.std.proofs.Common.{◌++◌, ap, ◌∙◌, sym, subst, append_assoc, arith, rules}
use Rattle.array_print.proofs.Words.{Appends, SendsPart, append-nil, appends_then, on_err_weaker, on_ok_weaker}
use Rattle.array_print.specs.declared.bands.Room.{Room}
use Rattle.array_print.proofs.PushLaws.{failed, held-sent}
use Rattle.array_print.proofs.bands.push_after.Goals as goal

pub returns-in_err-send : goal.returns-in_err-send
returns-in_err-send g c =
    let part = c.in_err-send.ensures.err in
    let fault : SendsPart (g.W.Write.contents c.args.writer.now) (g.W.Write.contents c.send.new.writer) (c.args.out.now.text.items ++ c.args.bytes.now) =
    (part.1 ++ c.args.bytes.now, (part.0, ap (λ t. t ++ c.args.bytes.now) (sym c.as_slice.ensures.value ∙ part.2) ∙ append_assoc part.0 part.1 c.args.bytes.now, part.4)) in
    record {
      ok = search rules;
      err = failed _ fault;
      room = omega arith;
    }

pub returns-then-capacity-bytes : goal.returns-then-capacity-bytes
returns-then-capacity-bytes g c =
    let held = c.args.out.now.text.items in
    let bytes = c.args.bytes.now in
    let first = subst (λ t. Appends (g.W.Write.contents c.args.writer.now) (g.W.Write.contents c.send.new.writer) t) c.as_slice.ensures.value c.in_ok-send.ensures.ok in
    let made : Room = record { text = c.clear.new.self; sent = c.saturating_add-out.result; kept = c.args.out.now.kept } in
    let all = sym (append-nil (held ++ bytes)) ∙ ap (λ t. (held ++ bytes) ++ t) (sym c.clear.ensures.items) in
    let result = c.send-then-capacity-bytes.result in
    record {
      ok = on_ok_weaker result (λ sent. held-sent (held ++ bytes) c.args.out.now made (appends_then _ _ _ _ _ first sent) all c.saturating_add-out.ensures (omega arith) (omega arith)) c.send-then-capacity-bytes.ensures.ok;
      err = on_err_weaker result (λ part. (part.1, (held ++ part.0, ap (λ t. held ++ t) part.2 ∙ sym (append_assoc held part.0 part.1), appends_then _ _ _ _ _ first part.4))) c.send-then-capacity-bytes.ensures.err;
      room = omega arith;
    }
