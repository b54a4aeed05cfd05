use Rattle.std.proofs.Common.{◌≡◌, [], true, Err, ap, sym, refl, subst, inl, inr, arith}
use Rattle.bench_engine.proofs.Words.{common_steps, UnknownName, OutOfMemory, Sends, SendsPart, appends_nothing, offsets, array_text, items_from, refusal_text, found, refusal}
use Rattle.bench_engine.proofs.Looks.{bound, not_found, print-unknown, print-found, may-print, may-refuse}
use Rattle.bench_engine.proofs.printing.print.Goals as goal

pub returns-in_default-clause-ok : goal.returns-in_default-clause-ok
returns-in_default-clause-ok g c =
    let text : c.set.new.self ≡ refusal_text UnknownName = grind (arith, common_steps, c.word.ensures.text) in
    (refusal UnknownName, may-refuse c.args.bench.now.state c.args.name.now UnknownName (inr (λ choice. print-unknown c.args.bench.now.state c.args.name.now (not_found _ _ c.in_default.ensures))), refl, ([], sym text, appends_nothing _))

pub returns-in-Ok-clause-ok : goal.returns-in-Ok-clause-ok
returns-in-Ok-clause-ok g c =
    let s = c.args.bench.now.state in
    let it = found s _ c.in-Some.array c.in-Some.ensures in
    let r = c.in-Some.array in
    let text = array_text r.descr.now r.layout.now.shape (items_from r.descr.now r.block.now (offsets r.layout.now)) in (
      record { text = text; accepted = true },
      may-print s c.args.name.now text (print-found _ _ it.0 r it.1 it.2),
      refl,
      subst (λ block. Sends (g.W.Write.contents c.args.writer.now) (g.W.Write.contents c.send_printed.new.writer) c.send_printed.new.self (array_text r.descr.now r.layout.now.shape (items_from r.descr.now block (offsets r.layout.now))))
          c.bytes-block.ensures c.in-Ok.ensures.ok,
    )

pub returns-in-Err-Write-clause-err : goal.returns-in-Err-Write-clause-err
returns-in-Err-Write-clause-err g c =
    let s = c.args.bench.now.state in
    let it = found s _ c.in-Some.array c.in-Some.ensures in
    let r = c.in-Some.array in
    let text = array_text r.descr.now r.layout.now.shape (items_from r.descr.now r.block.now (offsets r.layout.now)) in (
      record { text = text; accepted = true },
      may-print s c.args.name.now text (print-found _ _ it.0 r it.1 it.2),
      subst (λ block. SendsPart (g.W.Write.contents c.args.writer.now) (g.W.Write.contents c.send_printed.new.writer) (array_text r.descr.now r.layout.now.shape (items_from r.descr.now block (offsets r.layout.now))))
          c.bytes-block.ensures (c.in-Err-Write.ensures.write (ap Err c.in-Err-Write.field-0-is)),
    )

pub returns-in-Err-Memory-clause-ok : goal.returns-in-Err-Memory-clause-ok
returns-in-Err-Memory-clause-ok g c =
    let s = c.args.bench.now.state in
    let it = found s _ c.in-Some.array c.in-Some.ensures in
    let text : c.set-in-Err-Memory.new.self ≡ refusal_text OutOfMemory = grind (arith, common_steps, c.word-in-Err-Memory.ensures.text) in
    let kept = c.in-Err-Memory.ensures.memory (ap Err c.in-Err-Memory.field-0-is) in
    (refusal OutOfMemory, may-refuse s c.args.name.now OutOfMemory (inl (refl, bound s c.args.name.now it.0 it.1)), refl, subst (λ w. Sends (g.W.Write.contents c.args.writer.now) (g.W.Write.contents w) c.set-in-Err-Memory.new.self (refusal_text OutOfMemory)) (sym kept) ([], sym text, appends_nothing _))
