use Rattle.std.proofs.Common.{◌≡◌, [], ◌++◌, ap, ◌∙◌, rules, sym}
use Rattle.bench_engine.proofs.Words.{on_ok_weaker}
use Rattle.bench_engine.proofs.reply_text.ReplyText.print.Goals as goal

-- what was sent stands before what is held
pub returns-in-Ok : goal.returns-in-Ok
returns-in-Ok c =
    let sends = c.in-Ok.ensures.ok in
    let none : c.new-sent.result.items ≡ [] = search rules in
    on_ok_weaker c.put_in_front.result
    (λ put. put ∙ ap (λ front. front ++ c.send_printed.new.self) (sends.2 ∙ ap (λ first. first ++ sends.0) none) ∙ sym sends.1)
    c.put_in_front.ensures
