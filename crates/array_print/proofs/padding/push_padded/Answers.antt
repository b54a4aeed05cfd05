use Rattle.std.proofs.Common.{◌≡◌, ◌-◌, ◌++◌, length, replicate, subst, ap, arith, rules}
use Rattle.array_print.proofs.Words.{SendsPart, part-longer}
use Rattle.array_print.proofs.PushLaws.{failed, pushes-same}
use Rattle.array_print.proofs.PushLaws as pushed
use Rattle.array_print.proofs.padding.push_padded.Goals as goal

pub returns-in_err-push_repeated : goal.returns-in_err-push_repeated
returns-in_err-push_repeated g c =
    let blanks : c.saturating_sub-blanks.result ≡ c.args.width - length c.args.text.now = search rules in
    let whole = ap (λ n. replicate n 32 ++ c.args.text.now) blanks in
    let part = part-longer _ _ c.args.out.now.text.items _ c.args.text.now c.in_err-push_repeated.ensures.err in
    record {
      ok = search rules;
      err = failed _ (subst (λ t. SendsPart (g.W.Write.contents c.args.writer.now) (g.W.Write.contents c.push_repeated.new.writer) (c.args.out.now.text.items ++ t)) whole part);
      room = omega arith;
    }

pub returns : goal.returns
returns g c =
    let blanks : c.saturating_sub-blanks.result ≡ c.args.width - length c.args.text.now = search rules in
    let bytes : c.as_bytes.result.now ≡ c.args.text.now = search rules in
    pushes-same (λ i. replicate (blanks i) 32 ++ bytes i) (pushed.then c.in_ok-push_repeated.ensures.ok c.push.ensures)
