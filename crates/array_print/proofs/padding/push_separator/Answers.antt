use Rattle.std.proofs.Common.{◌≡◌, ◌≢◌, ◌+◌, ℕ, zero, suc, ◌++◌, replicate, refl, subst, arith, rules}
use Rattle.array_print.proofs.Words.{SendsPart, separator, part-longer}
use Rattle.array_print.proofs.PushLaws.{failed, pushes-same}
use Rattle.array_print.proofs.PushLaws as pushed
use Rattle.array_print.proofs.padding.push_separator.Goals as goal

lines : (brackets inner : ℕ) → inner ≢ 0 → replicate inner 10 ++ replicate (brackets + 1) 32 ≡ separator brackets inner
lines brackets zero some = absurd (some refl)
lines brackets (suc inner) some = refl

pub returns-in_err-push_few : goal.returns-in_err-push_few
returns-in_err-push_few g c =
    let part = part-longer _ _ c.args.out.now.text.items _ (replicate (c.args.brackets + 1) 32) c.in_err-push_few.ensures.err in
    record {
      ok = search rules;
      err = failed _ (subst (λ t. SendsPart (g.W.Write.contents c.args.writer.now) (g.W.Write.contents c.push_few.new.writer) (c.args.out.now.text.items ++ t)) (lines c.args.brackets c.args.inner (λ is. omega (arith, is, c.if-inner-eq0.false))) part);
      room = omega arith;
    }

pub returns : goal.returns
returns g c =
    pushes-same (lines c.args.brackets c.args.inner (λ is. omega (arith, is, c.if-inner-eq0.false))) (pushed.then c.in_ok-push_few.ensures.ok c.push_few-2.ensures)
