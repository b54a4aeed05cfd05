use Rattle.std.proofs.Common.{◌≡◌, ◌+◌, ◌-◌, ◌++◌, ◌∷◌, [], replicate, subst, ap, ◌∙◌, arith, rules}
use Rattle.std.proofs.lemmas.List.{replicate_more, replicate-append-replicate}
use Rattle.array_print.proofs.Words.{SendsPart, part-longer}
use Rattle.array_print.proofs.PushLaws.{failed, held-more, held-none, held-same, part-after}
use Rattle.array_print.proofs.padding.push_repeated.Goals as goal

pub loop-i-init : goal.loop-i-init
loop-i-init g c = held-none _ _

pub returns-in_err-push_byte : goal.returns-in_err-push_byte
returns-in_err-push_byte g c =
    let i = c.loop-i._i in
    let b = c.args.byte in
    let more = replicate (c.args.n - (i + 1)) b in
    let all : (i + 1) + (c.args.n - (i + 1)) ≡ c.args.n = omega (arith, c.loop-i-test.true, c.loop-i.auto) in
    let whole = ap (λ t. t ++ more) (replicate_more i b) ∙ replicate-append-replicate (i + 1) (c.args.n - (i + 1)) b ∙ ap (λ n. replicate n b) all in
    let part = part-longer _ _ c.args.out.now.text.items _ more (part-after c.loop-i.invariant _ (b ∷ []) c.in_err-push_byte.ensures.err) in
    record {
      ok = search rules;
      err = failed _ (subst (λ t. SendsPart (g.W.Write.contents c.args.writer.now) (g.W.Write.contents c.push_byte.new.writer) (c.args.out.now.text.items ++ t)) whole part);
      room = omega arith;
    }

pub loop-i-preserved : goal.loop-i-preserved
loop-i-preserved g c = held-same (replicate_more c.loop-i._i c.args.byte) (held-more c.loop-i.invariant c.in_ok-push_byte.ensures.ok)
