use Rattle.std.proofs.Common.{◌≡◌, replicate, ap, sym, arith}
use Rattle.std.proofs.lemmas.List.{take-replicate}
use Rattle.array_print.proofs.PushLaws.{pushes-same}
use Rattle.array_print.proofs.padding.push_few.Goals as goal

pub returns-then-n-eq1 : goal.returns-then-n-eq1
returns-then-n-eq1 g c =
    let one : c.args.n ≡ 1 = omega (arith, c.if-n-eq1.true) in
    pushes-same (ap (λ m. replicate m c.args.byte) (sym one)) c.push_byte.ensures

pub returns : goal.returns
returns g c = pushes-same (take-replicate c.args.n 65 c.args.byte c.requires) c.push.ensures
