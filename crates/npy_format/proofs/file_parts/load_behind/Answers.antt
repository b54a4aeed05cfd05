use Rattle.std.proofs.Common.{◌≡◌, sym, ap, subst, ◌∙◌, arith, length}
use Rattle.npy_format.proofs.Words.{HoldsFileItems, load_behind}
use Rattle.npy_format.proofs.PartLaws.{nothing_behind}
use Rattle.npy_format.proofs.file_parts.load_behind.Goals as goal

pub returns : goal.returns
returns c =
    let rest = c.in_ok-header.rest.now in
    let none : length rest ≡ 0 = omega (arith, c.if-rest-gt0.false) in
    let all = nothing_behind c.in_ok-header.items.now rest c.args.block (c.in_ok-header.ensures.all ∙ c.bytes.ensures) none in (
      _,
      ap (load_behind c.args.text.now) (sym c.bytes.ensures) ∙ c.in_ok-header.ensures.gives,
      subst (HoldsFileItems c.in_ok-array-2.array c.in_ok-header.header) all c.in_ok-array-2.ensures,
      sym none,
    )
