use Rattle.std.proofs.Common.{sym, ap, subst, refl, ◌∙◌, not}
use Rattle.elementwise.proofs.Words.{Little, Eight, Int, little, Holds}
use Rattle.elementwise.proofs.CommonLaws.{common-held, common-signs}
use Rattle.elementwise.proofs.HeldLaws.{little-little, holds-wide, number-no_text}
use Rattle.elementwise.proofs.PromotedLaws.{AnswersNative, common-native, native-little, number-read}
use Rattle.elementwise.proofs.scalar_comparisons.number_pairing.Goals as goal

pub read_as-scalar-requires : goal.read_as-scalar-requires
read_as-scalar-requires c = ap little c.little-native.ensures ∙ little-little c.args.left.now ∙ sym c.little-native.ensures

pub returns-in-Ok : goal.returns-in-Ok
returns-in-Ok c =
    let from = c.args.left.now in
    let other = c.args.right.now in
    let s = c.in-Ok.scalar in
    let held = common-held from other s c.requires.left c.requires.right c.in-Ok.ensures in
    let native = subst AnswersNative c.in-Ok.ensures (common-native from other (number-no_text from c.requires.left) (number-no_text other c.requires.right)) in
    let number = number-read s s (native-little s native) native in
    record {
      can = (number, tt);
      left = (number, held.0);
      right = (number, held.1);
      target = refl;
      says = λ x y. refl;
    }

pub returns-in-Err : goal.returns-in-Err
returns-in-Err c =
    let from = c.args.left.now in
    let other = c.args.right.now in
    let turned = ap not c.is_signed.ensures ∙ common-signs from other c.in-Err.field-0 c.requires.left c.requires.right c.in-Err.ensures in
    record {
      can = tt;
      left = (tt, subst (λ signed. Holds from (Int signed Eight Little)) (sym c.is_signed.ensures) (holds-wide from c.requires.left));
      right = (tt, subst (λ signed. Holds other (Int signed Eight Little)) (sym turned) (holds-wide other c.requires.right));
      target = refl;
      says = λ x y. refl;
    }
