use Rattle.std.proofs.Common.{◌≡◌, false, rules, refl, sym, ap, ◌∙◌}
use Rattle.elementwise.proofs.Words.{concat, BoolScalar, Big, Byte, Int, Two, Four, Eight, Scalar, Comparison, AreBytes, IsWord, item_size, made_of_all, number_pair, offsets, text_pair, says_number, Operands}
use Rattle.elementwise.proofs.AddedLaws.{added-as}
use Rattle.elementwise.proofs.TextNumberLaws.{words-compared, pairs-alike}
use Rattle.elementwise.proofs.fast.even_texts.push_texts.Goals as goal

-- byte strings that have the size of a number
as_numbers : (comparison : Comparison) (s : Scalar) (o : Operands) → item_size o.left.descr.now ≡ item_size o.right.descr.now → IsWord s (item_size o.left.descr.now) → AreBytes o.left.block.now → AreBytes o.right.block.now →
    made_of_all (number_pair s s BoolScalar (says_number comparison)) o ≡ made_of_all (text_pair comparison) o
as_numbers comparison s o even fits are are' =
    let w = item_size o.left.descr.now in
    let w' = item_size o.right.descr.now in
    ap concat (pairs-alike (number_pair s s BoolScalar (says_number comparison)) (text_pair comparison) w w' o.left.block.now o.right.block.now (offsets o.left.layout.now) (offsets o.right.layout.now) are are' o.left.inside o.right.inside
    (λ x y long long' here there. words-compared comparison s w x y fits long (long' ∙ sym even) here there))

pub returns-in-1 : goal.returns-in-1
returns-in-1 c = added-as _ _ _ _ c.args.block c.compare.result c.compare.ensures refl (as_numbers c.args.comparison (Byte false) c.args.operands (search rules) (search rules) (rw c.bytes.ensures at c.note_slice.ensures) (rw c.bytes-2.ensures at c.note_slice-2.ensures))

pub returns-in-2 : goal.returns-in-2
returns-in-2 c = added-as _ _ _ _ c.args.block c.compare-in-2.result c.compare-in-2.ensures refl (as_numbers c.args.comparison (Int false Two Big) c.args.operands (search rules) (search rules) (rw c.bytes.ensures at c.note_slice.ensures) (rw c.bytes-2.ensures at c.note_slice-2.ensures))

pub returns-in-4 : goal.returns-in-4
returns-in-4 c = added-as _ _ _ _ c.args.block c.compare-in-4.result c.compare-in-4.ensures refl (as_numbers c.args.comparison (Int false Four Big) c.args.operands (search rules) (search rules) (rw c.bytes.ensures at c.note_slice.ensures) (rw c.bytes-2.ensures at c.note_slice-2.ensures))

pub returns-in-8 : goal.returns-in-8
returns-in-8 c = added-as _ _ _ _ c.args.block c.compare-in-8.result c.compare-in-8.ensures refl (as_numbers c.args.comparison (Int false Eight Big) c.args.operands (search rules) (search rules) (rw c.bytes.ensures at c.note_slice.ensures) (rw c.bytes-2.ensures at c.note_slice-2.ensures))
