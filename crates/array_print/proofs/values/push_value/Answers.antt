use Rattle.std.proofs.Common.{◌≡◌, ap, rules}
use Rattle.array_print.specs.Clauses.{byte_string_text, without_nuls}
use Rattle.array_print.proofs.Words.{decode, leaf_text, right_justified}
use Rattle.array_print.proofs.PushLaws.{pushes-same}
use Rattle.array_print.proofs.values.push_value.Goals as goal

pub returns-after-is_false : goal.returns-after-is_false
returns-after-is_false g c =
    let is : c.if-is_false.text.now ≡ leaf_text c.args.scalar.now (decode c.args.scalar.now c.args.bytes.now) = search rules in
    pushes-same (ap (right_justified c.args.width) is) c.push_padded.ensures

pub returns-in-Byte : goal.returns-in-Byte
returns-in-Byte g c =
    let is : c.format.result.now ≡ leaf_text c.args.scalar.now (decode c.args.scalar.now c.args.bytes.now) = search rules in
    pushes-same (ap (right_justified c.args.width) is) c.push_padded-in-Byte.ensures

pub returns-in-Bytes : goal.returns-in-Bytes
returns-in-Bytes g c =
    let is : byte_string_text (without_nuls c.args.bytes.now) ≡ right_justified c.args.width (leaf_text c.args.scalar.now (decode c.args.scalar.now c.args.bytes.now)) = search rules in
    pushes-same is c.push_byte_string.ensures
