use Rattle.std.proofs.Common.{◌≡◌, ◌+◌, ◌-◌, ◌*◌, ◌<◌, ◌≤◌, length, drop, take, map, sym, ap, ◌∙◌, ◌++◌, [], ◌∷◌, arith, add-mul, length-take, length-drop}
use Rattle.literal_items.proofs.Words.{take_more, map-append, mul-le-mul_right, item_size, encode_item, decode_item, values_of}
use Rattle.literal_items.proofs.Blocked.{blocks-put, map-blocks-put}
use Rattle.literal_items.proofs.literal_item.write_casts.Goals as goal

pub loop-k-preserved : goal.loop-k-preserved
loop-k-preserved c =
    let descr = c.args.descr.now in
    let literals = c.args.literals.now in
    let literal = c.index-literals-k.result in
    let width = c.size-size.result in
    let item = c.write_cast.new.item in
    let rest = drop ((c.loop-k.k + 1) * width - c.loop-k.k * width) (drop (c.loop-k.k * width) c.loop-k.block) in
    let near : c.loop-k.k < length c.args.literals.now = omega arith in
    let is = sym c.index-literals-k.is in
    let grown : (c.loop-k.k + 1) * c.size-size.result ≡ c.loop-k.k * c.size-size.result + c.size-size.result = omega (arith, add-mul c.loop-k.k 1 c.size-size.result) in
    let more : (c.loop-k.k + 1) * c.size-size.result ≤ length c.args.literals.now * c.size-size.result = mul-le-mul_right c.size-size.result (omega arith) in
    let all : length c.loop-k.block ≡ length c.args.literals.now * c.size-size.result = c.loop-k.auto.block ∙ c.requires.whole ∙ ap (λ n. length c.args.literals.now * n) (sym c.size-size.ensures.value) in
    let within : c.loop-k.k * c.size-size.result ≤ length c.loop-k.block = omega arith in
    let at : c.loop-k.k * c.size-size.result ≡ c.loop-k.k * item_size c.args.descr.now = ap (λ n. c.loop-k.k * n) c.size-size.ensures.value in
    let part : length c.write_cast.new.item ≡ c.size-size.result = c.write_cast.auto.item ∙ length-take ((c.loop-k.k + 1) * c.size-size.result - c.loop-k.k * c.size-size.result) (drop (c.loop-k.k * c.size-size.result) c.loop-k.block) ∙ omega (arith, length-drop (c.loop-k.k * c.size-size.result) c.loop-k.block) in
    let whole = part ∙ c.size-size.ensures.value in
    let encoded = c.write_cast.ensures.encoded in
    let reads_back = c.write_cast.ensures.reads_back in
    let values = ap (map (values_of descr)) (take_more literals c.loop-k.k literal near ∙ ap (λ next. take c.loop-k.k literals ++ next ∷ []) is)
    ∙ map-append (values_of descr) (take c.loop-k.k literals) (literal ∷ []) in
    record {
      encoded = blocks-put (item_size descr) c.loop-k.k (c.loop-k.k * width) c.loop-k.block item rest at within whole
          ∙ (λ i. c.loop-k.invariant.encoded i ++ encoded i ∷ [])
          ∙ sym (map-append (encode_item descr) (map (values_of descr) (take c.loop-k.k literals)) (values_of descr literal ∷ []))
          ∙ ap (map (encode_item descr)) (sym values);
      reads_back = map-blocks-put (decode_item descr) (item_size descr) c.loop-k.k (c.loop-k.k * width) c.loop-k.block item rest (map (values_of descr) (take c.loop-k.k literals)) (values_of descr literal) at within whole c.loop-k.invariant.reads_back reads_back
          ∙ sym values;
    }
