use Rattle.std.proofs.Common.{◌∙◌, sym, ap, subst, arith}
use Rattle.fancy_index.proofs.Words.{item_at, word, IsPlaceOf}
use Rattle.fancy_index.proofs.RunLaws.{first-low, steps-low, steps-high, lies-there}
use Rattle.fancy_index.proofs.WordLaws.{below-count, ends-there, word-there}
use Rattle.fancy_index.proofs.integers.WordsIntegral.place.Goals as goal

pub offset_after-requires : goal.offset_after-requires
offset_after-requires g c =
    let w = c.args.self.now in
    let low = below-count w.form w.bytes.now w.run c.args.k c.requires.within in
    record {
      start = first-low w.run w.lies.limit c.args.k low;
      steps = omega (arith, low, w.lies.few);
      low = steps-low w.run w.lies.limit c.args.k low;
      high = steps-high w.run w.lies.limit c.args.k low;
    }

pub array_at-item-requires : goal.array_at-item-requires
array_at-item-requires g c =
    let w = c.args.self.now in
    let low = below-count w.form w.bytes.now w.run c.args.k c.requires.within in
    let there = lies-there w.run w.lies.limit c.args.k low c.offset_after.result c.offset_after.ensures in
    (omega (arith, w.few.1), omega (arith, there, ends-there w.form w.bytes.now w.run c.args.k low w.lies, w.width))

pub returns : goal.returns
returns g c =
    let w = c.args.self.now in
    let low = below-count w.form w.bytes.now w.run c.args.k c.requires.within in
    let there = lies-there w.run w.lies.limit c.args.k low c.offset_after.result c.offset_after.ensures in
    let item = c.array_at-item.ensures ∙ λ i. item_at (there i) (sym w.width i) w.bytes.now in
    subst (λ number. IsPlaceOf c.args.n number c.word_place.result) (ap (word w.form) item ∙ sym (word-there w.form w.bytes.now w.run c.args.k low)) c.word_place.ensures
