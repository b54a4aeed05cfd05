use Rattle.std.proofs.Common.{◌≡◌, suc, ◌+◌, ◌-◌, ◌*◌, ◌^◌, ◌<◌, length, get_or, ap, ◌∙◌, subst, arith}
use Rattle.raw_block.proofs.Words.{little_from}
use Rattle.raw_block.proofs.Numbers.{little_step, small_step, fits_word}
use Rattle.raw_block.proofs.item.number_of.Goals as goal

pub overflow_mul-number : goal.overflow_mul-number
overflow_mul-number c = let small = fits_word c.loop-i.number (length c.args.item.now - c.loop-i.i) c.loop-i.invariant.small (omega arith) in record { fits = omega arith }

pub overflow_add-number : goal.overflow_add-number
overflow_add-number c =
    let small = fits_word c.loop-i.number (length c.args.item.now - c.loop-i.i) c.loop-i.invariant.small (omega arith) in let byte = (c.type_inv.item (c.loop-i.i - 1)).fits in
    record { fits = omega arith }

pub loop-i-preserved : goal.loop-i-preserved
loop-i-preserved c =
    let item = c.args.item.now in let i = c.loop-i.i - 1 in let n = length item - c.loop-i.i in let next = c.loop-i.number * 256 + get_or item i 0 in
    let at : c.loop-i.i ≡ suc i = omega arith in let more : suc n ≡ length item - i = omega arith in
    record {
      value = little_step item c.loop-i.number i n (c.loop-i.invariant.value ∙ ap (λ k. little_from k n item) at) ∙ ap (λ m. little_from i m item) more;
      small = subst (λ m. next < 256 ^ m) more (small_step c.loop-i.number (get_or item i 0) n c.loop-i.invariant.small (c.type_inv.item i).fits);
    }
