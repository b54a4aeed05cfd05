use Rattle.std.proofs.Common.{◌≡◌, ℕ, min, ap, sym, subst, ◌∙◌, rules, arith}
use Rattle.elementwise.proofs.Words.{CanCut}
use Rattle.elementwise.proofs.TrimmedLaws.{as_wide, cut_less}
use Rattle.elementwise.proofs.fast.cut_lengths.cut_lengths.Goals as goal

pub returns-then-len-le-TWO_WORDS : goal.returns-then-len-le-TWO_WORDS
returns-then-len-le-TWO_WORDS c = record { left = as_wide c.args.both.left c.args.width; right = as_wide c.args.both.right c.args.other_width }

pub returns : goal.returns
returns c =
    let x = c.args.both.left in
    let y = c.args.both.right in
    let most = c.max-most.result in
    let longest = c.in_ok-longest.longest in
    let other = c.in_ok-other_longest.other_longest in
    let cut_is : c.min.result ≡ c.unwrap-cut.result = search rules in
    let other_is : c.min-2.result ≡ c.unwrap-other_cut.result = search rules in
    record {
      left = subst (CanCut x c.args.width) (ap (min most) (sym c.get-len.ensures.value) ∙ sym c.min.ensures ∙ cut_is)
          (cut_less x c.args.width longest most (omega (arith, c.max-most.ensures)) (subst (λ (w : ℕ). CanCut x w longest) c.get-len.ensures.value c.in_ok-longest.ensures.cut));
      right = subst (CanCut y c.args.other_width) (ap (min most) (sym c.get-other_len.ensures.value) ∙ sym c.min-2.ensures ∙ other_is)
          (cut_less y c.args.other_width other most (omega (arith, c.max-most.ensures)) (subst (λ (w : ℕ). CanCut y w other) c.get-other_len.ensures.value c.in_ok-other_longest.ensures.cut));
    }
