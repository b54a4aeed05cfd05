use Rattle.std.proofs.Common.{rules, ◌≡◌, ℕ, ◌<◌, [], length, get_or, slice_set, All, refl, sym, ap, subst, ◌∙◌, arith}
use Rattle.fancy_index.proofs.Words.{flat_map, get_or_default, map_over_more, Layout, count, offsets, length-offsets, max_bytes, run_offsets, BeginsWithin}
use Rattle.fancy_index.proofs.RankLaws.{holds_yet, all_changed}
use Rattle.fancy_index.proofs.rank_offsets.walk_to_offsets.Goals as goal

pub unreachable-requires : goal.unreachable-requires
unreachable-requires c =
    let ens = c.new-later.ensures in
    let none : [] ≡ offsets c.args.layout.now = ap (flat_map run_offsets) (sym c.in_default.ensures.steps.0 ∙ ens.runs) ∙ ens.offsets in
    omega (arith, ap length none, length-offsets c.args.layout.now, c.requires.some)

pub loop-rank-init : goal.loop-rank-init
loop-rank-init c =
    let ens = c.new-later.ensures in
    let walked = sym c.in-Some.ensures.steps ∙ ens.runs in
    record {
      at = record {
        low = omega arith;
        left = ap (flat_map run_offsets) walked ∙ ens.offsets;
        lie = subst (All BeginsWithin) (sym walked) (ens.lie max_bytes 1 (search rules));
      };
      layout = refl;
      led = refl;
    }

pub offset_at-requires-clause-rank : goal.offset_at-requires-clause-rank
offset_at-requires-clause-rank c =
    let l = c.args.layout.now in
    let inv = c.loop-rank.invariant in
    let low = holds_yet (λ k. k < count l.shape) (λ k. get_or (offsets l) k 0) c.args.ranks.now c.loop-rank.ranks c.loop-rank.rank-index c.requires.ranks c.loop-rank-test.true inv.led in
    omega (arith, low, ap (λ (l : Layout). count l.shape) inv.layout)

pub loop-rank-preserved : goal.loop-rank-preserved
loop-rank-preserved c =
    let l = c.args.layout.now in
    let i = c.loop-rank.rank-index in
    let now = c.loop-rank.ranks in
    let inv = c.loop-rank.invariant in
    record {
      at = c.offset_at.ensures.at;
      layout = c.offset_at.ensures.layout ∙ inv.layout;
      led =
          ap (λ (x : ℕ). slice_set now i x) (c.offset_at.ensures.value ∙ ap (λ (l : Layout). get_or (offsets l) (get_or now i 0) 0) inv.layout)
          ∙ map_over_more (λ k. get_or (offsets l) k 0) c.args.ranks.now now i (get_or now i 0) c.loop-rank-test.true inv.led
          (get_or_default now i 0 (get_or now i 0) (omega (arith, c.loop-rank-test.true, c.loop-rank.auto.ranks)));
    }

pub returns : goal.returns
returns c = all_changed (λ k. get_or (offsets c.args.layout.now) k 0) c.args.ranks.now c.loop-rank.ranks c.loop-rank.rank-index c.loop-rank-test.false c.loop-rank.invariant.led
