use Rattle.std.proofs.Common.{rules, ◌≡◌, ◌/◌, ◌≤◌, length, w64, sym, subst, ◌∙◌}
use Rattle.overlap_copy.proofs.Words.{to_z-of_z, div-le_self, SFits, StridedItems, EachWithin, swapped, IsAssigned, place_in}
use Rattle.overlap_copy.proofs.MovingLaws.{assigned_from_moves}
use Rattle.overlap_copy.proofs.TurnLaws.{turned_within, fewer_within, spaced}
use Rattle.overlap_copy.proofs.SwapLaws.{turned_by_swaps}
use Rattle.overlap_copy.proofs.pair_copies.turn_run.Goals as goal

pub swap_strided-requires : goal.swap_strided-requires
swap_strided-requires c =
    let run = c.args.run in
    let back = c.args.back in
    let width = c.args.width in
    let half = run.count / 2 in
    let len = length c.args.block.now in
    let fits : SFits w64 back.step = search rules in
    let to = c.strided.result.steps in
    let fewer = subst (λ n. half ≤ n) (sym c.requires.back.count) (div-le_self run.count 2) in
    let a = fewer_within len run.offset run.step width half run.count (div-le_self run.count 2) c.requires.run in
    let b = fewer_within len back.offset back.step width half back.count fewer (turned_within len width run back c.requires.back c.requires.run) in
    record {
      a = subst (λ (x : StridedItems). EachWithin len to.at to.step x.width x.count) (sym c.strided-2.ensures) (subst (λ (x : StridedItems). EachWithin len x.steps.at x.steps.step width half) (sym c.strided.ensures) a);
      b = subst (λ (x : StridedItems). EachWithin len x.steps.at x.steps.step x.width x.count) (sym c.strided-2.ensures) (subst (λ s. EachWithin len back.offset s width half) (sym (to_z-of_z w64 back.step fits)) b);
    }

pub returns : goal.returns
returns c =
    let run = c.args.run in
    let back = c.args.back in
    let old = c.args.block.now in
    let len = length old in
    let a = c.strided.ensures in
    let b = c.strided-2.ensures in
    let fits : SFits w64 back.step = search rules in
    let is : c.swap_strided.new.self ≡ swapped run.offset run.step back.offset back.step c.args.width (run.count / 2) old =
    c.swap_strided.ensures.swapped
    ∙ (λ i. swapped (a i).steps.at (a i).steps.step (b i).steps.at (b i).steps.step (b i).width (b i).count old)
    ∙ (λ i. swapped run.offset run.step back.offset (to_z-of_z w64 back.step fits i) c.args.width (run.count / 2) old) in
    assigned_from_moves (record { count = sym c.requires.back.count; to_in = c.requires.run; from_in = turned_within len c.args.width run back c.requires.back c.requires.run }) c.requires.nested
    (subst (IsAssigned run.count (place_in run) (place_in back) c.args.width old old) (sym is) (turned_by_swaps c.args.width run back old c.requires.run (spaced len c.args.width run c.requires.run c.requires.nested) c.requires.back))
