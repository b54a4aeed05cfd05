use Rattle.std.proofs.Common.{◌≡◌, ◌≤◌, ◌+◌, ◌*◌, ◌++◌, length, All, sym, ap, subst, ◌∙◌, arith, rules}
use Rattle.npy_format.proofs.Words.{All-head, All-rest, Run, flat_map, item_at, EachWithin, max_bytes, offsets, length-offsets, run_offsets, runs, runs-within, gathered, addresses_in_file}
use Rattle.npy_format.proofs.GatherLaws.{together, in_file-none, run_pushed}
use Rattle.npy_format.proofs.items.push_items.Goals as goal

pub part-requires : goal.part-requires
part-requires c =
    let l = c.args.layout.now in
    let all = together c.args.width l.shape (offsets l) c.args.bytes.now (length-offsets l) c.requires.inside (sym c.requires.together ∙ c.if-together.true) in
    let ends = all.ends in
    omega (arith, ends, c.first_address.ensures, ap (λ n. n * c.args.width) c.items-count.ensures.value)

pub returns-then-together : goal.returns-then-together
returns-then-together c =
    let l = c.args.layout.now in
    let all = together c.args.width l.shape (offsets l) c.args.bytes.now (length-offsets l) c.requires.inside (sym c.requires.together ∙ c.if-together.true) in
    let is : gathered c.args.width c.args.bytes.now (addresses_in_file c.args.width l.shape (offsets l)) ≡ c.part.result.now = all.joined ∙ (λ i. item_at (sym c.first_address.ensures i) (sym c.items-count.ensures.value i * c.args.width) c.args.bytes.now) ∙ sym c.part.ensures.value in
    rw is (search rules)

pub loop-run-init : goal.loop-run-init
loop-run-init c =
    let l = c.args.layout.now in
    let len = length c.args.bytes.now in
    let width = c.args.width in
    let ends = subst (All (λ offset. offset + width ≤ len)) (sym c.new-run-items.ensures.offsets) c.requires.inside in
    let none = in_file-none width l.shape (offsets l) (sym c.requires.together ∙ c.if-together.false) in
    let it : c.into_iter-run-iterator.result ≡ c.new-run-items.result = search rules in
    let made = it ∙ c.new-run-items.ensures.runs in
    record {
      rest = ap (λ all. c.args.file.now.items ++ gathered width c.args.bytes.now all) (ap (flat_map run_offsets) made ∙ c.new-run-items.ensures.offsets ∙ sym none);
      within = subst (All (λ run. EachWithin len run.offset run.step width run.count)) (sym made) (runs-within len width (λ run. run) (runs l) (c.new-run-items.ensures.lie max_bytes 1 l.within_limit) ends);
      some = subst (All (λ run. 1 ≤ run.count)) (sym it) (search rules);
    }

pub push_run-requires-clause-within : goal.push_run-requires-clause-within
push_run-requires-clause-within c =
    let Fits = λ (run : Run). EachWithin (length c.args.bytes.now) run.offset run.step c.args.width run.count in
    All-head Fits c.in-Some.run' _ (subst (All Fits) c.in-Some.ensures.steps c.loop-run.invariant.within)

pub loop-run-preserved : goal.loop-run-preserved
loop-run-preserved c =
    let inv = c.loop-run.invariant in
    let steps = c.in-Some.ensures.steps in
    record {
      rest = run_pushed c.args.width c.in-Some.run' _ _ c.args.bytes.now c.loop-run.file.items c.push_run.new.file.items _ steps c.in_ok-push_run.ensures inv.rest;
      within = All-rest (λ run. EachWithin (length c.args.bytes.now) run.offset run.step c.args.width run.count) _ _ _ steps inv.within;
      some = All-rest (λ run. 1 ≤ run.count) _ _ _ steps inv.some;
    }
