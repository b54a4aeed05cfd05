use Rattle.std.proofs.Common.{rules, ◌≡◌, ◌+◌, ◌-◌, ◌++◌, ℕ, [], length, map, take, drop, All, refl, sym, ap, subst, ◌∙◌, arith, append_assoc, length-append, ℤ}
use Rattle.fancy_index.proofs.Words.{flat_map, map-append, All-rest, take-put_mid, mid_len, same_len_mid, item_size, length-offsets, offsets, run_offsets, length-run_offsets, number_from, words_along, LiesIn, ArePlaces}
use Rattle.fancy_index.proofs.WordLaws.{runs-lie, length-words, more_places}
use Rattle.fancy_index.proofs.positions.put_runs.Goals as goal
use Rattle.fancy_index.proofs.positions.put_runs.Goals.{In-Some-run}

module _ (g : _) (c : In-Some-run g) where
  abbrev number : ℕ → ℤ
  number = number_from c.args.named.array.descr.now c.args.named.array.block.now

  left : c.loop-run.at + c.in-Some-run.run'.count + length (flat_map run_offsets c.next.new.self) ≡ length c.loop-run.places
  left = omega (arith, c.loop-run.invariant.room, ap (λ l. length (flat_map run_offsets l)) c.in-Some-run.ensures.steps, length-append (run_offsets c.in-Some-run.run') (flat_map run_offsets c.next.new.self), length-run_offsets c.in-Some-run.run')

  long : length (take (c.loop-run.at + c.in-Some-run.run'.count - c.loop-run.at) (drop c.loop-run.at c.loop-run.places)) ≡ c.in-Some-run.run'.count
  long = mid_len c.loop-run.at (c.loop-run.at + c.in-Some-run.run'.count) c.loop-run.places (omega (arith, left)) ∙ omega arith

pub loop-run-init : goal.loop-run-init
loop-run-init g c =
    let a = c.args.named.array in
    let ens = c.new-run-items.ensures in
    let are = c.into_iter-run-iterator.ensures.into_iter_gives ∙ ens.runs in
    let all : flat_map run_offsets c.into_iter-run-iterator.result ≡ offsets a.layout.now = ap (flat_map run_offsets) are ∙ ens.offsets in
    record {
      lies = subst (All (LiesIn a.block.now (item_size a.descr.now))) (sym are) (runs-lie a _ (omega (arith, c.items-items.ensures.value, c.items-items.ensures.limit)) ens.offsets ens.some (ens.lie _ 1 (search rules)));
      room = omega (arith, ap length all, c.requires.many, length-offsets a.layout.now);
      read = ([], sym all, (refl, λ _. refl));
    }

pub put_run-requires-clause-many : goal.put_run-requires-clause-many
put_run-requires-clause-many g c =
    omega (arith, c.requires.many, length-offsets c.args.named.array.layout.now, ap length c.in-Some.ensures.items, length-run_offsets c.in-Some.run', length-words c.args.form c.args.named.array.block.now c.in-Some.run')

pub invariant_of-put_places-clause-lies : goal.invariant_of-put_places-clause-lies
invariant_of-put_places-clause-lies g c =
    let run = c.in-Some-run.run' in
    let block = c.args.named.array.block.now in
    let here = (subst (All (LiesIn block (item_size c.args.named.array.descr.now))) c.in-Some-run.ensures.steps c.loop-run.invariant.lies) 0 run (omega arith) in
    subst (λ bytes. LiesIn bytes c.args.form.width run) (sym c.bytes-bytes.ensures) (subst (λ width. LiesIn block width run) c.requires.words.size here)

pub slice_bounds-put_places-end : goal.slice_bounds-put_places-end
slice_bounds-put_places-end g c = omega (arith, left g (goal.at.slice_bounds-put_places-end g c).In-Some-run)

pub put_places-are-requires-clause-many : goal.put_places-are-requires-clause-many
put_places-are-requires-clause-many g c =
    let now = (goal.at.put_places-are-requires-clause-many g c).In-Some-run in
    long g now ∙ sym (length-words c.args.form c.bytes-bytes.result.now c.in-Some-run.run')

pub loop-run-preserved : goal.loop-run-preserved
loop-run-preserved g c =
    let now = (goal.at.loop-run-preserved g c).In-Some-run in
    let run = c.in-Some-run.run' in
    let read = c.loop-run.invariant.read in
    let same : words_along c.args.form c.bytes-bytes.result.now run ≡ map (number g now) (run_offsets run) = (λ i. words_along c.args.form (c.bytes-bytes.ensures i) run) ∙ λ i. map (λ offset. sym (c.requires.words.read c.args.named.array.block.now offset) i) (run_offsets run) in
    let put = subst (λ numbers. ArePlaces c.args.named.n numbers c.put_places-are.result c.put_places-are.new.places) same c.put_places-are.ensures in
    record {
      lies = All-rest (LiesIn c.args.named.array.block.now (item_size c.args.named.array.descr.now)) _ _ _ c.in-Some-run.ensures.steps c.loop-run.invariant.lies;
      room = left g now ∙ sym (same_len_mid c.loop-run.at _ c.loop-run.places c.put_places-are.new.places c.put_places-are.auto.places);
      read = (
        read.0 ++ run_offsets run,
        read.1 ∙ ap (λ l. read.0 ++ flat_map run_offsets l) c.in-Some-run.ensures.steps ∙ sym (append_assoc read.0 (run_offsets run) (flat_map run_offsets c.next.new.self)),
        rw (map-append (number g now) read.0 (run_offsets run), take-put_mid c.loop-run.at _ c.loop-run.places c.put_places-are.new.places (c.loop-run.at + run.count) (omega (arith, c.put_places-are.auto.places, long g now)) (omega (arith, left g now)))
            (more_places c.args.named.n (map (number g now) read.0) (map (number g now) (run_offsets run)) _ _ _ _ read.2 put),
      );
    }
