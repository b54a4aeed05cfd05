use Rattle.std.proofs.Common.{◌≡◌, ◌++◌, take, inl, inr, map, refl}
use Rattle.bench_engine.proofs.Words.{Consumes-kept, Consumes-trans, err_from_is_err_and, Read, trimmed}
use Rattle.bench_engine.proofs.Lines.{lines-end, whole_lines-on}
use Rattle.bench_engine.proofs.Feeding.{told-on, fed-on, cut-on}
use Rattle.bench_engine.proofs.Whole.{first-lines}
use Rattle.bench_engine.proofs.Known.{consumes_nothing}
use Rattle.bench_engine.proofs.runner.take_turn.Goals as goal

pub returns-in_err-count-clause-turned : goal.returns-in_err-count-clause-turned
returns-in_err-count-clause-turned g c depth before reading =
    let p = err_from_is_err_and c.from_residual.result c.from_residual.ensures.1 in
    let kept = rw c.in_err-count.ensures.ok_part at c.read_some.ensures.bytes in
    let value = rw c.in_err-count.ensures.ok_part at c.in_err-count.ensures.value in
    let is : c.in_err-count.field-0.0 ≡ Read = cc in
    rw (p.1, p.2, is) (record {
      input = reading.input;
      lines = map trimmed reading.fed.pieces;
      replies = reading.fed.told.replies;
      state = c.args.session.now.bench.state;
      read = Consumes-kept _ _ _ reading.input reading.read kept;
      are_lines = (reading.fed.pieces, reading.fed.rest, reading.fed.splits, refl);
      run = reading.fed.told.run;
      sent = reading.fed.told.sent;
    })

pub returns-in_err-end-clause-turned : goal.returns-in_err-end-clause-turned
returns-in_err-end-clause-turned g c depth before reading =
    let p = err_from_is_err_and c.from_residual-in_err-end.result c.from_residual-in_err-end.ensures.1 in
    let cut = c.in_err-end.ensures.told reading.fed.rest reading.fed.splits.rest_unbroken reading.fed.held in
    let bytes = rw c.in_ok-count.ensures.ok_part at c.read_some.ensures.bytes in
    rw (p.1, p.2) (first-lines depth before _ reading.input (map trimmed reading.fed.pieces ++ cut.0)
    (consumes_nothing _ _ _ reading.input _ c.in_ok-count.count c.if-count-eq0.true reading.read bytes.1)
    (inr (bytes.2 c.if-count-eq0.true, lines-end reading.input reading.fed.pieces reading.fed.rest cut.0 reading.fed.splits cut.1))
    (cut-on _ _ _ _ _ _ _ _ c.args.session.now (map trimmed reading.fed.pieces) cut.0 reading.fed.told cut.2))

pub returns-then-count-eq0-clause-turned : goal.returns-then-count-eq0-clause-turned
returns-then-count-eq0-clause-turned g c depth before reading =
    let bytes = rw c.in_ok-count.ensures.ok_part at c.read_some.ensures.bytes in
    let last = c.in_ok-end.ensures.told reading.fed.rest reading.fed.splits.rest_unbroken reading.fed.held in
    record {
      input = reading.input;
      lines = map trimmed reading.fed.pieces ++ last.0;
      read = consumes_nothing _ _ _ reading.input _ c.in_ok-count.count c.if-count-eq0.true reading.read bytes.1;
      ended = bytes.2 c.if-count-eq0.true;
      are_lines = lines-end reading.input reading.fed.pieces reading.fed.rest last.0 reading.fed.splits last.1;
      told = told-on _ _ _ _ _ _ _ _ c.args.session.now _ (map trimmed reading.fed.pieces) last.0 reading.fed.told last.2;
    }

pub returns-in_err-feed-clause-turned : goal.returns-in_err-feed-clause-turned
returns-in_err-feed-clause-turned g c depth before reading =
    let p = err_from_is_err_and c.from_residual-in_err-feed.result c.from_residual-in_err-feed.ensures.1 in
    let piece = take c.in_ok-count.count c.read_some.new.chunk in
    let cut = c.in_err-feed.ensures.told reading.fed.rest reading.fed.splits.rest_unbroken reading.fed.held in
    let bytes = rw c.in_ok-count.ensures.ok_part at c.read_some.ensures.bytes in
    rw (p.1, p.2) (first-lines depth before _ (reading.input ++ piece) (map trimmed reading.fed.pieces ++ cut.0)
    (Consumes-trans _ _ _ reading.input _ reading.read bytes.1)
    (inl (whole_lines-on reading.input piece reading.fed.pieces reading.fed.rest cut.0 reading.fed.splits cut.1))
    (cut-on _ _ _ _ _ _ _ _ c.args.session.now (map trimmed reading.fed.pieces) cut.0 reading.fed.told cut.2))

pub returns-clause-turned : goal.returns-clause-turned
returns-clause-turned g c depth before reading =
    let bytes = rw c.in_ok-count.ensures.ok_part at c.read_some.ensures.bytes in
    record {
      input = reading.input ++ take c.in_ok-count.count c.read_some.new.chunk;
      read = Consumes-trans _ _ _ reading.input _ reading.read bytes.1;
      fed = fed-on _ _ _ _ _ _ _ _ c.args.session.now _ reading.input (take c.in_ok-count.count c.read_some.new.chunk) reading.fed
          (c.in_ok-feed.ensures.told reading.fed.rest reading.fed.splits.rest_unbroken reading.fed.held);
    }
