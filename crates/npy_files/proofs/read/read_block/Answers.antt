use Rattle.std.proofs.Common.{◌≡◌, ◌+◌, ◌++◌, ℕ, List, length, take, IsTrue, ap, ◌∙◌, sym, arith, length-append}
use Rattle.npy_files.proofs.Words.{length-replicate, stays, stays_again, take_at}
use Rattle.npy_files.proofs.read.read_block.Goals as goal

pub returns-in_err-block-clause-same : goal.returns-in_err-block-clause-same
returns-in_err-block-clause-same g c = λ honest. stays _

pub loop-block-init : goal.loop-block-init
loop-block-init g c =
    let pushed : c.push_bytes.new.self.0 ≡ c.args.begin.now = c.push_bytes.ensures.bytes ∙ ap (λ (b : List ℕ × ℕ). b.0 ++ c.args.begin.now) c.in_ok-block.ensures in
    record {
      read = λ honest. ap (λ (b : List ℕ). b ++ g.D.Disk.rest_of c.args.file.now) (sym pushed);
      told = λ honest. let told = c.requires.told honest in omega (arith, ap length pushed, told);
      same = λ honest. stays _;
      current = c.requires.current;
      room = omega (arith, ap length pushed, c.push_bytes.ensures.left, ap (λ (b : List ℕ × ℕ). b.1) c.in_ok-block.ensures);
      kept = λ honest. omega arith;
    }

pub loop-block-preserved : goal.loop-block-preserved
loop-block-preserved g c =
    let block = c.loop-block.block.0 in
    let longer = c.push_zeros.new.self.0 in
    let after = c.fill.new.bytes in
    let rest = g.D.Disk.rest_of c.loop-block.file in
    let next = g.D.Disk.rest_of c.fill.new.file in
    let size : length after ≡ length longer = omega (arith, c.fill.auto.bytes, ap length c.bytes_mut.ensures.value) in
    let put = c.bytes_mut.ensures.same_len after size in
    let grown : length longer ≡ length block + c.min.result = ap length c.push_zeros.ensures.bytes ∙ length-append block _ ∙ ap (λ n. length block + n) (length-replicate c.min.result 0) in
    let front : take c.filled-start.result c.bytes_mut.result.now ≡ block = ap (take c.filled-start.result) (c.bytes_mut.ensures.value ∙ c.push_zeros.ensures.bytes) ∙ take_at block _ _ (sym c.filled-start.ensures.len) in
    let step : IsTrue g.D.Disk.honest → block ++ rest ≡ after ++ next = λ honest. ap (λ (l : List ℕ). l ++ rest) (sym front) ∙ c.in_ok-fill.ensures.read honest in
    record {
      read = λ honest. c.loop-block.invariant.read honest ∙ step honest ∙ ap (λ (l : List ℕ). l ++ next) (sym put);
      told = λ honest.
          let before = c.loop-block.invariant.told honest in
          omega (arith, ap length (step honest), ap length put, before, length-append block rest, length-append after next);
      same = λ honest. stays_again (c.loop-block.invariant.same honest) (c.fill.ensures.same honest);
      current = λ honest. c.fill.ensures.current honest;
      room = omega (arith, ap length put, size, grown, c.push_zeros.ensures.left, c.loop-block.invariant.room);
      kept = λ honest.
          let before = c.loop-block.invariant.kept honest in
          let more = (c.fill.ensures.cause honest).kept in
          omega (arith, before, more);
    }

pub returns-in_err-fill-clause-same : goal.returns-in_err-fill-clause-same
returns-in_err-fill-clause-same g c = λ honest. stays_again (c.loop-block.invariant.same honest) (c.fill.ensures.same honest)

pub returns-in_err-read-clause-same : goal.returns-in_err-read-clause-same
returns-in_err-read-clause-same g c = λ honest. stays_again (c.loop-block.invariant.same honest) (c.read.ensures.same honest)

pub returns-clause-same : goal.returns-clause-same
returns-clause-same g c = λ honest. stays_again (c.loop-block.invariant.same honest) (c.read.ensures.same honest)
