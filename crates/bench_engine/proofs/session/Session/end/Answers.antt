use Rattle.std.proofs.Common.{sym}
use Rattle.bench_engine.proofs.Feeding.{ends-line, ends-empty}
use Rattle.bench_engine.proofs.session.Session.end.Goals as goal

pub returns-then-is_empty-clause-told : goal.returns-then-is_empty-clause-told
returns-then-is_empty-clause-told g c held unbroken holds = ends-empty (g.N.NpyStore.shelf c.args.store.now) (g.W.Write.contents c.args.writer.now) held c.args.self.now (sym c.if-is_empty.ensures) holds

pub returns-clause-told : goal.returns-clause-told
returns-clause-told g c held unbroken holds = ends-line _ _ _ _ held c.args.self.now _ c.finish_line.result unbroken (sym c.if-is_empty.ensures) holds c.finish_line.ensures.told
