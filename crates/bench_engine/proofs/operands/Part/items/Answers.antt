use Rattle.std.proofs.Common.{refl, sym, subst}
use Rattle.bench_engine.proofs.Words.{Array, Part, LiesIn, IsPart, StandsFor}
use Rattle.bench_engine.proofs.Assigns.{lies-whole, lies-viewed}
use Rattle.bench_engine.proofs.OperandLaws.{view-within, view-stands}
use Rattle.bench_engine.proofs.operands.Part.items.Goals as goal

pub items_of_view-requires-in-View : goal.items_of_view-requires-in-View
items_of_view-requires-in-View c =
    let is = subst (λ (p : Part). IsPart c.requires.0 p c.requires.1) c.in-View.is c.requires.2 in
    record { inside = view-within c.requires.0 is.0 _ _ is.1 is.2 is.3 }

pub returns-in-View-clause-stands : goal.returns-in-View-clause-stands
returns-in-View-clause-stands c s part is =
    let p = subst (λ (p : Part). IsPart s p part) c.in-View.is is in
    let e = c.items_of_view-in-View.ensures in
    subst (λ (a : Array). StandsFor s a c.items_of_view-in-View.result) p.4 (view-stands s p.0 _ _ p.1 _ p.2 p.3 e.block e.layout e.descr)

pub returns-in-View-clause-lies : goal.returns-in-View-clause-lies
returns-in-View-clause-lies c s part is =
    let p = subst (λ (p : Part). IsPart s p part) c.in-View.is is in
    let e = c.items_of_view-in-View.ensures in
    let lies = lies-viewed s p.0 p.0 _ _ p.1 (lies-whole s p.0 _ p.2) p.3 in
    rw c.in-View.is (p.0, _, p.2, refl, subst (λ (a : Array). LiesIn s p.0 a c.items_of_view-in-View.result.layout.now) p.4 (subst (LiesIn s p.0 _) (sym e.layout) lies))

pub returns-in-Whole-clause-lies : goal.returns-in-Whole-clause-lies
returns-in-Whole-clause-lies c s part is =
    let shows = subst (λ (p : Part). IsPart s p part) c.in-Whole.is is in
    rw c.in-Whole.is (part, _, shows, refl, subst (LiesIn s part part) (sym c.items_of_view.ensures.layout) (lies-whole s part _ shows))
