-- What the calls for arrays do, from what was asked or bound.
use Rattle.std.proofs.Common.{true, ◌≡◌, ◌⊎◌, ℕ, List, Result, Ok, Err, refl, sym, ap, ◌∙◌, subst, inl, inr}
use Rattle.bench_engine.specs.inside.Contract.{IsRefused}
use Rattle.bench_c.specs.Words.{Choice, Outcome, Refusal, OutOfMemory, Array, ArrayRef, State, Shows, count, item_size, refusal_text}
use Rattle.bench_c.specs.declared.array_calls.Info.{Info}
use Rattle.bench_c.specs.declared.open_bench.OpenBench.{OpenBench}
use Rattle.bench_c.specs.declared.status.Status.{Status}
use Rattle.bench_c.specs.declared.status.Status.TheVariants.{Refused}
use Rattle.bench_c.specs.Benches.{CopiesOut}
use Rattle.bench_c.specs.ArrayCalls.{GivesAsked}
use Rattle.bench_c.specs.Arrays.{array_called, info_called, shape_called}

-- bytes that are copied out
pub gives : (asked : State → Result (List ℕ) Refusal) (bytes copied out out' : List ℕ) (len : ℕ) (old : OpenBench) (status : Status) → asked old.bench.state ≡ Ok bytes → copied ≡ bytes → CopiesOut copied out out' len status → GivesAsked asked out out' len old old status
gives asked bytes copied out out' len old status is same copies = inl (copied, is ∙ ap Ok (sym same), refl, copies)

-- the lengths of the axes that are copied out
pub gives-shape : (name : List ℕ) (a : Array) (r : ArrayRef) (copied out out' : List ℕ) (len : ℕ) (old : OpenBench) (status : Status) → array_called name old.bench.state ≡ Ok a → Shows old.bench.state a r → copied ≡ r.layout.now.shape → CopiesOut copied out out' len status → GivesAsked (shape_called name) out out' len old old status
unfolding shape_called
gives-shape name a r copied out out' len old status is shows same copies = gives (shape_called name) a.shape copied out out' len old status (rw is refl) (same ∙ shows.view.laid.shape) copies

-- a question that is refused
pub refuses : (asked : State → Result (List ℕ) Refusal) (out reply : List ℕ) (old : OpenBench) (status : Status) (e : Refusal) → (e ≡ OutOfMemory) ⊎ (asked old.bench.state ≡ Err e) → reply ≡ refusal_text e → status ≡ Refused → GivesAsked asked out out 0 old (record old { reply = reply }) status
refuses asked out reply old status e why same is = inr (e, why, (ap (λ (text : List ℕ). record old { reply = text }) same, is), refl, refl)

-- what is known about an array
pub known : (s : State) (name : List ℕ) (a : Array) (r : ArrayRef) (many size : ℕ) → array_called name s ≡ Ok a → Shows s a r → many ≡ count r.layout.now.shape → size ≡ item_size r.descr.now → info_called name s ≡ Ok (record { items = many; item_size = size; writable = r.writable })
unfolding info_called
known s name a r many size is shows counted sized = rw is (λ i. Ok (record {
  items = (ap count (sym shows.view.laid.shape) ∙ sym counted) i;
  item_size = (ap item_size shows.descr ∙ sym sized) i;
  writable = sym shows.view.laid.writable_is i;
}))

-- a call that is refused, which it may be as out of memory
pub may-lack : (outcome : Choice → Outcome) (e : Refusal) → IsRefused true outcome e → (e ≡ OutOfMemory) ⊎ ((choice : Choice) → outcome choice ≡ Err e)
may-lack outcome e (inl lacks) = inl lacks.0
may-lack outcome e (inr bad) = inr bad
