-- What a crash may leave of a disk with a cache.
use Rattle.std.specs.Prelude.{◌≡◌, ◌⊎◌, ◌-◌, Bool, true, false, ℕ, List, [], ◌∷◌, length, drop, Option, MatchBool}
use Rattle.std.proofs.Common.{inr, cond, refl, sym, ap, subst, arith}
use Rattle.disk_tests.specs.Words.{get, get-empty, slice_cmp, nat_cmp, bytes_eq}
use Rattle.disk_tests.specs.declared.cached.Event.{Event}
use Rattle.disk_tests.specs.declared.cached.Event.TheVariants.{Changed, FileSynced, NamesSynced, Restarted}
use Rattle.disk_tests.specs.Changes.{bytes_of_change}
use Rattle.disk_tests.specs.ChangeLaws.{get-bound}
use Rattle.disk_tests.specs.Cached.{found, is_synced, MayStand, MayStay}

-- after one more change, a crash may leave what a read finds: under its name what it brought, and under another what
-- was there
changed_stands : (same is_whole : Bool) (came there left : Option (List ℕ)) (May : Option (List ℕ) → Type 0) → May there → left ≡ cond same came there
    → MatchBool same (MatchBool is_whole (May left ⊎ (left ≡ came)) (Unit {0})) (May left)
changed_stands true true came there left May was is = inr is
changed_stands true false came there left May was is = tt
changed_stands false is_whole came there left May was is = subst May (sym is) was

-- a crash may leave what a read finds
pub found_may_stand : (events : List Event) (name : List ℕ) → MayStand events name (get (found events) name)
found_may_stand [] name = get-empty (slice_cmp nat_cmp) name
found_may_stand (Changed other bytes is_whole ∷ older) name =
    changed_stands (bytes_eq name other.items) is_whole (bytes_of_change bytes) (get (found older) name) _ (MayStand older name) (found_may_stand older name) (get-bound other.items (bytes_of_change bytes) (found older) name)
found_may_stand (FileSynced other ∷ older) name = found_may_stand older name
found_may_stand (NamesSynced ∷ older) name = elim (is_synced older name) as (λ b. MatchBool b (get (found older) name ≡ get (found older) name) (MayStand older name (get (found older) name))) [
  | true ↦ refl
  | false ↦ found_may_stand older name
]
found_may_stand (Restarted ∷ older) name = refl

-- the events up to now are all events
pub newest : (events : List Event) → events ≡ drop (length events - length events) events
newest events = ap (λ n. drop n events) (let none : 0 ≡ length events - length events = omega arith in none)

pub found_may_stay : (events : List Event) → MayStay (drop (length events - length events) events) (found events)
found_may_stay events = subst (λ (l : List Event). MayStay l (found events)) (newest events) (found_may_stand events)
