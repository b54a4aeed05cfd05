-- Laws of results that may be refusals.
use Rattle.std.specs.Prelude.{◌≡◌, Bool, Result, Ok, Err}
use Rattle.std.proofs.Common.{true, false, ap, refl}
use Rattle.elem_descr.specs.Words.{is_ok, false≢true}
use Rattle.elem_descr.specs.declared.refusal.Refusal.{Refusal}
use Rattle.elem_descr.specs.Refusals.{◌>>=◌, check}

-- If two results are equal, so are their values.
pub same_answer : {X : Type 0} (x y : X) → ◌≡◌ {A = Result X Refusal} (Ok x) (Ok y) → x ≡ y
same_answer x y same = cc

-- If a check followed by `rest` gives a value, `rest` gives this value.
pub check_passed : {X : Type 0} (test : Bool) (refusal : Refusal) (rest : Result X Refusal) (x : X) → check test refusal >>= (λ _. rest) ≡ Ok x → rest ≡ Ok x
check_passed true refusal rest x found = found
check_passed false refusal rest x found = absurd (false≢true (ap is_ok found))

pub check_test : {X : Type 0} (test : Bool) (refusal : Refusal) (rest : Result X Refusal) (x : X) → check test refusal >>= (λ _. rest) ≡ Ok x → test ≡ true
check_test true refusal rest x found = refl
check_test false refusal rest x found = absurd (false≢true (ap is_ok found))

pub bind_same : {X Y : Type 0} (r : Result X Refusal) (f g : X → Result Y Refusal) → ((x : X) → r ≡ Ok x → f x ≡ g x) → (r >>= f) ≡ (r >>= g)
bind_same (Ok x) f g same = same x refl
bind_same (Err e) f g same = refl

pub bind_ok : {A B : Type 0} (r : Result A Refusal) (f : A → Result B Refusal) (y : B) → (r >>= f) ≡ Ok y → (x : A) × (r ≡ Ok x) × (f x ≡ Ok y)
bind_ok (Ok x) f y is = (x, refl, is)
bind_ok (Err e) f y is = cc
