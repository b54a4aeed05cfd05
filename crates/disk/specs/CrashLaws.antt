-- What crashes leave after more than one call.
use Rattle.std.specs.Prelude.{◌≡◌, ◌≢◌, ℕ, List, Option, Result, OnOk}
use Rattle.std.proofs.Common.{inl, inr, ⊎_elim, Ok, Err, refl, ap, ◌∙◌, subst, arith}
use Rattle.disk.specs.Words.{cases_lt, get}
use Rattle.disk.specs.Files.{Files, Same, SameBut}
use Rattle.disk.specs.Crashes.{DiskState, History, Leaves}
use Rattle.disk.specs.Calls.{ChangesOnly, IsUnchanged, Replaces}

-- two calls in a row, whose changes combine into one
pub follows : (First Second Both : Files → Files → Type 0) (a b c : History)
    → ((x y : Files) → First x y → Both x y) → ((x y z : Files) → First x y → Second y z → Both x z)
    → Leaves First a b → Leaves Second b c → Leaves Both a c
follows First Second Both a b c early joins first second = record {
  later = omega (arith, first.later, second.later);
  past = λ t files le. (
    λ new. (first.past t files le).0 ((second.past t files (omega (arith, le, first.later))).0 new),
    λ old. (second.past t files (omega (arith, le, first.later))).1 ((first.past t files le).1 old),
  );
  each = λ t files from to left. ⊎_elim
      (λ within. let was = first.each t files from (omega (arith, within)) ((second.past t files (omega (arith, within))).0 left) in (was.0, was.1, early was.0 files was.2))
      (λ after. let mid = second.each t files after to left in
      let was = first.each b.now mid.0 first.later (omega arith) mid.1 in
      (was.0, was.1, joins was.0 mid.0 files was.2 mid.2))
      (cases_lt t b.now);
}

-- a less exact description of a change
pub weaker : (Change More : Files → Files → Type 0) (a b : History) → ((x y : Files) → Change x y → More x y) → Leaves Change a b → Leaves More a b
weaker Change More a b more first = record {
  later = first.later;
  past = first.past;
  each = λ t files begun over left. let was = first.each t files begun over left in (was.0, was.1, more was.0 files was.2);
}

-- no call at all
pub unmoved : (history : History) → Leaves Same history history
unmoved history = record {
  later = omega arith;
  past = λ t files le. (λ left. left, λ left. left);
  each = λ t files from to left. let is : t ≡ history.now = omega arith in (files, subst (λ n. history.at n files) is left, λ name. refl);
}

module _ {File : Type 0} where
  -- no call, and two calls in a row that leave all files as they are
  pub stays : (disk : DiskState File) → IsUnchanged disk disk
  stays disk = record { files = refl; crash = unmoved disk.history; current = λ file current. current }

  pub stays_again : {a b c : DiskState File} → IsUnchanged a b → IsUnchanged b c → IsUnchanged a c
  stays_again {a} {b} {c} first second = record {
    files = second.files ∙ first.files;
    crash = follows Same Same Same a.history b.history c.history (λ x y same. same) (λ x y z early late name. late name ∙ early name) first.crash second.crash;
    current = λ file current. second.current file (first.current file current);
  }

  -- two calls in a row that change only this file, and then one that changes no file
  pub changes_again : {name_of : File → List ℕ} {name other : List ℕ} {a b c : DiskState File} → ChangesOnly name_of name a b → other ≡ name → ChangesOnly name_of other b c → ChangesOnly name_of name a c
  changes_again {name_of} {name} {other} {a} {b} {c} first is second = record {
    files = λ far apart. second.files far (λ same. apart (same ∙ is)) ∙ first.files far apart;
    crash = follows (SameBut name) (SameBut other) (SameBut name) a.history b.history c.history (λ x y kept. kept) (λ x y z early late far apart. late far (λ same. apart (same ∙ is)) ∙ early far apart) first.crash second.crash;
    current = λ file apart current. second.current file (λ same. apart (same ∙ is)) (first.current file apart current);
  }

  pub then_stays : {name_of : File → List ℕ} {name : List ℕ} {a b c : DiskState File} → ChangesOnly name_of name a b → IsUnchanged b c → ChangesOnly name_of name a c
  then_stays {name_of} {name} {a} {b} {c} first same = record {
    files = λ far apart. ap (λ (files : Files). get files far) same.files ∙ first.files far apart;
    crash = follows (SameBut name) Same (SameBut name) a.history b.history c.history (λ x y kept. kept) (λ x y z early late far apart. late far ∙ early far apart) first.crash same.crash;
    current = λ file apart current. same.current file (first.current file apart current);
  }

module _ (from to : List ℕ) (moved : Option (List ℕ)) where
  pub replaces_again : {a b c : History} → Leaves (Replaces from to moved) a b → Leaves (Replaces from to moved) b c → Leaves (Replaces from to moved) a c
  replaces_again {a} {b} {c} = follows (Replaces from to moved) (Replaces from to moved) (Replaces from to moved) a b c (λ x y kept. kept) (λ x y z first second. record {
    others = λ other far near. second.others other far near ∙ first.others other far near;
    whole = ⊎_elim (λ same. ⊎_elim (λ was. inl (same ∙ was)) (λ new. inr (same ∙ new)) first.whole) (λ new. inr new) second.whole;
  })

  -- while only `from` changes, or nothing, nothing is replaced
  pub only_but : {a b : History} → to ≢ from → Leaves (SameBut from) a b → Leaves (Replaces from to moved) a b
  only_but {a} {b} apart = weaker (SameBut from) (Replaces from to moved) a b (λ x y kept. record { others = λ other far near. kept other far; whole = inl (kept to apart) })

  pub only_same : {a b : History} → Leaves Same a b → Leaves (Replaces from to moved) a b
  only_same {a} {b} = weaker Same (Replaces from to moved) a b (λ x y same. record { others = λ other far near. same other; whole = inl (same to) })

-- what holds in any case holds after `Ok`
pub always_ok : {T E : Type 0} (r : Result T E) {P : Type 0} → P → OnOk r P
always_ok (Ok x) p = p
always_ok (Err e) p = tt
