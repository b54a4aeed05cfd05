-- The items of views do not overlap, and a refusal is the one of the definition.
use Rattle.std.proofs.Common.{◌≡◌, ℕ, ◌<◌, ◌≤◌, ◌⊎◌, Result, Ok, Err, List, length, get_or, inl, inr, sym, ap, ◌∙◌, arith}
use Rattle.view_ops.proofs.Words.{cases_lt, Refusal, OutOfMemory, Layout, count, rank, IsIndex, offsets, distance, IsNested, rank-lt, rank-same, index_at, length-offsets, get_or-offsets, View, GivesView, IsView}
use Rattle.shape_strides.specs.Addresses.{natural}

-- The offset of the view at the rank of an index is the offset of the item to which the index leads.
offset-view : (old new : Layout) (m : List ℕ → List ℕ) → IsView old new m → (index : List ℕ) → IsIndex new.shape index → get_or (offsets new) (rank new.shape index) 0 ≡ get_or (offsets old) (rank old.shape (m index)) 0
offset-view old new m view index in' = get_or-offsets new index 0 in' ∙ ap natural (view.same index in') ∙ sym (get_or-offsets old (m index) 0 (view.leads index in'))

apart_either : (a b item : ℕ) → item ≤ distance a b → item ≤ distance b a
apart_either a b item far = omega arith

strictly : (p q : ℕ) → (p ≡ q → ⊥) → q ≤ p → q < p
strictly p q other more = omega arith

pub IsNested-view : (old new : Layout) (m : List ℕ → List ℕ) (item : ℕ) → IsView old new m → ((i j : List ℕ) → IsIndex new.shape i → IsIndex new.shape j → m i ≡ m j → i ≡ j) → IsNested (offsets old) item → IsNested (offsets new) item
IsNested-view old new m item view one nested = record {
  apart = λ j k before inside.
      let high : k < count new.shape = omega (arith, length-offsets new) in
      let a = index_at new.shape j (omega arith) in
      let b = index_at new.shape k high in
      let p = rank old.shape (m a.0) in
      let q = rank old.shape (m b.0) in
      let low-p : p < length (offsets old) = omega (arith, length-offsets old, rank-lt old.shape (m a.0) (view.leads a.0 a.1)) in
      let low-q : q < length (offsets old) = omega (arith, length-offsets old, rank-lt old.shape (m b.0) (view.leads b.0 b.1)) in
      let first : get_or (offsets new) j 0 ≡ get_or (offsets old) p 0 = ap (λ r. get_or (offsets new) r 0) (sym a.2) ∙ offset-view old new m view a.0 a.1 in
      let second : get_or (offsets new) k 0 ≡ get_or (offsets old) q 0 = ap (λ r. get_or (offsets new) r 0) (sym b.2) ∙ offset-view old new m view b.0 b.1 in
      let other : p ≡ q → ⊥ = λ same.
      let is : a.0 ≡ b.0 = one a.0 b.0 a.1 b.1 (rank-same old.shape (m a.0) (m b.0) (view.leads a.0 a.1) (view.leads b.0 b.1) same) in
      omega (arith, a.2, b.2, ap (rank new.shape) is) in
      rw (first, second) (elim (cases_lt p q) [
        | inl less ↦ nested.apart p q less low-q
        | inr more ↦ apart_either (get_or (offsets old) q 0) (get_or (offsets old) p 0) item (nested.apart q p (strictly p q other more) low-p)
      ]);
}

pub gives_refusal : (old : Layout) (there : Result View Refusal) (e : Refusal) → (e ≡ OutOfMemory) ⊎ (there ≡ Err e) → GivesView old (Err e) there
gives_refusal old (Ok view) e given = given
gives_refusal old (Err e') e given = given
