-- The result of an operation on operands.
use Rattle.std.proofs.Common.{◌≡◌, ◌⊎◌, ℕ, true, List, [], ◌∷◌, map, Result, Ok, Err, IfOk, refl, sym, ap, ◌∙◌, subst, inl, inr, arith}
use Rattle.bench_engine.proofs.Words.{is_ok, false≢true, Refusal, Descr, Scalar, Gives, ◌>>=◌, same_answer, bind_same, item_size, item_from, C, offsets, can_stretch, common_shape, common-fits, promote, compared_type, scalar_of, binary_result, compared_result, binary_item, compared_item, pairwise, stretched_items, Items, Owned, offsets_in, BinOp, Comparison, Operation, Binary, Compare, ScalarDescr, new_contents, OperandValues, operation_scalar, operation_on, operation_item, Stands, held, IsInCOrder}
use Rattle.bench_engine.proofs.Copies.{made-held}

-- the element type and the shape of a result, or the refusal
abbrev pub typed_in : Result Scalar Refusal → Result (List ℕ) Refusal → Result (Descr × List ℕ) Refusal
typed_in scalar shape = scalar >>= (λ s. shape >>= (λ l. Ok (ScalarDescr s, l)))

chained : {X Y Z : Type 0} (x : Result X Refusal) (f : X → Result Y Refusal) (g : Y → Result Z Refusal) → (x >>= f) >>= g ≡ x >>= (λ a. f a >>= g)
chained (Ok a) f g = refl
chained (Err e) f g = refl

-- the same refusal is the same in results of any type
pub same_refusal : {X Y : Type 0} (e e' : Refusal) → ◌≡◌ {A = Result X Refusal} (Err e) (Err e') → ◌≡◌ {A = Result Y Refusal} (Err e) (Err e')
same_refusal e e' same = let is : e ≡ e' = cc in ap Err is

binary-is : (op : BinOp) (d d' : Descr) (t u : List ℕ) → binary_result op d t d' u ≡ typed_in (operation_scalar (Binary op) d d') (common_shape (t ∷ u ∷ []))
unfolding binary_result operation_scalar
binary-is op d d' t u = sym (
    chained (scalar_of d) (λ from. scalar_of d' >>= (λ other. promote op from other)) (λ s. common_shape (t ∷ u ∷ []) >>= (λ l. Ok (ScalarDescr s, l)))
    ∙ bind_same (scalar_of d) (λ from. (scalar_of d' >>= (λ other. promote op from other)) >>= (λ s. common_shape (t ∷ u ∷ []) >>= (λ l. Ok (ScalarDescr s, l)))) (λ from. scalar_of d' >>= (λ other. promote op from other >>= (λ s. common_shape (t ∷ u ∷ []) >>= (λ l. Ok (ScalarDescr s, l)))))
    (λ from _. chained (scalar_of d') (λ other. promote op from other) (λ s. common_shape (t ∷ u ∷ []) >>= (λ l. Ok (ScalarDescr s, l)))))

compared-is : (c : Comparison) (d d' : Descr) (t u : List ℕ) → compared_result d t d' u ≡ typed_in (operation_scalar (Compare c) d d') (common_shape (t ∷ u ∷ []))
unfolding compared_result operation_scalar
compared-is c d d' t u = sym (
    chained (scalar_of d) (λ from. scalar_of d' >>= (λ other. compared_type from other)) (λ s. common_shape (t ∷ u ∷ []) >>= (λ l. Ok (ScalarDescr s, l)))
    ∙ bind_same (scalar_of d) (λ from. (scalar_of d' >>= (λ other. compared_type from other)) >>= (λ s. common_shape (t ∷ u ∷ []) >>= (λ l. Ok (ScalarDescr s, l)))) (λ from. scalar_of d' >>= (λ other. compared_type from other >>= (λ s. common_shape (t ∷ u ∷ []) >>= (λ l. Ok (ScalarDescr s, l)))))
    (λ from _. chained (scalar_of d') (λ other. compared_type from other) (λ s. common_shape (t ∷ u ∷ []) >>= (λ l. Ok (ScalarDescr s, l)))))

-- ---- the result

pub worked-bad : (op : Operation) (v w : OperandValues) (e : Refusal) → operation_scalar op v.descr w.descr ≡ Err e → operation_on op v w ≡ Err e
unfolding operation_on
worked-bad op v w e bad = rw bad refl

worked-apart : (op : Operation) (v w : OperandValues) (s : Scalar) (e : Refusal) → operation_scalar op v.descr w.descr ≡ Ok s → common_shape (v.shape ∷ w.shape ∷ []) ≡ Err e → operation_on op v w ≡ Err e
unfolding operation_on
worked-apart op v w s e good apart = rw (good, apart) refl

pub worked-done : (op : Operation) (v w : OperandValues) (s : Scalar) (shape : List ℕ) → operation_scalar op v.descr w.descr ≡ Ok s → common_shape (v.shape ∷ w.shape ∷ []) ≡ Ok shape →
    operation_on op v w ≡ Ok (new_contents (ScalarDescr s) shape (pairwise (operation_item op s) (v.stretched_to shape) (w.stretched_to shape)))
unfolding operation_on
worked-done op v w s shape good there = rw (good, there) refl

-- if there is a result, there are a type and a shape
typed-both : (scalar : Result Scalar Refusal) (shape : Result (List ℕ) Refusal) (d : Descr) (l : List ℕ) → typed_in scalar shape ≡ Ok (d, l) → (s : Scalar) × (scalar ≡ Ok s) × (shape ≡ Ok l) × (d ≡ ScalarDescr s)
typed-both (Ok s) (Ok m) d l is =
    let both : (ScalarDescr s, m) ≡ (d, l) = same_answer (ScalarDescr s, m) (d, l) is in
    (s, refl, ap (λ (p : Descr × List ℕ). Ok p.1) both, sym (ap (λ (p : Descr × List ℕ). p.0) both))
typed-both (Ok s) (Err e) d l is = absurd (false≢true (ap is_ok is))
typed-both (Err e) shape d l is = absurd (false≢true (ap is_ok is))

-- if there is none, the type or the shape is refused
typed-neither : (scalar : Result Scalar Refusal) (shape : Result (List ℕ) Refusal) (e : Refusal) → typed_in scalar shape ≡ Err e → (scalar ≡ Err e) ⊎ ((s : Scalar) × (scalar ≡ Ok s) × (shape ≡ Err e))
typed-neither (Ok s) (Ok m) e is = absurd (false≢true (sym (ap is_ok is)))
typed-neither (Ok s) (Err e') e is = inr (s, refl, same_refusal e' e is)
typed-neither (Err e') shape e is = inl (same_refusal e' e is)

-- both shapes stretch to their common shape
fits-common : (t u common : List ℕ) → common_shape (t ∷ u ∷ []) ≡ Ok common → (can_stretch t common ≡ true) × (can_stretch u common ≡ true)
fits-common t u common is =
    let all = common-fits (t ∷ u ∷ []) common is in
    (all 0 [] (omega arith), all 1 [] (omega arith))

module _ (op : Operation) (v w : OperandValues) (x y : Items) (sv : Stands v x) (sw : Stands w y) where
  abbrev there : Result (Descr × List ℕ) Refusal
  there = typed_in (operation_scalar op x.descr.now y.descr.now) (common_shape (x.layout.now.shape ∷ y.layout.now.shape ∷ []))

  types : operation_scalar op v.descr w.descr ≡ operation_scalar op x.descr.now y.descr.now
  types = λ i. operation_scalar op (sv.descr i) (sw.descr i)

  shapes : common_shape (v.shape ∷ w.shape ∷ []) ≡ common_shape (x.layout.now.shape ∷ y.layout.now.shape ∷ [])
  shapes = λ i. common_shape (sv.shape i ∷ sw.shape i ∷ [])

  worked-held : (o : Owned) → there ≡ Ok (o.descr, o.layout.shape) → IsInCOrder o → ((s : Scalar) → o.descr ≡ ScalarDescr s → map (item_from o.descr o.block) (offsets o.layout)
      ≡ pairwise (operation_item op s) (stretched_items x.descr.now x.block.now x.layout.now o.layout.shape) (stretched_items y.descr.now y.block.now y.layout.now o.layout.shape)) → operation_on op v w ≡ Ok (held o)
  worked-held o is order items =
      let both = typed-both (operation_scalar op x.descr.now y.descr.now) (common_shape (x.layout.now.shape ∷ y.layout.now.shape ∷ [])) o.descr o.layout.shape is in
      let common : common_shape (v.shape ∷ w.shape ∷ []) ≡ Ok o.layout.shape = shapes ∙ both.2 in
      let fits = fits-common v.shape w.shape o.layout.shape common in
      worked-done op v w both.0 o.layout.shape (types ∙ both.1) common
      ∙ ap Ok (made-held C (ScalarDescr both.0) o.layout.shape (pairwise (operation_item op both.0) (v.stretched_to o.layout.shape) (w.stretched_to o.layout.shape)) o both.3 refl
      (subst (λ (d : Descr). offsets o.layout ≡ offsets_in C (item_size d) o.layout.shape) both.3 order)
      (ap (λ (d : Descr). map (item_from d o.block) (offsets o.layout)) (sym both.3) ∙ items both.0 both.3 ∙ λ i. pairwise (operation_item op both.0) (sym (sv.items o.layout.shape fits.0) i) (sym (sw.items o.layout.shape fits.1) i)))

  worked-refused : (e : Refusal) → there ≡ Err e → operation_on op v w ≡ Err e
  worked-refused e is =
      elim (typed-neither (operation_scalar op x.descr.now y.descr.now) (common_shape (x.layout.now.shape ∷ y.layout.now.shape ∷ [])) e is) as (λ _. operation_on op v w ≡ Err e) [
        | inl bad ↦ worked-bad op v w e (types ∙ bad)
        | inr apart ↦ worked-apart op v w apart.0 e (types ∙ apart.1) (shapes ∙ apart.2)
      ]

  pub worked-gives : (result : Result Owned Refusal) → Gives (λ o. (o.descr, o.layout.shape)) result there → IfOk result IsInCOrder →
      IfOk result (λ o. (s : Scalar) → o.descr ≡ ScalarDescr s → map (item_from o.descr o.block) (offsets o.layout)
      ≡ pairwise (operation_item op s) (stretched_items x.descr.now x.block.now x.layout.now o.layout.shape) (stretched_items y.descr.now y.block.now y.layout.now o.layout.shape)) → Gives held result (operation_on op v w)
  worked-gives (Ok o) is order items = worked-held o is order items
  worked-gives (Err e) (inl lacks) order items = inl lacks
  worked-gives (Err e) (inr bad) order items = inr (worked-refused e bad)

pub binary-gives : (op : BinOp) (v w : OperandValues) (x y : Items) (result : Result Owned Refusal) → Stands v x → Stands w y → Gives (λ o. (o.descr, o.layout.shape)) result (binary_result op x.descr.now x.layout.now.shape y.descr.now y.layout.now.shape) → IfOk result IsInCOrder →
    IfOk result (λ o. map (item_from o.descr o.block) (offsets o.layout) ≡ pairwise (binary_item op o.descr) (stretched_items x.descr.now x.block.now x.layout.now o.layout.shape) (stretched_items y.descr.now y.block.now y.layout.now o.layout.shape)) → Gives held result (operation_on (Binary op) v w)
binary-gives op v w x y (Ok o) sv sw is order items =
    worked-gives (Binary op) v w x y sv sw (Ok o) (sym (binary-is op x.descr.now y.descr.now x.layout.now.shape y.layout.now.shape) ∙ is) order
    (λ s typed. items ∙ ap (λ (d : Descr). pairwise (binary_item op d) (stretched_items x.descr.now x.block.now x.layout.now o.layout.shape) (stretched_items y.descr.now y.block.now y.layout.now o.layout.shape)) typed)
binary-gives op v w x y (Err e) sv sw (inl lacks) order items = inl lacks
binary-gives op v w x y (Err e) sv sw (inr bad) order items =
    worked-gives (Binary op) v w x y sv sw (Err e) (inr (sym (binary-is op x.descr.now y.descr.now x.layout.now.shape y.layout.now.shape) ∙ bad)) tt tt

pub compared-gives : (c : Comparison) (v w : OperandValues) (x y : Items) (result : Result Owned Refusal) → Stands v x → Stands w y → Gives (λ o. (o.descr, o.layout.shape)) result (compared_result x.descr.now x.layout.now.shape y.descr.now y.layout.now.shape) → IfOk result IsInCOrder →
    IfOk result (λ o. map (item_from o.descr o.block) (offsets o.layout) ≡ pairwise (compared_item c) (stretched_items x.descr.now x.block.now x.layout.now o.layout.shape) (stretched_items y.descr.now y.block.now y.layout.now o.layout.shape)) → Gives held result (operation_on (Compare c) v w)
compared-gives c v w x y (Ok o) sv sw is order items =
    worked-gives (Compare c) v w x y sv sw (Ok o) (sym (compared-is c x.descr.now y.descr.now x.layout.now.shape y.layout.now.shape) ∙ is) order (λ s typed. items)
compared-gives c v w x y (Err e) sv sw (inl lacks) order items = inl lacks
compared-gives c v w x y (Err e) sv sw (inr bad) order items =
    worked-gives (Compare c) v w x y sv sw (Err e) (inr (sym (compared-is c x.descr.now y.descr.now x.layout.now.shape y.layout.now.shape) ∙ bad)) tt tt
