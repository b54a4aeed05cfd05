-- The machine values of the parts of a block, and of the three together. Assumes `Logic`.
use Rattle.std.proofs.Common.{List, [], ◌∷◌, refl}
use Rattle.raw_block.proofs.Words.{Ura, ent, sep, emp, Val, vstruct, vcons, vnil, Logic, sem, ‵, ◌$◌, ◌∵◌, !, qed, done, move, fjoin, fpack, feq_i, RattleType, Valss, Ptr, ptr_val, makes_shadow, nothing, shape, Struct, within, Tuple, tuple_type, Ghosts, word}
use denote.Struct.Declared as Declared
use Rattle.raw_block.specs.contracts.base.Base as B
use Rattle.raw_block.specs.contracts.base.Bytes as Y
use Rattle.raw_block.specs.contracts.base.Deed as D

-- a struct without fields, and one that contains it
abbrev pub no_fields : Val
no_fields = vstruct vnil

abbrev pub mark : Val
mark = vstruct (vcons no_fields vnil)

abbrev pub three_val : Val → Val → Val → Val
three_val u v w = vstruct (vcons u (vcons v (vcons w vnil)))

module _ {M : Type 1} {𝓤 : Ura M} (𝓛 : Logic 𝓤) where
  pub base_made : (p : Ptr) → ent 𝓤 (emp 𝓤) (sem 𝓛 ((B.the_row).own_val (record { ptr = p }) (word p ∷ [])))
  base_made p = makes_shadow 𝓛 ((B.the_row).own_val (record { ptr = p }) (word p ∷ [])) (λ _. (tt, (tt, tt))) ((ptr_val p ∷ [], tt), (refl, (refl, tt)))

  pub bytes_made : ent 𝓤 (emp 𝓤) (sem 𝓛 ((Struct (shape Y.the_type)).own_val tt (no_fields ∷ [])))
  bytes_made = makes_shadow 𝓛 ((Struct (shape Y.the_type)).own_val tt (no_fields ∷ [])) (λ _. (tt, tt)) (tt, (refl, tt))

  pub deed_made : (A : RattleType) (g : Ghosts A.Denot) → ent 𝓤 (emp 𝓤) (sem 𝓛 ((Struct (shape (D.the_type A g))).own_val (tt, tt) (mark ∷ [])))
  deed_made A g = makes_shadow 𝓛 ((Struct (shape (D.the_type A g))).own_val (tt, tt) (mark ∷ [])) (λ _. (tt, ((λ _. (tt, tt)), tt))) ((no_fields ∷ [], tt), (refl, ((tt, (refl, tt)), tt)))

  pub three_of : (R S T : RattleType) (x : R.Denot) (y : S.Denot) (z : T.Denot) (u v w : Val)
      → ent 𝓤 (sep 𝓤 (sem 𝓛 (R.own_val x (u ∷ []))) (sep 𝓤 (sem 𝓛 (S.own_val y (v ∷ []))) (sem 𝓛 (T.own_val z (w ∷ []))))) (sem 𝓛 ((Tuple (R ∷ S ∷ T ∷ [])).own_val (x, y, z) (three_val u v w ∷ [])))
  three_of R S T x y z u v w = qed 𝓛 (‵ (R.own_val x (u ∷ [])) ∷ ‵ (S.own_val y (v ∷ [])) ∷ ‵ (T.own_val z (w ∷ [])) ∷ []) ∵
      nothing ! $ move ! (3 ∷ 0 ∷ []) $ fjoin ! $ move ! (2 ∷ 0 ∷ []) $ fjoin ! $ move ! (1 ∷ 0 ∷ []) $ fjoin ! $
      feq_i ! (List Val) (three_val u v w ∷ []) (three_val u v w ∷ []) refl $ fjoin ! $
      fpack ! (Valss (R ∷ S ∷ T ∷ [])) (within (Declared.shape (tuple_type (R ∷ S ∷ T ∷ []))) (x, (y, (z, tt))) (three_val u v w ∷ [])) (u ∷ [], (v ∷ [], (w ∷ [], tt))) $ done !
