-- `deallocate` restores the block from the bytes, and gives it back with the allocator's token. Assumes `Logic`.
use Rattle.std.proofs.Common.{◌≡◌, ℕ, ◌+◌, ◌*◌, ◌/◌, ◌^◌, ◌<◌, List, [], ◌∷◌, ◌++◌, length, refl, sym, ap, subst, ◌∙◌, w64, arith, lit<, T}
use Rattle.raw_block.proofs.Words.{SProp, id⊢, apply∗, Lft, Share, ftrue, froom, flft, inst_fn, Ty, Fn, Args, a_type, dcons, dnil, ty_unit, Val, vint, vptr, vunit, has_ty, WT, ◌⊑◌, ⊑_trans, fact, tables, capped_is, Env, WpFn, sem, ‵, raw, ◌⊛◌, given, later, prop, at_ret, ◌$◌, ◌∵◌, !, qed, done, move, keep, use1, use2, split, join, group, learn, fsplit, fjoin, feq_i, await, regoal, rewrite, suffices, whole, sub, enter, of_opd, lit, unit_lit, stop, fld, and_then, no_more, first, blocks, exec, returns, alloc_all, pass_all, free_all, look_at, get, get_in, sets, lands_last, env, usize, RefOf, param, bounded, param_laws, RattleType, owns, Ptr, block_ptr, in_a_block, plain, types_at, nothing, heard, tells, calls_at_last, alive, Stays, walk_of, stay_dropped, Goes-dropped, ends_at, Al, seen, Goes-blank, Gives, at_gives, Gives-goes, Gives-Gives, fm, proved_at, word, word-Good, words, unwritten, bytes_own, deed_owns, IsSizeFor}
use types.Kit.{drop}
use Rattle.core.proofs.alloc.Shapes.{after}
use Rattle.raw_block.proofs.Carving.{blank}
use Rattle.raw_block.proofs.Values.{no_fields, mark}
use Rattle.raw_block.proofs.base.Base.TheLaws as base_laws
use Rattle.raw_block.proofs.base.Bytes.TheLaws as bytes_laws
use Rattle.raw_block.proofs.base.Deed.TheLaws as deed_laws
use Rattle.raw_block.specs.contracts.base.Base as B
use Rattle.raw_block.specs.contracts.base.Bytes as Y
use Rattle.raw_block.specs.contracts.base.Deed as D
use Rattle.raw_block.specs.contracts.base.deallocate.{ended, clauses}
use Rattle.raw_block.specs.contracts.base.deallocate.Key.{name as #self}
use Rattle.raw_block.proofs.base.deallocate.Statement.{statement}
use Rattle.raw_block.proofs.base.deallocate.Code as compiled

pub deallocate_spec : {M : Type 1} → statement M
deallocate_spec 𝓤 𝓛 𝓜 𝓡 wired A L g d dd met md =
    let H = 𝓛.H in let En₀ = ended A g d dd in let c = clauses A g d dd 𝓛 𝓜.mem 𝓡.returns in
    let Z : RattleType = param 0 A in let Dd : RattleType = D.the_row Z g in
    let Given = RefOf {n = 2} (0 ∷ []) tt (plain (λ _. Z)) (λ _. tt) in let Where = plain {n = 2} (λ _. B.the_row) in let Count = plain {n = 2} (λ _. usize) in
    let Owner = plain {n = 2} (λ _. Y.the_row) in let Right = plain {n = 2} (λ _. Dd) in
    let args : Args = bounded (a_type ∷ []) (A, tt) (dcons d (dcons dd dnil)) in let fn : Fn = inst_fn args compiled.function in
    let stays : Stays En₀.signature.params En₀.kept =
    (stay_dropped Given En₀.kept.0, (stay_dropped Where En₀.kept.1.0, (stay_dropped Count En₀.kept.1.1.0, (stay_dropped Owner En₀.kept.1.1.1.0, (stay_dropped Right En₀.kept.1.1.1.1.0, tt))))) in
    let C = (tables 𝓤 H 𝓜 𝓡 𝓡.env).C in let Λ = (tables 𝓤 H 𝓜 𝓡 𝓡.env).Λ in
    proved_at 𝓛 En₀ stays c 𝓜 𝓡 (
      Goes-dropped 𝓛 2 Given En₀.kept.0 (λ κs x f. refl),
      (
        Goes-dropped 𝓛 2 Where En₀.kept.1.0 (λ κs x f. refl),
        (
          Goes-dropped 𝓛 2 Count En₀.kept.1.1.0 (λ κs x f. refl),
          (Goes-blank 𝓛 2 Owner En₀.kept.1.1.1.0 (λ κs x f. tt), (Goes-blank 𝓛 2 Right En₀.kept.1.1.1.1.0 (λ κs x f. tt), tt)),
        ),
      ),
    )
    (#self args) fn (compiled.unfolded 𝓤 H 𝓜 𝓡 wired (A, tt) d dd) (λ z are.
    let Post : Val → SProp 𝓤 = (walk_of 𝓛 En₀ stays c).post z in let a = z.0.3 in let vss = z.0.4 in
    let Z' : Al = record { row = A; laws = L; g = g; d = d; drops = dd } in
    let κ : Lft = z.0.0.0 in let q : Share = z.0.1.0 in let handle = a.0.now in let at = a.0.ref_ptr in let base = a.1.0 in let size : ℕ = a.1.1.0 in let bytes = a.1.1.1.0 in let deed = a.1.1.1.1.0 in
    let τ : Ty = words size in let fits : size < 2 ^ 64 = are.1.1.0.1 in
    let Asked : Type 0 = (bytes.at ≡ base.ptr) × (length bytes.items + bytes.room ≡ deed.len) × (deed.at ≡ base.ptr) × (deed.size ≡ size) × IsSizeFor size deed.len × (deed.alloc ≡ handle) in
    let told₁ = tells B.the_type base_laws.the_laws base vss.1.0 are.1.0 in let told₃ = bytes_laws.lowers.val_is bytes vss.1.1.1.0 are.1.1.1.0 in
    let told₄ = (deed_laws.lowers Z g (param_laws 0 A L)).val_is deed vss.1.1.1.1.0 are.1.1.1.1.0 in
    qed 𝓛 ((raw (alive 𝓛 En₀.signature z.0.0 z.0.1) ⊛ ‵ (owns (types_at En₀.signature.params z.0.0) a vss)) ∷ (raw (fact 𝓤 (z.0.0.1.0 ⊑ A.lives)) ⊛ raw (fact 𝓤 Asked)) ∷ []) ∵
    move ! (1 ∷ []) $ split ! $ heard ! (z.0.0.1.0 ⊑ A.lives) (λ le. heard ! Asked (λ asked. split ! $
    use1 𝓛 (‵ (flft κ q) ⊛ ‵ (flft z.0.0.1.0 z.0.1.1.0) ⊛ ‵ ftrue) (id⊢ 𝓤 _) $ split ! $ move ! (2 ∷ []) $ fsplit ! $ fsplit ! $ drop ! $ use1 𝓛 (‵ (seen Z' κ at handle)) (id⊢ 𝓤 _) $
    move ! (1 ∷ []) $ fsplit ! $ drop ! $ fsplit ! $ drop ! $ fsplit ! $ fsplit ! $ drop ! $ move ! (1 ∷ []) $ fsplit ! $ fsplit ! $ drop ! $ move ! (1 ∷ []) $ drop ! $ move ! (1 ∷ []) $
    -- [what the owner has; what the deed has; the handle; its token; the other tokens]
    rewrite ! 0 (λ (p : Ptr). ‵ (bytes_own p bytes.items bytes.room)) asked.0 refl $ in_a_block ! base.ptr (λ p. bytes_own p bytes.items bytes.room) (id⊢ 𝓤 _) (λ b o e. fsplit ! $ drop ! $
    use1 𝓛 (‵ (unwritten b o (length bytes.items + bytes.room))) (blank 𝓛 b o bytes.items bytes.room) $ rewrite ! 0 (λ (n : ℕ). ‵ (unwritten b o n)) asked.1 refl $
    rewrite ! 1 (λ (u : A.Denot × Ptr × ℕ). ‵ (deed_owns (g.dealloc_token u.0) u.1 deed.len u.2)) (λ i. (asked.5 i, (asked.2 ∙ e) i, asked.3 i)) refl $
    move ! (1 ∷ []) $ fsplit ! $ move ! (2 ∷ 0 ∷ []) $ use2 𝓛 (‵ (froom τ b o)) (apply∗ 𝓤 (sem 𝓛 (unwritten b o deed.len)) (H.room τ b o)) $
    -- [the block; the allocator's token; the handle; its token; the other tokens]
    regoal ! (λ (us : List Val). prop (WpFn 𝓤 H C Λ fn us Post)) (λ i. are.0.0 i ++ ((told₁ ∙ ap (λ (p : Ptr). word p ∷ []) e) i ++ (are.1.1.0.0 i ++ (told₃ i ++ (told₄ i ++ []))))) refl $
    let call = at_gives Z' 𝓛 𝓜.mem 𝓡.returns κ q at handle b o size 16 τ in let even = asked.4.1 in
    enter ! C Λ fn (vptr at.0 at.1 ∷ word (block_ptr b o) ∷ vint w64 size ∷ no_fields ∷ mark ∷ []) Post $
    alloc_all ! (λ l. pass_all ! refl ((tt, tt), (word-Good [] (block_ptr b o), ((tt, record { fits = fits }), ((tt, tt), ((tt, (tt, tt)), tt))))) $
    let En : Env 𝓤 H = env fn.locals l in
    first ! $ blocks ! $ group ! 4 $
    use1 𝓛 (raw ((Gives Z' 𝓛 𝓜.mem 𝓡.returns).pre call)) (Gives-goes Z' 𝓛 𝓜.mem 𝓡.returns κ q at handle (⊑_trans κ z.0.0.1.0 A.lives z.0.2.0 le) b o size 16 τ (capped_is (size / 16 * 16) (omega arith) ∙ omega arith) refl fits (lit< tt)) $
    calls_at_last ! (fm 𝓛 𝓜 𝓡) (Gives Z' 𝓛 𝓜.mem 𝓡.returns) (met.deallocate dd) call (and_then ! (get ! refl) (and_then ! (get_in ! (fld ! refl (stop !)) (sub ! 0 refl (whole !))) (and_then ! (get ! refl) (and_then ! (lit ! tt) (no_more !))))) (λ v.
    use1 𝓛 (later (given (v ≡ vunit) (‵ (flft κ q)))) (Gives-Gives Z' 𝓛 𝓜.mem 𝓡.returns κ q at handle b o size 16 τ v) $ await ! tt $ learn ! (λ done_with.
    lands_last ! refl (subst (λ (u : Val). T (has_ty ty_unit u) × WT u) (sym done_with) (tt, tt)) $ exec ! C Λ En (after 1 fn.body) (at_ret En Post) $
    sets ! (of_opd ! (unit_lit !)) refl (tt, tt) $ returns ! (look_at ! 0 refl) $ free_all ! refl $ keep ! (0 ∷ 1 ∷ []) $
    suffices ! _ (ends_at 𝓛 En₀ stays c z vunit tt (tt, (tt, (tt, (tt, (tt, tt))))) (tt, (tt, (tt, (tt, (tt, tt)))))) $
    join ! $ feq_i ! (List Val) (vunit ∷ []) (vunit ∷ []) refl $ nothing ! $ nothing ! $ fjoin ! $ nothing ! $ fjoin ! $ nothing ! $ fjoin ! $ nothing ! $ fjoin ! $ nothing ! $ fjoin ! $ join ! $
    move ! (1 ∷ 0 ∷ []) $ join ! $ nothing ! $ move ! (1 ∷ 0 ∷ []) $ done !)))))))
