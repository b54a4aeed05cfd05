-- `as_mut_slice` lends the bytes, and the owner then has those last written. Assumes `Logic`.
use Rattle.std.proofs.Common.{◌≡◌, ℕ, ◌*◌, ◌^◌, ◌<◌, List, [], ◌∷◌, length, refl, sym, ◌∙◌, w64, arith}
use Rattle.raw_block.proofs.Words.{full_share, id⊢, GName, ftrue, fat, flft, named, fact, tables, sem, ‵, raw, ◌⊛◌, some, later, at_ret, ◌$◌, ◌∵◌, !, qed, done, move, keep, use1, split, join, group, pick, await, fsplit, fsplit3, fjoin, fjoin3, flt_l, rewrite, suffices, frame, whole, sub, agg, enter, of_opd, stop, fld, and_then, no_more, first, blocks, exec, returns, alloc_all, pass_all, free_all, look_at, get, get_in, sets, sets_last, env, take_at, give_at, cells, Array, u8, usize, follows, Elements, lends_Elements, whole_in, mem, layout, uint_vals, uint_Tells, Ptr, in_a_block, MutBor, MutRef, mut_vals, mut_Tells, plain, mut_ref_to, MutSlice, slice_val, nothing, heard, opens, vals, tells, Stays, walk_of, says, stay_dropped, Goes-dropped, Goes-spent_ref, ends_at, proved, word, word-Good, after, bytes_own, R}
use Rattle.raw_block.proofs.Writing.{written, Rest, back}
use Rattle.raw_block.specs.contracts.base.Base as B
use Rattle.raw_block.proofs.base.Base.TheLaws.{the_laws}
use Rattle.raw_block.specs.contracts.base.Bytes.as_mut_slice as f
use Rattle.raw_block.proofs.base.Bytes.as_mut_slice.Statement.{statement}
use Rattle.raw_block.proofs.base.Bytes.as_mut_slice.Code as code

abbrev stayed : Stays f.ended.signature.params f.ended.kept
stayed = (stay_dropped (mut_ref_to (0 ∷ []) tt (plain (λ _. R))) f.ended.kept.0, (stay_dropped (plain (λ _. B.the_row)) f.ended.kept.1.0, (stay_dropped (plain (λ _. usize)) f.ended.kept.1.1.0, tt)))

pub as_mut_slice_spec : {M : Type 1} → statement M
as_mut_slice_spec 𝓤 𝓛 𝓜 𝓡 wired =
    let c = f.clauses 𝓛 𝓜.mem 𝓡.returns in let W = walk_of 𝓛 f.ended stayed c in let 𝓣 = tables 𝓤 𝓛.H 𝓜 𝓡 𝓡.env in
    proved 𝓛 f.ended stayed c 𝓜 𝓡
    (Goes-spent_ref 𝓛 1 (0 ∷ []) tt (plain (λ _. R)), (Goes-dropped 𝓛 1 (plain (λ _. B.the_row)) f.ended.kept.1.0 (λ κs x w. refl), (Goes-dropped 𝓛 1 (plain (λ _. usize)) f.ended.kept.1.1.0 (λ κs x w. refl), tt)))
    f.Key.name code.function (code.unfolded 𝓤 𝓛.H 𝓜 𝓡 wired)
    (λ κs. (mut_vals, (vals B.the_type the_laws, (uint_vals w64, tt)))) (λ κs. (mut_Tells (named 0) κs.0 R, (tells B.the_type the_laws, (uint_Tells w64, tt)))) (λ κs qs bounds a _ are.
    let h = a.0.now in let rb = a.0.ref_ptr.0 in let ro = a.0.ref_ptr.1 in let base = a.1.0 in let len = a.1.1.0 in let xs : List ℕ = h.items in let κ = κs.0 in let q = qs.0 in
    let y : W.Ghost = ((κs, qs, bounds, a, (mut_vals a.0, (vals B.the_type the_laws base, (uint_vals w64 len, tt)))), tt) in
    let Asked : Type 0 = (base.ptr ≡ h.at) × (len ≡ length xs) in
    qed 𝓛 (((‵ (flft κ q) ⊛ ‵ ftrue) ⊛ ‵ ((MutRef (named 0) κ R).own_val a.0 (mut_vals a.0)) ⊛ ‵ (B.the_row.own_val base (vals B.the_type the_laws base)) ⊛ ‵ (usize.own_val len (uint_vals w64 len)) ⊛ ‵ ftrue) ∷ raw (fact 𝓤 Asked) ∷ []) ∵
    move ! (1 ∷ []) $ heard ! Asked (λ asked. split ! $ split ! $ keep ! (0 ∷ 2 ∷ []) $ move ! (1 ∷ []) $ split ! $ keep ! (0 ∷ 2 ∷ []) $
    enter ! _ _ _ _ _ $ alloc_all ! (λ l. pass_all ! refl ((tt, tt), (word-Good [] base.ptr, ((tt, record { fits = are.1.1.0.1 }), tt))) $
    fsplit3 ! $ move ! (1 ∷ 2 ∷ 3 ∷ []) $ opens ! tt R rb ro (λ us. move ! (1 ∷ []) $ fsplit ! $ move ! (1 ∷ []) $
    in_a_block ! h.at (λ p. bytes_own p xs h.room) (id⊢ 𝓤 _) (λ b o e. fsplit ! $ flt_l ! (λ small. fsplit ! $
    -- [the bytes; the room; what the fields own; the struct's cell; the open borrow, in three entries; the reference's pointer]
    let fits : len < 2 ^ 64 = are.1.1.0.1 in let roomy : length xs < 2 ^ 64 = omega arith in let fitting : length xs * 1 < 2 ^ 63 = omega arith in
    let way = back 𝓛 h us rb ro b o e small in let code₀ = R.coded.code h in
    take_at ! 2 $ rewrite ! 0 (λ (p : Ptr). ‵ (fat full_share (layout B.the_row) (l 2) 0 (word p))) (asked.0 ∙ e) refl $ give_at ! 2 $ first ! $ blocks ! $
    sets_last ! (agg ! (and_then ! (get_in ! (fld ! refl (stop !)) (sub ! 0 refl (whole !))) (and_then ! (get ! refl) (no_more !)))) refl (tt, (tt, (record { fits = fits }, tt))) $
    exec ! 𝓣.C 𝓣.Λ (env code.Mir.locals l) (after 1 (code.function).body) (at_ret _ (W.post y)) $ sets ! (of_opd ! (get ! refl)) refl (tt, (tt, (record { fits = fits }, tt))) $
    use1 𝓛 (‵ (cells (mem u8) xs b o)) (whole_in 𝓛 u8 xs b o) $ move ! (1 ∷ 2 ∷ 3 ∷ []) $ fjoin3 ! $ move ! (2 ∷ 3 ∷ 4 ∷ 1 ∷ 0 ∷ []) $ group ! 5 $
    use1 𝓛 (later (some (λ (δ : GName). raw (Elements 𝓛 R u8 (written h) (named 0) κ q rb ro b o a.0.ghost_name xs (roomy, fitting) (sem 𝓛 (Rest h us rb ro b o)) way δ))))
    (lends_Elements 𝓛 R u8 (written h) (named 0) κ q rb ro b o a.0.ghost_name xs (roomy, fitting) (sem 𝓛 (Rest h us rb ro b o)) way code₀ code₀) $ await ! tt $ pick ! (λ δ.
    let r : MutBor (List ℕ) = record { ref_ptr = (b, o); ghost_name = δ; now = xs } in
    returns ! (look_at ! 0 refl) $ free_all ! refl $ keep ! (0 ∷ []) $
    use1 𝓛 (‵ ((MutSlice (named 0) κ u8).own_val r (slice_val (b, o) (length xs) ∷ [])) ⊛ ‵ (flft κ q) ⊛ ‵ (follows R (Array u8 0) a.0.ghost_name δ (written h))) (id⊢ 𝓤 _) $ split ! $
    rewrite ! 0 (λ (k : ℕ). ‵ ((MutSlice (named 0) κ u8).own_val r (slice_val (b, o) k ∷ []))) (sym asked.1) refl $ move ! (1 ∷ []) $ split ! $ move ! (2 ∷ []) $
    suffices ! _ (ends_at 𝓛 f.ended stayed c y (slice_val (b, o) len) r (tt, (tt, (tt, tt))) (tt, (tt, (tt, tt)))) $
    nothing ! $ nothing ! $ fjoin ! $ nothing ! $ fjoin ! $ nothing ! $ fjoin ! $ join ! $ nothing ! $ move ! (2 ∷ 0 ∷ []) $ join ! $ join ! $ frame ! $ says ! refl $ done !)))))))
