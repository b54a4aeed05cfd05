-- `as_slice` shows the bytes that the owner lends. Assumes `Logic`.
use Rattle.std.proofs.Common.{◌≡◌, ℕ, ◌*◌, ◌^◌, ◌<◌, List, [], ◌∷◌, length, refl, ap, ◌∙◌, w64, arith}
use Rattle.raw_block.proofs.Words.{full_share, id⊢, ftrue, fat, flft, named, Val, fact, tables, ‵, raw, ◌⊛◌, at_ret, ◌$◌, ◌∵◌, !, qed, done, move, keep, split, join, fsplit, fjoin, feq_i, flt_l, flt_i, rewrite, suffices, frame, whole, sub, agg, enter, of_opd, stop, fld, and_then, no_more, first, blocks, exec, returns, alloc_all, pass_all, free_all, look_at, get, get_in, sets, sets_last, env, take_at, give_at, usize, RefOf, hide, unhide, layout, uint_vals, uint_Tells, Ptr, in_a_block, Bor, ShrRef, shr_vals, shr_Tells, plain, slice_val, nothing, heard, vals, tells, Stays, walk_of, says, stay_dropped, Goes-dropped, ends_at, proved, word, word-Good, after, bytes_lent, R}
use Rattle.raw_block.specs.contracts.base.Base as B
use Rattle.raw_block.proofs.base.Base.TheLaws.{the_laws}
use Rattle.raw_block.specs.contracts.base.Bytes.as_slice as f
use Rattle.raw_block.proofs.base.Bytes.as_slice.Statement.{statement}
use Rattle.raw_block.proofs.base.Bytes.as_slice.Code as code

abbrev stayed : Stays f.ended.signature.params f.ended.kept
stayed = (stay_dropped (RefOf (0 ∷ []) tt (plain (λ _. R)) (λ _. tt)) f.ended.kept.0, (stay_dropped (plain (λ _. B.the_row)) f.ended.kept.1.0, (stay_dropped (plain (λ _. usize)) f.ended.kept.1.1.0, tt)))

pub as_slice_spec : {M : Type 1} → statement M
as_slice_spec 𝓤 𝓛 𝓜 𝓡 wired =
    let c = f.clauses 𝓛 𝓜.mem 𝓡.returns in let W = walk_of 𝓛 f.ended stayed c in let 𝓣 = tables 𝓤 𝓛.H 𝓜 𝓡 𝓡.env in
    proved 𝓛 f.ended stayed c 𝓜 𝓡
    (Goes-dropped 𝓛 1 (RefOf (0 ∷ []) tt (plain (λ _. R)) (λ _. tt)) f.ended.kept.0 (λ κs x w. refl), (Goes-dropped 𝓛 1 (plain (λ _. B.the_row)) f.ended.kept.1.0 (λ κs x w. refl), (Goes-dropped 𝓛 1 (plain (λ _. usize)) f.ended.kept.1.1.0 (λ κs x w. refl), tt)))
    f.Key.name code.function (code.unfolded 𝓤 𝓛.H 𝓜 𝓡 wired)
    (λ κs. (shr_vals, (vals B.the_type the_laws, (uint_vals w64, tt)))) (λ κs. (shr_Tells (named 0) κs.0 R, (tells B.the_type the_laws, (uint_Tells w64, tt)))) (λ κs qs bounds a _ are.
    let h = a.0.now in let base = a.1.0 in let len = a.1.1.0 in let xs : List ℕ = h.items in let κ = κs.0 in
    let y : W.Ghost = ((κs, qs, bounds, a, (shr_vals a.0, (vals B.the_type the_laws base, (uint_vals w64 len, tt)))), tt) in
    let Asked : Type 0 = (base.ptr ≡ h.at) × (len ≡ length xs) in
    qed 𝓛 (((‵ (flft κ qs.0) ⊛ ‵ ftrue) ⊛ ‵ ((ShrRef (named 0) κ R).own_val a.0 (shr_vals a.0)) ⊛ ‵ (B.the_row.own_val base (vals B.the_type the_laws base)) ⊛ ‵ (usize.own_val len (uint_vals w64 len)) ⊛ ‵ ftrue) ∷ raw (fact 𝓤 Asked) ∷ []) ∵
    move ! (1 ∷ []) $ heard ! Asked (λ asked. split ! $ split ! $ keep ! (0 ∷ 2 ∷ []) $ move ! (1 ∷ []) $ split ! $ keep ! (0 ∷ 2 ∷ []) $
    enter ! _ _ _ _ _ $ alloc_all ! (λ l. pass_all ! refl ((tt, tt), (word-Good [] base.ptr, ((tt, record { fits = are.1.1.0.1 }), tt))) $
    fsplit ! $ move ! (1 ∷ []) $ unhide ! $ fsplit ! $ move ! (1 ∷ []) $
    in_a_block ! h.at (λ p. bytes_lent p xs h.room κ) (id⊢ 𝓤 _) (λ b o e. fsplit ! $ flt_l ! (λ small.
    let fits : len < 2 ^ 64 = are.1.1.0.1 in
    take_at ! 2 $ rewrite ! 0 (λ (p : Ptr). ‵ (fat full_share (layout B.the_row) (l 2) 0 (word p))) (asked.0 ∙ e) refl $ give_at ! 2 $ first ! $ blocks ! $
    sets_last ! (agg ! (and_then ! (get_in ! (fld ! refl (stop !)) (sub ! 0 refl (whole !))) (and_then ! (get ! refl) (no_more !)))) refl (tt, (tt, (record { fits = fits }, tt))) $
    exec ! 𝓣.C 𝓣.Λ (env code.Mir.locals l) (after 1 (code.function).body) (at_ret _ (W.post y)) $ sets ! (of_opd ! (get ! refl)) refl (tt, (tt, (record { fits = fits }, tt))) $
    hide ! $ flt_i ! (length xs * 1) (2 ^ 63) (omega arith) $ flt_i ! (length xs) (2 ^ 64) (omega arith) $ fjoin ! $
    feq_i ! (List Val) (slice_val (b, o) len ∷ []) (slice_val (b, o) (length xs) ∷ []) (ap (λ k. slice_val (b, o) k ∷ []) asked.1) $ fjoin ! $ fjoin ! $
    -- [the slice; what the fields lend; the reference's pointer; the token]
    returns ! (look_at ! 0 refl) $ free_all ! refl $ keep ! (3 ∷ 0 ∷ []) $
    let r : Bor (List ℕ) = record { ref_ptr = (b, o); now = xs } in
    suffices ! _ (ends_at 𝓛 f.ended stayed c y (slice_val (b, o) len) r (tt, (tt, (tt, tt))) (tt, (tt, (tt, tt)))) $ says ! refl $
    nothing ! $ move ! (1 ∷ 0 ∷ []) $ join ! $ frame ! $ nothing ! $ nothing ! $ fjoin ! $ nothing ! $ fjoin ! $ nothing ! $ fjoin ! $ done !)))))
