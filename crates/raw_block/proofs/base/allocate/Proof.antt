-- `allocate` lends out the first bytes of a new block, and keeps the right to free it. Assumes `Logic`.
use Rattle.std.proofs.Common.{◌≡◌, ℕ, ◌+◌, ◌*◌, ◌/◌, ◌^◌, ◌<◌, List, [], ◌∷◌, ◌++◌, refl, ◌∙◌, w64, arith, lit<, Ok, Err}
use Rattle.raw_block.proofs.Words.{SProp, id⊢, Lft, Share, ftrue, fwand, froom, flft, inst_fn, Ty, Fn, Args, Body, a_type, dcons, dnil, Val, vint, vptr, vcons, vnil, ◌⊑◌, ⊑_trans, fact, tables, capped_is, Env, Wp, WpFn, after_seq, at_return, ‵, raw, ◌⊛◌, later, prop, at_ret, any_q, After, ◌$◌, ◌∵◌, !, qed, done, move, keep, use0, use1, use2, use3, split, join, fsplit, fjoin, flt_i, await, regoal, rewrite, suffices, frame, live, vrt, in_variant, whole, agg, enter, of_opd, lit, stop, fld, and_then, no_more, first, exec, returns, switches_on, alloc_all, pass_all, free_all, look_at, get, get_in, get_tag, sets, sets_last, lands_as, env, usize, RefOf, Is, param, bounded, RattleType, owns, Ptr, block_ptr, plain, types_at, type_at, nothing, heard, owned, shape, Struct, Struct-Makes, Tuple, calls_at, alive, Stays, walk_of, says, stay_dropped, Goes-dropped, ends_at, Al, seen, Takes, at_takes, Answered, Takes-goes, Takes-gives, answers, head, arm_body, fm, proved_at, word, word-Good, ok_of, err_of, words, unwritten, IsSizeFor, ended, clauses, #self}
use types.Kit.{drop}
use denote.Struct.Declared as Declared
use Rattle.core.proofs.alloc.Shapes.{after}
use Rattle.core.specs.contracts.alloc.AllocError as AE
use Rattle.raw_block.proofs.Carving.{carve}
use Rattle.raw_block.proofs.Values.{no_fields, mark, three_val, base_made, bytes_made, deed_made, three_of}
use Rattle.raw_block.specs.contracts.base.Base as B
use Rattle.raw_block.specs.contracts.base.Bytes as Y
use Rattle.raw_block.specs.contracts.base.Deed as D
use Rattle.raw_block.proofs.base.allocate.Statement.{statement}
use Rattle.raw_block.proofs.base.allocate.Code as compiled

pub allocate_spec : {M : Type 1} → statement M
allocate_spec 𝓤 𝓛 𝓜 𝓡 wired A L g d dd met md =
    let H = 𝓛.H in let En₀ = ended A g d dd in let c = clauses A g d dd 𝓛 𝓜.mem 𝓡.returns in
    let Z : RattleType = param 0 A in let Given = RefOf {n = 2} (0 ∷ []) tt (plain (λ _. Z)) (λ _. tt) in let Word = plain {n = 2} (λ _. usize) in
    let args : Args = bounded (a_type ∷ []) (A, tt) (dcons d (dcons dd dnil)) in let fn : Fn = inst_fn args compiled.function in
    let stays : Stays En₀.signature.params En₀.kept = (stay_dropped Given En₀.kept.0, (stay_dropped Word En₀.kept.1.0, (stay_dropped Word En₀.kept.1.1.0, tt))) in
    let C = (tables 𝓤 H 𝓜 𝓡 𝓡.env).C in let Λ = (tables 𝓤 H 𝓜 𝓡 𝓡.env).Λ in
    proved_at 𝓛 En₀ stays c 𝓜 𝓡 (Goes-dropped 𝓛 2 Given En₀.kept.0 (λ κs x f. refl), (Goes-dropped 𝓛 2 Word En₀.kept.1.0 (λ κs x f. refl), (Goes-dropped 𝓛 2 Word En₀.kept.1.1.0 (λ κs x f. refl), tt)))
    (#self args) fn (compiled.unfolded 𝓤 H 𝓜 𝓡 wired (A, tt) d dd) (λ z are.
    let Post : Val → SProp 𝓤 = (walk_of 𝓛 En₀ stays c).post z in
    let Z' : Al = record { row = A; laws = L; g = g; d = d; drops = dd } in
    let κ : Lft = z.0.0.0 in let q : Share = z.0.1.0 in let handle = z.0.3.0.now in let at = z.0.3.0.ref_ptr in let len : ℕ = z.0.3.1.0 in let size : ℕ = z.0.3.1.1.0 in let τ : Ty = words size in
    let fits_len = are.1.0.1 in let fits : size < 2 ^ 64 = are.1.1.0.1 in
    let call = at_takes Z' 𝓛 𝓜.mem 𝓡.returns κ q at handle size 16 τ in let Asked : Type 0 = IsSizeFor size len in
    qed 𝓛 ((raw (alive 𝓛 En₀.signature z.0.0 z.0.1) ⊛ ‵ (owns (types_at En₀.signature.params z.0.0) z.0.3 z.0.4)) ∷ (raw (fact 𝓤 (z.0.0.1.0 ⊑ A.lives)) ⊛ raw (fact 𝓤 Asked)) ∷ []) ∵
    move ! (1 ∷ []) $ split ! $ heard ! (z.0.0.1.0 ⊑ A.lives) (λ le. heard ! Asked (λ asked. split ! $
    use1 𝓛 (‵ (flft κ q) ⊛ ‵ (flft z.0.0.1.0 z.0.1.1.0) ⊛ ‵ ftrue) (id⊢ 𝓤 _) $ split ! $ move ! (2 ∷ []) $ fsplit ! $ fsplit ! $ drop ! $ keep ! (0 ∷ 2 ∷ 3 ∷ []) $ use1 𝓛 (‵ (seen Z' κ at handle)) (id⊢ 𝓤 _) $
    -- [the handle; its token; the other tokens]
    regoal ! (λ (us : List Val). prop (WpFn 𝓤 H C Λ fn us Post)) (λ i. are.0.0 i ++ (are.1.0.0 i ++ (are.1.1.0.0 i ++ []))) refl $
    enter ! C Λ fn (vptr at.0 at.1 ∷ vint w64 len ∷ vint w64 size ∷ []) Post $
    alloc_all ! (λ l. pass_all ! refl ((tt, tt), ((tt, record { fits = fits_len }), ((tt, record { fits = fits }), tt))) $
    let En : Env 𝓤 H = env fn.locals l in let both : Body = head (after 1 fn.body) in
    let Then : After 𝓤 H = any_q (after_seq 𝓤 H (Wp 𝓤 H C Λ En (after 2 fn.body) (at_return 𝓤 H En Post)) (at_return 𝓤 H En Post)) in
    let even = asked.1 in let Three : RattleType = Tuple (B.the_row ∷ Y.the_row ∷ D.the_row Z g ∷ []) in let Out : RattleType = type_at En₀.signature.result z.0.0 in
    use2 𝓛 (raw ((Takes Z' 𝓛 𝓜.mem 𝓡.returns).pre call)) (Takes-goes Z' 𝓛 𝓜.mem 𝓡.returns κ q at handle (⊑_trans κ z.0.0.1.0 A.lives z.0.2.0 le) size 16 τ (capped_is (size / 16 * 16) (omega arith) ∙ omega arith) refl fits (lit< tt)) $
    calls_at ! (fm 𝓛 𝓜 𝓡) (Takes Z' 𝓛 𝓜.mem 𝓡.returns) (met.allocate dd) call (and_then ! (get ! refl) (and_then ! (get ! refl) (and_then ! (lit ! tt) (no_more !)))) (λ v.
    use1 𝓛 (later (raw (Answered Z' 𝓛 𝓜.mem 𝓡.returns handle τ v) ⊛ ‵ (flft κ q))) (Takes-gives Z' 𝓛 𝓜.mem 𝓡.returns κ q at handle size 16 τ v) $ await ! tt $ split ! $
    answers Z' ! 𝓜.mem 𝓡.returns handle τ v
    (λ b o e.
    let p : Ptr = block_ptr b o in let made : Val = three_val (word p) no_fields mark in
    let base : (B.the_row).Denot = record { ptr = p } in let bytes : (Y.the_row).Denot = record { at = p; items = []; room = len } in
    let deed : (D.the_row Z g).Denot = record { mark = record {}; at = p; len = len; size = size; alloc = handle } in
    lands_as ! e refl (tt, (record { fits = lit< tt }, (tt, tt))) $ first ! $ switches_on ! (get_tag ! (vrt ! refl (fld ! refl (stop !))) (whole !)) $ exec ! C Λ En (arm_body 0 both) Then $
    sets ! (of_opd ! (get_in ! (vrt ! refl (fld ! refl (stop !))) (in_variant ! 0 0 refl refl (whole !)))) refl (tt, tt) $
    sets ! (agg ! (and_then ! (get ! refl) (no_more !))) refl (word-Good [] p) $ sets ! (agg ! (no_more !)) refl (tt, tt) $
    sets ! (agg ! (no_more !)) refl (tt, tt) $ sets ! (agg ! (and_then ! (get ! refl) (no_more !))) refl (tt, (tt, tt)) $
    sets ! (agg ! (and_then ! (get ! refl) (and_then ! (get ! refl) (and_then ! (get ! refl) (no_more !))))) refl (tt, ((tt, tt), (tt, ((tt, tt), tt)))) $
    sets_last ! (agg ! (and_then ! (lit ! tt) (and_then ! (get ! refl) (no_more !)))) refl (tt, (record { fits = lit< tt }, (((tt, tt), (tt, ((tt, tt), tt))), tt))) $
    exec ! C Λ En (after 2 fn.body) (at_ret En Post) $ sets ! (of_opd ! (get ! refl)) refl (tt, (record { fits = lit< tt }, (((tt, tt), (tt, ((tt, tt), tt))), tt))) $
    use1 𝓛 (‵ (unwritten b o len) ⊛ ‵ (fwand (unwritten b o len) (froom τ b o))) (carve 𝓛 b o len size asked) $ split ! $
    -- [the room; what makes the block of it; the allocator's token; ..]
    let start : o ≡ o + 0 = omega arith in rewrite ! 0 (λ (k : ℕ). ‵ (unwritten b k len)) start refl $
    nothing ! $ fjoin ! $ flt_i ! (0 + len) (2 ^ 63) (omega arith) $ fjoin ! $ use0 𝓛 (‵ ((Struct (shape Y.the_type)).own_val tt (no_fields ∷ []))) (bytes_made 𝓛) $ fjoin ! $
    move ! (1 ∷ 2 ∷ []) $ fjoin ! $ use0 𝓛 (‵ ((Struct (shape (D.the_type Z g))).own_val (tt, tt) (mark ∷ []))) (deed_made 𝓛 Z g) $ fjoin ! $
    use0 𝓛 (‵ ((B.the_row).own_val base (word p ∷ []))) (base_made 𝓛 p) $ move ! (0 ∷ 2 ∷ 1 ∷ []) $
    use3 𝓛 (‵ (Three.own_val (base, bytes, deed) (made ∷ []))) (three_of 𝓛 B.the_row Y.the_row (D.the_row Z g) base bytes deed (word p) no_fields mark) $
    use1 𝓛 (‵ (Out.own_val (Ok (base, bytes, deed)) (live 0 (vcons made vnil) ∷ []))) (ok_of 𝓛 Three AE.the_row (base, bytes, deed) made) $
    returns ! (look_at ! 0 refl) $ free_all ! refl $ keep ! (0 ∷ 1 ∷ 2 ∷ []) $
    suffices ! _ (ends_at 𝓛 En₀ stays c z (live 0 (vcons made vnil)) (Ok (base, bytes, deed)) (tt, (tt, (tt, tt))) (tt, (tt, (tt, tt)))) $ says ! (refl, refl, refl, refl, refl, refl, refl) $
    move ! (1 ∷ 2 ∷ []) $ join ! $ frame ! $ nothing ! $ nothing ! $ fjoin ! $ nothing ! $ fjoin ! $ nothing ! $ fjoin ! $ done !)
    (λ e.
    let Refusal : RattleType = Struct (Declared.shape AE.the_type) in let none : Val = live 1 (vcons no_fields vnil) in
    lands_as ! e refl (tt, (record { fits = lit< tt }, (tt, tt))) $ first ! $ switches_on ! (get_tag ! (vrt ! refl (fld ! refl (stop !))) (whole !)) $ exec ! C Λ En (arm_body 1 both) Then $
    sets ! (of_opd ! (get_in ! (vrt ! refl (fld ! refl (stop !))) (in_variant ! 1 0 refl refl (whole !)))) refl (tt, tt) $
    sets_last ! (agg ! (and_then ! (lit ! tt) (and_then ! (get ! refl) (no_more !)))) refl (tt, (record { fits = lit< tt }, (tt, tt))) $
    exec ! C Λ En (after 2 fn.body) (at_ret En Post) $ sets ! (of_opd ! (get ! refl)) refl (tt, (record { fits = lit< tt }, (tt, tt))) $
    owned ! Refusal (Is Refusal) (Struct-Makes 𝓛 (Declared.shape AE.the_type) tt) tt (no_fields ∷ []) (tt, (refl, tt)) $
    use1 𝓛 (‵ (Out.own_val (Err (record {})) (none ∷ []))) (err_of 𝓛 Three AE.the_row (record {}) no_fields) $
    returns ! (look_at ! 0 refl) $ free_all ! refl $ keep ! (0 ∷ 1 ∷ 2 ∷ []) $
    suffices ! _ (ends_at 𝓛 En₀ stays c z none (Err (record {})) (tt, (tt, (tt, tt))) (tt, (tt, (tt, tt)))) $ says ! tt $
    move ! (1 ∷ 2 ∷ []) $ join ! $ frame ! $ nothing ! $ nothing ! $ fjoin ! $ nothing ! $ fjoin ! $ nothing ! $ fjoin ! $ done !))))))
