-- `run_mut` lends some of the bytes as arrays, and the owner then has those last written. Assumes `Logic`.
use Rattle.std.proofs.Common.{◌≡◌, ℕ, ◌+◌, ◌*◌, ◌^◌, ◌<◌, ◌≤◌, List, [], ◌∷◌, ◌++◌, length, take, refl, sym, ap, subst, ◌∙◌, w64, arith, append_assoc, length-append, length-take, length-drop}
use Rattle.raw_block.proofs.Words.{drop_front, take-append-drop, drop-drop, Ura, full_share, ent, sep, id⊢, Fml, GName, ftrue, fsep, fat, flft, at_mul, cut_app, join_app, after_some, inst_fn, Args, Fn, named, a_number, Val, ◌⊑◌, fact, tables, Logic, sem, ‵, raw, ◌⊛◌, some, given, later, at_ret, ◌$◌, ◌∵◌, !, qed, by, done, move, keep, use1, use2, split, split3, join, group, learn, pick, await, fsplit, fsplit3, fjoin, fjoin3, flt_l, rewrite, suffices, frame, whole, sub, agg, enter, of_opd, bin, stop, fld, and_then, no_more, first, blocks, exec, returns, alloc_all, pass_all, free_all, look_at, get, get_in, sets, sets_last, env, take_at, give_at, cells, Array, u8, usize, follows, Elements, lends_Elements, whole_in, mem, layout, layouts, number, uint_vals, uint_Tells, Ptr, block_ptr, in_a_block, MutBor, MutRef, mut_vals, mut_Tells, plain, mut_ref_to, MutSlice, Room, slice_val, nothing, heard, opens, vals, tells, Stays, walk_of, says, stay_dropped, Goes-dropped, Goes-spent_ref, ends_at, length-first_chunks, runs_in, runs_out, proved, flat_map, first_chunks, word, word-Good, after, put, bytes_own, R}
use Rattle.raw_block.specs.contracts.base.Base as B
use Rattle.raw_block.proofs.base.Base.TheLaws.{the_laws}
use Rattle.raw_block.proofs.Writing.{written, Rest, back}
use Rattle.raw_block.specs.contracts.base.Bytes.run_mut as f
use Rattle.raw_block.proofs.base.Bytes.run_mut.Statement.{statement}
use Rattle.raw_block.proofs.base.Bytes.run_mut.Code as code

-- the offset of the bytes that are k bytes further on
past_some : (o k : ℕ) → after_some o 1 k ≡ k + o
past_some o k = at_mul o 1 k ∙ omega arith

one_each : (n N : ℕ) → n * (N * 1) ≡ n * N
one_each n N = let same : N * 1 ≡ N = omega arith in ap (λ k. n * k) same

module _ {M : Type 1} {𝓤 : Ura M} (𝓛 : Logic 𝓤) (h : R.Denot) (us : List Val) (rb ro b o at n N : ℕ) where
  abbrev xs : List ℕ
  xs = h.items

  abbrev mid : List ℕ
  mid = take (n * N) (drop_front at xs)

  abbrev end : List ℕ
  end = drop_front (n * N) (drop_front at xs)

  abbrev ys : List (List ℕ)
  ys = first_chunks N n mid

  -- the bytes, if `ws` are the arrays written last
  abbrev with_run : List (List ℕ) → List ℕ
  with_run ws = put at (flat_map (λ x. x) ws) xs

  -- everything that the owner has except the bytes of the arrays
  abbrev Others : Fml
  Others = fsep (cells (mem u8) (take at xs) b o) (fsep (cells (mem u8) end b (n * N + (at + o))) (Rest h us rb ro b o))

  module _ (within : at + n * N ≤ length xs) where
    long : length mid ≡ n * N
    long = omega (arith, length-take (n * N) (drop_front at xs), length-drop at xs)

    cut : xs ≡ take at xs ++ (mid ++ end)
    cut = sym (take-append-drop at xs) ∙ ap (λ l. take at xs ++ l) (sym (take-append-drop (n * N) (drop_front at xs)))

    front_long : length (take at xs) ≡ at
    front_long = omega (arith, length-take at xs)

    module _ (ws : List (List ℕ)) (counted : length (flat_map (λ x. x) ws) ≡ n * N) where
      abbrev flat : List ℕ
      flat = flat_map (λ x. x) ws

      whole_again : take at xs ++ (flat ++ end) ≡ with_run ws
      whole_again =
          let last : end ≡ drop_front (at + length flat) xs = drop-drop (n * N) at xs ∙ ap (λ k. drop_front (at + k) xs) (sym counted) in
          sym (append_assoc (take at xs) flat end) ∙ ap (λ l. take at xs ++ flat ++ l) last

      same_length : length (with_run ws) ≡ length xs
      same_length = ap length (sym whole_again) ∙ length-append (take at xs) (flat ++ end) ∙ omega (arith, length-append flat end, counted, front_long, within, length-drop (n * N) (drop_front at xs), length-drop at xs)

    back_run : h.at ≡ block_ptr b o → length xs + h.room < 2 ^ 63 → (ws : List (List ℕ)) → length ws ≡ length ys
        → ent 𝓤 (sep 𝓤 (sem 𝓛 (cells (mem (Array u8 N)) ws b (at + o))) (sem 𝓛 Others)) (sem 𝓛 ((mem R).own_at (written h (with_run ws)) rb ro))
    back_run e small ws same =
        let flat : List ℕ = flat_map (λ x. x) ws in
        qed 𝓛 (‵ (cells (mem (Array u8 N)) ws b (at + o)) ∷ ‵ Others ∷ []) ∵
        use1 𝓛 (given (length flat ≡ length ws * N) (‵ (cells (mem u8) flat b (at + o)))) (runs_out 𝓛 u8 tt N b ws (at + o)) $ learn ! (λ l.
        let counted : length flat ≡ n * N = l ∙ ap (λ k. k * N) (same ∙ length-first_chunks N n mid) in
        let there : n * N + (at + o) ≡ after_some (at + o) 1 (length flat) = sym (past_some (at + o) (length flat) ∙ ap (λ k. k + (at + o)) counted) in
        let here : at + o ≡ after_some o 1 (length (take at xs)) = sym (past_some o (length (take at xs)) ∙ ap (λ k. k + o) front_long) in
        move ! (1 ∷ []) $ fsplit ! $ move ! (1 ∷ []) $ fsplit ! $ move ! (3 ∷ 0 ∷ []) $
        -- [the bytes of the arrays; those after them; the rest; those before them]
        rewrite ! 1 (λ (k : ℕ). ‵ (cells (mem u8) end b k)) there refl $ use2 𝓛 (‵ (cells (mem u8) (flat ++ end) b (at + o))) (join_app 𝓛 (mem u8) flat end b (at + o)) $
        rewrite ! 0 (λ (k : ℕ). ‵ (cells (mem u8) (flat ++ end) b k)) here refl $ move ! (2 ∷ 0 ∷ []) $
        use2 𝓛 (‵ (cells (mem u8) (take at xs ++ (flat ++ end)) b o)) (join_app 𝓛 (mem u8) (take at xs) (flat ++ end) b o) $
        rewrite ! 0 (λ (l : List ℕ). ‵ (cells (mem u8) l b o)) (whole_again ws counted) refl $
        by ! (back 𝓛 h us rb ro b o e small (with_run ws) (same_length ws counted)))

pub run_mut_spec : {M : Type 1} → statement M
run_mut_spec 𝓤 𝓛 𝓜 𝓡 wired N _ =
    let E = f.ended (number N) in let c = f.clauses (number N) 𝓛 𝓜.mem 𝓡.returns in let 𝓣 = tables 𝓤 𝓛.H 𝓜 𝓡 𝓡.env in
    let args : Args = layouts (a_number ∷ []) (number N, tt) in let fn : Fn = inst_fn args code.function in
    let Given = mut_ref_to {n = 2} (0 ∷ []) tt (plain (λ _. R)) in let Where = plain {n = 2} (λ _. B.the_row) in let Count = plain {n = 2} (λ _. usize) in
    let stays : Stays E.signature.params E.kept = (stay_dropped Given E.kept.0, (stay_dropped Where E.kept.1.0, (stay_dropped Count E.kept.1.1.0, (stay_dropped Count E.kept.1.1.1.0, tt)))) in
    let W = walk_of 𝓛 E stays c in
    proved 𝓛 E stays c 𝓜 𝓡
    (Goes-spent_ref 𝓛 2 (0 ∷ []) tt (plain (λ _. R)), (Goes-dropped 𝓛 2 Where E.kept.1.0 (λ κs x w. refl), (Goes-dropped 𝓛 2 Count E.kept.1.1.0 (λ κs x w. refl), (Goes-dropped 𝓛 2 Count E.kept.1.1.1.0 (λ κs x w. refl), tt))))
    (f.Key.name args) fn (code.unfolded 𝓤 𝓛.H 𝓜 𝓡 wired (number N, tt))
    (λ κs. (mut_vals, (vals B.the_type the_laws, (uint_vals w64, (uint_vals w64, tt))))) (λ κs. (mut_Tells (named 0) κs.0 R, (tells B.the_type the_laws, (uint_Tells w64, (uint_Tells w64, tt))))) (λ κs qs bounds a g are.
    let h = a.0.now in let rb = a.0.ref_ptr.0 in let ro = a.0.ref_ptr.1 in let base = a.1.0 in let at : ℕ = a.1.1.0 in let n : ℕ = a.1.1.1.0 in let κ = κs.0 in let q = qs.0 in
    let items : List ℕ = h.items in
    let y : W.Ghost = ((κs, qs, bounds, a, (mut_vals a.0, (vals B.the_type the_laws base, (uint_vals w64 at, (uint_vals w64 n, tt))))), g) in
    let Asked : Type 0 = (base.ptr ≡ h.at) × (at + n * N ≤ length items) in
    qed 𝓛 (((‵ (flft κ q) ⊛ ‵ (flft κs.1.0 qs.1.0) ⊛ ‵ ftrue) ⊛ ‵ ((MutRef (named 0) κ R).own_val a.0 (mut_vals a.0)) ⊛ ‵ (B.the_row.own_val base (vals B.the_type the_laws base)) ⊛ ‵ (usize.own_val at (uint_vals w64 at)) ⊛ ‵ (usize.own_val n (uint_vals w64 n)) ⊛ ‵ ftrue)
    ∷ (raw (fact 𝓤 (κs.1.0 ⊑ [])) ⊛ raw (fact 𝓤 (N * 1 < 2 ^ 63)) ⊛ raw (fact 𝓤 Asked)) ∷ []) ∵
    move ! (1 ∷ []) $ split3 ! $ heard ! (κs.1.0 ⊑ []) (λ _. heard ! (N * 1 < 2 ^ 63) (λ _. heard ! Asked (λ asked.
    split ! $ split ! $ move ! (2 ∷ []) $ split ! $ keep ! (0 ∷ 2 ∷ 3 ∷ []) $
    enter ! _ _ _ _ _ $ alloc_all ! (λ l. pass_all ! refl ((tt, tt), (word-Good [] base.ptr, ((tt, record { fits = are.1.1.0.1 }), ((tt, record { fits = are.1.1.1.0.1 }), tt)))) $
    fsplit3 ! $ move ! (1 ∷ 2 ∷ 3 ∷ []) $ opens ! tt R rb ro (λ us. move ! (1 ∷ []) $ fsplit ! $ move ! (1 ∷ []) $
    in_a_block ! h.at (λ p. bytes_own p items h.room) (id⊢ 𝓤 _) (λ b o e. fsplit ! $ flt_l ! (λ small. fsplit ! $
    -- [the bytes; the room; what the fields own; the struct's cell; the open borrow, in three entries; the reference's pointer; the other token]
    let within = asked.1 in let fits : n < 2 ^ 64 = are.1.1.1.0.1 in let arrays : List (List ℕ) = ys 𝓛 h us rb ro b o at n N in
    let many : length arrays ≡ n = length-first_chunks N n (mid 𝓛 h us rb ro b o at n N) in
    let fitting : n * (N * 1) < 2 ^ 63 = omega (arith, one_each n N, within, small) in
    let roomy : Room (Array u8 N) (length arrays) = subst (Room (Array u8 N)) (sym many) (fits, fitting) in
    let way = back_run 𝓛 h us rb ro b o at n N within e small in let code₀ = R.coded.code h in
    let front : List ℕ = take at items in let middle : List ℕ = mid 𝓛 h us rb ro b o at n N in let rest : List ℕ = end 𝓛 h us rb ro b o at n N in
    let long' : length middle ≡ n * N = long 𝓛 h us rb ro b o at n N within in
    let here : after_some o 1 (length front) ≡ at + o = past_some o (length front) ∙ ap (λ k. k + o) (front_long 𝓛 h us rb ro b o at n N within) in
    let there : after_some (at + o) 1 (length middle) ≡ n * N + (at + o) = past_some (at + o) (length middle) ∙ ap (λ k. k + (at + o)) long' in
    take_at ! 2 $ rewrite ! 0 (λ (p : Ptr). ‵ (fat full_share (layout B.the_row) (l 2) 0 (word p))) (asked.0 ∙ e) refl $ give_at ! 2 $ first ! $ blocks ! $
    sets ! (bin ! (get_in ! (fld ! refl (stop !)) (sub ! 0 refl (whole !))) (get ! refl) tt) refl (tt, tt) $
    sets ! (of_opd ! (get ! refl)) refl (tt, tt) $
    sets_last ! (agg ! (and_then ! (get ! refl) (and_then ! (get ! refl) (no_more !)))) refl (tt, (tt, (record { fits = fits }, tt))) $
    exec ! 𝓣.C 𝓣.Λ (env fn.locals l) (after 1 fn.body) (at_ret _ (W.post y)) $ sets ! (of_opd ! (get ! refl)) refl (tt, (tt, (record { fits = fits }, tt))) $
    use1 𝓛 (‵ (cells (mem u8) items b o)) (whole_in 𝓛 u8 items b o) $ rewrite ! 0 (λ (t : List ℕ). ‵ (cells (mem u8) t b o)) (cut 𝓛 h us rb ro b o at n N within) refl $
    use1 𝓛 (‵ (cells (mem u8) front b o) ⊛ ‵ (cells (mem u8) (middle ++ rest) b (after_some o 1 (length front)))) (cut_app 𝓛 (mem u8) front (middle ++ rest) b o) $ split ! $ move ! (1 ∷ []) $
    rewrite ! 0 (λ (k : ℕ). ‵ (cells (mem u8) (middle ++ rest) b k)) here refl $
    use1 𝓛 (‵ (cells (mem u8) middle b (at + o)) ⊛ ‵ (cells (mem u8) rest b (after_some (at + o) 1 (length middle)))) (cut_app 𝓛 (mem u8) middle rest b (at + o)) $ split ! $
    rewrite ! 1 (λ (k : ℕ). ‵ (cells (mem u8) rest b k)) there refl $
    use1 𝓛 (‵ (cells (mem (Array u8 N)) arrays b (at + o))) (runs_in 𝓛 u8 tt N b n middle (at + o) (sym long')) $
    -- [the arrays; the bytes after them; those before them; the room; ..]
    move ! (3 ∷ 4 ∷ 5 ∷ []) $ fjoin3 ! $ move ! (2 ∷ 0 ∷ []) $ fjoin ! $ move ! (2 ∷ 0 ∷ []) $ fjoin ! $ move ! (2 ∷ 3 ∷ 4 ∷ 1 ∷ 0 ∷ []) $ group ! 5 $
    let Others' = Others 𝓛 h us rb ro b o at n N in let after_all = λ (ws : List (List ℕ)). written h (with_run 𝓛 h us rb ro b o at n N ws) in
    use1 𝓛 (later (some (λ (δ : GName). raw (Elements 𝓛 R (Array u8 N) after_all (named 0) κ q rb ro b (at + o) a.0.ghost_name arrays roomy (sem 𝓛 Others') way δ))))
    (lends_Elements 𝓛 R (Array u8 N) after_all (named 0) κ q rb ro b (at + o) a.0.ghost_name arrays roomy (sem 𝓛 Others') way code₀ code₀) $ await ! tt $ pick ! (λ δ.
    let r : MutBor (List (List ℕ)) = record { ref_ptr = (b, at + o); ghost_name = δ; now = arrays } in
    returns ! (look_at ! 0 refl) $ free_all ! refl $ keep ! (0 ∷ 2 ∷ []) $
    use1 𝓛 (‵ ((MutSlice (named 0) κ (Array u8 N)).own_val r (slice_val (b, at + o) (length arrays) ∷ [])) ⊛ ‵ (flft κ q) ⊛ ‵ (follows R (Array (Array u8 N) 0) a.0.ghost_name δ after_all)) (id⊢ 𝓤 _) $ split3 ! $
    rewrite ! 0 (λ (k : ℕ). ‵ ((MutSlice (named 0) κ (Array u8 N)).own_val r (slice_val (b, at + o) k ∷ []))) many refl $
    suffices ! _ (ends_at 𝓛 E stays c y (slice_val (b, at + o) n) r (tt, (tt, (tt, (tt, tt)))) (tt, (tt, (tt, (tt, tt))))) $
    nothing ! $ nothing ! $ fjoin ! $ nothing ! $ fjoin ! $ nothing ! $ fjoin ! $ nothing ! $ fjoin ! $ join ! $ move ! (1 ∷ 3 ∷ []) $ join ! $ join ! $ frame ! $ says ! refl $ done !)))))))))
