-- Byte strings of an array that are cut: only NULs at the end of all of them are lost.
use Rattle.std.proofs.Common.{◌≡◌, ◌+◌, ◌-◌, ◌≤◌, ℕ, true, List, [], ◌∷◌, ◌++◌, map, length, get_or, min, take, drop, replicate, All, refl, sym, ap, ◌∙◌, arith, length-append, length-take, length-drop}
use Rattle.elementwise.proofs.Words.{take-take, take-replicate, length-replicate, All-head, All-tail, take-append-add, Bytes, LeafValue, text, without_nuls, item_size, item_from, without_nuls-back, without_nuls-more, length-without_nuls, nuls, item_at, Items, offsets, length-offsets, view_through, can_stretch, broadcast_index, ScalarDescr, stretched_items, items_stretched, pairwise, CanCut}
use Rattle.elementwise.proofs.ShrunkLaws.{all_through}

-- a byte string that is cut after its last byte that is not NUL
cut : (bytes : List ℕ) (n : ℕ) → length (without_nuls bytes) ≤ n → n ≤ length bytes → without_nuls (take n bytes) ≡ without_nuls bytes
cut bytes n most within =
    let kept = without_nuls bytes in
    let more = n - length kept in
    let zeros : List ℕ = replicate (nuls bytes) 0 in
    let whole : kept ++ zeros ≡ bytes = without_nuls-back bytes in
    let at : n ≡ length kept + more = omega arith in
    let few : more ≤ nuls bytes = omega (arith, ap length whole, length-append kept zeros, length-replicate {A = ℕ} (nuls bytes) 0) in
    ap without_nuls ((λ i. take (at i) (sym whole i)) ∙ take-append-add kept zeros more ∙ ap (λ rest. kept ++ rest) (take-replicate more (nuls bytes) 0 few))
    ∙ without_nuls-more kept more
    ∙ sym (without_nuls-more kept (nuls bytes))
    ∙ ap without_nuls whole

-- a byte string of an array
pub cut_item : (block : List ℕ) (width n offset : ℕ) → n ≤ width → offset + width ≤ length block → length (without_nuls (item_at offset width block)) ≤ n → without_nuls (item_at offset n block) ≡ without_nuls (item_at offset width block)
cut_item block width n offset less inside most =
    let long : length (item_at offset width block) ≡ width = omega (arith, length-take width (drop offset block), length-drop offset block) in
    ap without_nuls (sym (take-take n width (drop offset block) less)) ∙ cut (item_at offset width block) n most (omega (arith, long))

-- ---- the items

same_item : (block : List ℕ) (width n offset : ℕ) → without_nuls (item_at offset n block) ≡ without_nuls (item_at offset width block) → item_from (ScalarDescr (Bytes n)) block offset ≡ item_from (ScalarDescr (Bytes width)) block offset
same_item block width n offset same =
    ap (λ b. text (without_nuls b) ∷ []) (take-take n n (drop offset block) (omega arith))
    ∙ ap (λ b. text b ∷ []) same
    ∙ ap (λ b. text (without_nuls b) ∷ []) (sym (take-take width width (drop offset block) (omega arith)))

pub same_items : (block : List ℕ) (width n : ℕ) (os : List ℕ) → All (λ offset. without_nuls (item_at offset n block) ≡ without_nuls (item_at offset width block)) os →
    map (item_from (ScalarDescr (Bytes n)) block) os ≡ map (item_from (ScalarDescr (Bytes width)) block) os
same_items block width n [] same = refl
same_items block width n (o ∷ os) same =
    let Same = λ (offset : ℕ). without_nuls (item_at offset n block) ≡ without_nuls (item_at offset width block) in
    λ i. same_item block width n o (All-head Same o os same) i ∷ same_items block width n os (All-tail Same o os same) i

-- the items of an array that is stretched
shown_same : (x : Items) (width n : ℕ) (shape : List ℕ) → x.descr.now ≡ ScalarDescr (Bytes width) → can_stretch x.layout.now.shape shape ≡ true → CanCut x width n →
    stretched_items (ScalarDescr (Bytes n)) x.block.now x.layout.now shape ≡ items_stretched x shape
shown_same x width n shape is can cut =
    let l = x.layout.now in
    let block = x.block.now in
    let same : All (λ offset. without_nuls (item_at offset n block) ≡ without_nuls (item_at offset width block)) (offsets l) = λ k d below. cut_item block width n _ cut.0 (omega (arith, x.inside k d below, ap item_size is)) (cut.1 k d below) in
    same_items block width n (view_through (offsets l) l.shape shape (broadcast_index l.shape)) (all_through (λ offset. without_nuls (item_at offset n block) ≡ without_nuls (item_at offset width block)) (offsets l) l.shape shape can (length-offsets l) same)
    ∙ λ i. stretched_items (sym is i) block l shape

pub trimmed_items : (f : List LeafValue → List LeafValue → List LeafValue) (x y : Items) (width n width' n' : ℕ) (shape : List ℕ) → x.descr.now ≡ ScalarDescr (Bytes width) → y.descr.now ≡ ScalarDescr (Bytes width') →
    can_stretch x.layout.now.shape shape ≡ true → can_stretch y.layout.now.shape shape ≡ true → CanCut x width n → CanCut y width' n' →
    pairwise f (stretched_items (ScalarDescr (Bytes n)) x.block.now x.layout.now shape) (stretched_items (ScalarDescr (Bytes n')) y.block.now y.layout.now shape) ≡ pairwise f (items_stretched x shape) (items_stretched y shape)
trimmed_items f x y width n width' n' shape is is' can can' cut cut' =
    λ i. pairwise f (shown_same x width n shape is can cut i) (shown_same y width' n' shape is' can' cut' i)

-- the cut items lie within the block
pub fewer_inside : (x : Items) (width n : ℕ) → x.descr.now ≡ ScalarDescr (Bytes width) → n ≤ width → All (λ offset. offset + n ≤ length x.block.now) (offsets x.layout.now)
fewer_inside x width n is less = λ k low below. omega (arith, x.inside k low below, ap item_size is)

-- no byte string is longer than the items
pub as_wide : (x : Items) (width : ℕ) → CanCut x width width
as_wide x width = (omega arith, λ k low below. omega (arith, length-without_nuls (item_at (get_or (offsets x.layout.now) k low) width x.block.now), length-take width (drop (get_or (offsets x.layout.now) k low) x.block.now)))

-- they can be cut less
pub cut_less : (x : Items) (width n m : ℕ) → n ≤ m → CanCut x width n → CanCut x width (min m width)
cut_less x width n m more cut = (omega arith, λ k low below. omega (arith, more, cut.0, cut.1 k low below))

-- a byte string of an array, in the form that the code uses
item_as : (block : List ℕ) (at width : ℕ) → take (at + width - at) (drop at block) ≡ item_at at width block
item_as block at width = ap (λ n. take n (drop at block)) (omega arith)

pub as_sliced : (block : List ℕ) (at width most : ℕ) (seen : List ℕ) → seen ≡ without_nuls (take (at + width - at) (drop at block)) → length seen ≤ most → length (without_nuls (item_at at width block)) ≤ most
as_sliced block at width most seen is low = omega (arith, low, ap length is, ap (λ b. length (without_nuls b)) (item_as block at width))

pub no_longer : (block : List ℕ) (at width : ℕ) (seen : List ℕ) → seen ≡ without_nuls (take (at + width - at) (drop at block)) → length seen ≤ width
no_longer block at width seen is =
    omega (arith, ap length is, length-without_nuls (take (at + width - at) (drop at block)), length-take (at + width - at) (drop at block))
