-- Results that are appended one after another.
use Rattle.std.proofs.Common.{◌≡◌, ◌+◌, ◌*◌, ◌<◌, ◌≤◌, ◌^◌, ℕ, suc, ℤ, List, [], ◌∷◌, ◌++◌, length, take, drop, get_or, inl, inr, sym, ap, subst, ◌∙◌, arith, append_assoc, append-nil, length-append, length-drop, add-mul, add-one, one-mul, zero-mul, suc-mul, mul-le-mul_right, get_or-append-add}
use Rattle.reductions.proofs.Words.{drop-append_seam, cases_lt, map-append, length-map, get_or_append_left, drop-append-le, take-append-le, take_all, Scalar, length-encode, size, encode, number, place, item_at, StridedAxis, Run, run_along, run_offsets, length-run_offsets, run_offsets-more, Red, Lines, numbers_at, lines, IsStored, IsReduced, AreReduced, AddsReduced, IsPushed, line_run}
use Rattle.reductions.proofs.LineLaws.{front, fewer_within, length-numbers}

-- a result ends before a later one begins
before_next : (j k width : ℕ) → j < k → j * width + width ≤ k * width
before_next j k width low = let most : suc j * width ≤ k * width = mul-le-mul_right width low in omega (arith, most, suc-mul j width)

front_kept : (o width : ℕ) (xs ys : List ℕ) → o + width ≤ length xs → item_at o width (xs ++ ys) ≡ item_at o width xs
front_kept o width xs ys fits = ap (take width) (drop-append-le o xs ys (omega (arith, fits))) ∙ take-append-le width (drop o xs) ys (omega (arith, length-drop o xs, fits))

module _ (reduction : Red) (scalar : Scalar) (bytes : List ℕ) (width : ℕ) where
  pub adds_all : (lists more : List (List ℕ)) (a b c : List ℕ × ℕ) → AddsReduced reduction scalar bytes width lists a b → AddsReduced reduction scalar bytes width more b c → AddsReduced reduction scalar bytes width (lists ++ more) a c
  adds_all lists more a b c former latter = record {
    items = λ done are. subst (λ ls. AreReduced reduction scalar bytes width ls c.0) (append_assoc done lists more) (latter.items (done ++ lists) (former.items done are));
    left =
        let both : length (lists ++ more) * width ≡ length lists * width + length more * width = ap (λ n. n * width) (length-append lists more) ∙ add-mul (length lists) (length more) width in
        omega (arith, former.left, latter.left, both);
  }

  pub adds_none : (a : List ℕ × ℕ) → AddsReduced reduction scalar bytes width [] a a
  adds_none a = record {
    items = λ done are. subst (λ ls. AreReduced reduction scalar bytes width ls a.0) (sym (append-nil done)) are;
    left = let none : 0 * width ≡ 0 = zero-mul width in omega (arith, none);
  }

  -- one more result
  one_more : (done : List (List ℕ)) (list out item : List ℕ) → length item ≡ width → IsReduced reduction scalar (numbers_at scalar bytes list) item → AreReduced reduction scalar bytes width done out → AreReduced reduction scalar bytes width (done ++ list ∷ []) (out ++ item)
  one_more done list out item wide is are =
      let many : length (done ++ list ∷ []) ≡ length done + 1 = length-append done (list ∷ []) in
      let Is = λ (k : ℕ). IsReduced reduction scalar (numbers_at scalar bytes (get_or (done ++ list ∷ []) k [])) (item_at (k * width) width (out ++ item)) in
      record {
        len =
            let both : length (done ++ list ∷ []) * width ≡ length done * width + 1 * width = ap (λ n. n * width) many ∙ add-mul (length done) 1 width in
            omega (arith, length-append out item, wide, are.len, both, one-mul width);
        each = λ k low. elim (cases_lt k (length done)) as (λ _. Is k) [
          | inl early ↦
              let fits = before_next k (length done) width early in
              subst (λ l. IsReduced reduction scalar (numbers_at scalar bytes l) (item_at (k * width) width (out ++ item))) (sym (get_or_append_left done (list ∷ []) [] k early))
              (subst (IsReduced reduction scalar (numbers_at scalar bytes (get_or done k []))) (sym (front_kept (k * width) width out item (omega (arith, fits, are.len)))) (are.each k early))
          | inr late ↦
              let none : length done + 0 ≡ length done = omega arith in
              let at : get_or (done ++ list ∷ []) (length done) [] ≡ list = ap (λ n. get_or (done ++ list ∷ []) n []) (sym none) ∙ get_or-append-add done (list ∷ []) 0 [] in
              let there : item_at (length done * width) width (out ++ item) ≡ item =
              ap (λ m. take width (drop m (out ++ item))) (sym are.len) ∙ ap (take width) (drop-append_seam out item) ∙ take_all width item (omega (arith, wide)) in
              let last : length done ≡ k = omega (arith, low, many, late) in
              subst Is last
              (subst (λ l. IsReduced reduction scalar (numbers_at scalar bytes l) (item_at (length done * width) width (out ++ item))) (sym at)
              (subst (IsReduced reduction scalar (numbers_at scalar bytes list)) (sym there) is))
        ];
      }

  pub adds_one : (list : List ℕ) (to : Scalar) (z : ℤ) (a b : List ℕ × ℕ) → size to ≡ width → IsPushed to width z a b → IsReduced reduction scalar (numbers_at scalar bytes list) (encode to (number z)) → AddsReduced reduction scalar bytes width (list ∷ []) a b
  adds_one list to z a b wide p is = record {
    items = λ done are. subst (AreReduced reduction scalar bytes width (done ++ list ∷ [])) (sym p.0) (one_more done list a.0 (encode to (number z)) (length-encode to (number z) ∙ wide) is are);
    left = omega (arith, p.2, one-mul width);
  }

-- ---- lines

pub length-lines : (axis : StridedAxis) (run : Run) → length (lines axis (run_offsets run)) ≡ run.count
length-lines axis run = length-map (run_offsets run) (λ offset. run_offsets (run_along axis offset)) ∙ length-run_offsets run

lines_more : (l : Lines) (j : ℕ) → j < l.starts.run.count → lines l.axis (run_offsets (front (j + 1) l.starts.run)) ≡ lines l.axis (run_offsets (front j l.starts.run)) ++ run_offsets (line_run l j) ∷ []
lines_more l j low =
    let run = l.starts.run in
    ap (λ n. lines l.axis (run_offsets (front n run))) (add-one j)
    ∙ ap (lines l.axis) (run_offsets-more (length l.starts.bytes.now) run.offset run.step l.starts.width j (fewer_within (length l.starts.bytes.now) l.starts.width run (suc j) (omega (arith, low)) l.starts.within))
    ∙ map-append (λ offset. run_offsets (run_along l.axis offset)) (run_offsets (front j run)) (place run.offset run.step j ∷ [])

pub line_added : (reduction : Red) (scalar to : Scalar) (width : ℕ) (meaning : List ℤ → ℤ) (l : Lines) (j : ℕ) (z : ℤ) (a b c : List ℕ × ℕ) → j < l.starts.run.count →
    AddsReduced reduction scalar l.starts.bytes.now width (lines l.axis (run_offsets (front j l.starts.run))) a b →
    size to ≡ width → IsPushed to width z b c → ((out : List ℕ) (numbers : List ℤ) → length numbers < 2 ^ 63 → IsStored to (meaning numbers) out → IsReduced reduction scalar numbers out) →
    z ≡ meaning (numbers_at scalar l.starts.bytes.now (run_offsets (line_run l j))) →
    AddsReduced reduction scalar l.starts.bytes.now width (lines l.axis (run_offsets (front (j + 1) l.starts.run))) a c
line_added reduction scalar to width meaning l j z a b c low so_far wide p gives same =
    let bytes = l.starts.bytes.now in
    let list = run_offsets (line_run l j) in
    let few : length (numbers_at scalar bytes list) < 2 ^ 63 = omega (arith, l.few, length-numbers scalar bytes (line_run l j)) in
    let is = gives (encode to (number z)) (numbers_at scalar bytes list) few (subst (λ v. IsStored to v (encode to (number z))) same p.1) in
    subst (λ ls. AddsReduced reduction scalar bytes width ls a c) (sym (lines_more l j low))
    (adds_all reduction scalar bytes width (lines l.axis (run_offsets (front j l.starts.run))) (list ∷ []) a b c so_far (adds_one reduction scalar bytes width list to z b c wide p is))

-- there is room for the next result
pub has_room : (reduction : Red) (scalar : Scalar) (width : ℕ) (l : Lines) (j : ℕ) (a b : List ℕ × ℕ) → j < l.starts.run.count → l.starts.run.count * width ≤ a.1 →
    AddsReduced reduction scalar l.starts.bytes.now width (lines l.axis (run_offsets (front j l.starts.run))) a b → width ≤ b.1
has_room reduction scalar width l j a b low room so_far =
    let done : length (lines l.axis (run_offsets (front j l.starts.run))) * width ≡ j * width = ap (λ n. n * width) (length-lines l.axis (front j l.starts.run)) in
    omega (arith, before_next j l.starts.run.count width low, room, so_far.left, done)

-- ---- all results

module _ (reduction : Red) (scalar : Scalar) (bytes : List ℕ) (width n : ℕ) (lists : List (List ℕ)) (a b : List ℕ × ℕ) (start : a ≡ ([], n)) (adds : AddsReduced reduction scalar bytes width lists a b) where
  pub whole : AreReduced reduction scalar bytes width lists b.0
  whole = adds.items [] (subst (λ (p : List ℕ × ℕ). AreReduced reduction scalar bytes width [] p.0) (sym start) (record { len = sym (zero-mul width); each = λ k low. absurd (omega (arith, low)) }))

  pub full : n ≡ length lists * width → b.1 ≡ 0
  full is = let room : a.1 ≡ n = ap (λ (p : List ℕ × ℕ). p.1) start in omega (arith, adds.left, room, is)
