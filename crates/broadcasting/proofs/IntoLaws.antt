-- An array stretched into a target is a view of a view.
use Rattle.std.proofs.Common.{◌≡◌, inl, inr, Result, Ok, Err, ℕ, ◌-◌, ◌==◌, Bool, true, false, List, ◌++◌, length, take, drop, replicate, sym, ap, subst, ◌∙◌}
use Rattle.broadcasting.proofs.Words.{list_all, is_ok, false≢true, cases_Bool, Refusal, ShapesDoNotBroadcast, ◌>>=◌, Layout, View, IsViewOf, GivesView, view-twice, can_stretch, broadcast_index, stretched, axes_beyond, stretched_into, stretched-ok}
use Rattle.broadcasting.proofs.StretchLaws.{stretched-err}

-- ---- views of views, and refusals

gives-twice : (old mid : Layout) (first second : View) (result : Result Layout Refusal) → IsViewOf old mid first → GivesView mid result (Ok second) → GivesView old result (Ok (record { shape = second.shape; leads = λ index. first.leads (second.leads index) }))
gives-twice old mid first second (Ok new) one two = view-twice old mid new first second one two
gives-twice old mid first second (Err e) one (inl memory) = inl memory
gives-twice old mid first second (Err e) one (inr there) = absurd (false≢true (sym (ap is_ok there)))

gives-none : (old mid : Layout) (result : Result Layout Refusal) (e : Refusal) → GivesView mid result (Err e) → GivesView old result (Err e)
gives-none old mid (Ok new) e given = given
gives-none old mid (Err refusal) e given = given

-- ---- the definition, by cases

into-checked : (shape target : List ℕ) → list_all (λ n. n == 1) (take (axes_beyond (length target) shape) shape) ≡ true →
    stretched_into shape target ≡ stretched (drop (axes_beyond (length target) shape) shape) target >>= (λ view. Ok (record { shape = target; leads = λ index. replicate (axes_beyond (length target) shape) 0 ++ view.leads index }))
unfolding stretched_into
into-checked shape target single = rw single

into-refused : (shape target : List ℕ) → list_all (λ n. n == 1) (take (axes_beyond (length target) shape) shape) ≡ false → stretched_into shape target ≡ Err ShapesDoNotBroadcast
unfolding stretched_into
into-refused shape target longer = rw longer

-- ---- the results that the definition gives at the exits of `stretch_into`

beyond-is : (shape lengths target : List ℕ) (rank beyond : ℕ) → lengths ≡ shape → rank ≡ length target → beyond ≡ length lengths - rank → beyond ≡ axes_beyond (length target) shape
beyond-is shape lengths target rank beyond is rank-is counted = counted ∙ ap (λ r. length lengths - r) rank-is ∙ ap (λ l. length l - length target) is

beyond-same : (shape lengths target : List ℕ) (rank beyond : ℕ) → lengths ≡ shape → rank ≡ length target → beyond ≡ length lengths - rank → list_all (λ n. n == 1) (take beyond lengths) ≡ list_all (λ n. n == 1) (take (axes_beyond (length target) shape) shape)
beyond-same shape lengths target rank beyond is rank-is counted =
    ap (λ k. list_all (λ n. n == 1) (take k lengths)) (beyond-is shape lengths target rank beyond is rank-is counted) ∙ ap (λ l. list_all (λ n. n == 1) (take (axes_beyond (length target) shape) l)) is

pub not_single : (shape lengths target : List ℕ) (rank beyond : ℕ) (single : Bool) → lengths ≡ shape → rank ≡ length target → beyond ≡ length lengths - rank → single ≡ list_all (λ n. n == 1) (take beyond lengths) → single ≡ false → stretched_into shape target ≡ Err ShapesDoNotBroadcast
not_single shape lengths target rank beyond single is rank-is beyond-is tested longer =
    into-refused shape target (sym (beyond-same shape lengths target rank beyond is rank-is beyond-is) ∙ sym tested ∙ longer)

pub are_single : (shape lengths target : List ℕ) (rank beyond : ℕ) (single : Bool) → lengths ≡ shape → rank ≡ length target → beyond ≡ length lengths - rank → single ≡ list_all (λ n. n == 1) (take beyond lengths) → single ≡ true → list_all (λ n. n == 1) (take (axes_beyond (length target) shape) shape) ≡ true
are_single shape lengths target rank beyond single is rank-is beyond-is tested all =
    sym (beyond-same shape lengths target rank beyond is rank-is beyond-is) ∙ sym tested ∙ all

pub rest_beyond : (old mid : Layout) (lengths target : List ℕ) (rank beyond : ℕ) → lengths ≡ old.shape → rank ≡ length target → beyond ≡ length lengths - rank → IsViewOf old mid (record { shape = drop beyond old.shape; leads = λ index. replicate beyond 0 ++ index }) →
    IsViewOf old mid (record { shape = drop (axes_beyond (length target) old.shape) old.shape; leads = λ index. replicate (axes_beyond (length target) old.shape) 0 ++ index })
rest_beyond old mid lengths target rank beyond is rank-is counted view =
    subst (λ (k : ℕ). IsViewOf old mid (record { shape = drop k old.shape; leads = λ index. replicate k 0 ++ index })) (beyond-is old.shape lengths target rank beyond is rank-is counted) view

pub gives_into : (old mid : Layout) (target : List ℕ) (result : Result Layout Refusal) → list_all (λ n. n == 1) (take (axes_beyond (length target) old.shape) old.shape) ≡ true →
    IsViewOf old mid (record { shape = drop (axes_beyond (length target) old.shape) old.shape; leads = λ index. replicate (axes_beyond (length target) old.shape) 0 ++ index }) → GivesView mid result (stretched mid.shape target) → GivesView old result (stretched_into old.shape target)
gives_into old mid target result single one given =
    let more = axes_beyond (length target) old.shape in
    let rest = drop more old.shape in
    let two : GivesView mid result (stretched rest target) = subst (λ (s : List ℕ). GivesView mid result (stretched s target)) one.shape given in
    elim (cases_Bool (can_stretch rest target)) [
      | inl can ↦
          let is : stretched_into old.shape target ≡ Ok (record { shape = target; leads = λ index. replicate more 0 ++ broadcast_index rest index }) = into-checked old.shape target single ∙ ap (λ r. r >>= (λ view. Ok (record { shape = target; leads = λ index. replicate more 0 ++ view.leads index }))) (stretched-ok rest target can) in
          let seen : GivesView mid result (Ok (record { shape = target; leads = broadcast_index rest })) = subst (λ (r : Result View Refusal). GivesView mid result r) (stretched-ok rest target can) two in
          subst (λ (r : Result View Refusal). GivesView old result r) (sym is) (gives-twice old mid (record { shape = rest; leads = λ index. replicate more 0 ++ index }) (record { shape = target; leads = broadcast_index rest }) result one seen)
      | inr cannot ↦
          let is : stretched_into old.shape target ≡ Err ShapesDoNotBroadcast = into-checked old.shape target single ∙ ap (λ r. r >>= (λ view. Ok (record { shape = target; leads = λ index. replicate more 0 ++ view.leads index }))) (stretched-err rest target cannot) in
          let seen : GivesView mid result (Err ShapesDoNotBroadcast) = subst (λ (r : Result View Refusal). GivesView mid result r) (stretched-err rest target cannot) two in
          subst (λ (r : Result View Refusal). GivesView old result r) (sym is) (gives-none old mid result ShapesDoNotBroadcast seen)
    ]
