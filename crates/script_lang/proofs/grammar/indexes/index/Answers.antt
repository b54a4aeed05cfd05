-- What a turn reads is what the rule of the list reads there.
use Rattle.std.proofs.Common.{◌≡◌, ◌≤◌, ℕ, Bool, true, false, List, length, nat_le, count_by, Some, None, if◌then◌else◌, refl, ap, ◌∙◌, inl, inr}
use Rattle.script_lang.proofs.Words.{err_from_is_err_and, IndexItem, is_ellipsis, by_rule, one_or_more, index_item_at, index_at}
use Rattle.script_lang.proofs.Rooms.{index_list_room}
use Rattle.script_lang.proofs.Shorter.{index_item_shorter, comma_behind}
use Rattle.script_lang.proofs.Lists.{full_from_failed, items_no_item, items_long, items_last, items_no_mark, items_next}
use Rattle.script_lang.proofs.grammar.indexes.index.Goals as goal

no_list : (bytes : List ℕ) → by_rule (one_or_more index_item_at 93) bytes ≡ None → index_at bytes ≡ None
unfolding index_at
no_list bytes none = rw none refl

in_index : (bytes : List ℕ) (index : List (IndexItem (List ℕ))) (end : List ℕ) (few : Bool) → by_rule (one_or_more index_item_at 93) bytes ≡ Some (index, end) → few ≡ nat_le (count_by is_ellipsis index) 1 → index_at bytes ≡ (if few then Some (index, end) else None)
unfolding index_at
in_index bytes index end few is test = rw (is, test) refl

pub returns-in_default : goal.returns-in_default
returns-in_default c = inl (refl, no_list _ (items_no_item index_item_at index_item_shorter 93 _ _ _ c.loop-entry.invariant c.in_default.ensures))

pub returns-in_err-push : goal.returns-in_err-push
returns-in_err-push c =
    let error = err_from_is_err_and c.from_residual.result c.from_residual.ensures.1 in
    let full : 1 ≤ length c.loop-entry.index = full_from_failed c.loop-entry.index c.in_err-push.ensures.succeeds in
    rw (error.1, error.2) (inr (refl, index_list_room _ (items_long index_item_at index_item_shorter 93 _ _ _ c.loop-entry.invariant _ _ c.in-Some.ensures full)))

pub returns-then-not-has_few_ellipses : goal.returns-then-not-has_few_ellipses
returns-then-not-has_few_ellipses c =
    let last = items_last index_item_at index_item_shorter 93 _ _ _ c.loop-entry.invariant _ _ _ c.in-Some.ensures c.in-Some-symbol.ensures in
    inl (refl, in_index _ _ _ false last (c.if-not-has_few_ellipses.ensures ∙ ap (λ l. nat_le (count_by is_ellipsis l) 1) (c.as_slice.ensures ∙ c.in_ok-push.ensures.ok)))

pub returns-in-Some-symbol : goal.returns-in-Some-symbol
returns-in-Some-symbol c =
    let last = items_last index_item_at index_item_shorter 93 _ _ _ c.loop-entry.invariant _ _ _ c.in-Some.ensures c.in-Some-symbol.ensures in
    let few = c.if-not-has_few_ellipses.ensures ∙ ap (λ l. nat_le (count_by is_ellipsis l) 1) (c.as_slice.ensures ∙ c.in_ok-push.ensures.ok) in
    rw c.in_ok-push.ensures.ok (in_index _ _ _ true last few)

pub returns-in_default-symbol-2 : goal.returns-in_default-symbol-2
returns-in_default-symbol-2 c = inl (refl, no_list _ (items_no_mark index_item_at index_item_shorter 93 _ _ _ c.loop-entry.invariant _ _ c.in-Some.ensures c.in_default-symbol.ensures c.in_default-symbol-2.ensures))

pub loop-entry-preserved : goal.loop-entry-preserved
loop-entry-preserved c =
    rw c.in_ok-push.ensures.ok (items_next index_item_at index_item_shorter 93 _ _ _ c.loop-entry.invariant _ _ _ c.in-Some.ensures c.in_default-symbol.ensures c.in-Some-symbol-2.ensures)

pub loop-entry-smaller : goal.loop-entry-smaller
loop-entry-smaller c = comma_behind index_item_at index_item_shorter _ _ _ _ c.in-Some.ensures c.in-Some-symbol-2.ensures
