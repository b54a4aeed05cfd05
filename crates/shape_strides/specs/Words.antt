-- Names from std and from the crates below, which this crate's definitions, contracts and proofs use.
pub use Rattle.elem_descr.specs.RefusalLaws.{check_passed, same_answer}
pub use Rattle.elem_descr.specs.Refusals.{Gives, check, ◌>>=◌}
pub use Rattle.elem_descr.specs.Steps.{numbers_from}
pub use Rattle.elem_descr.specs.declared.refusal.Refusal.{Refusal}
pub use Rattle.elem_descr.specs.declared.refusal.Refusal.TheVariants.{TooLarge, TooManyAxes}
pub use Rattle.std.proofs.Math.Nat.{div-add-mod, min-eq_left, min-eq_right}
pub use Rattle.std.proofs.lemmas.Bool.{and_parts, cases_Bool, cases_eq, cases_lt, false≢true, le-leb, leb-false, leb-true, lt-leb, ltb-true}
pub use Rattle.std.proofs.lemmas.Grind.{reverse_onto}
pub use Rattle.std.proofs.lemmas.Int.{ints}
pub use Rattle.std.proofs.lemmas.List.{drop_more, get_or-map, get_or-set_other, get_or-set_same, get_or_append_left, get_or_default, length-map, length-set, map-set, nil_from_length, reverse-reverse, same_lists}
pub use Rattle.std.proofs.lemmas.List.Elements.{All-from_recursion, All-head, All-tail, recursion_from_All}
pub use Rattle.std.proofs.lemmas.List.FromFn.{length-map-range_with_len}
pub use Rattle.std.proofs.lemmas.List.Sorted.{All-permutation, Contains-permutation, IsPermutation-keeps, IsPermutation-map, IsPermutation-refl, IsPermutation-swap, IsPermutation-trans, sum_by-IsPermutation}
pub use Rattle.std.proofs.lemmas.List.Sums.{sum_by-cons}
pub use Rattle.std.proofs.lemmas.Nat.{div_below, mul-add-lt}
pub use Rattle.std.proofs.lemmas.Nat.Gcd.{mod-eq-zero_of_dvd}
pub use Rattle.std.specs.Fmt.{decimal, signed_decimal}
pub use Rattle.std.specs.Int.{◌∣◌}
pub use Rattle.std.specs.List.{AllByRecursion as Each, flat_map, list_all, range_with_len, zip}
pub use Rattle.std.specs.List.Sorted.{IsPermutation}
pub use Rattle.std.specs.Ordering.{int_eq}
pub use lib.IntN.{*ℤ-one, *ℤ-zero, +ℤ_idl, +ℤ_idr, neg_ℤ-+ℤ}
unfoldable pub use lib.IntN.{one}
