-- The lemmas and definitions of this crate, and what most proofs cite of the standard library,
-- passed on from one place to the crates above. Declares nothing.
pub use Rattle.std.specs.Vec.Iter.{into_iter_items}
pub use Rattle.std.specs.Result.{result_map_both}
pub use Rattle.std.specs.Option.{option_or, ForSome}
pub use Rattle.std.specs.List.Sorted.{IsStrictlyIncreasing}
pub use Rattle.std.specs.Int.Digits.{digits_of}
pub use Rattle.std.specs.Int.Count.{count_leading_zeros}
pub use Rattle.std.specs.Int.{bit_at, trailing_zeros, w128, bit_not}
pub use Rattle.std.proofs.lemmas.Str.{IsUtf8-from_ascii}
pub use Rattle.std.proofs.lemmas.Simd.{map-map}
pub use Rattle.std.proofs.lemmas.Nat.Bits.{bit_at-trailing_zeros, bit_at_above, bit_at_cat_low, bit_at_cat_high, bit_at_lowest, bit_at-zero, bit_at_ones_above, same_from_bits_below, bit_at_ones, ones_shr, bit_at-lt, bit_at_and, bit_at_or, bit_at_not, bit_at-pow_same, bit_at-pow_other, and_pow}
pub use Rattle.std.proofs.lemmas.Nat.{mul-le, mod_below, and_le_l, leading_top, shr_split, shr_below, pow_below, shr_le, or_lt}
pub use Rattle.std.proofs.lemmas.List.Splits.{length-slice_split, slice_split_at, slice_split_none}
pub use Rattle.std.proofs.lemmas.List.Recursion.{is_count_by}
pub use Rattle.std.proofs.lemmas.List.Quantifiers.{all_pairs_push}
pub use Rattle.std.proofs.lemmas.List.Kept.{AllPairs-from_increasing}
pub use Rattle.std.proofs.lemmas.List.Concat.{flat_map_single}
pub use Rattle.std.proofs.lemmas.Iterator.Consumers.{YieldsList-from_copied}
pub use Rattle.std.proofs.lemmas.Iterator.{YieldsList-from_slice}
pub use Rattle.std.proofs.lemmas.Int.Digits.{digits_of_step}
pub use Rattle.std.proofs.lemmas.Int.{ints, to_z-of_z}
pub use Rattle.std.proofs.lemmas.Fmt.{length-decimal-le, decimal_nonempty, decimal-digits_of}
pub use Rattle.std.proofs.iter.Yields.{fronts}
pub use Rattle.std.proofs.Math.Nat.{le_of_mul-le-mul_left, le-mul_of_pos_right}
pub use Rattle.std.proofs.Math.ListN.{get_or-eq_default, get_or-append}
pub use Rattle.std.proofs.Common.{◌≡◌, ℕ, ◌<◌, ◌≢◌, true, not, ◌==◌, List, length, refl, sym, ap, ◌∙◌, arith, inl, inr, subst, ne_eqb, ◌≤◌, suc, ◌+◌, ◌-◌, ◌&&◌, [], ◌∷◌, map, cond, get_or, ap₂, ◌*◌, Bool, false, ◌||◌, eqb-true, subst₂, zero, ◌++◌, eq-eqb, zero-add, nat_le, get_or-append-add, slice_index, slice_index_or, ◌⊎◌, append_assoc, nat_lt, ltb-true, mul-add, lt-ltb, le_trans, le_of_eq, mul-le-mul_left, filter, All, rules, take, le_refl, Contains, mul_comm, leb-true, ◌↔◌, drop, Option, Some, None, slice_get, ltb-false, IsTrue, le-ltb, codes, ◌^◌, decimal, take-suc, string_bytes, ◌/◌, replicate, slice_set, get_or-set_same, get_or-set_other, flat_map, find, fold, AllPairs, if◌then◌else◌, option_map, ◌%◌, is_none, IfSome, sum_by, IfOk, Result, max, min, unwrap_or, Ok, Err, bytes_eq, IfNone, is_some, position, String, Global, OnErr, IsUtf8, IsAscii, get_or-take, length-take-le, IsErrOf, set, Any, option_and_then, count_by, take-append-drop, length-set, Vec, insert, MatchOption, OnOk, drop-set-lt, IfErr, IsOkAnd, MatchResult, mul_left_comm, IsFalse, ext_get_or, take_at, drop_at, leb, ltb, nat_eq, ℤ, pos, neg_ℤ, ◌+ℤ◌, ◌-ℤ◌, ◌≤ℤ◌, ◌<ℤ◌, unsigned_abs, below_more, w64, to_z, of_z, length-take, leb-false, bit_and, pow_pos, shr-shr, bit_or}
pub use mathlib.Core.Path.{fun_ext}
pub use Rattle.std.specs.List.{list_any, AllByRecursion, list_all, position_or_len, slice_split, AllZip, starts_with, ends_with}
pub use Rattle.std.proofs.Math.Seq.{get_or-append_seam, take-append_seam, get_or-append_right}
pub use Rattle.std.proofs.lemmas.Grind.{get_or_default_zero, flat_map-append, common_steps}
pub use Rattle.std.proofs.lemmas.Bool.{both_ways, and_parts, cases_eq, true≢false, cases_Bool, and_from, false_from_ne_true, or_right, or_left, or_cases, not-true, cases_lt, cases_order, or_parts, or_from, not-false, le-leb, and_right, lt-leb, and_left, not_from_false, false≢true, eqb-false, cond-true, cond-false, not_from_true, true_from_ne_false}
pub use Rattle.std.proofs.lemmas.Bool.Decides.{nat_tests, Decides-eqb, Decides-like, same_from_decides}
pub use Rattle.std.proofs.lemmas.List.{length-map, map-append, length-append, get_or-map, append-nil, take_all, get_or_append_left, take_more, get_or_read, get_or_default, get_or_push, with_items_is, length-replicate, map_more, map-set, map_push, take-map, nil_from_length, take_more_set, drop_more, drop_all, get_or_at, get_or-drop, length-drop}
pub use Rattle.std.proofs.lemmas.List.Elements.{All-head, All-tail, All-nil, All-cons, All-map, All-get_or, All-from_get_or, All-push, filter-append, All-append, All-weaker, Contains-append_left, Contains-append_right, Contains-push, All-filter, filter_passes, filter_more}
pub use Rattle.std.proofs.lemmas.List.Folds.{list_any-append, list_any_more, find-append, Any-from_list_any, list_any_at, list_all-append}
pub use Rattle.std.proofs.lemmas.List.Sums.{sum_by-cons, count_by-le-length, fold_push, sum_by-append, fold-append, AllPass-from_list_all, list_all-from_AllPass}
pub use Rattle.std.proofs.lemmas.Option.{none-some, same_Some, get_or_from_slice_get, slice_get_within, slice_get_read, slice_get-map}
pub use Rattle.std.proofs.lemmas.Result.{IfOk-weaker, err_from_is_err_and, IfErr-weaker, on_ok_weaker}
pub use Rattle.std.proofs.lemmas.Slice.Eq.{bytes_eq-Decides, slice_eq-Decides, ends_is}
pub use Rattle.counting.specs.Common.{Within, bit, total, count, is_odd, Set, none, everything, singleton, pair_set, union, meet, minus, complement, put, Outside, some, every, some_set, each_set, IsLeastWithout, mem, IsIn, times, all_in, is_subset, is_apart, IsRisingIn, rising_list, Lists, last_of, IsLeastOf, IsGreatestOf, IsNextAfter, item, row_of, pair_with, rising_pairs, ordered_pairs, ComesBefore}
pub use Rattle.counting.proofs.Booleans.{not_not, not_not_back, or_false, or_false_back, or_true, and_false, and_true, and_comm, or_comm, or_assoc, or_assoc_back, and_second, and_fails_second, or_fails_first, or_second, nor_left, nor_right, and_implied, same_tests, but_from, but_not, but_fails_second, not_but_parts, alike_not_apart, apart_denied, bit_le_one, bit_le, bit_times_le, bit_and_false, bit_and_true, bit_parted}
pub use Rattle.counting.proofs.Choice.{Respects, some_set_found, some_set_none, choose_set, total_put, count_put, set_found, negated, each_passes, none_fails, implied, implies}
pub use Rattle.counting.proofs.Counts.{bit-and, count_of_one, count_congr, count_le, count_more, count_le_one, some_le_count, bit_true, count_meet_union, count_complement, only_one}
pub use Rattle.counting.proofs.Lists.{Rises, mem_low, count_mem, same_list, total_mem, mem-append, mem-more, rising_holds, rising_only, rises-from_neighbours, rises-from_set, count_mem_length, mem-within, member-of_set, some-member, times_mem}
pub use Rattle.counting.proofs.Members.{count_zero, count_member, member_count, count_minus, count_plus, two_members, two_of, some_count}
pub use Rattle.counting.proofs.Odd.{odd-double, odd-add, odd_total, odd_pos, order_even, complement_odd, is_odd_remainder, half, odd_remainder, odd_three}
pub use Rattle.counting.proofs.Pairs.{HasPair, map_pair, append_pair, rows_hold, rows_only, filter_pair, pair_filter, pair_at, at_pair}
pub use Rattle.counting.proofs.Ranks.{count_up, member_ranked, rank_once}
pub use Rattle.counting.proofs.RisingLists.{set-from_rises, rises-wider, rising_list-rises, mem-rising_list, mem-outside, same_rising_list, rising_list-mem, length-rising_list, rising_list-congr, first_is_least, rising-tail, above_first, mem-last_of, last_is_greatest, all_in_true, true_all_in, all_in_false, set-none, set-one, no_members, split_least, false_all_in, set-wider, mem-all, mem-item, list-from_test, set-narrower, set-part, first-least, last-greatest}
pub use Rattle.counting.proofs.SetSizes.{count_mono, count_split, count_singleton, same_set-from_size, length-within}
pub use Rattle.counting.proofs.Tests.{every_true, true_every, every_congr, some_true, true_some, some_none, least_true, scan, least_of, least_of_is, some_congr, some_or, least-one, all_or_least}
pub use Rattle.counting.proofs.Totals.{total_congr, total_le, total_add, total_mul, total_zero, total_swap, total_none, total_at, at_le_total, two_le_total, some_term, total_tight, total-first, total_ones}
