-- The lemmas and definitions of this crate, passed on from one place to the crates above.
-- Declares nothing.
pub use Rattle.barrier_kit.specs.Common.{neighbours, Picks, BarrierCut, WideClass}
unfoldable pub use Rattle.barrier_kit.specs.Common.{barrier_shores, barrier_cuts}
pub use Rattle.barrier_kit.proofs.Barriers.{by_components, odd_component_count-parity, few_odd_components, two_less, barrier_pair, equivalent_barrier}
pub use Rattle.barrier_kit.proofs.Matched.{inner, perfect_congr, ends_out, loop_free, glue, restrict, cut_edge, crosses_apart, AreCutsMet, cut_matching, cuts_met, even_order}
pub use Rattle.barrier_kit.proofs.BarrierCuts.{leads_out, part_step, part_out, cover_in, cover_one, cover_count, cover_out, covers_out, covers_step, cut_family, covers_all, sat_inside, sat_cut, odd_part, one_cut, many_parts, none_inside, lead_tight, leader_of, leader_same, part_same, part_odd, barrier_parts, part_tight}
unfoldable pub use Rattle.barrier_kit.proofs.BarrierCuts.{covers}
pub use Rattle.barrier_kit.proofs.Hall.{hall, hits}
pub use Rattle.barrier_kit.proofs.Enlarging.{joined_same, leads_same, odd_same, odd_component_count-congr, barrier_congr, same_parity, enlarge}
pub use Rattle.barrier_kit.proofs.Families.{glue_family}
pub use Rattle.barrier_kit.proofs.Joining.{touches, cut_split, surplus, star, join}
pub use Rattle.barrier_kit.proofs.ClassLaw.{perfect_or_not, equivalent_or_not, single_barrier, class_found, equivalent_self, equivalent_back, equivalent_over, class_is_barrier, class_exists, equivalent_on, class_barrier, class_holds_barrier}
pub use Rattle.barrier_kit.proofs.CriticalPairs.{part_nontrivial, barrier_cut, critical_pair, class_cut, four_vertices, bicritical, no_sides, class_single, class_trivial}
pub use Rattle.barrier_kit.proofs.ListedClasses.{has_perfect-true, rising_list-more, class-row, classes-taken, classes-passed, classes-all}
pub use Rattle.barrier_kit.proofs.CutLists.{odd_parts-counted, barrier_cuts-all}
pub use Rattle.barrier_kit.proofs.CutFacts.{cuts-none, cuts-some, nontrivial-true, true-nontrivial, nontrivial-turned, tight-turned, canonical-is, canonical-tight, canonical-wide, wide-canonical, canonical-out, cuts-canonical}
pub use Rattle.barrier_kit.proofs.AllOf.{all_rising, all_flat, all_passing, all_unfound, unfound_all, flat_all, map_all, filter_all, rising_all, pairs_rise}
pub use Rattle.barrier_kit.proofs.ShoreFacts.{listed_tight, listed_narrow, listed_wide, class_set, class_list, all_shores, shores_all, barrier_shores-tight, barrier_cuts-canonical, bicritical_no_cuts, wide_class, some_cut}
pub use Rattle.barrier_kit.proofs.FirstCuts.{first-kept, first-of_part, next_barrier, no_first_barrier}
