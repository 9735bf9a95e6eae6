-- The definitions of this crate, passed on from one place to the crates above. Declares nothing.
pub use Rattle.report_text.specs.Words.{yes_or_no, reason_word, kind_word, leaf_kind_word, tally_end}
pub use Rattle.report_text.specs.Reports.{size_line, count_line, components_line, bipartite_line, numbers_text, list_line, reason_numbers, reason_text, matching_line, deficiency_line, name_line, name_lines, graph6_line}
unfoldable pub use Rattle.report_text.specs.Reports.{verdict_text, bad_input_text, with_names_text}
pub use Rattle.report_text.specs.Structures.{class_line, class_lines, classes_lines, pair_line, bicritical_line, cut_pair_line, shore_of, leaf_kind_line}
unfoldable pub use Rattle.report_text.specs.Structures.{structure_text}
pub use Rattle.report_text.specs.Analyses.{graph_lines, numbers_told, with_three_sets, with_verdict, with_structure}
unfoldable pub use Rattle.report_text.specs.Analyses.{verdict_lines, analysis_text}
pub use Rattle.report_text.specs.Derivations.{numbered_leaf_line, block_lines, adjacent_line, name_at, adjacent_lines, numbered_leaf_lines, tally_line}
unfoldable pub use Rattle.report_text.specs.Derivations.{leaf_text, derivation_text}
pub use Rattle.report_text.specs.Judgements.{shown_text, accepted_line, refused_line, edge_text, refused_step_line}
unfoldable pub use Rattle.report_text.specs.Judgements.{numbered, judgement_text, step_refusal_text, ear_judgement_text}
pub use Rattle.report_text.specs.Comparisons.{same_line, reported_move_line, move_lines, partner_line, image_line, image_lines, map_text, map_texts}
unfoldable pub use Rattle.report_text.specs.Comparisons.{pairing_text}
pub use Rattle.report_text.specs.EarReports.{steps_line}
unfoldable pub use Rattle.report_text.specs.EarReports.{ears_report_text}
pub use Rattle.report_text.specs.Scripts.{script_line, moves_line}
unfoldable pub use Rattle.report_text.specs.Scripts.{script_report_text, replayed_text, stuck_text, refused_move_text}
pub use Rattle.report_text.specs.Growths.{order_line, pairs_line, growth_lines}
unfoldable pub use Rattle.report_text.specs.Growths.{grown_text}
pub use Rattle.report_text.specs.Comments.{IsCommented, HasFewLeaves}
