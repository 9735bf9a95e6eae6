-- The definitions of this crate, passed on from one place to the crates above. Declares nothing.
pub use Rattle.bench_outcomes.specs.Codes.{code_of}
pub use Rattle.bench_outcomes.specs.Shown.{MayBeBerge, MayCross, MayCrossBehind, MayShowOfTree, MayShowOfMoves, MayShowOfTwo}
pub use Rattle.bench_outcomes.specs.Conducts.{Conduct, Writes, Tells, Needs, Chooses, AreDerivations, LeadsOn, conduct_of}
pub use Rattle.bench_outcomes.specs.Facts.{HasMaximum, IsStructure, TellsStructure, IsAnalysis}
pub use Rattle.bench_outcomes.specs.RefusalLines.{is_negative, cover_fault_of, node_fault_of, ear_fault_of, node_number, step_number, step_edge, begun_by, refused_words, cover_told, refusal_told, told_by}
pub use Rattle.bench_outcomes.specs.Uncovered.{Uncovered}
pub use Rattle.bench_outcomes.specs.Checks.{shown_of, AcceptedTree, RefusedTree, RefusesTree, RefusesIfAny, CheckGives}
pub use Rattle.bench_outcomes.specs.EarChecks.{is_single, single_count, double_count, ear_why_number, named_edge, AcceptedEars, RefusedEars, EarCheckGives, BuiltEars, EarsGives}
pub use Rattle.bench_outcomes.specs.Replays.{ReplayedTree, StuckMove, RefusedMove, MovesGive, ReplayGives}
pub use Rattle.bench_outcomes.specs.StuckMoves.{leads_to_cut, HasNoResult, stuck_fault, CrossesParent, AreNoParts, IsStuckBy}
pub use Rattle.bench_outcomes.specs.Comparisons.{IsScript, line_of, map_lines_of, Compared, Scripted, RefusesPair, RefusesPairIfAny, CompareGives, ScriptGives}
pub use Rattle.bench_outcomes.specs.Growths.{IsCountedTree, ArePaired, Grown}
pub use Rattle.bench_outcomes.specs.FaultPlaces.{steps_to, path_to_place, subtree_at, nodes_before, root_shore, IsPlaceAt, IsNodePlace, tree_numbered, made_by, IsNextMove, IsOfGraph, IsInTrees, IsInEars, IsInMoves, IsPlaced}
pub use Rattle.bench_outcomes.specs.Outcome.{with_given_names, given_or_plain, Analysed, Converted, Analysed6, TellsDerivation, Decomposed, DecomposeGives, ResultOf, LoadedGives, CommandGives, Outcome, Appended, CutShort, IsReported, IsSettled}
pub use Rattle.bench_outcomes.specs.Success.{NeedOf, Succeeds}
pub use Rattle.bench_outcomes.specs.Refusing.{RefusesBy, TaskMayRefuse, MayRefuse, GatheredMayRefuse}
