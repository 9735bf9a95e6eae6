-- The definitions of this crate, passed on from one place to the crates above. Declares nothing.
pub use Rattle.ear_core.specs.Stages.{is_met, adjacent_by, IsPerfectOf, IsPerfectOff, AllowedBy, IsStage, with_edges}
pub use Rattle.ear_core.specs.Ears.{other_end, Follow, trail, last_vertex, IsEar, IsEarPair}
pub use Rattle.ear_core.specs.EarLists.{PlainEar, PlainStep, one, two, PlainEars, next_stage, IsStep, AreSteps, IsEarList, IsSingle, IsNeeded, AreEach, AreNeeded, IsUnrefinable, IsForced, AreForced, TakesSingles, HasEdges, FitsEar, FitsStep, FitsEars}
pub use Rattle.ear_core.specs.View.{ear_of, plain_step, step_of, ears_of, why_of, refusal_of}
pub use Rattle.ear_core.specs.NearlyStages.{odds, evens, IsNearlyStage}
pub use Rattle.ear_core.specs.EarTests.{PlainWhy, not_path, even_length, bad_ends, inner_on_stage, edge_used, stage_not_covered, ends_early, follows, front, inner_vertices, repeats, no_member, is_empty, is_path, has_odd_length, has_good_ends, has_free_inner, has_new_edges, Passes, ear_fault}
pub use Rattle.ear_core.specs.Refusals.{first_why, step_fault, IsLeastUnallowed, IsStepRefused, IsFirstRefusal, IsJudged, IsRefused, AcceptsList, RefusesList}
pub use Rattle.ear_core.specs.StageGraphs.{listed, by_rank, Settled, asked_too, IsUpTo, IsBehind}
pub use Rattle.ear_core.specs.AlternatingEars.{IsPerfectRows, row_edge, mate, KeepsMates, LeadsAlternately, IsTraced, IsClear, HoldsMatesOff, IsMatedEar, ends_of_ears, AreApart, AreMatedEars, is_left, Serves, ends_of_ear, AreCandidates, IsChosen}
pub use Rattle.ear_core.specs.Asking.{IsAsked, IsBefore, AreEars, FindsAlone, FindsBeside, FindsTwo, NoneServes, NoneServesBeside, NoTwoServe}
pub use Rattle.ear_core.specs.FaultPlaces.{astray, wrong_end, entering, edge_of_fault, fault_edge, nowhere, place_of_two, place_in_step, place_from, fault_place}
pub use Rattle.ear_core.specs.TakenSteps.{IsTaken}
pub use Rattle.ear_core.specs.LoneEars.{barred, is_open, IsPerfectBy, LeadsAtTwo, LeadsOff}
pub use Rattle.ear_core.specs.LoneTables.{in_rows, AreTables, reached}
pub use Rattle.ear_core.specs.StagePartners.{ArePartnersOn, PairsAll}
pub use Rattle.ear_core.specs.MarkedStages.{IsMarked}
pub use Rattle.ear_core.specs.Building.{LeadTo, GoesOn, IsBuilt, IsFilled}
pub use Rattle.ear_core.specs.MatchedStages.{NamesMatching, NamesPart, IsAskedBefore}
pub use Rattle.ear_core.specs.StageRows.{HasClasses, HaveRow, IsStageOf}
