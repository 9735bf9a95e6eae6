-- The definitions of this crate, passed on from one place to the crates above. Declares nothing.
pub use Rattle.match_search.specs.Frames.{shrunk_vertex, IsShrunk, shrunk_ends, shrunk_removed, IsNearPerfect, IsOddLabelling, IsCertificate, Frame}
pub use Rattle.match_search.specs.OddCycles.{picked, listed, next, same_answer, every_other, IsOddCycle}
pub use Rattle.match_search.specs.Forests.{flipped, IsPath, IsAlternating, IsAlternatingForest}
pub use Rattle.match_search.specs.RepairPaths.{Misses, difference, FormPath, DiffersByPath, IsWalk, IsRepairRow}
pub use Rattle.match_search.specs.Mates.{HasMates, with_mate, with_pair, flipped_mates, cleared_mates, paired_round, NamesMates, JoinsMates, MarksMates}
pub use Rattle.match_search.specs.Instances.{Touches, IsInstance, AreNear}
pub use Rattle.match_search.specs.AlternatingForests.{HoldsMatching, MayBeExposed, AreExposed, IsSized, GoesUp, HoldsAlternating, HasRestarted, HasBranched, HasContracted, IsMember, IsDone, IsSettledVertex, GrowsForest, IsClosingPair, IsGrownForest}
pub use Rattle.match_search.specs.Blossoms.{ClosesForest, second_start, AreClosingPaths, blossom_length, HoldsBlossom, ExposesOnly, IsAugmented, IsClosed, IsMateStep, without_blossom, removed_with, MayOpen, IsCompleted}
pub use Rattle.match_search.specs.Shrinkings.{IsUnionOf, IsGathered, IsShrinking, IsUnshrunk, IsPutBack, AreAlike}
pub use Rattle.match_search.specs.Rows.{marks, numbers, part, end_a, end_b}
pub use Rattle.match_search.specs.Meetings.{IsLastMeeting}
pub use Rattle.match_search.specs.GraphRows.{AreEnds, IsGraphRow, NamesEdges}
pub use Rattle.match_search.specs.Steps.{IsOpenedCycle, AreVertexSets, StepAnswer, IsWidened}
pub use Rattle.match_search.specs.Optimal.{IsBest}
pub use Rattle.match_search.specs.Questions.{HoldsAll, HasPerfectWith, MeetOnce}
pub use Rattle.match_search.specs.Missable.{HasFrame, IsMissableRow, ServesRows}
pub use Rattle.match_search.specs.Flowers.{IsContractible, IsFlower, HoldsFlower, IsOuterOf, IsBeyond, HoldsForest, GoesOver, MeetsSet, IsLastIn, HoldsRooted, HasOuter}
