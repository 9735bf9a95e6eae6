-- What is said of a graph that is not matching covered: why, and what would be right.
-- Stated by: front_words.
use Rattle.std.specs.Prelude.{ℕ, List, ◌++◌, codes, decimal}
use Rattle.refusals.specs.declared.faults.CoverFault.{CoverFault}
use Rattle.refusals.specs.declared.faults.CoverFault.TheVariants.{Small, Parted, Unmatched, Unallowed}
use Rattle.front_words.specs.declared.texts.TheConstants as texts

-- why a graph is not matching covered
abbrev pub cover_words : CoverFault → List ℕ
cover_words Small = texts.COVER_SMALL.now ++ codes "\n"
cover_words (Parted a b) = texts.COVER_PARTED.now ++ (decimal a ++ (texts.COVER_PARTED_TO.now ++ (decimal b ++ (texts.COVER_PARTED_END.now ++ codes "\n"))))
cover_words Unmatched = texts.COVER_UNMATCHED.now ++ codes "\n"
cover_words (Unallowed edge) = texts.COVER_EDGE.now ++ (decimal edge ++ (texts.COVER_EDGE_END.now ++ codes "\n"))

-- the graph is not matching covered, and why
abbrev pub uncovered_text : (program : List ℕ) → CoverFault → List ℕ
uncovered_text program fault = (program ++ texts.NOT_COVERED.now) ++ cover_words fault
