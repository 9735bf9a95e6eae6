-- What a refusal means in words, and what would be right: one line for each.
-- Stated by: front_words. Used by: front_top.
use Rattle.std.specs.Prelude.{ℕ, List, ◌++◌, codes, decimal}
use Rattle.refusals.specs.declared.faults.StuckFault.{StuckFault}
use Rattle.refusals.specs.declared.faults.StuckFault.TheVariants.{NoCut, Crossing, NotParts}
use Rattle.refusals.specs.declared.refusal.Refusal.{Refusal}
use Rattle.refusals.specs.declared.refusal.Refusal.TheVariants.{Graph, Tree, Ears, Stuck, Move}
use Rattle.front_words.specs.RefusedEars.{refused_ears_text}
use Rattle.front_words.specs.RefusedTrees.{moved_text, refused_tree_text}
use Rattle.front_words.specs.Uncovered.{uncovered_text}
use Rattle.front_words.specs.declared.texts.TheConstants as texts

-- why a move has no result, and what would be right
abbrev pub stuck_words : StuckFault → List ℕ
stuck_words NoCut = texts.STUCK_NO_CUT.now
stuck_words Crossing = texts.STUCK_CROSSING.now
stuck_words NotParts = texts.STUCK_NOT_PARTS.now

-- a move has no result
abbrev pub stuck_move_text : (program : List ℕ) (step : ℕ) → StuckFault → List ℕ
stuck_move_text program step fault =
    program ++ (texts.MOVE.now ++ (decimal step ++ (texts.NO_RESULT.now ++ (stuck_words fault ++ codes "\n"))))

-- what a refusal means in words
abbrev pub refused_text : (program : List ℕ) → Refusal → List ℕ
refused_text program (Graph fault) = uncovered_text program fault
refused_text program (Tree tree at place fault) = refused_tree_text program tree at place fault
refused_text program (Ears step place fault) = refused_ears_text program step place fault
refused_text program (Stuck step fault) = stuck_move_text program step fault
refused_text program (Move step at place fault) = moved_text program step at place fault
