-- What is said of a list that is not an ear decomposition: its first step with a fault, what is
-- wrong there, and what would be right.
-- Stated by: front_words.
use Rattle.std.specs.Prelude.{ℕ, ◌==◌, List, [], ◌++◌, codes, if◌then◌else◌, decimal, Option, None, Some}
use Rattle.refusals.specs.declared.faults.EarFault.{EarFault}
use Rattle.refusals.specs.declared.faults.EarFault.TheVariants.{NotPath, EvenLength, BadEnds, InnerOnStage, EdgeUsed, StageNotCovered, EndsEarly}
use Rattle.refusals.specs.declared.places.EarOfTwo.{EarOfTwo}
use Rattle.refusals.specs.declared.places.EarOfTwo.TheVariants.{First, Second}
use Rattle.refusals.specs.declared.places.EarPlace.{EarPlace}
use Rattle.front_words.specs.declared.texts.TheConstants as texts

-- what is wrong with a step, and what would be right
abbrev pub step_fault_words : EarFault → List ℕ
step_fault_words NotPath = texts.EAR_NOT_PATH.now ++ codes "\n"
step_fault_words EvenLength = texts.EAR_EVEN.now ++ codes "\n"
step_fault_words BadEnds = texts.EAR_BAD_ENDS.now ++ codes "\n"
step_fault_words InnerOnStage = texts.EAR_INNER.now ++ codes "\n"
step_fault_words EdgeUsed = texts.EAR_USED.now ++ codes "\n"
step_fault_words (StageNotCovered edge) = texts.STAGE_EDGE.now ++ (decimal edge ++ (texts.STAGE_EDGE_END.now ++ codes "\n"))
step_fault_words (EndsEarly edge) = texts.LEFT_EDGE.now ++ (decimal edge ++ (texts.LEFT_EDGE_END.now ++ codes "\n"))

-- which ear of a step, if the step has two
abbrev pub ear_text : Option EarOfTwo → List ℕ
ear_text None = []
ear_text (Some First) = texts.FIRST_EAR.now
ear_text (Some Second) = texts.SECOND_EAR.now

-- which edge of the graph, if there is one to name, and a colon
abbrev pub at_edge_text : Option ℕ → List ℕ
at_edge_text None = codes ": "
at_edge_text (Some edge) = texts.AT_EDGE.now ++ (decimal edge ++ codes ": ")

-- a list is not an ear decomposition: in which step
abbrev pub at_step_text : (program : List ℕ) (step : ℕ) → EarPlace → List ℕ
at_step_text program step place =
    program ++ (texts.EARS_AT.now ++ (decimal step ++ (ear_text place.ear ++ at_edge_text place.edge)))

-- the same, or before the first step if the list has none
abbrev pub ears_place_text : (program : List ℕ) (step : ℕ) → EarPlace → List ℕ
ears_place_text program step place =
    if step == 0 then program ++ texts.EARS_BEFORE.now else at_step_text program step place

-- the same, and why
abbrev pub refused_ears_text : (program : List ℕ) (step : ℕ) → EarPlace → EarFault → List ℕ
refused_ears_text program step place fault = ears_place_text program step place ++ step_fault_words fault
