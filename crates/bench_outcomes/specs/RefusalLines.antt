-- What a refusal says of a report: the line that stands for it, of which the evidence is left open.
-- Stated by: bench_outcomes, bench_reports. Used by: bench_top.
use Rattle.std.specs.Prelude.{ℕ, List, ◌++◌, Bool, true, false, codes, drop, length, Option, Some, None}
use Rattle.graph_core.specs.declared.verdict.Reason.{Reason}
use Rattle.graph_core.specs.declared.verdict.Reason.TheVariants as reason
use Rattle.graph_core.specs.declared.verdict.Verdict.TheVariants.{NotCovered}
use Rattle.tree_check.specs.Common.{Why, not_blocks, even, trivial, not_tight, not_leaf}
use Rattle.bench_tasks.specs.from_ear_core.Common.{PlainWhy, not_path, even_length, bad_ends, inner_on_stage, edge_used, stage_not_covered, ends_early}
use Rattle.report_text.specs.Common.{numbered, verdict_text, ear_judgement_text, stuck_text}
use Rattle.report_text.specs.declared.ear_judgements.EarLine.TheVariants as line
use Rattle.refusals.specs.declared.faults.CoverFault.{CoverFault}
use Rattle.refusals.specs.declared.faults.CoverFault.TheVariants as cover
use Rattle.refusals.specs.declared.faults.NodeFault.{NodeFault}
use Rattle.refusals.specs.declared.faults.NodeFault.TheVariants as node
use Rattle.refusals.specs.declared.faults.EarFault.{EarFault}
use Rattle.refusals.specs.declared.faults.EarFault.TheVariants as ear
use Rattle.refusals.specs.declared.refusal.Refusal.{Refusal}
use Rattle.refusals.specs.declared.refusal.Refusal.TheVariants.{Graph, Tree, Ears, Stuck, Move}
use Rattle.bench_outcomes.specs.declared.status.Status.{Status}
use Rattle.bench_outcomes.specs.declared.status.Status.TheVariants.{Done, Negative, Usage, ReadFault, BadInput, WriteFault, Memory}

-- a run with this status refused its input
abbrev pub is_negative : Status → Bool
is_negative Done = false
is_negative Negative = true
is_negative Usage = false
is_negative ReadFault = false
is_negative BadInput = false
is_negative WriteFault = false
is_negative Memory = false

-- the fault for the reason why a graph is not covered
abbrev pub cover_fault_of : Reason → CoverFault
cover_fault_of reason.Small = cover.Small
cover_fault_of (reason.Parted a b) = cover.Parted a b
cover_fault_of (reason.Unmatched berge) = cover.Unmatched
cover_fault_of (reason.Unallowed edge) = cover.Unallowed edge

-- the fault for the reason why a node is refused
abbrev pub node_fault_of : Why → NodeFault
node_fault_of not_blocks = node.NotBlocks
node_fault_of even = node.Even
node_fault_of trivial = node.Trivial
node_fault_of (not_tight matching) = node.NotTight
node_fault_of (not_leaf shore) = node.NotLeaf

-- the fault for the reason why a step is refused
abbrev pub ear_fault_of : PlainWhy → EarFault
ear_fault_of not_path = ear.NotPath
ear_fault_of even_length = ear.EvenLength
ear_fault_of bad_ends = ear.BadEnds
ear_fault_of inner_on_stage = ear.InnerOnStage
ear_fault_of edge_used = ear.EdgeUsed
ear_fault_of (stage_not_covered edge) = ear.StageNotCovered edge
ear_fault_of (ends_early edge) = ear.EndsEarly edge

-- the number of a fault of a node, as reports have it
abbrev pub node_number : NodeFault → ℕ
node_number node.NotBlocks = 1
node_number node.Even = 2
node_number node.Trivial = 3
node_number node.NotTight = 4
node_number node.NotLeaf = 5

-- the number of a fault of a step, as reports have it
abbrev pub step_number : EarFault → ℕ
step_number ear.NotPath = 1
step_number ear.EvenLength = 2
step_number ear.BadEnds = 3
step_number ear.InnerOnStage = 4
step_number ear.EdgeUsed = 5
step_number (ear.StageNotCovered edge) = 6
step_number (ear.EndsEarly edge) = 7

-- the edge that a fault of a step names, if it names one
abbrev pub step_edge : EarFault → Option ℕ
step_edge ear.NotPath = None
step_edge ear.EvenLength = None
step_edge ear.BadEnds = None
step_edge ear.InnerOnStage = None
step_edge ear.EdgeUsed = None
step_edge (ear.StageNotCovered edge) = Some edge
step_edge (ear.EndsEarly edge) = Some edge

-- the output, with these words at its beginning
abbrev pub begun_by : (words output : List ℕ) → List ℕ
begun_by words output = words ++ drop (length words) output

-- the beginning of a line on a tree that is refused, up to the number of the reason
abbrev pub refused_words : (words : List ℕ) (number node why : ℕ) → List ℕ
refused_words words number node why = (numbered words number ++ numbered (codes " refused node ") node) ++ numbered (codes " why ") why

-- the output where it is that of a graph with this fault, of which a Berge set is left open
abbrev pub cover_told : CoverFault → (output : List ℕ) → List ℕ
cover_told cover.Small output = verdict_text (NotCovered reason.Small)
cover_told (cover.Parted a b) output = verdict_text (NotCovered (reason.Parted a b))
cover_told cover.Unmatched output = begun_by (codes "covered no berge") output
cover_told (cover.Unallowed edge) output = verdict_text (NotCovered (reason.Unallowed edge))

-- the output where it is that of the refusal, of which the evidence is left open: a Berge set, a
-- matching or a shore
abbrev pub refusal_told : Refusal → (output : List ℕ) → List ℕ
refusal_told (Graph fault) output = cover_told fault output
refusal_told (Tree number at place fault) output = begun_by (refused_words (codes "tree ") number at (node_number fault)) output
refusal_told (Ears step place fault) output = ear_judgement_text (line.Refused step (step_number fault) (step_edge fault))
refusal_told (Stuck step fault) output = stuck_text step
refusal_told (Move step at place fault) output = begun_by (refused_words (codes "move ") step at (node_number fault)) output

-- the same for a report that may be no refusal
abbrev pub told_by : Option Refusal → (output : List ℕ) → List ℕ
told_by None output = output
told_by (Some refusal) output = refusal_told refusal output
