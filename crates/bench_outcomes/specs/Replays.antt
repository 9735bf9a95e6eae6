-- The report on a script of moves on a tree of cuts that is meant to be a derivation of a graph:
-- the last tree if each tree on the way is a derivation, or the first move that fails, or why the
-- tree itself is refused.
-- Stated by: bench_reports. Used by: bench_outcomes, bench_top, theorems.
use Rattle.std.specs.Prelude.{◌≡◌, ◌⊎◌, ℕ, List, length}
use Rattle.graph_core.specs.Common.{Graph}
use Rattle.tree_core.specs.Common.{IsDerivation, PlainMove, TurnsThrough, Shape}
use Rattle.tree_check.specs.Common.{Why, why_number, IsStuckAt, IsRefusedMoveAt}
use Rattle.bench_tasks.specs.from_tree_text.Common.{tree_text}
use Rattle.report_text.specs.Common.{replayed_text, stuck_text, refused_move_text}
use Rattle.bench_outcomes.specs.Checks.{RefusesTree, shown_of}
use Rattle.bench_outcomes.specs.declared.status.Status.{Status}
use Rattle.bench_outcomes.specs.declared.status.Status.TheVariants.{Done, Negative}

-- the moves turn the derivation through derivations into a last tree: the output is its text, and
-- then the number of moves
pub record ReplayedTree (g : Graph) (t : Shape) (moves : List PlainMove) (status : Status) (output : List ℕ) : Type 0 where
  pub derivation : IsDerivation g t
  pub reached : Shape
  pub turns : TurnsThrough g t moves reached
  pub done : status ≡ Done
  pub text : output ≡ replayed_text (tree_text g.order reached) (length moves)

-- the first move that fails has no result: the output names it
pub record StuckMove (g : Graph) (t : Shape) (moves : List PlainMove) (status : Status) (output : List ℕ) : Type 0 where
  pub derivation : IsDerivation g t
  pub at : ℕ
  pub stuck : IsStuckAt g t moves at
  pub negative : status ≡ Negative
  pub text : output ≡ stuck_text at

-- the first move that fails has a result that is not a derivation: the output names it and the
-- first refusal of its result
pub record RefusedMove (g : Graph) (t : Shape) (moves : List PlainMove) (status : Status) (output : List ℕ) : Type 0 where
  pub derivation : IsDerivation g t
  pub at : ℕ
  pub node : ℕ
  pub why : Why
  pub refused : IsRefusedMoveAt g t moves at node why
  pub negative : status ≡ Negative
  pub text : output ≡ refused_move_text at node (why_number why) (shown_of why)

-- the result of the moves on a derivation
abbrev pub MovesGive : Graph → Shape → List PlainMove → Status → List ℕ → Type 0
MovesGive g t moves status output = ReplayedTree g t moves status output ⊎ (StuckMove g t moves status output ⊎ RefusedMove g t moves status output)

-- the result of `replay`
abbrev pub ReplayGives : Graph → Shape → List PlainMove → Status → List ℕ → Type 0
ReplayGives g t moves status output = MovesGive g t moves status output ⊎ RefusesTree g t 1 status output
