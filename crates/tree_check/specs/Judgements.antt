-- The judgement of a tree, as the code answers it.
-- Stated by: tree_check, bench_reports.
use Rattle.graph_core.specs.Common.{IsReason, Graph, reason_of}
use Rattle.tree_core.specs.Common.{IsDerivation, Shape}
use Rattle.tree_check.specs.Refusals.{Why, not_blocks, even, trivial, not_tight, not_leaf, IsRefused}
use Rattle.tree_check.specs.declared.judgement.Why.{Why as StoredWhy}
use Rattle.tree_check.specs.declared.judgement.Why.TheVariants.{NotBlocks, Even, Trivial, NotTight, NotLeaf}
use Rattle.tree_check.specs.declared.judgement.Judgement.{Judgement}
use Rattle.tree_check.specs.declared.judgement.Judgement.TheVariants as judgement

-- the reason that the code's value stands for
abbrev pub why_of : StoredWhy → Why
why_of NotBlocks = not_blocks
why_of Even = even
why_of Trivial = trivial
why_of (NotTight m) = not_tight m
why_of (NotLeaf c) = not_leaf c

-- the judgement is right: the graph is not matching covered, for its first reason; or it is and
-- the tree is a derivation; or it is and the tree is not, by its first refusal
abbrev pub IsJudgement : Graph → Shape → Judgement → Type 0
IsJudgement g t judgement.Accepted = IsDerivation g t
IsJudgement g t (judgement.NotCovered reason) = IsReason g (reason_of reason)
IsJudgement g t (judgement.Refused node why) = IsRefused g t node (why_of why)
