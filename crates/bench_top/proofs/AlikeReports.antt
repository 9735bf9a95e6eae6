-- Two reports on one thing that is done have one text, since a tree that an order picks is one, and
-- so are the counts of its leaves and the tree to which moves lead. Two analyses of one graph
-- differ at most in the Berge set that they show.
use Rattle.std.proofs.Common.{◌≡◌, ℕ, List, inl, inr, subst, arith}
use Rattle.graph_core.proofs.Common.{Graph, IsMultigraph, singles}
use Rattle.graph_text.specs.Common.{NamedGraph}
use Rattle.bench_reports.specs.from_tight_cuts.Common.{Candidate}
use Rattle.ear_text.specs.from_ear_core.Common.{PlainEars}
use Rattle.tree_core.proofs.Common.{leaves, PlainMove, Shape, IsTally}
use Rattle.bench_reports.proofs.from_tree_check.ReplayAnswers.{last-once}
use Rattle.mcg6_lines.specs.from_report_text.declared.judgements.TreeLine.TheVariants as line
use Rattle.tree_core.specs.declared.tallies.Tally.{Tally}
use Rattle.bench_reports.specs.from_grow_gen.Common.{grown}
use Rattle.bench_reports.specs.from_bench_outcomes.Common.{CheckGives, RefusesTree, EarCheckGives, MayBeBerge, Grown, IsCountedTree, Analysed, Analysed6, DecomposeGives, TellsDerivation, ReplayGives, ReplayedTree}
use Rattle.bench_top.specs.Fixed.{DifferAtMostIn}
use Rattle.mcg6_lines.specs.from_decomposer.Common.{NamedPicks}
use Rattle.mcg6_lines.specs.from_decomposer.declared.orders.NamedOrder.{NamedOrder}
use Rattle.mcg6_lines.specs.from_decomposer.declared.orders.NamedOrder.TheVariants.{First, Last}
use Rattle.bench_reports.specs.from_bench_outcomes.declared.status.Status.TheVariants.{Done}
use Rattle.bench_top.proofs.AlikeAnalyses.{analyses-alike}
use Rattle.bench_top.proofs.AlikeTexts.{alike-along, graph6-alike, named-alike}
use Rattle.mcg6_lines.proofs.OneTree.{PicksOnce, named-once, picked-once, kinds-once, tally-once}

-- what is reported on a derivation
tells-once : (named : NamedGraph) (t : Shape) (output other : List ℕ) → TellsDerivation named t Done output → TellsDerivation named t Done other → output ≡ other
tells-once named t output other one two = grind (arith, kinds-once named.graph (leaves named.graph.order t) one.kinds two.kinds one.right two.right)

pub decompose-once : (picks : List Candidate → ℕ → ℕ → Type 0) → PicksOnce picks → (named : NamedGraph) (output other : List ℕ) → DecomposeGives picks named Done output → DecomposeGives picks named Done other → output ≡ other
decompose-once picks once named output other (inl one) (inl two) =
    let same : one.tree ≡ two.tree = picked-once picks once named.graph (singles named.graph.order) 0 one.tree two.tree one.picked two.picked in
    tells-once named two.tree output other (subst (λ (t : Shape). TellsDerivation named t Done output) same one.told) two.told
decompose-once picks once named output other (inl one) (inr not_covered) = let no = not_covered.negative in cc no
decompose-once picks once named output other (inr not_covered) two = let no = not_covered.negative in cc no

-- a tree that is refused is not done
not-done : (g : Graph) (t : Shape) (place : ℕ) (output : List ℕ) → RefusesTree g t place Done output → ⊥
not-done g t place output h = grind arith

pub check-once : (g : Graph) (t : Shape) (output other : List ℕ) → CheckGives g t Done output → CheckGives g t Done other → output ≡ other
check-once g t output other (inl one) (inl two) = grind (arith, tally-once g (leaves g.order t) one.tally two.tally one.counts two.counts)
check-once g t output other (inl one) (inr refused) = absurd (not-done g t 1 other refused)
check-once g t output other (inr refused) two = absurd (not-done g t 1 output refused)

pub ears-once : (g : Graph) (list : PlainEars) (output other : List ℕ) → EarCheckGives g list Done output → EarCheckGives g list Done other → output ≡ other
ears-once g list output other h two = grind arith

-- moves lead to one last tree
replay-tree : (g : Graph) (t : Shape) (moves : List PlainMove) (output : List ℕ) → ReplayGives g t moves Done output → ReplayedTree g t moves Done output
replay-tree g t moves output h = grind arith

replayed-once : (g : Graph) (t : Shape) (moves : List PlainMove) (output other : List ℕ) → ReplayedTree g t moves Done output → ReplayedTree g t moves Done other → output ≡ other
replayed-once g t moves output other one two = grind (arith, last-once g t one.reached two.reached moves one.turns two.turns)

pub replay-once : (g : Graph) (t : Shape) (moves : List PlainMove) (output other : List ℕ) → ReplayGives g t moves Done output → ReplayGives g t moves Done other → output ≡ other
replay-once g t moves output other one two = replayed-once g t moves output other (replay-tree g t moves output one) (replay-tree g t moves other two)

-- a graph that grew
grown-tree : (g : Graph) (order : NamedOrder) (s t : Shape) (a b : Tally) → IsCountedTree (NamedPicks order) g s a → IsCountedTree (NamedPicks order) g t b → (s ≡ t) × (a ≡ b)
grown-tree g order s t a b one two =
    let same : s ≡ t = picked-once (NamedPicks order) (named-once order) g (singles g.order) 0 s t one.picked two.picked in
    (same, tally-once g (leaves g.order t) a b (subst (λ (r : Shape). IsTally g (leaves g.order r) a) same one.counts) two.counts)

pub grow-once : (seed pieces : ℕ) (output other : List ℕ) → Grown seed pieces Done output → Grown seed pieces Done other → output ≡ other
grow-once seed pieces output other one two =
    let g = grown seed pieces in
    let first = grown-tree g First one.s two.s one.first two.first one.by_first two.by_first in
    let last = grown-tree g Last one.t two.t one.last two.last one.by_last two.by_last in
    grind arith

-- the lines of an analysis
pub analysed-alike : (named : NamedGraph) → IsMultigraph named.graph → (output other : List ℕ) → Analysed named Done output → Analysed named Done other → DifferAtMostIn (MayBeBerge named.graph) output other
analysed-alike named is output other one two = grind (arith, alike-along, analyses-alike, named-alike)

pub analysed6-alike : (g : Graph) → IsMultigraph g → (output other : List ℕ) → Analysed6 g Done output → Analysed6 g Done other → DifferAtMostIn (MayBeBerge g) output other
analysed6-alike g is output other one two = grind (arith, alike-along, graph6-alike, analyses-alike)
