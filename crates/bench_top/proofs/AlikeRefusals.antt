-- Two refusals of one thing have one text, but for the list of numbers that they show: the first
-- node that breaks a rule is one, and so is the rule, and the first step or move that fails.
use Rattle.move_text.proofs.from_counting.Common.{◌≡◌, ◌∙◌, ℕ, List, ◌++◌, inl, inr, refl, sym, ap₂, subst, arith, codes, singleton}
use Rattle.graph_core.proofs.Common.{Graph, IsGraph}
use Rattle.tree_core.proofs.Common.{IsDerivation, PlainMove, Shape}
use Rattle.bench_reports.proofs.from_tree_check.FirstRefusals.{refused-not_derived, refused-once}
use Rattle.bench_reports.proofs.from_tree_check.ReplayAnswers.{refused-exactly, refused_move-once, stuck-exactly}
use Rattle.bench_reports.specs.from_tree_check.Common.{Why, even, not_blocks, not_leaf, not_tight, trivial, why_number, without_matching, IsRefusedMoveAt}
use Rattle.bench_reports.specs.from_tree_check.declared.replaying.Replayed.TheVariants.{Stuck}
use Rattle.ear_text.specs.from_ear_core.Common.{PlainEars}
use Rattle.ear_text.proofs.from_ear_core.Refusing.{refusal-one}
use Rattle.mcg6_lines.specs.from_report_text.Common.{judgement_text, numbered, refused_line, numbers_text, refused_move_text}
use Rattle.mcg6_lines.specs.from_report_text.declared.ear_judgements.EarLine.TheVariants as ear_line
use Rattle.bench_reports.specs.from_bench_outcomes.Common.{CheckGives, RefusedTree, RefusesTree, shown_of, CompareGives, RefusesPair, ScriptGives, EarCheckGives, EarsGives, RefusedEars, MayBeBerge, MayCross, MayCrossBehind, MayShowOfMoves, MayShowOfTree, MayShowOfTwo, DecomposeGives, MovesGive, RefusedMove, ReplayGives, StuckMove}
use Rattle.bench_reports.specs.from_bench_outcomes.EarChecks as ears
use Rattle.bench_top.specs.Fixed.{DifferAtMostIn}
use Rattle.bench_reports.specs.from_bench_outcomes.declared.status.Status.TheVariants.{Negative}
use Rattle.graph_text.specs.Common.{NamedGraph}
use Rattle.bench_reports.specs.from_tight_cuts.Common.{Candidate}
use Rattle.bench_top.proofs.AlikeReasons.{uncovered-alike}
use Rattle.bench_top.proofs.AlikeTexts.{alike-along, alike-before, alike-behind, alike-lists, alike-wider}
use Rattle.bench_reports.proofs.from_bench_outcomes.Settled.{refused-tree}

-- the line of a refusal, for reasons that are one but for the matching
line-alike : (fact : List ℕ → Type 0) (words : List ℕ) (number node : ℕ) (a b : Why) → without_matching a ≡ without_matching b →
    ((m : List ℕ) → a ≡ not_tight m → fact m) → ((m : List ℕ) → b ≡ not_tight m → fact m) →
    DifferAtMostIn fact (refused_line words number node (why_number a) (shown_of a)) (refused_line words number node (why_number b) (shown_of b))
line-alike fact words number node (not_tight m) (not_tight k) same first second =
    let begin = (numbered words number ++ numbered (codes " refused node ") node) ++ numbered (codes " why ") 4 in
    alike-before fact (codes "\n") (begin ++ (codes " matching" ++ numbers_text m)) (begin ++ (codes " matching" ++ numbers_text k))
    (alike-behind fact begin (codes " matching" ++ numbers_text m) (codes " matching" ++ numbers_text k)
    (alike-behind fact (codes " matching") (numbers_text m) (numbers_text k) (alike-lists fact m k (first m refl) (second k refl))))
line-alike fact words number node not_blocks not_blocks same first second = inl refl
line-alike fact words number node even even same first second = inl refl
line-alike fact words number node trivial trivial same first second = inl refl
line-alike fact words number node (not_leaf c) (not_leaf d) same first second = grind arith
line-alike fact words number node a b same first second = absurd (cc same)

-- a refused tree
trees-alike : (g : Graph) → IsGraph g → (t : Shape) (place : ℕ) (output other : List ℕ) → RefusedTree g t place Negative output → RefusedTree g t place Negative other → DifferAtMostIn (MayCross g t) output other
unfolding judgement_text
trees-alike g is t place output other one two =
    let same = refused-once g is t one.node two.node one.why two.why one.refused two.refused in
    let tells : ℕ → Why → List ℕ = λ node why. refused_line (codes "tree ") place node (why_number why) (shown_of why) in
    grind (arith, alike-along (MayCross g t) output other (tells one.node one.why) (tells one.node two.why) one.text, line-alike (MayCross g t) (codes "tree ") place one.node one.why two.why same.1)

-- a tree is refused, or the graph is not covered
refuses-alike : (g : Graph) → IsGraph g → (t : Shape) (place : ℕ) (output other : List ℕ) → RefusesTree g t place Negative output → RefusesTree g t place Negative other →
    DifferAtMostIn (MayShowOfTree g t) output other
refuses-alike g is t place output other (inl one) (inl two) = alike-wider (MayCross g t) (MayShowOfTree g t) output other (λ numbers may. inr may) (trees-alike g is t place output other one two)
refuses-alike g is t place output other (inl one) (inr two) = absurd (two.uncovered one.refused.covered)
refuses-alike g is t place output other (inr one) (inl two) = absurd (one.uncovered two.refused.covered)
refuses-alike g is t place output other (inr one) (inr two) = grind (arith, alike-wider (MayBeBerge g) (MayShowOfTree g t) output other, uncovered-alike g Negative Negative output other one two)

-- one of two trees is
pair-alike : (g : Graph) → IsGraph g → (s t : Shape) (output other : List ℕ) → RefusesPair g s t Negative output → RefusesPair g s t Negative other → DifferAtMostIn (MayShowOfTwo g s t) output other
pair-alike g is s t output other (inl one) (inl two) = alike-wider (MayCross g s) (MayShowOfTwo g s t) output other (λ numbers may. inr (inl may)) (trees-alike g is s 1 output other one two)
pair-alike g is s t output other (inl one) (inr (inl two)) = absurd (refused-not_derived g is s one.node one.why two.0 one.refused)
pair-alike g is s t output other (inl one) (inr (inr two)) = absurd (two.uncovered one.refused.covered)
pair-alike g is s t output other (inr (inl one)) (inl two) = absurd (refused-not_derived g is s two.node two.why one.0 two.refused)
pair-alike g is s t output other (inr (inl one)) (inr (inl two)) = grind (arith, alike-wider (MayCross g t) (MayShowOfTwo g s t) output other, trees-alike g is t 2 output other one.1 two.1)
pair-alike g is s t output other (inr (inl one)) (inr (inr two)) = absurd (two.uncovered one.0.covered)
pair-alike g is s t output other (inr (inr one)) (inl two) = absurd (one.uncovered two.refused.covered)
pair-alike g is s t output other (inr (inr one)) (inr (inl two)) = absurd (one.uncovered two.0.covered)
pair-alike g is s t output other (inr (inr one)) (inr (inr two)) = alike-wider (MayBeBerge g) (MayShowOfTwo g s t) output other (λ numbers may. inl may) (uncovered-alike g Negative Negative output other one two)

-- a list of ears that is refused
ears-once : (g : Graph) (list : PlainEars) (output other : List ℕ) → RefusedEars g list Negative output → RefusedEars g list Negative other → output ≡ other
ears-once g list output other one two = grind (arith, refusal-one g (singleton list.start) 0 list.steps one.step two.step one.why two.why one.refused two.refused)

-- moves of which one fails
moves-alike : (g : Graph) → IsGraph g → (t : Shape) (moves : List PlainMove) (output other : List ℕ) → RefusedMove g t moves Negative output → RefusedMove g t moves Negative other →
    DifferAtMostIn (MayCrossBehind g t moves) output other
unfolding refused_move_text
moves-alike g is t moves output other one two =
    let same = refused_move-once g is t moves one.at two.at one.node two.node one.why two.why one.refused two.refused in
    let tells : ℕ → ℕ → Why → List ℕ = λ at node why. refused_line (codes "move ") at node (why_number why) (shown_of why) in
    alike-along (MayCrossBehind g t moves) output other (tells one.at one.node one.why) (tells one.at one.node two.why) one.text
    (two.text ∙ ap₂ (λ (at node : ℕ). tells at node two.why) (sym same.0) (sym same.1))
    (line-alike (MayCrossBehind g t moves) (codes "move ") one.at one.node one.why two.why same.2
    (λ m e. (one.at, (one.node, subst (λ (w : Why). IsRefusedMoveAt g t moves one.at one.node w) e one.refused)))
    (λ m e. (two.at, (two.node, subst (λ (w : Why). IsRefusedMoveAt g t moves two.at two.node w) e two.refused))))

stuck-once : (g : Graph) → IsGraph g → (t : Shape) (moves : List PlainMove) (output other : List ℕ) → StuckMove g t moves Negative output → StuckMove g t moves Negative other → output ≡ other
stuck-once g is t moves output other one two = grind (arith, stuck-exactly g is t moves (Stuck one.at) two.at one.stuck)

stuck-not_refused : (g : Graph) → IsGraph g → (t : Shape) (moves : List PlainMove) (output other : List ℕ) → StuckMove g t moves Negative output → RefusedMove g t moves Negative other → ⊥
stuck-not_refused g is t moves output other one two = grind (arith, refused-exactly g is t moves (Stuck one.at) two.at one.stuck)

failed-alike : (g : Graph) → IsGraph g → (t : Shape) (moves : List PlainMove) (output other : List ℕ) → MovesGive g t moves Negative output → MovesGive g t moves Negative other →
    DifferAtMostIn (MayCrossBehind g t moves) output other
failed-alike g is t moves output other h two = grind (arith, stuck-once, stuck-not_refused, moves-alike)

-- moves fail on a derivation alone
fails-derived : (g : Graph) (t : Shape) (moves : List PlainMove) (output : List ℕ) → MovesGive g t moves Negative output → IsDerivation g t
fails-derived g t moves output h = grind arith

pub replay-alike : (g : Graph) → IsGraph g → (t : Shape) (moves : List PlainMove) (output other : List ℕ) → ReplayGives g t moves Negative output → ReplayGives g t moves Negative other →
    DifferAtMostIn (MayShowOfMoves g t moves) output other
replay-alike g is t moves output other (inl one) (inl two) =
    alike-wider (MayCrossBehind g t moves) (MayShowOfMoves g t moves) output other (λ numbers may. inr (inr may)) (failed-alike g is t moves output other one two)
replay-alike g is t moves output other (inl one) (inr two) = absurd (refused-tree g is t 1 Negative other two (fails-derived g t moves output one))
replay-alike g is t moves output other (inr one) (inl two) = absurd (refused-tree g is t 1 Negative output one (fails-derived g t moves other two))
replay-alike g is t moves output other (inr one) (inr two) = grind (arith, alike-wider (MayShowOfTree g t) (MayShowOfMoves g t moves) output other, refuses-alike g is t 1 output other one two)

-- a graph that is not covered
pub decompose-alike : (picks : List Candidate → ℕ → ℕ → Type 0) (named : NamedGraph) (output other : List ℕ) → DecomposeGives picks named Negative output → DecomposeGives picks named Negative other →
    DifferAtMostIn (MayBeBerge named.graph) output other
decompose-alike picks named output other h two = grind (arith, uncovered-alike named.graph Negative Negative output other)

pub ears-alike : (g : Graph) (output other : List ℕ) → EarsGives g Negative output → EarsGives g Negative other → DifferAtMostIn (MayBeBerge g) output other
ears-alike g output other h two = grind (arith, uncovered-alike g Negative Negative output other)

pub list-alike : (g : Graph) (list : PlainEars) (output other : List ℕ) → EarCheckGives g list Negative output → EarCheckGives g list Negative other → DifferAtMostIn (MayBeBerge g) output other
list-alike g list output other h two = grind (arith, ears-once g list output other, uncovered-alike g Negative Negative output other)

pub check-alike : (g : Graph) → IsGraph g → (t : Shape) (output other : List ℕ) → CheckGives g t Negative output → CheckGives g t Negative other →
    DifferAtMostIn (MayShowOfTree g t) output other
check-alike g is t output other h two = grind (arith, refuses-alike g is t 1 output other)

pub compare-alike : (g : Graph) → IsGraph g → (s t : Shape) (output other : List ℕ) → CompareGives g s t Negative output → CompareGives g s t Negative other → DifferAtMostIn (MayShowOfTwo g s t) output other
compare-alike g is s t output other h two = grind (arith, pair-alike g is s t output other)

pub script-alike : (g : Graph) → IsGraph g → (s t : Shape) (output other : List ℕ) → ScriptGives g s t Negative output → ScriptGives g s t Negative other → DifferAtMostIn (MayShowOfTwo g s t) output other
script-alike g is s t output other h two = grind (arith, pair-alike g is s t output other)
