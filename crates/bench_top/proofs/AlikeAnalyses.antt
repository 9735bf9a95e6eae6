-- Two right analyses of a multigraph have one text, but for the Berge set: each line but that of
-- the verdict gives a value that the graph determines. A rising list is determined by its
-- members, the number of edges of a maximum matching by there being none with more, and the kind
-- by the sides and the first candidate.
use Rattle.move_text.proofs.from_counting.Common.{◌≡◌, ◌∙◌, ◌↔◌, ℕ, List, ◌++◌, Bool, Option, Some, None, refl, sym, ap, arith, codes, IsTrue, same_tests}
use Rattle.graph_core.proofs.Common.{Graph, IsBipartite, IsMultigraph, size, InA, InC, InD, Allowed, IsVerdict, reason_of, reason-uncovered, missed_edges}
use Rattle.graph_core.specs.declared.verdict.Verdict.{Verdict}
use Rattle.graph_core.specs.declared.verdict.Verdict.TheVariants.{Covered, NotCovered}
use Rattle.mcg6_lines.specs.from_report_text.Common.{analysis_text, graph_lines, verdict_lines, with_structure, with_three_sets, deficiency_line, list_line, matching_line, verdict_text}
use Rattle.mcg6_lines.specs.from_report_text.declared.analyses.AnalysisLines.{AnalysisLines}
use Rattle.mcg6_lines.specs.from_report_text.declared.structures.Structure.{Structure}
use Rattle.bench_reports.specs.from_bench_outcomes.Common.{HasMaximum, IsAnalysis, TellsStructure, MayBeBerge}
use Rattle.mcg6_lines.proofs.AlikeMatchings.{lists-once}
use Rattle.bench_top.specs.Fixed.{DifferAtMostIn}
use Rattle.bench_top.proofs.AlikeReasons.{reason-alike}
use Rattle.bench_top.proofs.AlikeTexts.{alike-along, alike-behind}

answers-once : (a b : Bool) (P : Type 0) → (IsTrue a ↔ P) → (IsTrue b ↔ P) → a ≡ b
answers-once a b P one two = same_tests a b (λ is. two.1 (one.0 is)) (λ is. one.1 (two.0 is))

-- maximum matchings have one number of edges, and miss one number of vertices
edges-once : (g : Graph) (edges missed more others : ℕ) → HasMaximum g edges missed → HasMaximum g more others → edges ≡ more
edges-once g edges missed more others one two = grind arith

missed-once : (g : Graph) → IsMultigraph g → (edges missed more others : ℕ) → HasMaximum g edges missed → HasMaximum g more others → missed ≡ others
missed-once g is edges missed more others one two = grind (arith, edges-once, missed_edges)

-- the lines before that of the verdict
abbrev front : AnalysisLines → List ℕ
front lines =
    with_three_sets ((graph_lines lines ++ matching_line lines.matching) ++ deficiency_line lines.deficiency) lines ++ list_line (codes "allowed") lines.allowed

front-once : (g : Graph) → IsMultigraph g → (a b : AnalysisLines) → IsAnalysis g a → IsAnalysis g b → front a ≡ front b
front-once g is a b one two =
    let order = one.order ∙ sym two.order in
    let edges = one.edges ∙ sym two.edges in
    let components = one.components ∙ sym two.components in
    let bipartite = answers-once a.bipartite b.bipartite (IsBipartite g) one.bipartite two.bipartite in
    let matching = edges-once g a.matching a.deficiency b.matching b.deficiency one.maximum two.maximum in
    let missed = missed-once g is a.matching a.deficiency b.matching b.deficiency one.maximum two.maximum in
    let in_d = lists-once g.order a.d b.d (InD g) one.d two.d in
    let in_a = lists-once g.order a.a b.a (InA g) one.a two.a in
    let in_c = lists-once g.order a.c b.c (InC g) one.c two.c in
    let allowed = lists-once (size g) a.allowed b.allowed (Allowed g) one.allowed two.allowed in
    λ i. front (record a {
      order = order i;
      size = edges i;
      components = components i;
      bipartite = bipartite i;
      matching = matching i;
      deficiency = missed i;
      d = in_d i;
      a = in_a i;
      c = in_c i;
      allowed = allowed i;
    })

-- the lines from that of the verdict
rest-alike : (g : Graph) → IsMultigraph g → (before : List ℕ) (v w : Verdict) (s t : Option Structure) → IsVerdict g v → IsVerdict g w → TellsStructure g v s → TellsStructure g w t →
    DifferAtMostIn (MayBeBerge g) (with_structure (before ++ verdict_text v) s) (with_structure (before ++ verdict_text w) t)
rest-alike g is before Covered w None t first second one two = absurd one
rest-alike g is before Covered Covered (Some s) None first second one two = absurd two
rest-alike g is before Covered Covered (Some s) (Some t) first second one two = grind arith
rest-alike g is before Covered (NotCovered r) (Some s) t first second one two = absurd (reason-uncovered g (reason_of r) is second first)
rest-alike g is before (NotCovered q) w (Some s) t first second one two = absurd one
rest-alike g is before (NotCovered q) Covered None t first second one two = absurd (reason-uncovered g (reason_of q) is first second)
rest-alike g is before (NotCovered q) (NotCovered r) None (Some t) first second one two = absurd two
rest-alike g is before (NotCovered q) (NotCovered r) None None first second one two = grind (arith, alike-behind, reason-alike)

pub analyses-alike : (g : Graph) → IsMultigraph g → (a b : AnalysisLines) → IsAnalysis g a → IsAnalysis g b → DifferAtMostIn (MayBeBerge g) (analysis_text a) (analysis_text b)
unfolding analysis_text verdict_lines
analyses-alike g is a b one two =
    let tail : List ℕ → List ℕ = λ before. with_structure (before ++ verdict_text b.verdict) b.structure in
    alike-along (MayBeBerge g) (analysis_text a) (analysis_text b) (analysis_text a) (tail (front a)) refl (ap tail (sym (front-once g is a b one two)))
    (rest-alike g is (front a) a.verdict b.verdict a.structure b.structure one.verdict two.verdict one.structure two.structure)
