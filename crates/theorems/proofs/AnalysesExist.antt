-- For every multigraph there are right lines of `analyse`: each of them is a test, and so each
-- list is a rising list. The kind of a covered graph is composite by its first candidate, and
-- if there is none it is brace or brick by its sides.
use Rattle.tree_check.proofs.from_counting.Common.{◌≡◌, ◌⊎◌, ◌↔◌, ℕ, Bool, true, false, List, [], ◌∷◌, Option, Some, None, option_map, refl, sym, ◌∙◌, arith, inl, inr, All, IsTrue, true≢false, mem-within, mem-rising_list, rising_list-rises, Within, count, Lists, rising_list, Set, none}
use Rattle.theorems.proofs.Quotients.{bipartite-or}
use Rattle.graph_core.proofs.Common.{is_allowed_found, is_allowed_says, maximum_exists, component_count, IsCovered, InA, InC, InD, Graph, IsBipartite, IsMultigraph, size, Allowed, is_allowed, missed_count, classes, cut_pair, equivalent_pair, HasOnlyTrivialTightCuts, pair_of, IsVerdict}
use Rattle.graph_core.specs.declared.ends.Ends.{Ends}
use Rattle.graph_core.specs.declared.verdict.Kind.{Kind}
use Rattle.graph_core.specs.declared.verdict.Kind.TheVariants.{Brace, Brick, Composite}
use Rattle.graph_core.specs.declared.verdict.Verdict.{Verdict}
use Rattle.graph_core.specs.declared.verdict.Verdict.TheVariants.{Covered, NotCovered}
use Rattle.bench_top.specs.from_leaf_kinds.LeafKinds.{IsKind, cut_of}
use Rattle.tree_check.proofs.from_tight_cuts.Completeness.{candidates_found, candidates_none}
use Rattle.tree_check.specs.from_tight_cuts.Common.{Candidate, IsTightCandidate, candidates, first_shore}
use Rattle.report_text.specs.declared.analyses.AnalysisLines.{AnalysisLines}
use Rattle.report_text.specs.declared.structures.Structure.{Structure}
use Rattle.bench_top.specs.from_bench_outcomes.Common.{IsAnalysis, IsStructure, TellsStructure, Analysed, Analysed6, with_given_names}
use Rattle.bench_top.specs.from_bench_outcomes.declared.status.Status.{Status}
use Rattle.bench_top.specs.from_bench_outcomes.declared.status.Status.TheVariants.{Done}
use Rattle.graph_text.specs.Common.{NamedGraph}
use Rattle.graph6_text.specs.Common.{graph6_of}
use Rattle.report_text.specs.Common.{analysis_text, graph6_line}
use Rattle.theorems.proofs.ReportsExist.{covered_or_told}
use Rattle.theorems.proofs.ThreeSets.{three_sets}

-- the rising list of a test of a property lists the numbers with the property
pub listed_by : (n : ℕ) (x : Set) (P : ℕ → Type 0) → ((v : ℕ) → Within n v → (x v ≡ true) ↔ P v) → Lists n (rising_list n x) P
listed_by n x P says = record {
  rising = rising_list-rises n x;
  sound = λ v m. let w = mem-within n (rising_list n x) (rising_list-rises n x) v m in (says v w).0 (sym (mem-rising_list n x v w) ∙ m);
  complete = λ v w p. mem-rising_list n x v w ∙ (says v w).1 p;
}

told_pair : (o : Option (ℕ × ℕ)) → (e : Option Ends) × (option_map pair_of e ≡ o)
told_pair None = (None, refl)
told_pair (Some k) = (Some (record { a = k.0; b = k.1 }), refl)

-- the kind by the candidates
kind_of : (g : Graph) (list : List Candidate) → All (IsTightCandidate g) list → (list ≡ [] → HasOnlyTrivialTightCuts g) → IsBipartite g ⊎ (¬ IsBipartite g) → (kind : Kind) × IsKind g kind × (cut_of kind ≡ first_shore list)
kind_of g [] found uncut (inl even) = (Brace, (even, uncut refl), refl)
kind_of g [] found uncut (inr odd) = (Brick, (odd, uncut refl), refl)
kind_of g (c ∷ list) found uncut sides = let first : IsTightCandidate g c = found 0 c (omega arith) in (Composite c.shore, (first.tight, first.nontrivial), refl)

pub structure_of : (g : Graph) → IsMultigraph g → IsCovered g → (s : Structure) × IsStructure g s
structure_of g is cov =
    let u = told_pair (equivalent_pair g) in
    let c = told_pair (cut_pair g) in
    let k = kind_of g (candidates g) (candidates_found g is.ends cov) (candidates_none g is.ends cov).0 (bipartite-or g is.ends) in
    (record { classes = classes g; unlike = u.0; cutpair = c.0; kind = k.0 }, record { partition = refl; equivalent = u.1; separates = c.1; kind = k.1; cut = k.2 })

-- the verdict, and the structure if the graph is covered
verdict_of : (g : Graph) → IsMultigraph g → (v : Verdict) × (s : Option Structure) × IsVerdict g v × TellsStructure g v s
verdict_of g is = elim (covered_or_told g is) [
  | inl cov ↦ let s = structure_of g is cov in (Covered, Some s.0, cov, s.1)
  | inr u ↦ (NotCovered u.1.reason, None, u.1.first, tt)
]

sides_of : (g : Graph) → IsBipartite g ⊎ (¬ IsBipartite g) → (b : Bool) × (IsTrue b ↔ IsBipartite g)
sides_of g (inl even) = (true, (λ t. even, λ e. refl))
sides_of g (inr odd) = (false, (λ t. absurd (true≢false (sym t)), λ e. absurd (odd e)))

pub analysis-exists : (g : Graph) → IsMultigraph g → (lines : AnalysisLines) × IsAnalysis g lines
analysis-exists g is =
    let m = maximum_exists g none in
    let b = sides_of g (bipartite-or g is.ends) in
    let t = three_sets g is.ends in
    let v = verdict_of g is in (
      record {
        order = g.order;
        size = size g;
        components = component_count g none;
        bipartite = b.0;
        matching = count (size g) m.0;
        deficiency = missed_count g none m.0;
        d = rising_list g.order t.0;
        a = rising_list g.order t.1;
        c = rising_list g.order t.2;
        allowed = rising_list (size g) (is_allowed g);
        verdict = v.0;
        structure = v.1;
      },
      record {
        order = refl;
        edges = refl;
        components = refl;
        bipartite = b.1;
        maximum = record { matching = m.0; maximum = m.1; size_is = refl; misses = refl };
        d = listed_by g.order t.0 (InD g) t.3.in_d;
        a = listed_by g.order t.1 (InA g) t.3.in_a;
        c = listed_by g.order t.2 (InC g) t.3.in_c;
        allowed = listed_by (size g) (is_allowed g) (Allowed g) (λ e w. (is_allowed_says g e, is_allowed_found g e w));
        verdict = v.2;
        structure = v.3;
      },
    )

pub analysed-exists : (named : NamedGraph) → IsMultigraph named.graph → (status : Status) × (output : List ℕ) × Analysed named status output
analysed-exists named is = let l = analysis-exists named.graph is in (Done, with_given_names (analysis_text l.0) named.names false, record { lines = l.0; right = l.1; done = refl; text = refl })

pub analysed6-exists : (g : Graph) → IsMultigraph g → (status : Status) × (output : List ℕ) × Analysed6 g status output
analysed6-exists g is = let l = analysis-exists g is in (Done, graph6_line (analysis_text l.0) (graph6_of g), record { lines = l.0; right = l.1; done = refl; text = refl })
