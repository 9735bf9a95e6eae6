-- For every query each line of a list has an output, or it is bad with a first error. So each list
-- has an outcome. Idea: the line stands for a multigraph or has a first error, and of a multigraph
-- it can be told whether it is covered, of which kind it is, and how its leaves are counted.
use Rattle.tree_check.proofs.from_counting.Common.{◌≡◌, ◌≢◌, ◌⊎◌, ◌↔◌, ℕ, List, [], Bool, true, false, Option, Some, None, Result, Ok, Err, is_none, refl, sym, subst, inl, inr, arith, IsTrue, IsFalse, true≢false, both_ways, cases_eq, cases_lt, Set, none, mem}
use Rattle.std.specs.Global.{Vec}
use Rattle.graph_core.specs.from_line_text.declared.faults.FaultKind.{FaultKind}
use Rattle.graph_core.specs.from_line_text.declared.faults.FaultKind.TheVariants.{Extra}
use Rattle.graph_core.proofs.Common.{Graph, IsCovered, IsMultigraph, HasPerfect, IsBicritical, equivalent_pair, has_perfect, has_perfect_found, has_perfect_says, is_bicritical, maximum_exists, missed_count}
use Rattle.graph_core.specs.declared.verdict.Kind.{Kind}
use Rattle.graph_core.specs.declared.verdict.Kind.TheVariants as kind
use Rattle.separation_kit.proofs.SeparationFacts.{equivalent-none}
use Rattle.bench_top.specs.from_leaf_kinds.LeafKinds.{IsKind}
use Rattle.tree_core.proofs.Common.{leaves, partitions-leaves}
use Rattle.tree_core.specs.declared.tallies.Tally.{Tally}
use Rattle.bench_tasks.specs.from_decomposer.Common.{NamedPicks}
use Rattle.bench_tasks.specs.from_decomposer.declared.orders.NamedOrder.{NamedOrder}
use Rattle.graph6_text.specs.Common.{outcome_of}
use Rattle.bench_top.proofs.from_mcg6_lines.ReadMultigraphs.{read-multigraph}
use Rattle.bench_top.specs.from_mcg6_lines.CutLines.{AreCutLines, cut_lines}
use Rattle.bench_top.specs.from_mcg6_lines.EarLines.{AreEarLines, ear_line}
use Rattle.bench_top.specs.from_mcg6_lines.Elementary.{elementary_lines}
use Rattle.bench_top.specs.from_mcg6_lines.KindLines.{kind_line, standing_words}
use Rattle.bench_top.specs.from_mcg6_lines.LeafLines.{AreLeafLines, leaf_lines, line_front}
use Rattle.bench_top.specs.from_mcg6_lines.Selecting.{HasProperty, IsBicriticalWithEdge, IsSelected, LacksProperty}
use Rattle.bench_top.specs.from_mcg6_lines.Standings.{IsCounted, IsStanding}
use Rattle.bench_top.specs.from_mcg6_lines.Telling.{IsTold, file_text}
use Rattle.bench_top.specs.from_mcg6_lines.declared.query.Property.{Property}
use Rattle.bench_top.specs.from_mcg6_lines.declared.query.Property.TheVariants.{Covered, Uncovered as NotCovered, Perfect, Brick, Brace, Bicritical, Composite, Bricks, Braces}
use Rattle.bench_top.specs.from_mcg6_lines.declared.query.Query.{Query}
use Rattle.bench_top.specs.from_mcg6_lines.declared.query.Query.TheVariants.{Kinds, Leaves, Elementary, Matching, Cuts, Ears, Graph as GraphFile, Select}
use Rattle.bench_top.specs.from_mcg6_lines.declared.standings.Standing.{Standing}
use Rattle.bench_top.specs.from_mcg6_lines.declared.standings.Standing.TheVariants.{Structured, Uncovered}
use Rattle.mcg6_top.specs.from_mcg6_reader.declared.place.LinePlace.{LinePlace}
use Rattle.mcg6_top.proofs.ListsExist.{list_outcome, settled_end}
use Rattle.mcg6_top.specs.Common.{HasAnswer, HasListOutcome, IsBadLine, TellsLineOf, is_past_graph}
use Rattle.mcg6_top.specs.declared.command.AtBadLine.{AtBadLine}
use Rattle.tree_check.proofs.from_tight_cuts.Completeness.{candidates_apart, candidates_cover, candidates_found, candidates_none}
use Rattle.tree_check.specs.from_tight_cuts.Common.{candidates}
use Rattle.ear_text.proofs.from_ear_core.Stepping.{covered-edge}
use Rattle.theorems.proofs.AnalysesExist.{structure_of}
use Rattle.theorems.proofs.CommandOrders.{named-some}
use Rattle.theorems.proofs.EarSteps.{ear-list-exists}
use Rattle.theorems.proofs.LeafKindLists.{kinds-by_place, kinds-exist, tally-exists}
use Rattle.theorems.proofs.MatchingLinesExist.{matching_line-exists}
use Rattle.theorems.proofs.PickedDerivations.{picked-tree, some-tree}
use Rattle.theorems.proofs.ReportsExist.{covered_or_told}

-- covered or not, matched or not, bicritical or not
covered_or : (g : Graph) → IsMultigraph g → IsCovered g ⊎ (¬ IsCovered g)
covered_or g is = elim (covered_or_told g is) [
  | inl cov ↦ inl cov
  | inr u ↦ inr u.1.uncovered
]

perfect_or : (g : Graph) (r : Set) → HasPerfect g r ⊎ (¬ HasPerfect g r)
perfect_or g r = by (has_perfect g r) refl
  where
    by : (b : Bool) → has_perfect g r ≡ b → HasPerfect g r ⊎ (¬ HasPerfect g r)
    by true is = inl (has_perfect_says g r is)
    by false is = inr (λ has. true≢false (subst (λ (b : Bool). true ≡ b) is (sym (has_perfect_found g r has))))

none_or : (o : Option (ℕ × ℕ)) → IsTrue (is_none o) ↔ (o ≡ None)
none_or None = (λ t. refl, λ e. refl)
none_or (Some pair) = (λ t. absurd (both_ways _ refl t), λ e. cc e)

bicritical_test : (g : Graph) → IsTrue (is_bicritical g) ↔ IsBicritical g
bicritical_test g = grind (arith, none_or, equivalent_pair, equivalent-none)

bicritical_or : (g : Graph) → IsBicritical g ⊎ (¬ IsBicritical g)
bicritical_or g = by (is_bicritical g) refl
  where
    by : (b : Bool) → is_bicritical g ≡ b → IsBicritical g ⊎ (¬ IsBicritical g)
    by true is = inl ((bicritical_test g).0 is)
    by false is = inr (λ critical. true≢false (subst (λ (b : Bool). true ≡ b) is (sym ((bicritical_test g).1 critical))))

module _ (g : Graph) (is : IsMultigraph g) where
  -- the leaves of some derivation are counted
  counted : IsCovered g → (tally : Tally) × IsCounted g tally
  counted cov =
      let t = some-tree g is.ends cov in
      let tally = tally-exists g is.ends (leaves g.order t.0) (partitions-leaves g t.0 t.1) in
      (tally.0, record { tree = t.0; derivation = t.1; counts = tally.1 })

  -- how the graph stands
  standing : (s : Standing) × IsStanding g s
  standing = elim (covered_or_told g is) [
    | inl cov ↦
        let s = structure_of g is cov in
        let c = counted cov in
        (Structured s.0.kind c.0 (is_bicritical g), record { covered = cov; right_kind = s.1.kind; counted = c.1; critical = bicritical_test g })
    | inr u ↦
        let m = maximum_exists g none in
        (Uncovered u.1.reason (missed_count g none m.0), record { first = u.1.first; missed = record { matching = m.0; maximum = m.1; misses = refl } })
  ]

  -- the lines of its leaves
  leaf_output : (order : NamedOrder) (number : ℕ) → (output : List ℕ) × AreLeafLines order number g output
  leaf_output order number = elim (covered_or g is) [
    | inl cov ↦
        let t = picked-tree (NamedPicks order) (named-some order) g is.ends cov in
        let ps = leaves g.order t.0 in
        let kinds = kinds-exist g is.ends ps (partitions-leaves g t.0 t.1) in (
          leaf_lines (line_front number g) g ps kinds.0,
          inl (record { tree = t.0; derivation = t.1; picked = t.2; lines = record { kinds = kinds.0; right = kinds-by_place g ps kinds.0 kinds.1; lines = refl } }),
        )
    | inr uncovered ↦ ([], inr (uncovered, refl))
  ]

  -- the lines of its candidates
  cut_output : (number : ℕ) → (output : List ℕ) × AreCutLines number g output
  cut_output number = elim (covered_or g is) [
    | inl cov ↦ (
      cut_lines (line_front number g) (candidates g),
      inl (record {
        covered = cov;
        lines = refl;
        tight = candidates_found g is.ends cov;
        once = candidates_apart g;
        cover = candidates_cover g is.ends cov;
        none = candidates_none g is.ends cov;
      }),
    )
    | inr uncovered ↦ ([], inr (uncovered, refl))
  ]

  -- the line of an ear list
  ear_output : (number : ℕ) → (output : List ℕ) × AreEarLines number g output
  ear_output number = elim (covered_or g is) [
    | inl cov ↦
        let made = ear-list-exists g 1 is cov (covered-edge g is cov) in (
          ear_line (line_front number g) g made.0,
          inl (record { covered = cov; list = made.0; is = made.1; singles = made.5; unrefinable = made.3; single = made.4; line = refl }),
        )
    | inr uncovered ↦ ([], inr (uncovered, refl))
  ]

  -- of a covered graph: whether it is of a kind
  is_brick : (k : Kind) → IsKind g k → IsKind g kind.Brick ⊎ (¬ IsKind g kind.Brick)
  is_brick kind.Brick right = inl right
  is_brick kind.Brace right = inr (λ has. has.0 right.0)
  is_brick (kind.Composite cut) right = inr (λ has. has.1 (mem cut) right.0 right.1)

  is_brace : (k : Kind) → IsKind g k → IsKind g kind.Brace ⊎ (¬ IsKind g kind.Brace)
  is_brace kind.Brick right = inr (λ has. right.0 has.0)
  is_brace kind.Brace right = inl right
  is_brace (kind.Composite cut) right = inr (λ has. has.1 (mem cut) right.0 right.1)

  abbrev HasCut : Type 0
  HasCut = (cut : List ℕ) × IsKind g (kind.Composite cut)

  is_composite : (k : Kind) → IsKind g k → HasCut ⊎ (¬ HasCut)
  is_composite kind.Brick right = inr (λ has. right.1 (mem has.0) has.1.0 has.1.1)
  is_composite kind.Brace right = inr (λ has. right.1 (mem has.0) has.1.0 has.1.1)
  is_composite (kind.Composite cut) right = inl (cut, right)

  -- a covered graph, and what is told of its kind
  with_kind : (P : Type 0) → ((k : Kind) → IsKind g k → P ⊎ (¬ P)) → (IsCovered g × P) ⊎ (¬ (IsCovered g × P))
  with_kind P told = elim (covered_or g is) [
    | inr uncovered ↦ inr (λ has. uncovered has.0)
    | inl cov ↦ let s = structure_of g is cov in elim (told s.0.kind s.1.kind) [
      | inl has ↦ inl (cov, has)
      | inr lacks ↦ inr (λ has. lacks has.1)
    ]
  ]

  critical_or : IsBicriticalWithEdge g ⊎ (¬ IsBicriticalWithEdge g)
  critical_or = elim (cases_lt g.order 2) [
    | inl few ↦ inr (λ has. omega (arith, few, has.two))
    | inr two ↦ elim (perfect_or g none) [
      | inr unmatched ↦ inr (λ has. unmatched has.matched)
      | inl matched ↦ elim (bicritical_or g) [
        | inr loose ↦ inr (λ has. loose has.critical)
        | inl critical ↦ inl (record { two = two; matched = matched; critical = critical })
      ]
    ]
  ]

  -- a number that is counted, or another
  number_or : (P : Tally → ℕ) (count : ℕ) (tally : Tally) → IsCounted g tally →
      ((t : Tally) × IsCounted g t × (P t ≡ count)) ⊎ ((t : Tally) × IsCounted g t × (P t ≢ count))
  number_or P count tally is = elim (cases_eq (P tally) count) [
    | inl same ↦ inl (tally, is, same)
    | inr other ↦ inr (tally, is, other)
  ]

  count_or : (P : Tally → ℕ) (count : ℕ) →
      ((t : Tally) × IsCounted g t × (P t ≡ count)) ⊎ ((¬ IsCovered g) ⊎ ((t : Tally) × IsCounted g t × (P t ≢ count)))
  count_or P count = elim (covered_or g is) [
    | inr uncovered ↦ inr (inl uncovered)
    | inl cov ↦ let c = counted cov in elim (number_or P count c.0 c.1) [
      | inl same ↦ inl same
      | inr other ↦ inr (inr other)
    ]
  ]

  -- the graph has the property, or it lacks it
  has_or : (property : Property) → HasProperty g property ⊎ LacksProperty g property
  has_or Covered = covered_or g is
  has_or NotCovered = elim (covered_or g is) [
    | inl cov ↦ inr (λ uncovered. uncovered cov)
    | inr uncovered ↦ inl uncovered
  ]
  has_or Perfect = perfect_or g none
  has_or Brick = with_kind (IsKind g kind.Brick) is_brick
  has_or Brace = with_kind (IsKind g kind.Brace) is_brace
  has_or Bicritical = critical_or
  has_or Composite = with_kind HasCut is_composite
  has_or (Bricks count) = count_or (λ (t : Tally). t.bricks) count
  has_or (Braces count) = count_or (λ (t : Tally). t.braces) count

  selected : (property : Property) (line : List ℕ) → (output : List ℕ) × IsSelected property g line output
  selected property line = elim (has_or property) [
    | inl has ↦ (line, inl (has, refl))
    | inr lacks ↦ ([], inr (lacks, refl))
  ]

  -- what is asked of the graph in a line
  told : (query : Query) (number : ℕ) (line : List ℕ) → (output : List ℕ) × IsTold query number line g output
  told Kinds number line =
      let s = standing in
      (kind_line g (standing_words s.0), record { words = standing_words s.0; right = record { standing = s.0; right = s.1; is = refl }; line = refl })
  told (Leaves order) number line = leaf_output order number
  told Elementary number line = (elementary_lines number g, refl)
  told Matching number line = matching_line-exists g is
  told Cuts number line = cut_output number
  told Ears number line = ear_output number
  told GraphFile number line = (file_text g, refl)
  told (Select property) number line = selected property line

-- each line, by whether it is a further one, and by what it stands for
of_text : (query : Query) (place : LinePlace) (line : List ℕ) → IsFalse (is_past_graph query place) → (r : Result Graph (ℕ × FaultKind)) → outcome_of line ≡ r →
    ((output : List ℕ) × TellsLineOf query place line output) ⊎ ((fault : FaultKind) × IsBadLine query place line fault)
of_text query place line first (Ok g) stands =
    let output = told g (read-multigraph line g stands) query place.number line in
    inl (output.0, (first, record { graph = g; stands = stands; told = output.1 }))
of_text query place line first (Err fault) stands = inr (fault.1, inr (first, record { at = fault.0; fault = stands }))

of_place : (query : Query) (place : LinePlace) (line : List ℕ) (further : Bool) → is_past_graph query place ≡ further →
    ((output : List ℕ) × TellsLineOf query place line output) ⊎ ((fault : FaultKind) × IsBadLine query place line fault)
of_place query place line true further = inr (Extra, inl (further, refl))
of_place query place line false first = of_text query place line first (outcome_of line) refl

pub line_told : (query : Query) → HasAnswer query
line_told query place line = of_place query place line (is_past_graph query place) refl

-- and so each list has an outcome
pub list_told : (sample : Vec ℕ) (query : Query) (at_bad : AtBadLine) (bytes : List ℕ) → HasListOutcome query at_bad bytes
list_told sample query at_bad bytes = list_outcome query at_bad bytes (settled_end sample query at_bad bytes (line_told query))
