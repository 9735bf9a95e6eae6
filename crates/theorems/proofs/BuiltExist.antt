-- For every graph there is a report of `ears`, of `convert` and, in each order of choice, of
-- `decompose`, and for every seed one of `grow`. A covered graph has an ear decomposition, and in
-- each order a derivation; names that a file gives are words, and so the texts are read again.
use Rattle.std.proofs.Common.{◌≡◌, ℕ, zero, suc, ◌-◌, ◌≤◌, List, length, true, Option, Some, None, refl, sym, subst, arith, inl, inr}
use Rattle.std.specs.Option.{ForSome}
use Rattle.ear_text.proofs.from_ear_core.Stepping.{covered-edge}
use Rattle.ear_text.specs.Writing.{ears_text}
use Rattle.graph_core.proofs.Common.{IsCovered, Graph, IsGraph, IsMultigraph, size, IsWithinLimits}
use Rattle.graph_text.proofs.NameLists.{AreNames-more}
use Rattle.graph_text.proofs.NamedReadBack.{Stands-named_text}
use Rattle.graph_text.proofs.PlainNames.{is_name-plain, length-plain_names, plain-fresh, plain_names-more, plain_names-none}
use Rattle.graph_text.specs.Common.{NamedGraph, AreNames, plain_names, FitsNames, graph_text}
use Rattle.bench_top.proofs.from_bench_outcomes.GrownSizes.{sound-from, grown-multigraph}
use Rattle.bench_tasks.proofs.from_grow_gen.SoundGrowth.{sound-first}
use Rattle.bench_tasks.specs.from_grow_gen.Common.{first_growth, grown}
use Rattle.rand_pcg.specs.Lcg.{increment_of, started}
use Rattle.rand_pcg.specs.Pcg.{multiplier_64}
use Rattle.report_text.proofs.CommentLines.{given_names-commented}
use Rattle.report_text.proofs.Comments.{commented-none}
use Rattle.tree_core.proofs.Common.{IsDerivation, leaves, Shape, partitions-leaves}
use Rattle.report_text.specs.Common.{IsCommented, derivation_text, ears_report_text, grown_text, with_names_text}
use Rattle.tree_core.specs.declared.tallies.Tally.{Tally}
use Rattle.tree_check.specs.from_tight_cuts.Common.{Candidate}
use Rattle.move_text.specs.from_tree_text.Common.{tree_text}
use Rattle.bench_top.proofs.from_bench_outcomes.DerivationTexts.{told}
use Rattle.bench_top.specs.from_bench_outcomes.Common.{EarsGives, double_count, single_count, Grown, IsCountedTree, Converted, DecomposeGives, TellsDerivation, given_or_plain, with_given_names}
use Rattle.bench_tasks.specs.from_decomposer.Common.{NamedPicks}
use Rattle.bench_top.specs.from_bench_outcomes.declared.status.Status.{Status}
use Rattle.bench_top.specs.from_bench_outcomes.declared.status.Status.TheVariants.{Done, Negative}
use Rattle.bench_tasks.specs.from_decomposer.declared.orders.NamedOrder.{NamedOrder}
use Rattle.bench_tasks.specs.from_decomposer.declared.orders.NamedOrder.TheVariants.{First, Last}
use Rattle.bench_top.proofs.ReadGraphs.{IsRead}
use Rattle.bench_top.proofs.TextsStand.{stands-derived}
use Rattle.theorems.proofs.CommandOrders.{named-some}
use Rattle.theorems.proofs.EarSteps.{ear-list-exists}
use Rattle.theorems.proofs.LeafKindLists.{kinds-by_place, kinds-exist, tally-exists}
use Rattle.theorems.proofs.PickedDerivations.{PicksSome, picked-tree}
use Rattle.theorems.proofs.ReportsExist.{compared, covered_or_told}
use Rattle.theorems.specs.Outcomes.{IsFileGraph}

-- `ears`
pub built-exists : (g : Graph) → IsMultigraph g → (status : Status) × (output : List ℕ) × EarsGives g status output
built-exists g is = elim (covered_or_told g is) [
  | inr u ↦ (Negative, u.0, inr u.1)
  | inl cov ↦
      let made = ear-list-exists g 1 is cov (covered-edge g is cov) in
      let steps = made.0.steps in (
        Done,
        ears_report_text (ears_text g.order (size g) made.0) (length steps) (single_count steps) (double_count steps),
        inl (record { covered = cov; list = made.0; is = made.1; unrefinable = made.3; singles = made.5; single = made.4; done = refl; text = refl }),
      )
]

-- `convert`: the plain names are names
plain_names-are : (n : ℕ) → n ≤ 128 → AreNames (plain_names n)
plain_names-are zero few = subst AreNames (sym plain_names-none) (record { each = tt; differ = λ i j before less. absurd (omega arith); few = omega arith })
plain_names-are (suc n) few = grind (arith, length-plain_names, plain_names-more, AreNames-more, is_name-plain, plain-fresh, plain_names-are n (omega arith))

fits-names : (g : Graph) (names : Option (List (List ℕ))) → IsWithinLimits g → ForSome names (λ given. AreNames given × (length given ≡ g.order)) → FitsNames g (given_or_plain g.order names)
fits-names g None limits given = record { multigraph = limits.multigraph; edges = limits.edges; named = plain_names-are g.order limits.vertices; one_each = length-plain_names g.order }
fits-names g (Some names) limits given = let are = given names refl in record { multigraph = limits.multigraph; edges = limits.edges; named = are.0; one_each = are.1 }

pub converted-exists : (named : NamedGraph) → IsFileGraph named → (status : Status) × (output : List ℕ) × Converted named status output
converted-exists named given = grind (arith, Stands-named_text, fits-names)

-- `decompose`: the names are comments
names-commented : (n : ℕ) (report : List ℕ) (names : Option (List (List ℕ))) → ForSome names (λ given. AreNames given × (length given ≡ n)) → IsCommented report (with_given_names report names true)
unfolding with_names_text
names-commented n report None given = commented-none report
names-commented n report (Some names) given = given_names-commented report (with_names_text report names true) names true (length names) (given names refl).0 (omega arith) refl refl

is_read : (g : Graph) → IsWithinLimits g → IsRead g
is_read g limits = record { ends = limits.multigraph.ends; no_loop = limits.multigraph.no_loop; vertices = limits.vertices; edges = limits.edges }

told-derivation : (named : NamedGraph) (t : Shape) → IsFileGraph named → IsDerivation named.graph t → (output : List ℕ) × TellsDerivation named t Done output
told-derivation named t given d =
    let g = named.graph in
    let n = g.order in
    let kinds = kinds-exist g given.limits.multigraph.ends (leaves n t) (partitions-leaves g t d) in
    let right = kinds-by_place g (leaves n t) kinds.0 kinds.1 in
    let text = tree_text n t in
    let report = derivation_text text g (leaves n t) kinds.0 in
    let bytes = with_given_names report named.names true in
    (bytes, told named t n text text report bytes kinds.0 given.limits d refl refl (stands-derived g t (is_read g given.limits) d) refl right refl refl (names-commented n report named.names given.names))

pub decomposition-exists : (picks : List Candidate → ℕ → ℕ → Type 0) (named : NamedGraph) → PicksSome picks → IsFileGraph named → (status : Status) × (output : List ℕ) × DecomposeGives picks named status output
decomposition-exists picks named some given = elim (covered_or_told named.graph given.limits.multigraph) [
  | inr u ↦ (Negative, u.0, inr u.1)
  | inl cov ↦
      let t = picked-tree picks some named.graph given.limits.multigraph.ends cov in
      let tells = told-derivation named t.0 given t.1 in
      (Done, tells.0, inl (record { tree = t.0; picked = t.2; told = tells.1 }))
]

grown-covered : (seed pieces : ℕ) → IsCovered (grown seed pieces)
unfolding grown
grown-covered seed pieces = (sound-from 0 (pieces - 1) (started 64 multiplier_64 seed (increment_of 64 1)) first_growth sound-first).covered

counted-in : (order : NamedOrder) (g : Graph) → IsGraph g → IsCovered g → (t : Shape) × (tally : Tally) × IsCountedTree (NamedPicks order) g t tally
counted-in order g is cov =
    let t = picked-tree (NamedPicks order) (named-some order) g is cov in
    let tally = tally-exists g is (leaves g.order t.0) (partitions-leaves g t.0 t.1) in
    (t.0, tally.0, record { derivation = t.1; picked = t.2; counts = tally.1 })

pub grown-exists : (seed pieces : ℕ) → (status : Status) × (output : List ℕ) × Grown seed pieces status output
grown-exists seed pieces =
    let g = grown seed pieces in
    let is = (grown-multigraph seed pieces).ends in
    let cov = grown-covered seed pieces in
    let first = counted-in First g is cov in
    let last = counted-in Last g is cov in
    let pairing = (compared g first.0 last.0 is first.2.derivation last.2.derivation).1 in
    let pairs = length pairing.maps in (
      Done,
      grown_text (graph_text g) first.1 last.1 pairs,
      record {
        s = first.0;
        first = first.1;
        by_first = first.2;
        t = last.0;
        last = last.1;
        by_last = last.2;
        pairs = pairs;
        paired = record { maps = pairing.maps; paired = pairing.paired; so_many = refl };
        done = refl;
        text = refl;
      },
    )
