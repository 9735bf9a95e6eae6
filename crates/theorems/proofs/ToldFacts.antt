-- What an outcome of each command says, in the words of a textbook: its records give it, and
-- if a task succeeds it is not refused. The files say what the command works on, and the
-- outcome computes to the record of its task.
use Rattle.tree_check.proofs.from_counting.Common.{◌≡◌, ◌∙◌, ◌↔◌, ℕ, List, [], ◌∷◌, Option, Some, None, option_map, refl, sym, ap, subst, inl, inr, codes, mem}
use Rattle.bench_top.specs.from_outside.Common.{NamedFile}
use Rattle.quick_kinds.proofs.from_brick_kit.Bricks.{brick_or_not}
use Rattle.theorems.proofs.Quotients.{bricks-and_braces}
use Rattle.ear_text.specs.EarFormat.{ear_format}
use Rattle.graph_core.proofs.Common.{IsCovered, Graph, IsBipartite, IsMultigraph, size, singles, HasOnlyTrivialTightCuts, IsNontrivial, IsTight, IsVerdict, reason_of, reason-uncovered}
use Rattle.graph_core.specs.declared.verdict.Kind.{Kind}
use Rattle.graph_core.specs.declared.verdict.Kind.TheVariants.{Brace, Brick, Composite}
use Rattle.graph_core.specs.declared.verdict.Verdict.{Verdict}
use Rattle.graph_core.specs.declared.verdict.Verdict.TheVariants.{Covered, NotCovered}
use Rattle.graph_text.specs.Common.{NamedGraph}
use Rattle.bench_top.specs.from_leaf_kinds.LeafKinds.{IsKind}
use Rattle.graph_core.specs.from_line_text.Common.{Stands}
use Rattle.tree_check.proofs.from_move_laws.SingleVertices.{singles_stage}
use Rattle.report_text.specs.declared.structures.Structure.{Structure}
use Rattle.tree_check.specs.from_tight_cuts.Common.{Candidate}
use Rattle.tree_core.proofs.Common.{tight-shores, IsDerivation, leaves, Shape}
use Rattle.bench_tasks.specs.from_decomposer.Common.{order_named}
use Rattle.bench_tasks.specs.Common.{OnTrees, decompose_in, All, Loaded, and_then, graph_file, loaded_as, on_picks, on_trees, pick_file, picks_given, tree_file, tree_given, trees_given, Task}
use Rattle.bench_tasks.specs.Tasks as task
use Rattle.bench_tasks.specs.declared.verbs.GraphVerb.TheVariants.{Analyse, Decompose, Ears}
use Rattle.bench_tasks.specs.declared.verbs.PicksVerb.TheVariants.{DecomposeBy}
use Rattle.bench_tasks.specs.declared.verbs.TreesVerb.TheVariants.{Compare, Script}
use Rattle.bench_tasks.specs.from_decomposer.declared.orders.NamedOrder.{NamedOrder}
use Rattle.bench_top.specs.from_bench_outcomes.Common.{CompareGives, Compared, ScriptGives, Scripted, EarsGives, IsStructure, TellsStructure, Analysed, CommandGives, DecomposeGives, LoadedGives, Outcome, ResultOf}
use Rattle.bench_top.specs.from_bench_outcomes.declared.status.Status.{Status}
use Rattle.bench_top.specs.from_bench_outcomes.declared.status.Status.TheVariants.{Done, Negative}
use Rattle.bench_top.proofs.LoadedGraphs.{Holds, graph-holds}
use Rattle.bench_top.proofs.ReadGraphs.{HasGraph, IsRead}
use Rattle.bench_top.proofs.Completeness.{done-given}
use Rattle.bench_top.proofs.TextsStand.{stands-ears}
use Rattle.theorems.proofs.DisjointEars.{list_disjoint}
use Rattle.theorems.proofs.KindsRead.{kind-read}
use Rattle.theorems.proofs.OutcomesExist.{made-of, then-of}
use Rattle.theorems.proofs.PlainDecompositions.{pairing-words, tree-words}
use Rattle.theorems.proofs.SetsRead.{a-read, c-read, d-read}
use Rattle.theorems.proofs.ShortPairings.{report-read}
use Rattle.theorems.specs.Outcomes.{TellsDecomposition, TellsEars, TellsKind, TellsPairing, TellsScript, TellsSets}

graph-read : (files : List NamedFile) (graph : List ℕ) (named : NamedGraph) → graph_file files graph ≡ All named → IsRead named.graph
graph-read files graph named is = subst (Holds HasGraph) is (graph-holds files graph)

-- what a command makes of what is held
pub of_held : {A : Type 0} (make : A → Task) (held : Loaded A) (a : A) (status : Status) (output : List ℕ) → held ≡ All a → LoadedGives (loaded_as make held) status output → ResultOf (make a) status output
of_held make held a status output is gives = subst (λ h. LoadedGives (loaded_as make h) status output) is gives

-- no status is both
pub never : (status : Status) → status ≡ Done → status ≡ Negative → ⊥
never status done negative = let no : Done ≡ Negative = sym done ∙ negative in cc no

-- `analyse`: the sets
analysed : (files : List NamedFile) (graph : List ℕ) (named : NamedGraph) (status : Status) (output : List ℕ) → graph_file files graph ≡ All named → Outcome (codes "analyse" ∷ graph ∷ []) files status output → Analysed named status output
analysed files graph named status output held gives = of_held (task.OnGraph Analyse) (graph_file files graph) named status output held gives

pub told-sets : (files : List NamedFile) (graph : List ℕ) (named : NamedGraph) (status : Status) (output : List ℕ) → graph_file files graph ≡ All named → Outcome (codes "analyse" ∷ graph ∷ []) files status output → (status ≡ Done) × TellsSets named output
told-sets files graph named status output held gives =
    let r = analysed files graph named status output held gives in
    let read = graph-read files graph named held in (
      r.done,
      record {
        lines = r.lines;
        d = r.right.d;
        a = r.right.a;
        c = r.right.c;
        text = r.text;
        line_d = d-read named.graph read r.lines r.right named.names output r.text;
        line_a = a-read named.graph read r.lines r.right named.names output r.text;
        line_c = c-read named.graph read r.lines r.right named.names output r.text;
      },
    )

-- `analyse`: the kind of a covered graph
covered-structure : (g : Graph) (verdict : Verdict) (structure : Option Structure) → IsMultigraph g → IsCovered g → IsVerdict g verdict → TellsStructure g verdict structure → (s : Structure) × (structure ≡ Some s) × IsStructure g s
covered-structure g Covered None is cov right told = absurd told
covered-structure g Covered (Some s) is cov right told = (s, refl, told)
covered-structure g (NotCovered reason) structure is cov right told = absurd (reason-uncovered g (reason_of reason) is right cov)

brace-kind : (g : Graph) (k : Kind) → IsKind g k → (k ≡ Brace) ↔ (IsBipartite g × HasOnlyTrivialTightCuts g)
brace-kind g Brace h = (λ e. h, λ q. refl)
brace-kind g Brick h = (λ e. cc e, λ q. absurd (h.0 q.0))
brace-kind g (Composite x) h = (λ e. cc e, λ q. absurd (q.1 _ h.0 h.1))

brick-kind : (g : Graph) (k : Kind) → IsKind g k → (k ≡ Brick) ↔ ((¬ IsBipartite g) × HasOnlyTrivialTightCuts g)
brick-kind g Brace h = (λ e. cc e, λ q. absurd (q.0 h.0))
brick-kind g Brick h = (λ e. h, λ q. refl)
brick-kind g (Composite x) h = (λ e. cc e, λ q. absurd (q.1 _ h.0 h.1))

composite-kind : (g : Graph) (k : Kind) → IsKind g k → (x : List ℕ) → k ≡ Composite x → IsTight g (mem x) × IsNontrivial g.order (mem x)
composite-kind g k h x e = subst (IsKind g) e h

pub told-kind : (files : List NamedFile) (graph : List ℕ) (named : NamedGraph) (status : Status) (output : List ℕ) → graph_file files graph ≡ All named → IsCovered named.graph → Outcome (codes "analyse" ∷ graph ∷ []) files status output → (status ≡ Done) × TellsKind named output
told-kind files graph named status output held cov gives =
    let r = analysed files graph named status output held gives in
    let read = graph-read files graph named held in
    let is : IsMultigraph named.graph = record { ends = read.ends; no_loop = read.no_loop } in
    let s = covered-structure named.graph r.lines.verdict r.lines.structure is cov r.right.verdict r.right.structure in
    let k = brick-kind named.graph s.0.kind s.2.kind in (
      r.done,
      record {
        lines = r.lines;
        structure = s.0;
        told = s.1;
        brace = brace-kind named.graph s.0.kind s.2.kind;
        brick = k;
        bicritical = (
          (λ e. let q = k.0 e in let b = (brick_or_not named.graph is cov q.0).0 q.1 in (q.0, b.0, b.1)),
          (λ q. k.1 (q.0, (brick_or_not named.graph is cov q.0).1 (q.1, q.2))),
        );
        composite = composite-kind named.graph s.0.kind s.2.kind;
        says = kind-read named.graph read read.ends cov r.lines r.right named.names output r.text s.0 s.1 s.2;
        text = r.text;
      },
    )

-- `decompose`: a tree of cuts
decomposed : (picks : List Candidate → ℕ → ℕ → Type 0) (named : NamedGraph) (status : Status) (output : List ℕ) → IsRead named.graph → IsCovered named.graph → DecomposeGives picks named status output → (status ≡ Done) × TellsDecomposition named.graph output
decomposed picks named status output read cov (inr not_covered) = absurd (not_covered.uncovered cov)
decomposed picks named status output read cov (inl made) =
    let d = made.told.derivation in (
      made.told.done,
      record {
        tree = made.tree;
        cuts = tree-words named.graph (singles named.graph.order) made.tree (singles_stage named.graph read.ends cov) d.derives;
        ends = bricks-and_braces named.graph made.tree read.ends d;
        derivation = d;
        tight = tight-shores named.graph made.tree read.ends d;
        stands = made.told.stands;
      },
    )

pub in-order : (files : List NamedFile) (graph : List ℕ) (named : NamedGraph) (status : Status) (output : List ℕ) → graph_file files graph ≡ All named → IsCovered named.graph → (order : Option NamedOrder) → CommandGives files (option_map (decompose_in graph) order) status output → (status ≡ Done) × TellsDecomposition named.graph output
in-order files graph named status output held cov None gives = absurd gives
in-order files graph named status output held cov (Some order) gives =
    decomposed _ named status output (graph-read files graph named held) cov (of_held (task.OnGraph (Decompose order)) (graph_file files graph) named status output held gives)

pub told-decomposition : (files : List NamedFile) (graph order : List ℕ) (named : NamedGraph) (status : Status) (output : List ℕ) → graph_file files graph ≡ All named → IsCovered named.graph → Outcome (codes "decompose" ∷ graph ∷ order ∷ []) files status output → (status ≡ Done) × TellsDecomposition named.graph output
told-decomposition files graph order named status output held cov gives = in-order files graph named status output held cov (order_named order) gives

pub picks-held : (files : List NamedFile) (graph picks : List ℕ) (named : NamedGraph) (list : List ℕ) → graph_file files graph ≡ All named → pick_file files picks ≡ All list → picks_given files graph picks ≡ All (named, list)
picks-held files graph picks named list held listed =
    ap (λ (h : Loaded NamedGraph). and_then h (λ named. loaded_as (λ list. (named, list)) (pick_file files picks))) held ∙ ap (loaded_as (λ (list : List ℕ). (named, list))) listed

pub told-picked : (files : List NamedFile) (graph picks list : List ℕ) (named : NamedGraph) (status : Status) (output : List ℕ) → graph_file files graph ≡ All named → pick_file files picks ≡ All list → IsCovered named.graph → Outcome (codes "decompose" ∷ graph ∷ codes "script" ∷ picks ∷ []) files status output → (status ≡ Done) × TellsDecomposition named.graph output
told-picked files graph picks list named status output held listed cov gives =
    decomposed _ named status output (graph-read files graph named held) cov (of_held (on_picks DecomposeBy) (picks_given files graph picks) (named, list) status output (picks-held files graph picks named list held listed) gives)

-- `compare` and `script`: if both trees are derivations neither is refused
compared : (named : NamedGraph) (s t : Shape) (status : Status) (output : List ℕ) → status ≡ Done → CompareGives named.graph s t status output → Compared named.graph s t status output
compared named s t status output done (inl made) = made
compared named s t status output done (inr (inl first)) = absurd (never status done first.negative)
compared named s t status output done (inr (inr (inl second))) = absurd (never status done second.1.negative)
compared named s t status output done (inr (inr (inr not_covered))) = absurd (never status done not_covered.negative)

scripted : (named : NamedGraph) (s t : Shape) (status : Status) (output : List ℕ) → status ≡ Done → ScriptGives named.graph s t status output → Scripted named.graph s t status output
scripted named s t status output done (inl made) = made
scripted named s t status output done (inr (inl first)) = absurd (never status done first.negative)
scripted named s t status output done (inr (inr (inl second))) = absurd (never status done second.1.negative)
scripted named s t status output done (inr (inr (inr not_covered))) = absurd (never status done not_covered.negative)

-- the graph of two trees
pair-read : (files : List NamedFile) (graph first second : List ℕ) (given : NamedGraph × (Shape × Shape)) → trees_given files graph first second ≡ All given → IsRead given.0.graph
pair-read files graph first second given e =
    let a = then-of (tree_given files graph first) (λ held. loaded_as (λ t. (held.0, (held.1, t))) (tree_file files 3 second held.0.graph.order)) given e in
    let b = made-of (λ t. (a.0.0, (a.0.1, t))) (tree_file files 3 second a.0.0.graph.order) given a.2 in
    let c = then-of (graph_file files graph) (λ named. loaded_as (λ t. (named, t)) (tree_file files 2 first named.graph.order)) a.0 a.1 in
    let d = made-of (λ t. (c.0, t)) (tree_file files 2 first c.0.graph.order) a.0 c.2 in
    let read = graph-read files graph c.0 c.1 in
    subst (λ (v : NamedGraph × (Shape × Shape)). IsRead v.0.graph) b.2 (subst (λ (h : NamedGraph × Shape). IsRead h.0.graph) d.2 read)

pub told-pairing : (files : List NamedFile) (graph first second : List ℕ) (named : NamedGraph) (s t : Shape) (status : Status) (output : List ℕ) → trees_given files graph first second ≡ All (named, (s, t)) → IsDerivation named.graph s → IsDerivation named.graph t → Outcome (codes "compare" ∷ graph ∷ first ∷ second ∷ []) files status output → (status ≡ Done) × TellsPairing named.graph s t output
told-pairing files graph first second named s t status output held ds dt gives =
    let done = (done-given files (OnTrees Compare graph first second) (task.OnTrees Compare named s t) status output (ap (loaded_as (on_trees Compare)) held) gives).1 (ds, dt) in
    let r = compared named s t status output done (of_held (on_trees Compare) (trees_given files graph first second) (named, (s, t)) status output held gives) in
    let read = pair-read files graph first second (named, (s, t)) held in (
      done,
      record {
        maps = r.maps;
        paired = pairing-words named.graph (leaves named.graph.order s) (leaves named.graph.order t) r.maps r.paired;
        moves = r.moves;
        turns = r.script.turns;
        reads = report-read named.graph read.ends read.vertices s t r.moves r.script r.maps r.paired output r.text;
        text = r.text;
      },
    )

pub told-script : (files : List NamedFile) (graph first second : List ℕ) (named : NamedGraph) (s t : Shape) (status : Status) (output : List ℕ) → trees_given files graph first second ≡ All (named, (s, t)) → IsDerivation named.graph s → IsDerivation named.graph t → Outcome (codes "script" ∷ graph ∷ first ∷ second ∷ []) files status output → (status ≡ Done) × TellsScript named.graph s t output
told-script files graph first second named s t status output held ds dt gives =
    let done = (done-given files (OnTrees Script graph first second) (task.OnTrees Script named s t) status output (ap (loaded_as (on_trees Script)) held) gives).1 (ds, dt) in
    let r = scripted named s t status output done (of_held (on_trees Script) (trees_given files graph first second) (named, (s, t)) status output held gives) in
    (done, record { moves = r.moves; turns = r.script.turns; stands = r.stands })

-- `ears`: an ear list
eared : (named : NamedGraph) (status : Status) (output : List ℕ) → IsRead named.graph → IsCovered named.graph → EarsGives named.graph status output → (status ≡ Done) × TellsEars named.graph output
eared named status output read cov (inr not_covered) = absurd (not_covered.uncovered cov)
eared named status output read cov (inl made) = (
  made.done,
  record {
    list = made.list;
    ears = made.is;
    unrefinable = made.unrefinable;
    singles = made.singles;
    disjoint = list_disjoint named.graph made.list read.ends made.is made.unrefinable;
    single = made.single;
    stands = subst (λ (o : List ℕ). Stands (ear_format named.graph.order (size named.graph)) o made.list) (sym made.text) (stands-ears named.graph made.list read made.is);
  },
)

pub told-ears : (files : List NamedFile) (graph : List ℕ) (named : NamedGraph) (status : Status) (output : List ℕ) → graph_file files graph ≡ All named → IsCovered named.graph → Outcome (codes "ears" ∷ graph ∷ []) files status output → (status ≡ Done) × TellsEars named.graph output
told-ears files graph named status output held cov gives = eared named status output (graph-read files graph named held) cov (of_held (task.OnGraph Ears) (graph_file files graph) named status output held gives)
