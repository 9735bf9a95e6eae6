-- What is written is read back. An output that stands for a value is read as this value by a file
-- that holds it, and the value is one with which a further command succeeds: a derivation, an ear
-- list, a matching covered graph.
use Rattle.move_text.proofs.from_counting.Common.{◌≡◌, ◌∙◌, ℕ, ◌≤◌, ◌<◌, ◌^◌, nat_le, List, [], ◌∷◌, length, Option, Some, None, Result, Ok, inl, inr, refl, sym, subst, ap, arith, option_map, codes, leb-true, and_parts}
use Rattle.outside.specs.Common.{NamedFile, file_named, most_bytes}
use Rattle.graph_core.specs.from_line_text.Common.{Stands, reading_of}
use Rattle.graph_core.proofs.from_line_text.ExactlyOne.{Stands-from_reading, Stands-reading_of}
use Rattle.graph_core.proofs.Common.{size}
use Rattle.graph_core.specs.from_line_text.declared.faults.FaultKind.{FaultKind}
use Rattle.graph_text.specs.Common.{NamedGraph, either_version, FitsVersionOne}
use Rattle.bench_reports.specs.from_grow_gen.Common.{grown}
use Rattle.bench_reports.specs.from_tight_cuts.Common.{Candidate}
use Rattle.tree_core.proofs.Common.{IsDerivation, PlainMove, Shape}
use Rattle.move_text.specs.from_tree_text.Common.{tree_format}
use Rattle.bench_reports.proofs.from_tree_check.ReplaySteps.{reached-derivation}
use Rattle.move_text.specs.Common.{move_format}
use Rattle.move_text.proofs.MovesRead.{writable-read}
use Rattle.ear_text.specs.EarFormat.{ear_format}
use Rattle.bench_reports.specs.from_bench_tasks.Common.{Command, OnEars, OnGraph, OnTree, command_of, decompose_in, Loaded, All, Bad, Absent, and_then, ear_file, ears_given, file_read, graph_file, loaded, loaded_as, move_file, moves_given, on_ears, on_moves, on_picks, on_tree, pick_file, picks_given, tree_file, tree_given, Task}
use Rattle.mcg6_lines.specs.from_decomposer.Common.{order_named}
use Rattle.ear_text.specs.from_ear_core.Common.{PlainEars}
use Rattle.bench_reports.specs.from_bench_outcomes.Common.{EarsGives, Grown, CommandGives, DecomposeGives, LoadedGives, Outcome, ResultOf, ReplayGives}
use Rattle.bench_top.specs.RoundTrips.{AsksDone}
use Rattle.bench_reports.specs.from_bench_tasks.Tasks as task
use Rattle.bench_reports.specs.from_bench_tasks.declared.verbs.GraphVerb.TheVariants.{Decompose, Ears}
use Rattle.bench_reports.specs.from_bench_tasks.declared.verbs.TreeVerb.TheVariants.{Check}
use Rattle.bench_reports.specs.from_bench_tasks.declared.verbs.PicksVerb.TheVariants.{DecomposeBy}
use Rattle.bench_reports.specs.from_bench_tasks.declared.verbs.EarsVerb.TheVariants.{CheckEars}
use Rattle.bench_reports.specs.from_bench_tasks.declared.verbs.MovesVerb.TheVariants.{Replay}
use Rattle.mcg6_lines.specs.from_decomposer.declared.orders.NamedOrder.{NamedOrder}
use Rattle.mcg6_lines.specs.from_decomposer.declared.orders.NamedOrder.TheVariants.{First}
use Rattle.bench_reports.specs.from_bench_outcomes.declared.status.Status.TheVariants.{Done}
use Rattle.bench_top.proofs.FileReads.{file_read-value}
use Rattle.bench_reports.proofs.from_bench_outcomes.GrownSizes.{few-edges, few-vertices, grown-multigraph}
use Rattle.bench_top.proofs.LoadedGraphs.{Holds, graph-holds, loaded-graph}
use Rattle.bench_top.proofs.ReadGraphs.{HasGraph, IsRead}
use Rattle.bench_reports.proofs.from_bench_outcomes.Settled.{KeepsGraph}
use Rattle.bench_top.proofs.TextsStand.{few-leaves_of, stands-ears, stands-grown, stands-replayed}

-- what was held if a command was done
given : {A : Type 0} (make : A → Task) (held : Loaded A) (output : List ℕ) → LoadedGives (loaded_as make held) Done output → (a : A) × ((held ≡ All a) × ResultOf (make a) Done output)
given make held output gives = grind arith

-- what all is made of
abbrev value_or : {A : Type 0} → A → Loaded A → A
value_or other (All a) = a
value_or other (Bad file line kind) = other
value_or other (Absent file) = other

as-held : {A B : Type 0} (make : A → B) (held : Loaded A) (b : B) → loaded_as make held ≡ All b → (a : A) × ((held ≡ All a) × (make a ≡ b))
as-held make held b is = grind arith

then-held : {A B : Type 0} (held : Loaded A) (next : A → Loaded B) (b : B) → and_then held next ≡ All b → (a : A) × ((held ≡ All a) × (next a ≡ All b))
then-held held next b is = grind arith

-- the text that was read
read-held : {A : Type 0} (place : ℕ) (reading : List ℕ → Result A (ℕ × FaultKind)) (file : Option (List ℕ)) (a : A) → file_read place reading file ≡ All a → (bytes : List ℕ) × (reading bytes ≡ Ok a)
read-held {A} place reading None a is = cc is
read-held {A} place reading (Some bytes) a is = (bytes, grind arith)

-- a command that is done succeeds
held-asks : (words : List (List ℕ)) (files : List NamedFile) (command : Command) (held : Loaded Task) (output : List ℕ) → command_of words ≡ Some command → loaded files command ≡ held → Holds KeepsGraph held → LoadedGives held Done output → AsksDone words files
held-asks words files command (All t) output row is keeps gives = grind arith
held-asks words files command (Bad file line kind) output row is keeps gives = let no = gives.0 in cc no
held-asks words files command (Absent file) output row is keeps gives = absurd gives

row-asks : (words : List (List ℕ)) (files : List NamedFile) (row : Option Command) (output : List ℕ) → command_of words ≡ row → CommandGives files row Done output → AsksDone words files
row-asks words files row output is gives = grind (arith, held-asks words files, loaded-graph files)

pub done-asks : (words : List (List ℕ)) (files : List NamedFile) (output : List ℕ) → Outcome words files Done output → AsksDone words files
done-asks words files output done = row-asks words files (command_of words) output refl done

-- the graph that was read
graph-read : (files : List NamedFile) (graph : List ℕ) (named : NamedGraph) → graph_file files graph ≡ All named → IsRead named.graph
graph-read files graph named is = subst (Holds HasGraph) is (graph-holds files graph)

-- the parts of what was held
abbrev graph_in : NamedGraph × Shape → NamedGraph
graph_in given = given.0

abbrev graph_of : NamedGraph × (Shape × List PlainMove) → NamedGraph
graph_of given = given.0

abbrev picks_graph : NamedGraph × List ℕ → NamedGraph
picks_graph given = given.0

abbrev moves_in : NamedGraph × (Shape × List PlainMove) → List PlainMove
moves_in given = given.1.1

few-moves : (named : NamedGraph) (moves : List PlainMove) → IsRead named.graph → (text : List ℕ) → reading_of (move_format named.graph.order) text ≡ Ok moves → length moves < 10 ^ 9
few-moves named moves read text is =
    let vertices = read.vertices in
    let writable = writable-read named.graph.order text moves (omega arith) (Stands-from_reading (move_format named.graph.order) text moves is) in
    let few = writable.few in
    omega arith

module _ (files again : List NamedFile) (graph : List ℕ) (same : file_named graph again ≡ file_named graph files) where
  graph-again : (named : NamedGraph) → graph_file files graph ≡ All named → graph_file again graph ≡ All named
  graph-again named is = ap (file_read 1 (reading_of either_version)) same ∙ is

  module _ (name output : List ℕ) (held : file_named name again ≡ Some output) (within : length output ≤ most_bytes) where
    -- a text of a derivation is checked
    check-done : (named : NamedGraph) (t : Shape) → graph_file files graph ≡ All named → Stands (tree_format named.graph.order) output t → IsDerivation named.graph t → AsksDone (codes "check" ∷ graph ∷ name ∷ []) again
    check-done named t is stands derived = record {
      command = OnTree Check graph name;
      row = refl;
      task = task.OnTree Check named t;
      held = ap (loaded_as (on_tree Check)) read;
      succeeds = derived;
    }
      where
        read : tree_given again graph name ≡ All (named, t)
        read = ap (λ (h : Loaded NamedGraph). and_then h (λ named. loaded_as (λ t. (named, t)) (tree_file again 2 name named.graph.order))) (graph-again named is)
            ∙ ap (loaded_as (λ (t : Shape). (named, t)))
            (file_read-value 2 (reading_of (tree_format named.graph.order)) (file_named name again) output t held within (Stands-reading_of (tree_format named.graph.order) output t stands))

    decomposed : (picks : List Candidate → ℕ → ℕ → Type 0) (named : NamedGraph) → graph_file files graph ≡ All named → DecomposeGives picks named Done output → AsksDone (codes "check" ∷ graph ∷ name ∷ []) again
    decomposed picks named is h = grind (arith, check-done named)

    in-order : (order : Option NamedOrder) → CommandGives files (option_map (decompose_in graph) order) Done output → AsksDone (codes "check" ∷ graph ∷ name ∷ []) again
    in-order None gives = absurd gives
    in-order (Some order) gives =
        let made = given (task.OnGraph (Decompose order)) (graph_file files graph) output gives in
        decomposed _ made.0 made.1.0 made.1.1

    pub decomposed-checked : (order : List ℕ) → Outcome (codes "decompose" ∷ graph ∷ order ∷ []) files Done output → AsksDone (codes "check" ∷ graph ∷ name ∷ []) again
    decomposed-checked order gives = in-order (order_named order) gives

    pub picked-checked : (picks : List ℕ) → Outcome (codes "decompose" ∷ graph ∷ codes "script" ∷ picks ∷ []) files Done output → AsksDone (codes "check" ∷ graph ∷ name ∷ []) again
    picked-checked picks gives =
        let made = given (on_picks DecomposeBy) (picks_given files graph picks) output gives in
        let first = then-held (graph_file files graph) (λ named. loaded_as (λ list. (named, list)) (pick_file files picks)) made.0 made.1.0 in
        let all = as-held (λ (list : List ℕ). (first.0, list)) (pick_file files picks) made.0 first.1.1 in
        decomposed _ made.0.0 (first.1.0 ∙ ap All (ap picks_graph all.1.1)) made.1.1

    -- a list of ears that was built is checked
    built : (named : NamedGraph) → graph_file files graph ≡ All named → EarsGives named.graph Done output → AsksDone (codes "checkears" ∷ graph ∷ name ∷ []) again
    built named is (inl made) = record {
      command = OnEars CheckEars graph name;
      row = refl;
      task = task.OnEars CheckEars named made.list;
      held = ap (loaded_as (on_ears CheckEars)) read;
      succeeds = (made.covered, made.is);
    }
      where
        read : ears_given again graph name ≡ All (named, made.list)
        read = ap (λ (h : Loaded NamedGraph). and_then h (λ named. loaded_as (λ list. (named, list)) (ear_file again name named.graph))) (graph-again named is)
            ∙ ap (loaded_as (λ (list : PlainEars). (named, list))) (file_read-value 2 (reading_of (ear_format named.graph.order (size named.graph))) (file_named name again) output made.list held within
            (Stands-reading_of (ear_format named.graph.order (size named.graph)) output made.list
            (subst (λ (o : List ℕ). Stands (ear_format named.graph.order (size named.graph)) o made.list) (sym made.text) (stands-ears named.graph made.list (graph-read files graph named is) made.is))))
    built named is (inr not_covered) = let no = not_covered.negative in cc no

    pub built-checked : Outcome (codes "ears" ∷ graph ∷ []) files Done output → AsksDone (codes "checkears" ∷ graph ∷ name ∷ []) again
    built-checked gives = let made = given (task.OnGraph Ears) (graph_file files graph) output gives in built made.0 made.1.0 made.1.1

    -- a tree that was reached is checked
    reached : (named : NamedGraph) (t : Shape) (moves : List PlainMove) → graph_file files graph ≡ All named → length moves < 10 ^ 9 → ReplayGives named.graph t moves Done output → AsksDone (codes "check" ∷ graph ∷ name ∷ []) again
    reached named t moves is few h = grind (arith, reached-derivation named.graph t, check-done named, stands-replayed named.graph, graph-read files graph named is)

    pub replayed-checked : (tree moves : List ℕ) → Outcome (codes "replay" ∷ graph ∷ tree ∷ moves ∷ []) files Done output → AsksDone (codes "check" ∷ graph ∷ name ∷ []) again
    replayed-checked tree moves gives =
        let made = given (on_moves Replay) (moves_given files graph tree moves) output gives in
        let trees = then-held (tree_given files graph tree) (λ given. loaded_as (λ ms. (given.0, (given.1, ms))) (move_file files moves given.0.graph.order)) made.0 made.1.0 in
        let all = as-held (λ (ms : List PlainMove). (trees.0.0, (trees.0.1, ms))) (move_file files moves trees.0.0.graph.order) made.0 trees.1.1 in
        let first = then-held (graph_file files graph) (λ named. loaded_as (λ t. (named, t)) (tree_file files 2 tree named.graph.order)) trees.0 trees.1.0 in
        let both = as-held (λ (t : Shape). (first.0, t)) (tree_file files 2 tree first.0.graph.order) trees.0 first.1.1 in
        let is : graph_file files graph ≡ All made.0.0 = first.1.0 ∙ ap All (ap graph_in both.1.1 ∙ ap graph_of all.1.1) in
        let text = read-held 3 (reading_of (move_format trees.0.0.graph.order)) (file_named moves files) all.0 all.1.0 in
        reached made.0.0 made.0.1.0 made.0.1.1 is
        (subst (λ (ms : List PlainMove). length ms < 10 ^ 9) (ap moves_in all.1.1)
        (few-moves trees.0.0 all.0 (graph-read files graph trees.0.0 (first.1.0 ∙ ap All (ap graph_in both.1.1))) text.0 text.1))
        made.1.1

-- a graph that grew is covered, and is read back
abbrev grown_named : (seed pieces : ℕ) → NamedGraph
grown_named seed pieces = record { graph = grown seed pieces; names = None }

grown-few : (seed pieces : ℕ) (output : List ℕ) → FitsVersionOne (grown seed pieces) → (made : Grown seed pieces Done output) → made.pairs ≤ 64
grown-few seed pieces output fits made = grind (arith, few-leaves_of (grown seed pieces) made.s fits.multigraph.ends)

module _ (again : List NamedFile) (name output : List ℕ) (held : file_named name again ≡ Some output) (within : length output ≤ most_bytes) where
  grown-read : (seed pieces : ℕ) → FitsVersionOne (grown seed pieces) → Grown seed pieces Done output → graph_file again name ≡ All (grown_named seed pieces)
  grown-read seed pieces fits made =
      file_read-value 1 (reading_of either_version) (file_named name again) output (grown_named seed pieces) held within
      (Stands-reading_of either_version output (grown_named seed pieces)
      (subst (λ (o : List ℕ). Stands either_version o (grown_named seed pieces)) (sym made.text)
      (stands-grown (grown seed pieces) made.first made.last made.pairs made.s made.t fits made.by_first.derivation made.by_last.derivation made.by_first.counts made.by_last.counts
      (grown-few seed pieces output fits made))))

  grown-asks : (seed pieces : ℕ) → 1 ≤ pieces → pieces ≤ 16 → Grown seed pieces Done output → AsksDone (codes "ears" ∷ name ∷ []) again × AsksDone (codes "decompose" ∷ name ∷ codes "first" ∷ []) again
  grown-asks seed pieces some few made =
      let fits : FitsVersionOne (grown seed pieces) = record { multigraph = grown-multigraph seed pieces; vertices = few-vertices seed pieces some few; edges = few-edges seed pieces some few } in
      let read = grown-read seed pieces fits made in (
        record {
          command = OnGraph Ears name;
          row = refl;
          task = task.OnGraph Ears (grown_named seed pieces);
          held = ap (loaded_as (task.OnGraph Ears)) read;
          succeeds = made.by_first.derivation.covered;
        },
        record {
          command = decompose_in name First;
          row = refl;
          task = task.OnGraph (Decompose First) (grown_named seed pieces);
          held = ap (loaded_as (task.OnGraph (Decompose First))) read;
          succeeds = made.by_first.derivation.covered;
        },
      )

  pub grown-served : (files : List NamedFile) (seed pieces : List ℕ) → Outcome (codes "grow" ∷ seed ∷ pieces ∷ []) files Done output →
      AsksDone (codes "ears" ∷ name ∷ []) again × AsksDone (codes "decompose" ∷ name ∷ codes "first" ∷ []) again
  grown-served files seed pieces gives = grind (arith, nat_le, and_parts, grown-asks, leb-true)
