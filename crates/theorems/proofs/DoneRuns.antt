-- A run that is done read what its command asks for, and what it wrote says of this what the
-- outcome says. Done is the status of no bad file and of no refusal, so all files were read and the
-- graph is covered, or both trees are derivations; and each read gave the bytes of its file.
use Rattle.std.proofs.Common.{◌≡◌, ◌∙◌, ℕ, List, [], ◌∷◌, Option, Some, None, Ok, option_map, refl, sym, ap, subst, inl, inr, codes}
use Rattle.bench_top.specs.from_outside.Common.{Answer, AnswersInTurn, NamedFile, file_named}
use Rattle.graph_core.proofs.Common.{Graph, IsCovered}
use Rattle.graph_text.specs.Common.{NamedGraph, either_version}
use Rattle.graph_core.proofs.from_line_text.ExactlyOne.{Stands-from_reading}
use Rattle.graph_core.specs.from_line_text.Common.{reading_of}
use Rattle.tree_core.proofs.Common.{IsDerivation, Shape}
use Rattle.move_text.specs.from_tree_text.Common.{tree_format}
use Rattle.bench_tasks.specs.from_decomposer.Common.{NamedPicks, ScriptPicks, order_named}
use Rattle.bench_tasks.specs.from_decomposer.declared.orders.NamedOrder.{NamedOrder}
use Rattle.tree_check.specs.from_tight_cuts.Common.{Candidate}
use Rattle.bench_tasks.specs.Common.{OnTrees, decompose_in, All, Bad, Absent, Loaded, command_of, file_read, graph_file, loaded_as, on_picks, on_trees, pick_file, picks_given, tree_file, tree_given, trees_given, Task}
use Rattle.bench_tasks.specs.Tasks as task
use Rattle.bench_tasks.specs.declared.verbs.GraphVerb.TheVariants.{Analyse, Decompose, Ears}
use Rattle.bench_tasks.specs.declared.verbs.PicksVerb.TheVariants.{DecomposeBy}
use Rattle.bench_tasks.specs.declared.verbs.TreesVerb.{TreesVerb}
use Rattle.bench_tasks.specs.declared.verbs.TreesVerb.TheVariants.{Compare, Script}
use Rattle.bench_top.specs.from_bench_outcomes.Common.{DecomposeGives, EarsGives, LoadedGives, Succeeds}
use Rattle.bench_top.specs.from_bench_outcomes.declared.status.Status.TheVariants.{BadInput, Done}
use Rattle.bench_top.proofs.Completeness.{done-given}
use Rattle.bench_top.specs.Given.{AreGiven, GivenOutcome}
use Rattle.bench_top.specs.Writes.{WroteWhole}
use Rattle.theorems.proofs.FilesOfReads.{LoadsFiles, all-read, file-loads, gave-first, name_at, picks-in, picks-load, picks_in, text-read}
use Rattle.theorems.proofs.OutcomesExist.{made-of, then-of}
use Rattle.theorems.proofs.ToldFacts.{in-order, never, of_held, picks-held, told-ears, told-kind, told-pairing, told-picked, told-script, told-sets}
use Rattle.theorems.specs.Outcomes.{HoldsPicks, IsDoneRun, StandsForGraph, StandsForTree, TellsDecomposition, TellsEars, TellsKind, TellsPairing, TellsScript, TellsSets}

-- what is done was loaded
held-good : {A : Type 0} (make : A → Task) (held : Loaded A) (output : List ℕ) → LoadedGives (loaded_as make held) Done output → (a : A) × (held ≡ All a)
held-good make (All a) output gives = (a, refl)
held-good make (Bad file line kind) output gives = let no : Done ≡ BadInput = gives.0 in cc no
held-good make (Absent file) output gives = absurd gives

-- a graph and two trees for it
trees-held : (files : List NamedFile) (graph one two : List ℕ) (given : NamedGraph × (Shape × Shape)) → trees_given files graph one two ≡ All given →
    (named : NamedGraph) × (s t : Shape) × (graph_file files graph ≡ All named) × (tree_file files 2 one named.graph.order ≡ All s) × (tree_file files 3 two named.graph.order ≡ All t) × (trees_given files graph one two ≡ All (named, (s, t)))
trees-held files graph one two given e =
    let a = then-of (tree_given files graph one) (λ held. loaded_as (λ t. (held.0, (held.1, t))) (tree_file files 3 two held.0.graph.order)) given e in
    let b = made-of (λ t. (a.0.0, (a.0.1, t))) (tree_file files 3 two a.0.0.graph.order) given a.2 in
    let c = then-of (graph_file files graph) (λ named. loaded_as (λ t. (named, t)) (tree_file files 2 one named.graph.order)) a.0 a.1 in
    let d = made-of (λ t. (c.0, t)) (tree_file files 2 one c.0.graph.order) a.0 c.2 in (
      c.0,
      d.0,
      b.0,
      c.1,
      d.1,
      subst (λ (h : NamedGraph × Shape). tree_file files 3 two h.0.graph.order ≡ All b.0) (sym d.2) b.1,
      e ∙ ap (λ (v : NamedGraph × (Shape × Shape)). All v) (sym b.2 ∙ ap (λ (h : NamedGraph × Shape). (h.0, (h.1, b.0))) (sym d.2)),
    )

-- a decomposition, or ears, that are done are those of a covered graph
decomposed-covered : (picks : List Candidate → ℕ → ℕ → Type 0) (named : NamedGraph) (output : List ℕ) → DecomposeGives picks named Done output → IsCovered named.graph
decomposed-covered picks named output (inl made) = made.told.derivation.covered
decomposed-covered picks named output (inr refused) = absurd (never Done refl refused.negative)

eared-covered : (named : NamedGraph) (output : List ℕ) → EarsGives named.graph Done output → IsCovered named.graph
eared-covered named output (inl made) = made.covered
eared-covered named output (inr refused) = absurd (never Done refl refused.negative)

-- a graph, and a tree, of the bytes of a file
abbrev graph_in : Option (List ℕ) → Loaded NamedGraph
graph_in file = file_read 1 (reading_of either_version) file

graph-loads : (named : NamedGraph) → LoadsFiles graph_in named
graph-loads named = file-loads 1 (reading_of either_version) named

graph-stands : (bytes : List ℕ) (named : NamedGraph) → graph_in (Some bytes) ≡ All named → StandsForGraph bytes named
graph-stands bytes named e = Stands-from_reading either_version bytes named (text-read 1 (reading_of either_version) named bytes e)

abbrev tree_in : ℕ → ℕ → Option (List ℕ) → Loaded Shape
tree_in place n file = file_read place (reading_of (tree_format n)) file

tree-loads : (place n : ℕ) (t : Shape) → LoadsFiles (tree_in place n) t
tree-loads place n t = file-loads place (reading_of (tree_format n)) t

tree-stands : (place n : ℕ) (bytes : List ℕ) (t : Shape) → tree_in place n (Some bytes) ≡ All t → StandsForTree n bytes t
tree-stands place n bytes t e = Stands-from_reading (tree_format n) bytes t (text-read place (reading_of (tree_format n)) t bytes e)

module _ {S K : Type 0} (reads : S → List ℕ → Answer → S → Type 0) (written : K → Option (List ℕ)) (writes : K → List ℕ → ℕ → K → Type 0) where
  -- one file, two and three
  module _ {A : Type 0} (one : List ℕ) (load : Option (List ℕ) → Loaded A) (value : A) (is : LoadsFiles load value) (answers : List Answer) (files : List NamedFile) (first last : S) where
    one-file : AnswersInTurn reads (one ∷ []) answers first last → AreGiven 1 answers files → load (file_named (name_at 1) files) ≡ All value → (text : List ℕ) × (load (Some text) ≡ All value) × AnswersInTurn reads (one ∷ []) (Ok text ∷ []) first last
    one-file turn given e =
        let g = gave-first reads one [] 1 load value is first last answers files turn given e in
        (g.bytes, g.loads, (g.next, (g.read, all-read reads g.answers g.next last g.in_turn)))

    module _ {B : Type 0} (two : List ℕ) (second : Option (List ℕ) → Loaded B) (other : B) (so : LoadsFiles second other) where
      two-files : AnswersInTurn reads (one ∷ two ∷ []) answers first last → AreGiven 1 answers files → load (file_named (name_at 1) files) ≡ All value → second (file_named (name_at 2) files) ≡ All other →
          (text further : List ℕ) × (load (Some text) ≡ All value) × (second (Some further) ≡ All other) × AnswersInTurn reads (one ∷ two ∷ []) (Ok text ∷ Ok further ∷ []) first last
      two-files turn given e f =
          let g = gave-first reads one (two ∷ []) 1 load value is first last answers files turn given e in
          let f' = subst (λ (fs : List NamedFile). second (file_named (name_at 2) fs) ≡ All other) g.are f in
          let h = gave-first reads two [] 2 second other so g.next last g.answers g.others g.in_turn g.given f' in
          (g.bytes, h.bytes, g.loads, h.loads, (g.next, (g.read, (h.next, (h.read, all-read reads h.answers h.next last h.in_turn)))))

      module _ {C : Type 0} (three : List ℕ) (third : Option (List ℕ) → Loaded C) (further : C) (too : LoadsFiles third further) where
        three-files : AnswersInTurn reads (one ∷ two ∷ three ∷ []) answers first last → AreGiven 1 answers files → load (file_named (name_at 1) files) ≡ All value → second (file_named (name_at 2) files) ≡ All other →
            third (file_named (name_at 3) files) ≡ All further →
            (text a b : List ℕ) × (load (Some text) ≡ All value) × (second (Some a) ≡ All other) × (third (Some b) ≡ All further) × AnswersInTurn reads (one ∷ two ∷ three ∷ []) (Ok text ∷ Ok a ∷ Ok b ∷ []) first last
        three-files turn given e f k =
            let g = gave-first reads one (two ∷ three ∷ []) 1 load value is first last answers files turn given e in
            let f' = subst (λ (fs : List NamedFile). second (file_named (name_at 2) fs) ≡ All other) g.are f in
            let k' = subst (λ (fs : List NamedFile). third (file_named (name_at 3) fs) ≡ All further) g.are k in
            let h = gave-first reads two (three ∷ []) 2 second other so g.next last g.answers g.others g.in_turn g.given f' in
            let l = subst (λ (fs : List NamedFile). third (file_named (name_at 3) fs) ≡ All further) h.are k' in
            let i = gave-first reads three [] 3 third further too h.next last h.answers h.others h.in_turn h.given l in
            (g.bytes, h.bytes, i.bytes, g.loads, h.loads, i.loads, (g.next, (g.read, (h.next, (h.read, (i.next, (i.read, all-read reads i.answers i.next last i.in_turn)))))))

  -- the files of the commands: a graph, a graph and picks, a graph and two trees
  module _ (answers : List Answer) (files : List NamedFile) (given : AreGiven 1 answers files) (first last : S) where
    of-graph : (graph : List ℕ) (named : NamedGraph) → AnswersInTurn reads (graph ∷ []) answers first last → graph_file files (name_at 1) ≡ All named → (text : List ℕ) × StandsForGraph text named × AnswersInTurn reads (graph ∷ []) (Ok text ∷ []) first last
    of-graph graph named turn e =
        let t = one-file graph graph_in named (graph-loads named) answers files first last turn given e in (t.0, graph-stands t.0 named t.1, t.2)

    of-picks : (graph picks : List ℕ) (named : NamedGraph) (list : List ℕ) → AnswersInTurn reads (graph ∷ picks ∷ []) answers first last → graph_file files (name_at 1) ≡ All named → pick_file files (name_at 2) ≡ All list →
        (text listed : List ℕ) × StandsForGraph text named × HoldsPicks listed list × AnswersInTurn reads (graph ∷ picks ∷ []) (Ok text ∷ Ok listed ∷ []) first last
    of-picks graph picks named list turn e f =
        let t = two-files graph graph_in named (graph-loads named) answers files first last picks picks_in list (picks-load list) turn given e (sym (picks-in files (name_at 2)) ∙ f) in (t.0, t.1, graph-stands t.0 named t.2, t.3, t.4)

    of-trees : (graph one two : List ℕ) (named : NamedGraph) (s t : Shape) → AnswersInTurn reads (graph ∷ one ∷ two ∷ []) answers first last → graph_file files (name_at 1) ≡ All named → tree_file files 2 (name_at 2) named.graph.order ≡ All s →
        tree_file files 3 (name_at 3) named.graph.order ≡ All t →
        (text a b : List ℕ) × StandsForGraph text named × StandsForTree named.graph.order a s × StandsForTree named.graph.order b t × AnswersInTurn reads (graph ∷ one ∷ two ∷ []) (Ok text ∷ Ok a ∷ Ok b ∷ []) first last
    of-trees graph one two named s t turn e f k =
        let n = named.graph.order in
        let x = three-files graph graph_in named (graph-loads named) answers files first last one (tree_in 2 n) s (tree-loads 2 n s) two (tree_in 3 n) t (tree-loads 3 n t) turn given e f k in
        (x.0, x.1, x.2, graph-stands x.0 named x.3, tree-stands 2 n x.1 s x.4, tree-stands 3 n x.2 t x.5, x.6)

  -- what was written whole is this output
  this-output : (gives : List ℕ → Type 0) (before now : K) → (w : WroteWhole written writes gives before now) → WroteWhole written writes (λ output. output ≡ w.output) before now
  this-output gives before now w = record { output = w.output; right = refl; now = w.now; whole = w.whole }

  pub done-sets : (graph : List ℕ) (first last : S) (before now : K) → GivenOutcome reads written writes (command_of (codes "analyse" ∷ graph ∷ [])) Done first last before now →
      (text : List ℕ) × (named : NamedGraph) × (output : List ℕ) × StandsForGraph text named × IsDoneRun reads written writes (graph ∷ []) (text ∷ []) output first last before now × TellsSets named output × (IsCovered named.graph → TellsKind named output)
  done-sets graph first last before now o =
      let w = o.wrote in
      let good = held-good (task.OnGraph Analyse) (graph_file o.files (name_at 1)) w.output w.right in
      let t = of-graph o.answers o.files o.given first last graph good.0 o.in_turn good.1 in (
        t.0,
        good.0,
        w.output,
        t.1,
        record { gave = t.2; wrote = this-output _ before now w },
        (told-sets o.files (name_at 1) good.0 Done w.output good.1 w.right).1,
        λ cov. (told-kind o.files (name_at 1) good.0 Done w.output good.1 cov w.right).1,
      )

  done-order : (graph : List ℕ) (order : Option NamedOrder) (first last : S) (before now : K) → GivenOutcome reads written writes (option_map (decompose_in graph) order) Done first last before now →
      (text : List ℕ) × (named : NamedGraph) × (output : List ℕ) × StandsForGraph text named × IsDoneRun reads written writes (graph ∷ []) (text ∷ []) output first last before now × IsCovered named.graph × TellsDecomposition named.graph output
  done-order graph None first last before now o = absurd o.wrote.right
  done-order graph (Some order) first last before now o =
      let w = o.wrote in
      let good = held-good (task.OnGraph (Decompose order)) (graph_file o.files (name_at 1)) w.output w.right in
      let t = of-graph o.answers o.files o.given first last graph good.0 o.in_turn good.1 in
      let cov = decomposed-covered (NamedPicks order) good.0 w.output (of_held (task.OnGraph (Decompose order)) (graph_file o.files (name_at 1)) good.0 Done w.output good.1 w.right) in (
        t.0,
        good.0,
        w.output,
        t.1,
        record { gave = t.2; wrote = this-output _ before now w },
        cov,
        (in-order o.files (name_at 1) good.0 Done w.output good.1 cov (Some order) w.right).1,
      )

  pub done-decomposition : (graph order : List ℕ) (first last : S) (before now : K) → GivenOutcome reads written writes (command_of (codes "decompose" ∷ graph ∷ order ∷ [])) Done first last before now →
      (text : List ℕ) × (named : NamedGraph) × (output : List ℕ) × StandsForGraph text named × IsDoneRun reads written writes (graph ∷ []) (text ∷ []) output first last before now × IsCovered named.graph × TellsDecomposition named.graph output
  done-decomposition graph order first last before now o = done-order graph (order_named order) first last before now o

  pub done-picks : (graph picks : List ℕ) (first last : S) (before now : K) → GivenOutcome reads written writes (command_of (codes "decompose" ∷ graph ∷ codes "script" ∷ picks ∷ [])) Done first last before now →
      (text listed : List ℕ) × (named : NamedGraph) × (list : List ℕ) × (output : List ℕ) × StandsForGraph text named × HoldsPicks listed list ×
      IsDoneRun reads written writes (graph ∷ picks ∷ []) (text ∷ listed ∷ []) output first last before now × IsCovered named.graph × TellsDecomposition named.graph output
  done-picks graph picks first last before now o =
      let w = o.wrote in
      let good = held-good (on_picks DecomposeBy) (picks_given o.files (name_at 1) (name_at 2)) w.output w.right in
      let a = then-of (graph_file o.files (name_at 1)) (λ named. loaded_as (λ list. (named, list)) (pick_file o.files (name_at 2))) good.0 good.1 in
      let b = made-of (λ (list : List ℕ). (a.0, list)) (pick_file o.files (name_at 2)) good.0 a.2 in
      let t = of-picks o.answers o.files o.given first last graph picks a.0 b.0 o.in_turn a.1 b.1 in
      let held = picks-held o.files (name_at 1) (name_at 2) a.0 b.0 a.1 b.1 in
      let cov = decomposed-covered (ScriptPicks b.0) a.0 w.output (of_held (on_picks DecomposeBy) (picks_given o.files (name_at 1) (name_at 2)) (a.0, b.0) Done w.output held w.right) in (
        t.0,
        t.1,
        a.0,
        b.0,
        w.output,
        t.2,
        t.3,
        record { gave = t.4; wrote = this-output _ before now w },
        cov,
        (told-picked o.files (name_at 1) (name_at 2) b.0 a.0 Done w.output a.1 b.1 cov w.right).1,
      )

  pub done-ears : (graph : List ℕ) (first last : S) (before now : K) → GivenOutcome reads written writes (command_of (codes "ears" ∷ graph ∷ [])) Done first last before now →
      (text : List ℕ) × (named : NamedGraph) × (output : List ℕ) × StandsForGraph text named × IsDoneRun reads written writes (graph ∷ []) (text ∷ []) output first last before now × IsCovered named.graph × TellsEars named.graph output
  done-ears graph first last before now o =
      let w = o.wrote in
      let good = held-good (task.OnGraph Ears) (graph_file o.files (name_at 1)) w.output w.right in
      let t = of-graph o.answers o.files o.given first last graph good.0 o.in_turn good.1 in
      let cov = eared-covered good.0 w.output (of_held (task.OnGraph Ears) (graph_file o.files (name_at 1)) good.0 Done w.output good.1 w.right) in (
        t.0,
        good.0,
        w.output,
        t.1,
        record { gave = t.2; wrote = this-output _ before now w },
        cov,
        (told-ears o.files (name_at 1) good.0 Done w.output good.1 cov w.right).1,
      )

  -- two trees that a task is given, where what it tells of them follows once both are derivations
  done-two-trees : (verb : TreesVerb) (Tells : Graph → Shape → Shape → List ℕ → Type 0) →
      ((named : NamedGraph) (s t : Shape) → Succeeds (task.OnTrees verb named s t) → IsDerivation named.graph s × IsDerivation named.graph t) →
      ((files : List NamedFile) (named : NamedGraph) (s t : Shape) (output : List ℕ) → trees_given files (name_at 1) (name_at 2) (name_at 3) ≡ All (named, (s, t)) → IsDerivation named.graph s → IsDerivation named.graph t → LoadedGives (loaded_as (on_trees verb) (trees_given files (name_at 1) (name_at 2) (name_at 3))) Done output → Tells named.graph s t output) →
      (graph one two : List ℕ) (first last : S) (before now : K) → GivenOutcome reads written writes (Some (OnTrees verb graph one two)) Done first last before now →
      (text a b : List ℕ) × (named : NamedGraph) × (s t : Shape) × (output : List ℕ) × StandsForGraph text named × StandsForTree named.graph.order a s × StandsForTree named.graph.order b t ×
      IsDoneRun reads written writes (graph ∷ one ∷ two ∷ []) (text ∷ a ∷ b ∷ []) output first last before now × IsDerivation named.graph s × IsDerivation named.graph t × Tells named.graph s t output
  done-two-trees verb Tells derive told graph one two first last before now o =
      let w = o.wrote in
      let good = held-good (on_trees verb) (trees_given o.files (name_at 1) (name_at 2) (name_at 3)) w.output w.right in
      let h = trees-held o.files (name_at 1) (name_at 2) (name_at 3) good.0 good.1 in
      let x = of-trees o.answers o.files o.given first last graph one two h.0 h.1 h.2 o.in_turn h.3 h.4 h.5 in
      let d = derive h.0 h.1 h.2 ((done-given o.files (OnTrees verb (name_at 1) (name_at 2) (name_at 3)) (task.OnTrees verb h.0 h.1 h.2) Done w.output (ap (loaded_as (on_trees verb)) h.6) w.right).0 refl) in (
        x.0,
        x.1,
        x.2,
        h.0,
        h.1,
        h.2,
        w.output,
        x.3,
        x.4,
        x.5,
        record { gave = x.6; wrote = this-output _ before now w },
        d.0,
        d.1,
        told o.files h.0 h.1 h.2 w.output h.6 d.0 d.1 w.right,
      )

  pub done-pairing : (graph one two : List ℕ) (first last : S) (before now : K) → GivenOutcome reads written writes (command_of (codes "compare" ∷ graph ∷ one ∷ two ∷ [])) Done first last before now →
      (text a b : List ℕ) × (named : NamedGraph) × (s t : Shape) × (output : List ℕ) × StandsForGraph text named × StandsForTree named.graph.order a s × StandsForTree named.graph.order b t ×
      IsDoneRun reads written writes (graph ∷ one ∷ two ∷ []) (text ∷ a ∷ b ∷ []) output first last before now × IsDerivation named.graph s × IsDerivation named.graph t × TellsPairing named.graph s t output
  done-pairing = done-two-trees Compare TellsPairing (λ named s t d. d) (λ files named s t output held ds dt gives. (told-pairing files (name_at 1) (name_at 2) (name_at 3) named s t Done output held ds dt gives).1)

  pub done-script : (graph one two : List ℕ) (first last : S) (before now : K) → GivenOutcome reads written writes (command_of (codes "script" ∷ graph ∷ one ∷ two ∷ [])) Done first last before now →
      (text a b : List ℕ) × (named : NamedGraph) × (s t : Shape) × (output : List ℕ) × StandsForGraph text named × StandsForTree named.graph.order a s × StandsForTree named.graph.order b t ×
      IsDoneRun reads written writes (graph ∷ one ∷ two ∷ []) (text ∷ a ∷ b ∷ []) output first last before now × IsDerivation named.graph s × IsDerivation named.graph t × TellsScript named.graph s t output
  done-script = done-two-trees Script TellsScript (λ named s t d. d) (λ files named s t output held ds dt gives. (told-script files (name_at 1) (name_at 2) (name_at 3) named s t Done output held ds dt gives).1)
