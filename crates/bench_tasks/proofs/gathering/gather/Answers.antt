-- What the files of each set hold is made a task, and so are the answers of their reads; from
-- these follow the reads.
use Rattle.std.proofs.Common.{◌≡◌, [], ◌∷◌, IfErr, rules, subst}
use Rattle.graph_text.specs.Common.{named_graph}
use Rattle.bench_tasks.specs.Common.{CarriesFile, CarriesFirstSizes, Command, file_names, files_of, graph_file, place_name, asked, OnEars, OnGraph, OnMoves, OnPicks, OnSimpleGraph, OnTree, OnTrees, ears_given, graph6_file, moves_given, on_ears, on_moves, on_picks, on_tree, on_trees, picks_given, tree_given, trees_given, given_ears, given_moves, given_picks, given_tree, given_trees, simple_graph_in, task_of}
use Rattle.bench_tasks.specs.Tasks as task
use Rattle.bench_tasks.proofs.AnswersMade.{IsMade, answered-mapped, gathered-as}
use Rattle.bench_tasks.proofs.SizesCarried.{first-carries, first-sized, stop-kept}
use Rattle.bench_tasks.proofs.gathering.gather.Goals as goal

pub returns-in-OnGraph : goal.returns-in-OnGraph
returns-in-OnGraph g c =
    let arm = c.in-OnGraph in
    let made : IsMade named_graph task_of (task.OnGraph arm.verb) c.load_first.result c.map.result = search rules in
    let is : OnGraph arm.verb arm.graph_file.now ≡ asked c.args.command = search rules in
    let gathered = gathered-as g.S.Shelf.reads (OnGraph arm.verb arm.graph_file.now) (asked c.args.command) c.map.result _ _ is
    (answered-mapped g.S.Shelf.reads (arm.graph_file.now ∷ []) named_graph task_of (λ files. graph_file files (place_name 1)) (task.OnGraph arm.verb) c.load_first.result c.map.result _ _ made c.load_first.ensures.answered) in
    let carries = subst (λ (k : Command). IfErr c.map.result (CarriesFile (files_of k) (g.R.Reasons.reason c.load_first.new.shelf))) is
    (stop-kept named_graph task_of (task.OnGraph arm.verb) c.load_first.result c.map.result made (CarriesFile (files_of (OnGraph arm.verb arm.graph_file.now)) (g.R.Reasons.reason c.load_first.new.shelf)) (first-carries _ _ _ c.load_first.result c.load_first.ensures.stops c.load_first.ensures.stops_on)) in
    let sized = subst (λ (k : Command). IfErr c.map.result (CarriesFirstSizes g.S.Shelf.reads (file_names k) c.args.shelf.now)) is
    (stop-kept named_graph task_of (task.OnGraph arm.verb) c.load_first.result c.map.result made (CarriesFirstSizes g.S.Shelf.reads (file_names (OnGraph arm.verb arm.graph_file.now)) c.args.shelf.now) (first-sized g.S.Shelf.reads arm.graph_file.now c.args.shelf.now _ _ c.load_first.result c.load_first.ensures.stops_on)) in
    record { loads = search rules; reads = gathered.1; answered = gathered.0; carries = carries; sized = sized; asked = search rules }

pub returns-in-OnSimpleGraph : goal.returns-in-OnSimpleGraph
returns-in-OnSimpleGraph g c =
    let arm = c.in-OnSimpleGraph in
    let made : IsMade simple_graph_in task_of (task.OnSimpleGraph arm.verb) c.load_first-in-OnSimpleGraph.result c.map-in-OnSimpleGraph.result = search rules in
    let is : OnSimpleGraph arm.verb arm.graph_file.now ≡ asked c.args.command = search rules in
    let gathered = gathered-as g.S.Shelf.reads (OnSimpleGraph arm.verb arm.graph_file.now) (asked c.args.command) c.map-in-OnSimpleGraph.result _ _ is
    (answered-mapped g.S.Shelf.reads (arm.graph_file.now ∷ []) simple_graph_in task_of (λ files. graph6_file files (place_name 1)) (task.OnSimpleGraph arm.verb) c.load_first-in-OnSimpleGraph.result c.map-in-OnSimpleGraph.result _ _ made c.load_first-in-OnSimpleGraph.ensures.answered) in
    let carries = subst (λ (k : Command). IfErr c.map-in-OnSimpleGraph.result (CarriesFile (files_of k) (g.R.Reasons.reason c.load_first-in-OnSimpleGraph.new.shelf))) is
    (stop-kept simple_graph_in task_of (task.OnSimpleGraph arm.verb) c.load_first-in-OnSimpleGraph.result c.map-in-OnSimpleGraph.result made (CarriesFile (files_of (OnSimpleGraph arm.verb arm.graph_file.now)) (g.R.Reasons.reason c.load_first-in-OnSimpleGraph.new.shelf)) (first-carries _ _ _ c.load_first-in-OnSimpleGraph.result c.load_first-in-OnSimpleGraph.ensures.stops c.load_first-in-OnSimpleGraph.ensures.stops_on)) in
    let sized = subst (λ (k : Command). IfErr c.map-in-OnSimpleGraph.result (CarriesFirstSizes g.S.Shelf.reads (file_names k) c.args.shelf.now)) is
    (stop-kept simple_graph_in task_of (task.OnSimpleGraph arm.verb) c.load_first-in-OnSimpleGraph.result c.map-in-OnSimpleGraph.result made (CarriesFirstSizes g.S.Shelf.reads (file_names (OnSimpleGraph arm.verb arm.graph_file.now)) c.args.shelf.now) (first-sized g.S.Shelf.reads arm.graph_file.now c.args.shelf.now _ _ c.load_first-in-OnSimpleGraph.result c.load_first-in-OnSimpleGraph.ensures.stops_on)) in
    record { loads = search rules; reads = gathered.1; answered = gathered.0; carries = carries; sized = sized; asked = search rules }

pub returns-in-OnTree : goal.returns-in-OnTree
returns-in-OnTree g c =
    let arm = c.in-OnTree in
    let made : IsMade given_tree task_of (on_tree arm.verb) c.load_tree.result c.map-in-OnTree.result = search rules in
    let is : OnTree arm.verb arm.graph_file.now arm.tree_file.now ≡ asked c.args.command = search rules in
    let gathered = gathered-as g.S.Shelf.reads (OnTree arm.verb arm.graph_file.now arm.tree_file.now) (asked c.args.command) c.map-in-OnTree.result _ _ is
    (answered-mapped g.S.Shelf.reads (arm.graph_file.now ∷ arm.tree_file.now ∷ []) given_tree task_of (λ files. tree_given files (place_name 1) (place_name 2)) (on_tree arm.verb) c.load_tree.result c.map-in-OnTree.result _ _ made c.load_tree.ensures.answered) in
    let carries = subst (λ (k : Command). IfErr c.map-in-OnTree.result (CarriesFile (files_of k) (g.R.Reasons.reason c.load_tree.new.shelf))) is
    (stop-kept given_tree task_of (on_tree arm.verb) c.load_tree.result c.map-in-OnTree.result made (CarriesFile (files_of (OnTree arm.verb arm.graph_file.now arm.tree_file.now)) (g.R.Reasons.reason c.load_tree.new.shelf)) c.load_tree.ensures.carries) in
    let sized = subst (λ (k : Command). IfErr c.map-in-OnTree.result (CarriesFirstSizes g.S.Shelf.reads (file_names k) c.args.shelf.now)) is
    (stop-kept given_tree task_of (on_tree arm.verb) c.load_tree.result c.map-in-OnTree.result made (CarriesFirstSizes g.S.Shelf.reads (file_names (OnTree arm.verb arm.graph_file.now arm.tree_file.now)) c.args.shelf.now) c.load_tree.ensures.sized) in
    record { loads = search rules; reads = gathered.1; answered = gathered.0; carries = carries; sized = sized; asked = search rules }

pub returns-in-OnPicks : goal.returns-in-OnPicks
returns-in-OnPicks g c =
    let arm = c.in-OnPicks in
    let made : IsMade given_picks task_of (on_picks arm.verb) c.load_picks.result c.map-in-OnPicks.result = search rules in
    let is : OnPicks arm.verb arm.graph_file.now arm.picks_file.now ≡ asked c.args.command = search rules in
    let gathered = gathered-as g.S.Shelf.reads (OnPicks arm.verb arm.graph_file.now arm.picks_file.now) (asked c.args.command) c.map-in-OnPicks.result _ _ is
    (answered-mapped g.S.Shelf.reads (arm.graph_file.now ∷ arm.picks_file.now ∷ []) given_picks task_of (λ files. picks_given files (place_name 1) (place_name 2)) (on_picks arm.verb) c.load_picks.result c.map-in-OnPicks.result _ _ made c.load_picks.ensures.answered) in
    let carries = subst (λ (k : Command). IfErr c.map-in-OnPicks.result (CarriesFile (files_of k) (g.R.Reasons.reason c.load_picks.new.shelf))) is
    (stop-kept given_picks task_of (on_picks arm.verb) c.load_picks.result c.map-in-OnPicks.result made (CarriesFile (files_of (OnPicks arm.verb arm.graph_file.now arm.picks_file.now)) (g.R.Reasons.reason c.load_picks.new.shelf)) c.load_picks.ensures.carries) in
    let sized = subst (λ (k : Command). IfErr c.map-in-OnPicks.result (CarriesFirstSizes g.S.Shelf.reads (file_names k) c.args.shelf.now)) is
    (stop-kept given_picks task_of (on_picks arm.verb) c.load_picks.result c.map-in-OnPicks.result made (CarriesFirstSizes g.S.Shelf.reads (file_names (OnPicks arm.verb arm.graph_file.now arm.picks_file.now)) c.args.shelf.now) c.load_picks.ensures.sized) in
    record { loads = search rules; reads = gathered.1; answered = gathered.0; carries = carries; sized = sized; asked = search rules }

pub returns-in-OnEars : goal.returns-in-OnEars
returns-in-OnEars g c =
    let arm = c.in-OnEars in
    let made : IsMade given_ears task_of (on_ears arm.verb) c.load_ears.result c.map-in-OnEars.result = search rules in
    let is : OnEars arm.verb arm.graph_file.now arm.ears_file.now ≡ asked c.args.command = search rules in
    let gathered = gathered-as g.S.Shelf.reads (OnEars arm.verb arm.graph_file.now arm.ears_file.now) (asked c.args.command) c.map-in-OnEars.result _ _ is
    (answered-mapped g.S.Shelf.reads (arm.graph_file.now ∷ arm.ears_file.now ∷ []) given_ears task_of (λ files. ears_given files (place_name 1) (place_name 2)) (on_ears arm.verb) c.load_ears.result c.map-in-OnEars.result _ _ made c.load_ears.ensures.answered) in
    let carries = subst (λ (k : Command). IfErr c.map-in-OnEars.result (CarriesFile (files_of k) (g.R.Reasons.reason c.load_ears.new.shelf))) is
    (stop-kept given_ears task_of (on_ears arm.verb) c.load_ears.result c.map-in-OnEars.result made (CarriesFile (files_of (OnEars arm.verb arm.graph_file.now arm.ears_file.now)) (g.R.Reasons.reason c.load_ears.new.shelf)) c.load_ears.ensures.carries) in
    let sized = subst (λ (k : Command). IfErr c.map-in-OnEars.result (CarriesFirstSizes g.S.Shelf.reads (file_names k) c.args.shelf.now)) is
    (stop-kept given_ears task_of (on_ears arm.verb) c.load_ears.result c.map-in-OnEars.result made (CarriesFirstSizes g.S.Shelf.reads (file_names (OnEars arm.verb arm.graph_file.now arm.ears_file.now)) c.args.shelf.now) c.load_ears.ensures.sized) in
    record { loads = search rules; reads = gathered.1; answered = gathered.0; carries = carries; sized = sized; asked = search rules }

pub returns-in-OnMoves : goal.returns-in-OnMoves
returns-in-OnMoves g c =
    let arm = c.in-OnMoves in
    let made : IsMade given_moves task_of (on_moves arm.verb) c.load_moves.result c.map-in-OnMoves.result = search rules in
    let is : OnMoves arm.verb arm.graph_file.now arm.tree_file.now arm.moves_file.now ≡ asked c.args.command = search rules in
    let gathered = gathered-as g.S.Shelf.reads (OnMoves arm.verb arm.graph_file.now arm.tree_file.now arm.moves_file.now) (asked c.args.command) c.map-in-OnMoves.result _ _ is
    (answered-mapped g.S.Shelf.reads (arm.graph_file.now ∷ arm.tree_file.now ∷ arm.moves_file.now ∷ []) given_moves task_of (λ files. moves_given files (place_name 1) (place_name 2) (place_name 3)) (on_moves arm.verb) c.load_moves.result c.map-in-OnMoves.result _ _ made c.load_moves.ensures.answered) in
    let carries = subst (λ (k : Command). IfErr c.map-in-OnMoves.result (CarriesFile (files_of k) (g.R.Reasons.reason c.load_moves.new.shelf))) is
    (stop-kept given_moves task_of (on_moves arm.verb) c.load_moves.result c.map-in-OnMoves.result made (CarriesFile (files_of (OnMoves arm.verb arm.graph_file.now arm.tree_file.now arm.moves_file.now)) (g.R.Reasons.reason c.load_moves.new.shelf)) c.load_moves.ensures.carries) in
    let sized = subst (λ (k : Command). IfErr c.map-in-OnMoves.result (CarriesFirstSizes g.S.Shelf.reads (file_names k) c.args.shelf.now)) is
    (stop-kept given_moves task_of (on_moves arm.verb) c.load_moves.result c.map-in-OnMoves.result made (CarriesFirstSizes g.S.Shelf.reads (file_names (OnMoves arm.verb arm.graph_file.now arm.tree_file.now arm.moves_file.now)) c.args.shelf.now) c.load_moves.ensures.sized) in
    record { loads = search rules; reads = gathered.1; answered = gathered.0; carries = carries; sized = sized; asked = search rules }

pub returns-in-OnTrees : goal.returns-in-OnTrees
returns-in-OnTrees g c =
    let arm = c.in-OnTrees in
    let made : IsMade given_trees task_of (on_trees arm.verb) c.load_trees.result c.map-in-OnTrees.result = search rules in
    let is : OnTrees arm.verb arm.graph_file.now arm.first_file.now arm.second_file.now ≡ asked c.args.command = search rules in
    let gathered = gathered-as g.S.Shelf.reads (OnTrees arm.verb arm.graph_file.now arm.first_file.now arm.second_file.now) (asked c.args.command) c.map-in-OnTrees.result _ _ is
    (answered-mapped g.S.Shelf.reads (arm.graph_file.now ∷ arm.first_file.now ∷ arm.second_file.now ∷ []) given_trees task_of (λ files. trees_given files (place_name 1) (place_name 2) (place_name 3)) (on_trees arm.verb) c.load_trees.result c.map-in-OnTrees.result _ _ made c.load_trees.ensures.answered) in
    let carries = subst (λ (k : Command). IfErr c.map-in-OnTrees.result (CarriesFile (files_of k) (g.R.Reasons.reason c.load_trees.new.shelf))) is
    (stop-kept given_trees task_of (on_trees arm.verb) c.load_trees.result c.map-in-OnTrees.result made (CarriesFile (files_of (OnTrees arm.verb arm.graph_file.now arm.first_file.now arm.second_file.now)) (g.R.Reasons.reason c.load_trees.new.shelf)) c.load_trees.ensures.carries) in
    let sized = subst (λ (k : Command). IfErr c.map-in-OnTrees.result (CarriesFirstSizes g.S.Shelf.reads (file_names k) c.args.shelf.now)) is
    (stop-kept given_trees task_of (on_trees arm.verb) c.load_trees.result c.map-in-OnTrees.result made (CarriesFirstSizes g.S.Shelf.reads (file_names (OnTrees arm.verb arm.graph_file.now arm.first_file.now arm.second_file.now)) c.args.shelf.now) c.load_trees.ensures.sized) in
    record { loads = search rules; reads = gathered.1; answered = gathered.0; carries = carries; sized = sized; asked = search rules }
