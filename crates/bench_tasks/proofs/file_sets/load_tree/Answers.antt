use Rattle.move_text.proofs.from_counting.Common.{[], ◌∷◌, refl}
use Rattle.graph_text.specs.Common.{named_graph}
use Rattle.tree_core.proofs.Common.{shape_of}
use Rattle.bench_tasks.specs.Common.{graph_file, loaded_as, tree_file, place_name, given_tree}
use Rattle.bench_tasks.proofs.AnswersMade.{answered-both, answered-stopped, answered-stopped-second}
use Rattle.bench_tasks.proofs.SizesCarried.{carries-sizes, gave-sizes}
use Rattle.bench_tasks.proofs.file_sets.load_tree.Goals as goal

pub returns-in-Err-clause-answered : goal.returns-in-Err-clause-answered
returns-in-Err-clause-answered g c =
    (answered-stopped g.S.Shelf.reads (c.args.graph_file.now ∷ []) named_graph given_tree (λ files. graph_file files (place_name 1)) (c.args.tree_file.now ∷ [])
    (λ files named. loaded_as (λ t. (named, t)) (tree_file files 2 (place_name 2) named.graph.order)) _ _ _ c.in-Err.ensures.answered)

pub returns-in-Err-load_tree_for-clause-answered : goal.returns-in-Err-load_tree_for-clause-answered
returns-in-Err-load_tree_for-clause-answered g c =
    (answered-stopped-second g.S.Shelf.reads (c.args.graph_file.now ∷ []) named_graph given_tree (λ files. graph_file files (place_name 1)) shape_of
    (λ files named. tree_file files 2 (place_name 2) named.graph.order) (λ named t. (named, t)) _ c.args.tree_file.now _ _ _ c.in-Ok.ensures.answered _ c.in-Err-load_tree_for.ensures.stops c.in-Err-load_tree_for.ensures.answered)

pub returns-clause-answered : goal.returns-clause-answered
returns-clause-answered g c =
    answered-both g.S.Shelf.reads (c.args.graph_file.now ∷ []) named_graph given_tree (λ files. graph_file files (place_name 1)) shape_of
    (λ files named. tree_file files 2 (place_name 2) named.graph.order) (λ named t. (named, t)) _ c.args.tree_file.now _ _ _ c.in-Ok.ensures.answered _ _ refl c.in-Ok-load_tree_for.ensures.answered

pub returns-in-Err-load_tree_for-clause-sized : goal.returns-in-Err-load_tree_for-clause-sized
returns-in-Err-load_tree_for-clause-sized g c =
    carries-sizes g.S.Shelf.reads c.args.graph_file.now _ _ _ _ _ c.in-Err-load_tree_for.ensures.stops_on (gave-sizes g.S.Shelf.reads c.args.graph_file.now _ _ _ c.in-Ok.ensures.answered)

pub returns-clause-gave : goal.returns-clause-gave
returns-clause-gave g c =
    gave-sizes g.S.Shelf.reads c.args.graph_file.now _ _ _ c.in-Ok.ensures.answered
