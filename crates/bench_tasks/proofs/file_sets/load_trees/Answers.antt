use Rattle.move_text.proofs.from_counting.Common.{[], ◌∷◌, refl}
use Rattle.tree_core.proofs.Common.{shape_of}
use Rattle.bench_tasks.specs.Common.{loaded_as, tree_file, tree_given, place_name, given_tree, given_trees}
use Rattle.bench_tasks.proofs.AnswersMade.{answered-both, answered-stopped, answered-stopped-second}
use Rattle.bench_tasks.proofs.file_sets.load_trees.Goals as goal

pub returns-in-Err-clause-answered : goal.returns-in-Err-clause-answered
returns-in-Err-clause-answered g c =
    (answered-stopped g.S.Shelf.reads (c.args.graph_file.now ∷ c.args.first_file.now ∷ []) given_tree given_trees (λ files. tree_given files (place_name 1) (place_name 2)) (c.args.second_file.now ∷ [])
    (λ files given. loaded_as (λ t. (given.0, (given.1, t))) (tree_file files 3 (place_name 3) given.0.graph.order)) _ _ _ c.in-Err.ensures.answered)

pub returns-in-Err-load_tree_for-clause-answered : goal.returns-in-Err-load_tree_for-clause-answered
returns-in-Err-load_tree_for-clause-answered g c =
    (answered-stopped-second g.S.Shelf.reads (c.args.graph_file.now ∷ c.args.first_file.now ∷ []) given_tree given_trees (λ files. tree_given files (place_name 1) (place_name 2)) shape_of
    (λ files given. tree_file files 3 (place_name 3) given.0.graph.order) (λ given t. (given.0, (given.1, t))) _ c.args.second_file.now _ _ _ c.in-Ok.ensures.answered _ c.in-Err-load_tree_for.ensures.stops c.in-Err-load_tree_for.ensures.answered)

pub returns-clause-answered : goal.returns-clause-answered
returns-clause-answered g c =
    answered-both g.S.Shelf.reads (c.args.graph_file.now ∷ c.args.first_file.now ∷ []) given_tree given_trees (λ files. tree_given files (place_name 1) (place_name 2)) shape_of
    (λ files given. tree_file files 3 (place_name 3) given.0.graph.order) (λ given t. (given.0, (given.1, t))) _ c.args.second_file.now _ _ _ c.in-Ok.ensures.answered _ _ refl c.in-Ok-load_tree_for.ensures.answered
