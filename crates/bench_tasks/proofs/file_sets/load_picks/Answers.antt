use Rattle.move_text.proofs.from_counting.Common.{[], ◌∷◌, refl}
use Rattle.graph_text.specs.Common.{named_graph}
use Rattle.bench_tasks.specs.Common.{graph_file, loaded_as, pick_file, place_name, given_picks}
use Rattle.bench_tasks.proofs.AnswersMade.{answered-both, answered-stopped, answered-stopped-second}
use Rattle.bench_tasks.proofs.file_sets.load_picks.Goals as goal

pub returns-in-Err-clause-answered : goal.returns-in-Err-clause-answered
returns-in-Err-clause-answered g c =
    (answered-stopped g.S.Shelf.reads (c.args.graph_file.now ∷ []) named_graph given_picks (λ files. graph_file files (place_name 1)) (c.args.picks_file.now ∷ [])
    (λ files named. loaded_as (λ list. (named, list)) (pick_file files (place_name 2))) _ _ _ c.in-Err.ensures.answered)

pub returns-in-Err-load-clause-answered : goal.returns-in-Err-load-clause-answered
returns-in-Err-load-clause-answered g c =
    (answered-stopped-second g.S.Shelf.reads (c.args.graph_file.now ∷ []) named_graph given_picks (λ files. graph_file files (place_name 1)) _
    (λ files named. pick_file files (place_name 2)) (λ named list. (named, list)) _ c.args.picks_file.now _ _ _ c.in-Ok.ensures.answered _ c.in-Err-load.ensures.stops c.in-Err-load.ensures.answered)

pub returns-clause-answered : goal.returns-clause-answered
returns-clause-answered g c =
    answered-both g.S.Shelf.reads (c.args.graph_file.now ∷ []) named_graph given_picks (λ files. graph_file files (place_name 1)) _
    (λ files named. pick_file files (place_name 2)) (λ named list. (named, list)) _ c.args.picks_file.now _ _ _ c.in-Ok.ensures.answered _ _ refl c.in-Ok-load.ensures.answered
