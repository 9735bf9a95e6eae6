use Rattle.graph_core.proofs.from_counting.Common.{◌≡◌, ◌∙◌, ap, sym, subst, ℕ, List, option_map, none-some}
use Rattle.graph_core.proofs.Common.{Graph}
use Rattle.tree_core.specs.Common.{PlaceValue, seen_at}
use Rattle.tight_cuts.specs.Common.{candidate_of, candidates, first_of, lifted_candidate}
use Rattle.tight_cuts.proofs.FirstCandidates.{first-lifted}
use Rattle.tight_cuts.proofs.PlaceCandidates.{seen-at_blocks, seen-at_vertices}
use Rattle.tight_cuts.proofs.at_places.first_listed_at.Goals as goal

pub returns-in-Some : goal.returns-in-Some
returns-in-Some c =
    let g = c.args.place.now.graph in
    let p = c.args.place.now.blocks in
    let order = ap (λ (q : PlaceValue). q.graph.order) (sym c.place.ensures) ∙ sym c.partition.ensures.order in
    let blocks = c.partition.ensures.blocks ∙ ap (λ (q : PlaceValue). q.blocks) c.place.ensures in
    subst (λ (bs : List (List ℕ)). option_map candidate_of c.lifted_first.result ≡ option_map (lifted_candidate g bs) (option_map candidate_of c.in_ok-found.found)) blocks (c.lifted_first.ensures g order)
    ∙ first-lifted (lifted_candidate g p) (candidates (seen_at g p)) _ (c.in_ok-found.ensures.first ∙ ap (λ (h : Graph). first_of (candidates h)) (c.of-pairs.ensures ∙ c.covered.ensures))
    ∙ ap first_of (seen-at_blocks g p (λ e. none-some _ (sym (c.below.ensures.none.1 e) ∙ c.in-Some.is)))

pub returns-in-None : goal.returns-in-None
returns-in-None c =
    c.in_ok-found.ensures.first ∙ ap (λ (h : Graph). first_of (candidates h)) (c.of-pairs.ensures ∙ c.covered.ensures)
    ∙ ap first_of (seen-at_vertices c.args.place.now.graph c.args.place.now.blocks (c.below.ensures.none.0 c.in-None.is))
