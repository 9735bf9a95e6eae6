-- The candidates at a place are those of the graph that is seen there: at single vertices the
-- graph itself, and elsewhere the quotient, whose candidates are led back.
use Rattle.std.proofs.Common.{◌≡◌, ◌≢◌, ◌∙◌, ℕ, List, length, map, ap, sym}
use Rattle.graph_core.proofs.Common.{Graph}
use Rattle.tree_core.proofs.Common.{seen-blocks, seen-vertices, seen_at}
use Rattle.tight_cuts.proofs.LiftedCandidates.{at-blocks, at-vertices}
use Rattle.tight_cuts.specs.Common.{candidates, candidates_at, lifted_candidate}

pub seen-at_vertices : (g : Graph) (p : List (List ℕ)) → length p ≡ g.order → candidates (seen_at g p) ≡ candidates_at g p
seen-at_vertices g p e = ap (λ (h : Graph). candidates h) (seen-vertices g p e) ∙ sym (at-vertices g p e)

pub seen-at_blocks : (g : Graph) (p : List (List ℕ)) → length p ≢ g.order → map (lifted_candidate g p) (candidates (seen_at g p)) ≡ candidates_at g p
seen-at_blocks g p d = ap (λ (h : Graph). map (lifted_candidate g p) (candidates h)) (seen-blocks g p d) ∙ sym (at-blocks g p d)
