-- A place that is found by its blocks, among the places of a graph, is the place of that graph
-- and those blocks.
use Rattle.std.proofs.Common.{◌≡◌, ◌∙◌, ℕ, List, sym}
use Rattle.graph_core.proofs.Common.{Graph}
use Rattle.tree_core.proofs.Common.{PlaceValue, place_of}

pub place-is : (g : Graph) (blocks : List (List ℕ)) (found place : PlaceValue) → found ≡ place_of g blocks → place.graph ≡ g → blocks ≡ place.blocks → found ≡ place
place-is g blocks found place is graph same = let back = sym graph in is ∙ (λ i. record { graph = back i; blocks = same i })
