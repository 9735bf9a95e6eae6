-- Leaves as places of one graph, and their kinds one after the other. The place of a leaf has its
-- partition, so what is known of the place is known of the partition.
use Rattle.graph_core.proofs.from_counting.Common.{◌≡◌, ℕ, ◌+◌, ◌<◌, List, [], ◌∷◌, ◌++◌, length, map, take, get_or, subst, arith, take_all, take_more, get_or-map, length-map}
use Rattle.graph_core.proofs.Common.{Graph}
use Rattle.tree_core.specs.Common.{AreLeafKinds, IsLeafKind, PlaceValue, place_of}
use Rattle.tree_core.specs.declared.tallies.LeafKind.{LeafKind}
use Rattle.tree_core.proofs.AddedKinds.{kinds-both, kinds-one}

-- the place of a leaf
pub place-at : (g : Graph) (ps : List (List (List ℕ))) (places : List PlaceValue) (i : ℕ) (place : PlaceValue) → i < length places → place ≡ get_or places i place → places ≡ map (place_of g) ps →
    (i < length ps) × (place ≡ place_of g (get_or ps i []))
place-at g ps places i place l is are = grind (arith, length-map, get_or, get_or-map)

-- no leaf has no kind
pub no-kinds : (g : Graph) (ps : List (List (List ℕ))) → AreLeafKinds g (take 0 ps) []
no-kinds g ps = grind arith

-- the kinds of the first leaves, and that of the next
pub kinds-further : (g : Graph) (ps : List (List (List ℕ))) (places : List PlaceValue) (i : ℕ) (place : PlaceValue) (kinds more : List LeafKind) (kind : LeafKind) → i < length places → place ≡ get_or places i place → places ≡ map (place_of g) ps →
    AreLeafKinds g (take i ps) kinds → IsLeafKind place.graph place.blocks kind → more ≡ kinds ++ kind ∷ [] → AreLeafKinds g (take (i + 1) ps) more
kinds-further g ps places i place kinds more kind l is are before here one =
    let at = place-at g ps places i place l is are in
    let own : IsLeafKind g (get_or ps i []) kind = subst (λ (q : PlaceValue). IsLeafKind q.graph q.blocks kind) at.1 here in
    let both = kinds-both g (take i ps) (get_or ps i [] ∷ []) kinds (kind ∷ []) before (kinds-one g (get_or ps i []) kind own) in
    grind (arith, take_more ps i [] at.0)

-- the kinds of all leaves
pub kinds-of_all : (g : Graph) (ps : List (List (List ℕ))) (places : List PlaceValue) (i : ℕ) (kinds : List LeafKind) → places ≡ map (place_of g) ps → i ≡ length places → AreLeafKinds g (take i ps) kinds → AreLeafKinds g ps kinds
kinds-of_all g ps places i kinds are all is = grind (arith, length-map, take_all)
