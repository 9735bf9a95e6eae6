-- Steps of a decomposition that lists the kinds of its leaves: at a leaf its kind comes to the
-- list, and below a cut those of the one tree come first and then those of the other.
use Rattle.graph_core.proofs.from_counting.Common.{◌≡◌, ℕ, ◌+◌, ◌≤◌, List, [], ◌∷◌, ◌++◌, length, append_assoc, ap, subst, ◌∙◌, arith, complement, count, mem}
use Rattle.graph_core.proofs.Common.{Graph, blocks_in}
use Rattle.tight_cuts.specs.Common.{Candidate, candidates_at}
use Rattle.tree_core.proofs.Common.{IsCutAt, IsLeafAt, IsLeafKind, PlaceValue, Shape, blocks-below, cut, kept_at, kinds-both, kinds-one, leaf, leaves_at, merged_at, place_of}
use Rattle.tree_core.specs.declared.tallies.LeafKind.{LeafKind}
use Rattle.decomposer.specs.Common.{AppendsKinds, FindsKinds, PicksShore}

-- the kind of a leaf is appended
kind-appended : (g : Graph) (p : List (List ℕ)) (kind : LeafKind) (old new : List LeafKind) → IsLeafKind g p kind → new ≡ old ++ kind ∷ [] → AppendsKinds g p leaf old new
kind-appended g p kind old new is same = record {
  kinds = kind ∷ [];
  right = kinds-one g p kind is;
  appended = same;
}

-- what is found of a leaf
pub leaf-finds : (picks : List Candidate → ℕ → ℕ → Type 0) (place : PlaceValue) (before : ℕ) (t : Shape) (kind : LeafKind) (old new : List LeafKind) → t ≡ leaf → candidates_at place.graph place.blocks ≡ [] → IsLeafAt place.graph place.blocks →
    IsLeafKind place.graph place.blocks kind → new ≡ old ++ kind ∷ [] → FindsKinds picks place before old t before new
leaf-finds picks place before t kind old new is_leaf none uncut is same =
    let kinds = kind-appended place.graph place.blocks kind old new is same in
    grind arith

-- the kinds of the leaves of two trees are appended one after the other
kinds-appended : (g : Graph) (p : List (List ℕ)) (x : List ℕ) (kept merged : Shape) (old mid new : List LeafKind) →
    AppendsKinds g (kept_at g.order p x) kept old mid → AppendsKinds g (merged_at g.order p x) merged mid new → AppendsKinds g p (cut x kept merged) old new
kinds-appended g p x kept merged old mid new k m = record {
  kinds = k.kinds ++ m.kinds;
  right = kinds-both g (leaves_at g.order (kept_at g.order p x) kept) (leaves_at g.order (merged_at g.order p x) merged) k.kinds m.kinds k.right m.right;
  appended = m.appended ∙ ap (λ (ks : List LeafKind). ks ++ m.kinds) k.appended ∙ append_assoc old k.kinds m.kinds;
}

-- at least four blocks stand on each side of a cut at a place, and on both together two more
pub blocks-beside : (place p r : PlaceValue) (x : List ℕ) (k m : ℕ) → p ≡ place → r ≡ place → IsCutAt place.graph place.blocks x → k + count (length p.blocks) (complement (blocks_in p.blocks (mem x))) ≡ length p.blocks + 1 → m + count (length r.blocks) (blocks_in r.blocks (mem x)) ≡ length r.blocks + 1 →
    (4 ≤ k) × (4 ≤ m) × (k + m ≡ length place.blocks + 2)
blocks-beside place p r x k m is_p is_r cuts kept merged =
    blocks-below place.graph place.blocks x k m cuts
    (subst (λ (a : PlaceValue). k + count (length a.blocks) (complement (blocks_in a.blocks (mem x))) ≡ length a.blocks + 1) is_p kept)
    (subst (λ (a : PlaceValue). m + count (length a.blocks) (blocks_in a.blocks (mem x)) ≡ length a.blocks + 1) is_r merged)

-- what is found of a cut, from what is found of the two places below it
pub cut-finds_kinds : (picks : List Candidate → ℕ → ℕ → Type 0) (place q r : PlaceValue) (x : List ℕ) (before between after : ℕ) (t kept merged : Shape) (old mid new : List LeafKind) →
    q ≡ place_of place.graph (kept_at place.graph.order place.blocks x) → r ≡ place_of place.graph (merged_at place.graph.order place.blocks x) → t ≡ cut x kept merged →
    IsCutAt place.graph place.blocks x → PicksShore picks (candidates_at place.graph place.blocks) before x →
    FindsKinds picks q (before + 1) old kept between mid → FindsKinds picks r between mid merged after new → FindsKinds picks place before old t after new
cut-finds_kinds picks place q r x before between after t kept merged old mid new is_q is_r is_t cuts picked k m = record {
  derives = grind arith;
  picked = grind arith;
  kinds = grind (arith, kinds-appended place.graph place.blocks x kept merged old mid new);
  cuts = grind arith;
}
