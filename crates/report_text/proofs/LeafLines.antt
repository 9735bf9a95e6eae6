-- The lines of the leaves grow by those of one leaf: those before it give their own kinds. By
-- induction over the leaves, and the items before stay when a kind is appended.
use Rattle.move_text.proofs.from_counting.Common.{◌≡◌, ◌≤◌, ◌<◌, ℕ, zero, suc, ◌+◌, ◌-◌, ◌∙◌, List, [], ◌∷◌, ◌++◌, length, map, ap, refl, sym, get_or, slice_get, Some, arith, get_or-append, get_or-append_seam, length-map}
use Rattle.contraction.specs.Partition.{PartitionValue}
use Rattle.graph_core.proofs.Common.{Graph}
use Rattle.report_text.specs.Common.{numbered_leaf_lines, leaf_text}
use Rattle.move_text.proofs.from_tree_core.Common.{PlaceValue, blocks-at, place-at, place_of}
use Rattle.move_text.specs.from_tree_core.declared.tallies.LeafKind.{LeafKind}
use Rattle.move_text.specs.from_tree_core.declared.tallies.LeafKind.TheVariants.{Brick}
use Rattle.report_text.proofs.WrittenLines.{leaf-written}

-- the lines of the first leaves do not give the kinds of later ones
lines-before : (g : Graph) (ps : List (List (List ℕ))) (kinds more : List LeafKind) (i : ℕ) → i ≤ length kinds → numbered_leaf_lines g ps kinds i ≡ numbered_leaf_lines g ps (kinds ++ more) i
lines-before g ps kinds more zero l = refl
lines-before g ps kinds more (suc i) l = grind (arith, lines-before g ps kinds more i (omega arith), get_or-append kinds more Brick (suc i - 1))

-- the lines of the next leaf, with its kind
pub lines-more : (g : Graph) (leaves : List PartitionValue) (kinds : List LeafKind) (i : ℕ) (p : PartitionValue) (kind : LeafKind) (start now next : List ℕ) → slice_get leaves i ≡ Some p → length kinds ≡ i →
    now ≡ start ++ numbered_leaf_lines g (map (λ (p : PartitionValue). p.blocks) leaves) kinds i → next ≡ now ++ leaf_text g (suc i) p.blocks kind →
    next ≡ start ++ numbered_leaf_lines g (map (λ (p : PartitionValue). p.blocks) leaves) (kinds ++ kind ∷ []) (suc i)
lines-more g leaves kinds i p kind start now next is so_many first second =
    let ps : List (List (List ℕ)) = map (λ (p : PartitionValue). p.blocks) leaves in
    grind (arith, leaf-written g ps (kinds ++ kind ∷ []) i p.blocks kind start now next (sym (blocks-at leaves i p is)), get_or-append_seam kinds kind, lines-before g ps kinds (kind ∷ []) i)

-- the lines of the leaf at the next place
pub places-more : (g : Graph) (ps : List (List (List ℕ))) (places : List PlaceValue) (kinds : List LeafKind) (i : ℕ) (place : PlaceValue) (kind : LeafKind) (start now next : List ℕ) → i < length places → place ≡ get_or places i place → places ≡ map (place_of g) ps →
    kind ≡ get_or kinds i Brick → now ≡ start ++ numbered_leaf_lines g ps kinds i → next ≡ now ++ leaf_text place.graph (suc i) place.blocks kind → next ≡ start ++ numbered_leaf_lines g ps kinds (suc i)
places-more g ps places kinds i place kind start now next less is are kind_is first second =
    let at = place-at g ps places i place less is are in
    leaf-written g ps kinds i (get_or ps i []) kind start now next refl kind_is first (second ∙ ap (λ (q : PlaceValue). now ++ leaf_text q.graph (suc i) q.blocks kind) at.1)

-- as many places as partitions
pub places-all : (g : Graph) (ps : List (List (List ℕ))) (places : List PlaceValue) → places ≡ map (place_of g) ps → length places ≡ length ps
places-all g ps places are = ap length are ∙ length-map ps (place_of g)
