-- The maps of a script, move by move: what is true after some of its moves. Idea: the maps made so
-- far, composed with those of the moves left, are the maps of the whole script; each move keeps
-- this.
use Rattle.graph_core.proofs.from_counting.Common.{All, List, Some, ap, arith, length, map, subst, subst₂, sym, unwrap_or, ℕ, ◌∙◌, ◌∷◌, ◌≡◌, ◌≤◌, count_complement, mem}
use Rattle.graph_core.proofs.Common.{length-singles, Graph, IsGraph, singles, blocks_in}
use Rattle.tree_core.proofs.Common.{few-leaves, partitions-leaves, fits-derivation, stands-derivation, IsDerivation, PlainLeafMap, maps_after, move_maps, own_maps, script_maps, then_map, StandsAt, leaves, PlainMove, move_result, Fits, Shape, cut, leaf, leaf_count}
use Rattle.uncross.proofs.FollowedMaps.{paired_into}
use Rattle.move_laws.proofs.MoveParts.{move_pairs}
use Rattle.move_laws.proofs.Rising.{rising-derivation_at}
use Rattle.move_laws.proofs.ScriptPairs.{own_pairs, pairing-then, script_pairs}
use Rattle.move_laws.proofs.Scripts.{script_end}
use Rattle.move_laws.proofs.SingleVertices.{singles_stage}
use Rattle.uncross.specs.Common.{IsMapInto, led_on}
use Rattle.move_laws.specs.Common.{IsPairing, IsProperScript}

-- a derivation of a graph of at most 128 vertices has few leaves
pub leaves-few : (g : Graph) (t : Shape) → IsGraph g → g.order ≤ 128 → IsDerivation g t → leaf_count t ≤ 255
leaves-few g leaf is few d = omega arith
leaves-few g (cut x a b) is few d = grind (arith, count_complement (length (singles g.order)) (blocks_in (singles g.order) (mem x)), length-singles g.order, few-leaves g (cut x a b) is d)

-- the maps of a proper script between derivations of a graph pair their leaves
pub derivation_script_pairs : (g : Graph) (s t : Shape) (ms : List PlainMove) → IsGraph g → IsDerivation g s → IsProperScript g (singles g.order) s ms t → IsPairing g (leaves g.order s) (leaves g.order t) (script_maps g.order s ms)
derivation_script_pairs g s t ms is d w = script_pairs g s t ms (singles_stage g is d.covered) (rising-derivation_at g (singles g.order) s d.derives) d.derives w

-- and if it begins with a derivation it ends with one
pub script_derives : (g : Graph) (s t : Shape) (ms : List PlainMove) → IsDerivation g s → IsProperScript g (singles g.order) s ms t → IsDerivation g t
script_derives g s t ms d w = record { covered = d.covered; derives = (script_end g (singles g.order) s ms t d.derives (rising-derivation_at g (singles g.order) s d.derives) w).0 }

-- after some moves of a script on the tree `first`: the tree `current` is a derivation, the moves
-- left lead on from it, the maps pair the leaves of the first tree with its leaves, and followed
-- by the maps of the moves left they are those of the script
pub record Remains (g : Graph) (first current : Shape) (ms left : List PlainMove) (maps : List PlainLeafMap) : Type 0 where
  pub derives : IsDerivation g current
  pub script : (t : Shape) × IsProperScript g (singles g.order) current left t
  pub pairs : IsPairing g (leaves g.order first) (leaves g.order current) maps
  pub value : maps_after g.order current maps left ≡ script_maps g.order first ms

module _ (g : Graph) (is : IsGraph g) (few : g.order ≤ 128) (n : ℕ) (same : n ≡ g.order) where
  -- a derivation fits if its leaves and the maps of moves on it are asked for
  pub fits : (t : Shape) → IsDerivation g t → Fits n t
  fits t d = subst (λ k. Fits k t) (sym same) (fits-derivation g t d)

  -- and its shores are unions of blocks at their nodes
  pub stands : (t : Shape) → IsDerivation g t → StandsAt n (singles n) t
  stands t d = subst (λ k. StandsAt k (singles k) t) (sym same) (stands-derivation g t d)

  -- before the first move
  pub start : (first current : Shape) (ms left : List PlainMove) (maps : List PlainLeafMap) → IsDerivation g first → ((t : Shape) × IsProperScript g (singles g.order) first ms t) → current ≡ first → left ≡ ms → maps ≡ own_maps n first → Remains g first current ms left maps
  start first current ms left maps d w here all own = grind (arith, own_pairs g first (singles_stage g is d.covered) d.derives, singles_stage g is d.covered)

  -- at the next move
  module _ (first current : Shape) (ms left others : List PlainMove) (m : PlainMove) (maps : List PlainLeafMap) (r : Remains g first current ms left maps) (e : left ≡ m ∷ others) where
    -- the moves from here
    road : (t : Shape) × IsProperScript g (singles g.order) current (m ∷ others) t
    road = subst (λ (ls : List PlainMove). (t : Shape) × IsProperScript g (singles g.order) current ls t) e r.script

    -- the first of them has a result
    result : move_result n current m ≡ Some road.1.0
    result = ap (λ k. move_result k current m) same ∙ road.1.1

    -- its maps pair the leaves
    next_pairs : IsPairing g (leaves g.order current) (leaves g.order road.1.0) (move_maps g.order current m)
    next_pairs = move_pairs g current road.1.0 m (singles_stage g is r.derives.covered) (rising-derivation_at g (singles g.order) current r.derives.derives) r.derives.derives road.1.2 road.1.1 road.1.3

    -- after it the same holds
    next_remains : Remains g first road.1.0 ms others (map (then_map (leaves g.order current) (move_maps g.order current m)) maps)
    next_remains =
        let next : unwrap_or (move_result g.order current m) current ≡ road.1.0 = ap (λ o. unwrap_or o current) road.1.1 in
        grind (arith, pairing-then g (leaves g.order first) (leaves g.order current) (leaves g.order road.1.0) maps (move_maps g.order current m) r.pairs next_pairs, next_pairs)

    -- the maps so far lead to leaves of the tree
    pub leads : All (IsMapInto (leaves n current)) maps
    leads = grind (arith, paired_into g (leaves g.order first) (leaves g.order current) maps few (partitions-leaves g current r.derives) r.pairs, partitions-leaves g current r.derives)

    -- and if they are followed by those of the move, the same holds again
    pub step : (next : Shape) (after : List PlainLeafMap) → after ≡ led_on n current m maps → ((t : Shape) → move_result n current m ≡ Some t → next ≡ t) → Remains g first next ms others after
    step next after led moved =
        let new : next ≡ road.1.0 = moved road.1.0 result in
        let both : after ≡ led_on g.order current m maps = led ∙ ap (λ (k : ℕ). led_on k current m maps) same in
        subst₂ (λ (s : Shape) (ls : List PlainLeafMap). Remains g first s ms others ls) (sym new) (sym both) next_remains
