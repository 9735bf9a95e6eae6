-- The maps so far, composed with the map of a move: each leads to a leaf by names of its blocks, to
-- which the move gives the names of their images.
use Rattle.graph_core.proofs.from_counting.Common.{All, List, Option, Some, None, [], ◌∙◌, ◌∷◌, ap, ap₂, arith, get_or, length, map, refl, subst, suc, ℕ, ◌+◌, ◌-◌, ◌≡◌, ◌≤◌, All-from_get_or, get_or-map, Within}
use Rattle.move_laws.specs.from_contraction.Partition.{PartitionValue}
use Rattle.graph_core.proofs.Common.{Graph, IsPartition, place, singles}
use Rattle.tree_core.proofs.Common.{PlainLeafMap, leaf_at, map_at, maps_from, move_maps, move_order, name, position, then_map, leaves, partitions_of, PlainMove, rotate_at, switch_at, Shape}
use Rattle.move_laws.proofs.SameLeaves.{name_within}
use Rattle.uncross.proofs.ExchangedLeaves.{exchanged, maps_by-at, names_by, names_nowhere, nowhere-own}
use Rattle.uncross.specs.Common.{exchange_at, images_at, IsMapInto, IsMapIntoIf, IsNameIn, IsSwitched, blocks_of, led_on, map_after, names_after, image_name}
use Rattle.uncross.specs.declared.block_images.Images.{Images}
use Rattle.uncross.specs.declared.block_images.Images.TheVariants.{Own}
use Rattle.uncross.specs.declared.exchanges.Exchange.{Exchange}
use Rattle.uncross.specs.declared.leaf_maps.Switched.{Switched}
use Rattle.move_laws.specs.Common.{IsPairing, IsSameLeaf, image}

-- a place counted from 0, counted from 1 and back
back : (k : ℕ) → k + 1 - 1 ≡ k
back k = omega arith

-- the names that make two leaves the same are names of blocks of the second
names_in : (g : Graph) (p q : List (List ℕ)) (names : List ℕ) → g.order ≤ 128 → IsPartition g.order q → IsSameLeaf g p q names → All (IsNameIn q) names
names_in g p q names few qq same = All-from_get_or (IsNameIn q) names 0 (λ k l.
    let one = same.one_each in let w : Within (length p) (k + 1) = (omega arith, omega arith) in
    subst (λ j. IsNameIn q (get_or names j 0)) (back k) (name_in (k + 1) w))
  where
    name_in : (i : ℕ) → Within (length p) i → IsNameIn q (name names i)
    name_in i w = grind (arith, name_within g.order q qq.partition (image q names i))

-- the maps of a pairing lead to leaves of its second list
pub paired_into : (g : Graph) (ps qs : List (List (List ℕ))) (maps : List PlainLeafMap) → g.order ≤ 128 → All (IsPartition g.order) qs → IsPairing g ps qs maps → All (IsMapInto qs) maps
paired_into g ps qs maps few parts pairs = All-from_get_or (IsMapInto qs) maps (record { to = 0; images = [] }) (λ k l.
    let each = pairs.one_each in let w : Within (length ps) (k + 1) = (omega arith, omega arith) in
    subst (λ j. IsMapInto qs (get_or maps j (record { to = 0; images = [] }))) (back k) (at (k + 1) w))
  where
    at : (i : ℕ) → Within (length ps) i → IsMapInto qs (map_at maps i)
    at i w =
        let j = (map_at maps i).to in let wj = pairs.within i w in
        record { within = wj; named = names_in g (leaf_at ps i) (leaf_at qs j) (map_at maps i).images few (parts (j - 1) [] (omega arith)) (pairs.same i w) }

-- the blocks of partitions with these blocks
pub blocks-partitions : (n : ℕ) (qs : List (List (List ℕ))) (parts : List PartitionValue) → parts ≡ partitions_of n qs → blocks_of parts ≡ qs
blocks-partitions n qs parts are = ap blocks_of are ∙ same qs
  where
    same : (qs : List (List (List ℕ))) → blocks_of (partitions_of n qs) ≡ qs
    same [] = refl
    same (q ∷ qs) = ap (λ rest. q ∷ rest) (same qs)

-- names of blocks that are their own images
pub own-names_after : (n : ℕ) (q : List (List ℕ)) (names : List ℕ) → All (IsNameIn q) names → names_after n Own q names ≡ names
own-names_after n q [] all = refl
own-names_after n q (b ∷ names) all = ap₂ (λ (c : ℕ) (rest : List ℕ). c ∷ rest) (all 0 0 (omega arith)).last (own-names_after n q names (λ i d l. all (suc i) d (omega arith)))

-- names of blocks whose images have names in the order of the blocks
given-names_after : (n : ℕ) (images : Images) (q : List (List ℕ)) (names : List ℕ) → All (IsNameIn q) names → map (λ b. name (map (image_name n images) q) (place q b)) names ≡ names_after n images q names
given-names_after n images q [] all = refl
given-names_after n images q (b ∷ names) all =
    let w = (all 0 0 (omega arith)).stands in
    ap₂ (λ (c : ℕ) (rest : List ℕ). c ∷ rest) (get_or-map (image_name n images) q (place q b - 1) [] 0 (omega arith)) (given-names_after n images q names (λ i d l. all (suc i) d (omega arith)))

-- a leaf's map, followed by maps that are made of the images of an exchange
then-by : (n : ℕ) (o : List ℕ) (e : Exchange) (qs : List (List (List ℕ))) (m : PlainLeafMap) → IsMapInto qs m →
    then_map qs (maps_from o 0 (names_by n e 0 qs)) m ≡ record { to = position o m.to; images = names_after n (images_at e m.to) (leaf_at qs m.to) m.images }
then-by n o e qs m into = grind (arith, names_by n e 0 qs, maps_by-at o n e 0 qs (m.to - 1), given-names_after n (images_at e m.to) (leaf_at qs m.to) m.images into.named)

-- maps that are equal at each item
each : (f h : PlainLeafMap → PlainLeafMap) (P : PlainLeafMap → Type 0) → ((m : PlainLeafMap) → P m → f m ≡ h m) → (maps : List PlainLeafMap) → All P maps → map f maps ≡ map h maps
each f h P same [] all = refl
each f h P same (m ∷ maps) all = ap₂ (λ (c : PlainLeafMap) (rest : List PlainLeafMap). c ∷ rest) (same m (all 0 m (omega arith))) (each f h P same maps (λ i d l. all (suc i) d (omega arith)))

-- the maps that a move leads on to, as the code makes them
pub led : (n : ℕ) (t : Shape) (m : PlainMove) (s : Option Switched) (maps : List PlainLeafMap) → IsSwitched n t m s → All (IsMapInto (leaves n t)) maps → map (map_after n (move_order n m t) s) maps ≡ led_on n t m maps
unfolding move_maps
led n t (rotate_at path) None maps is all = each _ _ (IsMapInto (leaves n t)) step maps all
  where
    step : (m : PlainLeafMap) → IsMapInto (leaves n t) m → map_after n (move_order n (rotate_at path) t) None m ≡ then_map (leaves n t) (move_maps n t (rotate_at path)) m
    step m into = grind (arith, own-names_after n, nowhere-own 0 m.to, then-by n, names_nowhere n)
led n t (rotate_at path) (Some s) maps is all = absurd is
led n t (switch_at path u v) None maps is all = absurd is
led n t (switch_at path u v) (Some s) maps is all = each _ _ (IsMapInto (leaves n t)) step maps all
  where
    step : (m : PlainLeafMap) → IsMapInto (leaves n t) m → map_after n (move_order n (switch_at path u v) t) (Some s) m ≡ then_map (leaves n t) (move_maps n t (switch_at path u v)) m
    step m into =
        let o = move_order n (switch_at path u v) t in let qs = leaves n t in
        grind (arith, blocks-partitions n qs s.leaves is.0, then-by n o (exchange_at n path u v 0 t) qs m into, exchanged n path u v 0 (singles n) t)

-- the maps lead to leaves where a Switch asks for it
pub into_if : (n : ℕ) (t : Shape) (m : PlainMove) (s : Option Switched) (maps : List PlainLeafMap) → IsSwitched n t m s → All (IsMapInto (leaves n t)) maps → All (IsMapIntoIf s) maps
into_if n t m s maps is all = grind (arith, blocks-partitions)
