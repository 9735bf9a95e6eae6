-- The maps of a script pair the leaves: those of the empty script do, and a pairing composed with
-- the pairing of a move is a pairing.
use Rattle.move_laws.specs.Common.{AreRising, IsProperScript, IsPairing, IsSameLeaf, image}
use Rattle.graph_core.proofs.from_counting.Common.{◌≡◌, ℕ, ◌-◌, ◌<◌, Bool, true, ◌==◌, List, [], ◌∷◌, length, map, unwrap_or, sym, ap, ap₂, ◌∙◌, arith, eq-eqb, ne_eqb, eqb-true, subst, get_or-map, length-map, bit_true, count_congr, only_one, some_term, total_at, Within, bit, count, last_of}
use Rattle.graph_core.proofs.Common.{Graph, block, names_of, place, singles, blocks_adjacent}
use Rattle.tree_core.proofs.Common.{IsDerivationAt, PlainLeafMap, leaf_at, map_at, maps_after, move_maps, name, numbers, own_maps, script_maps, then_map, leaves, PlainMove, move_result, Shape, leaf_count}
use Rattle.move_laws.proofs.BigShores.{Stage}
use Rattle.move_laws.proofs.MoveParts.{move_pairs, own_part}
use Rattle.move_laws.proofs.Parts.{part-pairing}

-- the number of a test that counts one
sole : (n : ℕ) (x : ℕ → Bool) → count n x ≡ 1 → (i : ℕ) × Within n i × (x i ≡ true)
sole n x h = let r = some_term n (λ i. bit (x i)) (omega arith) in (r.0, r.1, bit_true (x r.0) r.2)

-- a bijection followed by a bijection
once-then : (l m n : ℕ) (f h : ℕ → ℕ) → ((i : ℕ) → Within l i → Within m (f i)) → ((k : ℕ) → Within m k → count l (λ i. f i == k) ≡ 1) → ((j : ℕ) → Within n j → count m (λ k. h k == j) ≡ 1) → (j : ℕ) → Within n j → count l (λ i. h (f i) == j) ≡ 1
once-then l m n f h inside first second j w =
    let k = sole m (λ k. h k == j) (second j w) in
    let i = sole l (λ i. f i == k.0) (first k.0 k.1) in
    let hk = eqb-true (h k.0) j k.2 in let fi = eqb-true (f i.0) k.0 i.2 in
    total_at l (λ i. bit (h (f i) == j)) i.0 i.1 (λ e we d. ap bit (ne_eqb (h (f e)) j (λ s.
    let same = only_one m (λ k. h k == j) (second j w) (f e) k.0 (inside e we) k.1 (eq-eqb (h (f e)) j s) k.2 in
    d (only_one l (λ i. f i == k.0) (first k.0 k.1) e i.0 we i.1 (eq-eqb (f e) k.0 same) i.2))))
    ∙ ap bit (eq-eqb (h (f i.0)) j (ap h fi ∙ hk))

-- the names of images of images
module _ (g : Graph) (p q r : List (List ℕ)) (first second : List ℕ) (one : IsSameLeaf g p q first) (two : IsSameLeaf g q r second) where
  names : List ℕ
  names = map (λ b. name second (place q b)) first

  name-is : (i : ℕ) → Within (length p) i → name names i ≡ name second (image q first i)
  unfolding names
  name-is i w = let l : i - 1 < length first = let e = one.one_each in omega arith in get_or-map (λ b. name second (place q b)) first (i - 1) 0 0 l

  image-is : (i : ℕ) → Within (length p) i → image r names i ≡ image r second (image q first i)
  image-is i w = ap (place r) (name-is i w)

  pub same_leaf-then : IsSameLeaf g p r (map (λ b. name second (place q b)) first)
  unfolding names
  same_leaf-then = record {
    one_each = length-map first (λ b. name second (place q b)) ∙ one.one_each;
    named = λ i w.
        let n = two.named (image q first i) (one.named i w).0 in
        (subst (Within (length r)) (sym (image-is i w)) n.0, ap (λ j. last_of (block r j)) (image-is i w) ∙ n.1 ∙ sym (name-is i w));
    once = λ j w. counted j ∙ once-then (length p) (length q) (length r) (image q first) (image r second) (λ i w. (one.named i w).0) one.once two.once j w;
    adjacent = λ i j wi wj. one.adjacent i j wi wj ∙ two.adjacent (image q first i) (image q first j) (one.named i wi).0 (one.named j wj).0 ∙ ap₂ (blocks_adjacent g r) (sym (image-is i wi)) (sym (image-is j wj));
  }
    where
      counted : (j : ℕ) → count (length p) (λ i. image r names i == j) ≡ count (length p) (λ i. image r second (image q first i) == j)
      counted j = count_congr (length p) _ _ (λ i w. ap (λ z. z == j) (image-is i w))

-- a pairing followed by a pairing
pub pairing-then : (g : Graph) (ps qs rs : List (List (List ℕ))) (first second : List PlainLeafMap) → IsPairing g ps qs first → IsPairing g qs rs second → IsPairing g ps rs (map (then_map qs second) first)
pairing-then g ps qs rs first second one two = record {
  one_each = length-map first (then_map qs second) ∙ one.one_each;
  within = λ i w. subst (λ (m : PlainLeafMap). Within (length rs) m.to) (sym (at i w)) (two.within (map_at first i).to (one.within i w));
  once = λ j w. count_congr (length ps) _ _ (λ i u. ap (λ (m : PlainLeafMap). m.to == j) (at i u)) ∙ once-then (length ps) (length qs) (length rs) (λ i. (map_at first i).to) (λ k. (map_at second k).to) one.within one.once two.once j w;
  same = λ i w. subst (λ (m : PlainLeafMap). IsSameLeaf g (leaf_at ps i) (leaf_at rs m.to) m.images) (sym (at i w))
      (same_leaf-then g (leaf_at ps i) (leaf_at qs (map_at first i).to) (leaf_at rs (map_at second (map_at first i).to).to) (map_at first i).images (map_at second (map_at first i).to).images (one.same i w) (two.same (map_at first i).to (one.within i w)));
}
  where
    at : (i : ℕ) → Within (length ps) i → map_at (map (then_map qs second) first) i ≡ then_map qs second (map_at first i)
    at i w = let l : i - 1 < length first = let e = one.one_each in omega arith in get_or-map (then_map qs second) first (i - 1) (record { to = 0; images = [] }) (record { to = 0; images = [] }) l

-- each leaf with itself
pub own_pairs : (g : Graph) (s : Shape) → Stage g (singles g.order) → IsDerivationAt g (singles g.order) s → IsPairing g (leaves g.order s) (leaves g.order s) (own_maps g.order s)
own_pairs g s st d = part-pairing g (leaves g.order s) (leaves g.order s) (numbers 0 (leaf_count s)) (map names_of (leaves g.order s)) (own_part g (singles g.order) 0 s st d)

-- the moves after a pairing
after_pairs : (g : Graph) (first s t : Shape) (ms : List PlainMove) (maps : List PlainLeafMap) → Stage g (singles g.order) → AreRising g.order s → IsDerivationAt g (singles g.order) s → IsProperScript g (singles g.order) s ms t →
    IsPairing g (leaves g.order first) (leaves g.order s) maps → IsPairing g (leaves g.order first) (leaves g.order t) (maps_after g.order s maps ms)
after_pairs g first s t [] maps st f d w pairs = subst (λ t. IsPairing g (leaves g.order first) (leaves g.order t) maps) w pairs
after_pairs g first s t (m ∷ ms) maps st f d w pairs =
    let next : w.0 ≡ unwrap_or (move_result g.order s m) s = sym (ap (λ o. unwrap_or o s) w.1) in
    subst (λ r. IsPairing g (leaves g.order first) (leaves g.order t) (maps_after g.order r (map (then_map (leaves g.order s) (move_maps g.order s m)) maps) ms)) next
    (after_pairs g first w.0 t ms (map (then_map (leaves g.order s) (move_maps g.order s m)) maps) st w.4 w.3 w.6
    (pairing-then g (leaves g.order first) (leaves g.order s) (leaves g.order w.0) maps (move_maps g.order s m) pairs (move_pairs g s w.0 m st f d w.2 w.1 w.3)))

-- the maps of a script that leads through derivations by proper moves
pub script_pairs : (g : Graph) (s t : Shape) (ms : List PlainMove) → Stage g (singles g.order) → AreRising g.order s → IsDerivationAt g (singles g.order) s → IsProperScript g (singles g.order) s ms t → IsPairing g (leaves g.order s) (leaves g.order t) (script_maps g.order s ms)
script_pairs g s t ms st f d w = after_pairs g s s t ms (own_maps g.order s) st f d w (own_pairs g s st d)
