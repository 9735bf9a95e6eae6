-- The leaves under a move, down its path: below the node they are those that the move gives, and
-- elsewhere they stay. So the maps of a proper move pair the leaves of a derivation with those of
-- the next.
use Rattle.move_laws.specs.Common.{AreRising, IsPairing}
use Rattle.graph_core.proofs.from_counting.Common.{◌≡◌, ℕ, ◌+◌, Bool, true, false, ◌&&◌, not, List, [], ◌∷◌, ◌++◌, length, map, Some, None, if◌then◌else◌, refl, sym, ap, ◌∙◌, arith, subst, subst₂, length-append, map-append, none-some, same_Some, all_in_true, is_apart, is_subset, mem, everything, minus}
use Rattle.graph_core.proofs.Common.{Graph, IsGraph, IsPartition, complement_of, contracted, names_of, singles, IsCovered}
use Rattle.tree_core.proofs.Common.{partitions-leaves_at, length-leaves_at, IsCutAt, IsDerivationAt, kept_at, merged_at, move_maps, move_order, names_at, numbers, order_at, rotate_order, switch_names, switch_order, leaves, leaves_at, BlocksAt, IsProper, PlainMove, inner_rest, is_proper, kept_if_greatest_stays, kept_if_greatest_comes, merged_if_greatest_stays, merged_if_greatest_comes, outer_rest, union_list, last_step, move_result, parent_path, result_at, rotate_at, rotate_result_at, switch_at, switch_result_at, Shape, cut, leaf, leaf_count}
use Rattle.tree_core.specs.declared.path.Side.{Side}
use Rattle.tree_core.specs.declared.path.Side.TheVariants.{Kept, Merged}
use Rattle.move_laws.proofs.BigShores.{Stage, big_rest, cut_big, stage_merged}
use Rattle.move_laws.proofs.Parts.{Part, part-join, part-own, part-pairing, part-turn}
use Rattle.move_laws.proofs.Rising.{rising-derivation_at}
use Rattle.move_laws.proofs.Rotations.{append_join, mapped, row_apart, row_inside, row_kept}
use Rattle.move_laws.proofs.SwitchParts.{switch_derives, switch_part}

-- a derivation's leaves as they are
pub own_part : (g : Graph) (p : List (List ℕ)) (k : ℕ) (t : Shape) → Stage g p → IsDerivationAt g p t → Part g k (leaves_at g.order p t) (leaves_at g.order p t) (numbers k (leaf_count t)) (map names_of (leaves_at g.order p t))
own_part g p k t st d =
    subst (λ n. Part g k (leaves_at g.order p t) (leaves_at g.order p t) (numbers k n) (map names_of (leaves_at g.order p t))) (length-leaves_at g.order p t)
    (part-own g st.graph k (leaves_at g.order p t) (partitions-leaves_at g p t st.list d))

-- the stages below a cut
module _ (g : Graph) (p : List (List ℕ)) (st : Stage g p) (x : List ℕ) (a b : Shape) (f : AreRising g.order (cut x a b)) (d : IsDerivationAt g p (cut x a b)) where
  pub kept_below : Stage g (kept_at g.order p x)
  kept_below = stage_merged g p st (complement_of g.order x) (big_rest g p st x (cut_big g p st x f.0 d.0))

  pub merged_below : Stage g (merged_at g.order p x)
  merged_below = stage_merged g p st x (cut_big g p st x f.0 d.0)

  -- a part below `kept`, with what stays below `merged`
  pub beside_kept : (k : ℕ) (c : Shape) (o : List ℕ) (ns : List (List ℕ)) → Part g k (leaves_at g.order (kept_at g.order p x) a) (leaves_at g.order (kept_at g.order p x) c) o ns →
      Part g k (leaves_at g.order p (cut x a b)) (leaves_at g.order p (cut x c b)) (o ++ numbers (k + leaf_count a) (leaf_count b)) (ns ++ map names_of (leaves_at g.order (merged_at g.order p x) b))
  beside_kept k c o ns part =
      part-join g k (leaves_at g.order (kept_at g.order p x) a) (leaves_at g.order (kept_at g.order p x) c) (leaves_at g.order (merged_at g.order p x) b) (leaves_at g.order (merged_at g.order p x) b) o (numbers (k + leaf_count a) (leaf_count b)) ns (map names_of (leaves_at g.order (merged_at g.order p x) b)) part
      (subst (λ i. Part g i (leaves_at g.order (merged_at g.order p x) b) (leaves_at g.order (merged_at g.order p x) b) (numbers (k + leaf_count a) (leaf_count b)) (map names_of (leaves_at g.order (merged_at g.order p x) b)))
      (ap (λ i. k + i) (sym (length-leaves_at g.order (kept_at g.order p x) a))) (own_part g (merged_at g.order p x) (k + leaf_count a) b merged_below d.2))

  -- a part below `merged`, with what stays below `kept`
  pub beside_merged : (k : ℕ) (c : Shape) (o : List ℕ) (ns : List (List ℕ)) → Part g (k + leaf_count a) (leaves_at g.order (merged_at g.order p x) b) (leaves_at g.order (merged_at g.order p x) c) o ns →
      Part g k (leaves_at g.order p (cut x a b)) (leaves_at g.order p (cut x a c)) (numbers k (leaf_count a) ++ o) (map names_of (leaves_at g.order (kept_at g.order p x) a) ++ ns)
  beside_merged k c o ns part =
      part-join g k (leaves_at g.order (kept_at g.order p x) a) (leaves_at g.order (kept_at g.order p x) a) (leaves_at g.order (merged_at g.order p x) b) (leaves_at g.order (merged_at g.order p x) c) (numbers k (leaf_count a)) o (map names_of (leaves_at g.order (kept_at g.order p x) a)) ns
      (own_part g (kept_at g.order p x) k a kept_below d.1)
      (subst (λ i. Part g i (leaves_at g.order (merged_at g.order p x) b) (leaves_at g.order (merged_at g.order p x) c) o ns) (ap (λ i. k + i) (sym (length-leaves_at g.order (kept_at g.order p x) a))) part)

-- Switch at its node
switch_node : (g : Graph) (p : List (List ℕ)) (k : ℕ) (u v : List ℕ) (s t : Shape) → Stage g p → AreRising g.order s → IsDerivationAt g p s → IsDerivationAt g p t → BlocksAt g.order p [] u v s → switch_result_at g.order u v s ≡ Some t →
    Part g k (leaves_at g.order p s) (leaves_at g.order p t) (switch_order g.order u v k s) (switch_names g.order u v p s)
switch_node g p k u v leaf t st f d dt blocks e = absurd (none-some _ e)
switch_node g p k u v (cut x a b) t st f d dt blocks e = go (is_proper u x && is_proper v (complement_of g.order x)) refl e
  where
    go : (c : Bool) → (is_proper u x && is_proper v (complement_of g.order x)) ≡ c → (if c then Some (if mem v g.order then cut (union_list g.order (outer_rest g.order x v) u) (merged_if_greatest_comes g.order x u b) (kept_if_greatest_comes g.order x u v a) else cut (union_list g.order (inner_rest g.order x u) v) (kept_if_greatest_stays g.order x u v a) (merged_if_greatest_stays g.order x u v b)) else None) ≡ Some t → Part g k (leaves_at g.order p (cut x a b)) (leaves_at g.order p t) (switch_order g.order u v k (cut x a b)) (switch_names g.order u v p (cut x a b))
    go false h e = absurd (none-some _ e)
    go true h e = switch_part g p st x u v blocks.0.0 blocks.0.1 blocks.1.0 blocks.2.0 blocks.1.1 blocks.2.1 a b f d h k t dt (same_Some _ _ e)

-- Switch down its path
pub switch_along : (g : Graph) (u v : List ℕ) (path : List Side) (p : List (List ℕ)) (k : ℕ) (s t : Shape) → Stage g p → AreRising g.order s → IsDerivationAt g p s → IsDerivationAt g p t → BlocksAt g.order p path u v s → result_at (switch_result_at g.order u v) path s ≡ Some t →
    Part g k (leaves_at g.order p s) (leaves_at g.order p t) (order_at (switch_order g.order u v) path k s) (names_at g.order u v path p s)
switch_along g u v [] p k s t st f d dt blocks e = switch_node g p k u v s t st f d dt blocks e
switch_along g u v (side ∷ path) p k leaf t st f d dt blocks e = absurd (none-some _ e)
switch_along g u v (Kept ∷ path) p k (cut x a b) t st f d dt blocks e =
    let m = mapped (λ c. cut x c b) (result_at (switch_result_at g.order u v) path a) t e in
    let dm = subst (IsDerivationAt g p) (sym m.2) dt in
    subst (λ r. Part g k (leaves_at g.order p (cut x a b)) (leaves_at g.order p r) (order_at (switch_order g.order u v) (Kept ∷ path) k (cut x a b)) (names_at g.order u v (Kept ∷ path) p (cut x a b))) m.2
    (beside_kept g p st x a b f d k m.0 (order_at (switch_order g.order u v) path k a) (names_at g.order u v path (kept_at g.order p x) a)
    (switch_along g u v path (kept_at g.order p x) k a m.0 (kept_below g p st x a b f d) f.1 d.1 dm.1 blocks m.1))
switch_along g u v (Merged ∷ path) p k (cut x a b) t st f d dt blocks e =
    let m = mapped (λ c. cut x a c) (result_at (switch_result_at g.order u v) path b) t e in
    let dm = subst (IsDerivationAt g p) (sym m.2) dt in
    subst (λ r. Part g k (leaves_at g.order p (cut x a b)) (leaves_at g.order p r) (order_at (switch_order g.order u v) (Merged ∷ path) k (cut x a b)) (names_at g.order u v (Merged ∷ path) p (cut x a b))) m.2
    (beside_merged g p st x a b f d k m.0 (order_at (switch_order g.order u v) path (k + leaf_count a) b) (names_at g.order u v path (merged_at g.order p x) b)
    (switch_along g u v path (merged_at g.order p x) (k + leaf_count a) b m.0 (merged_below g p st x a b f d) f.2 d.2 dm.2 blocks m.1))

-- Rotate at the parent of its node: the leaves stay, or those of two trees change places
rotate_same : (g : Graph) (p : List (List ℕ)) (k : ℕ) (s t : Shape) (o : List ℕ) → Stage g p → IsDerivationAt g p s → leaves_at g.order p t ≡ leaves_at g.order p s → numbers k (leaf_count s) ≡ o →
    Part g k (leaves_at g.order p s) (leaves_at g.order p t) o (map names_of (leaves_at g.order p s))
rotate_same g p k s t o st d e n =
    subst₂ (λ (qs : List (List (List ℕ))) (o : List ℕ). Part g k (leaves_at g.order p s) qs o (map names_of (leaves_at g.order p s))) (sym e) n (own_part g p k s st d)

rotate_turned : (g : Graph) (p : List (List ℕ)) (k : ℕ) (x y : List ℕ) (a b c : Shape) (st : Stage g p) (f : AreRising g.order (cut x a (cut y b c))) (d : IsDerivationAt g p (cut x a (cut y b c))) → ((v : ℕ) → mem x v ≡ true → mem y v ≡ false) →
    Part g k (leaves_at g.order p (cut x a (cut y b c))) (leaves_at g.order p (cut y b (cut x a c))) ((numbers (k + leaf_count a) (leaf_count b) ++ numbers k (leaf_count a)) ++ numbers (k + leaf_count a + leaf_count b) (leaf_count c)) (map names_of (leaves_at g.order p (cut x a (cut y b c))))
rotate_turned g p k x y a b c st f d apart = whole
  where
    la : List (List (List ℕ))
    la = leaves_at g.order (kept_at g.order p x) a

    lb : List (List (List ℕ))
    lb = leaves_at g.order (kept_at g.order (merged_at g.order p x) y) b

    lc : List (List (List ℕ))
    lc = leaves_at g.order (merged_at g.order (merged_at g.order p x) y) c

    sm : Stage g (merged_at g.order p x)
    sm = merged_below g p st x a (cut y b c) f d

    at : (k l : ℕ) (q : List (List ℕ)) (t : Shape) → k ≡ l → Stage g q → IsDerivationAt g q t → Part g l (leaves_at g.order q t) (leaves_at g.order q t) (numbers k (leaf_count t)) (map names_of (leaves_at g.order q t))
    at k l q t e st d = subst (λ i. Part g i (leaves_at g.order q t) (leaves_at g.order q t) (numbers k (leaf_count t)) (map names_of (leaves_at g.order q t))) e (own_part g q k t st d)

    first : k + leaf_count a ≡ k + length la
    first = ap (λ i. k + i) (sym (length-leaves_at g.order (kept_at g.order p x) a))

    second : k + leaf_count a + leaf_count b ≡ k + length (la ++ lb)
    second =
        let e = length-append la lb in let i = length-leaves_at g.order (kept_at g.order p x) a in let j = length-leaves_at g.order (kept_at g.order (merged_at g.order p x) y) b in
        omega arith

    turned_pair : Part g k (la ++ lb) (lb ++ la) (numbers (k + leaf_count a) (leaf_count b) ++ numbers k (leaf_count a)) (map names_of la ++ map names_of lb)
    turned_pair = part-turn g k la la lb lb (numbers k (leaf_count a)) (numbers (k + leaf_count a) (leaf_count b)) (map names_of la) (map names_of lb) (own_part g (kept_at g.order p x) k a (kept_below g p st x a (cut y b c) f d) d.1)
        (at (k + leaf_count a) (k + length la) (kept_at g.order (merged_at g.order p x) y) b first (kept_below g (merged_at g.order p x) sm y b c f.2 d.2) d.2.1)

    turned_three : Part g k ((la ++ lb) ++ lc) ((lb ++ la) ++ lc) ((numbers (k + leaf_count a) (leaf_count b) ++ numbers k (leaf_count a)) ++ numbers (k + leaf_count a + leaf_count b) (leaf_count c)) ((map names_of la ++ map names_of lb) ++ map names_of lc)
    turned_three = part-join g k (la ++ lb) (lb ++ la) lc lc (numbers (k + leaf_count a) (leaf_count b) ++ numbers k (leaf_count a)) (numbers (k + leaf_count a + leaf_count b) (leaf_count c)) (map names_of la ++ map names_of lb) (map names_of lc) turned_pair
        (at (k + leaf_count a + leaf_count b) (k + length (la ++ lb)) (merged_at g.order (merged_at g.order p x) y) c second (merged_below g (merged_at g.order p x) sm y b c f.2 d.2) d.2.2)

    named : (map names_of la ++ map names_of lb) ++ map names_of lc ≡ map names_of (la ++ (lb ++ lc))
    named = append_join (map names_of la) (map names_of lb) (map names_of lc) ∙ ap (λ ns. map names_of la ++ ns) (sym (map-append names_of lb lc)) ∙ sym (map-append names_of la (lb ++ lc))

    turned : (lb ++ la) ++ lc ≡ leaves_at g.order p (cut y b (cut x a c))
    turned = append_join lb la lc ∙ sym (row_apart g p st x y a b c (λ v w h. apart v h) f d).1

    whole : Part g k (la ++ (lb ++ lc)) (leaves_at g.order p (cut y b (cut x a c))) ((numbers (k + leaf_count a) (leaf_count b) ++ numbers k (leaf_count a)) ++ numbers (k + leaf_count a + leaf_count b) (leaf_count c)) (map names_of (la ++ (lb ++ lc)))
    whole =
        subst₂ (λ (ps : List (List (List ℕ))) (ns : List (List ℕ)). Part g k ps (leaves_at g.order p (cut y b (cut x a c))) ((numbers (k + leaf_count a) (leaf_count b) ++ numbers k (leaf_count a)) ++ numbers (k + leaf_count a + leaf_count b) (leaf_count c)) ns) (append_join la lb lc) named
        (subst (λ (qs : List (List (List ℕ))). Part g k ((la ++ lb) ++ lc) qs ((numbers (k + leaf_count a) (leaf_count b) ++ numbers k (leaf_count a)) ++ numbers (k + leaf_count a + leaf_count b) (leaf_count c)) ((map names_of la ++ map names_of lb) ++ map names_of lc)) turned turned_three)

rotate_node : (g : Graph) (p : List (List ℕ)) (k : ℕ) (side : Side) (s t : Shape) → Stage g p → AreRising g.order s → IsDerivationAt g p s → rotate_result_at side s ≡ Some t →
    Part g k (leaves_at g.order p s) (leaves_at g.order p t) (rotate_order side k s) (map names_of (leaves_at g.order p s))
rotate_node g p k side leaf t st f d e = absurd (none-some _ e)
rotate_node g p k Kept (cut x leaf c) t st f d e = absurd (none-some _ e)
rotate_node g p k Kept (cut x (cut y a b) c) t st f d e =
    subst (λ t. Part g k (leaves_at g.order p (cut x (cut y a b) c)) (leaves_at g.order p t) (numbers k (leaf_count (cut x (cut y a b) c))) (map names_of (leaves_at g.order p (cut x (cut y a b) c)))) (same_Some _ _ e)
    (rotate_same g p k (cut x (cut y a b) c) (cut y a (cut x b c)) (numbers k (leaf_count (cut x (cut y a b) c))) st d (row_kept g p st x y a b c f d).1 refl)
rotate_node g p k Merged (cut x a leaf) t st f d e = absurd (none-some _ e)
rotate_node g p k Merged (cut x a (cut y b c)) t st f d e = go (is_subset x y) refl e
  where
    kept_order : List ℕ
    kept_order = numbers k (leaf_count a + leaf_count b + leaf_count c)

    turned_order : List ℕ
    turned_order = (numbers (k + leaf_count a) (leaf_count b) ++ numbers k (leaf_count a)) ++ numbers (k + leaf_count a + leaf_count b) (leaf_count c)

    go : (i : Bool) → is_subset x y ≡ i → (if i then Some (cut y (cut x a b) c) else (if is_apart x y then Some (cut y b (cut x a c)) else None)) ≡ Some t →
        Part g k (leaves_at g.order p (cut x a (cut y b c))) (leaves_at g.order p t) (if is_subset x y then kept_order else turned_order) (map names_of (leaves_at g.order p (cut x a (cut y b c))))
    go true h e =
        let n : leaf_count a + (leaf_count b + leaf_count c) ≡ leaf_count a + leaf_count b + leaf_count c = omega arith in
        subst (λ t. Part g k (leaves_at g.order p (cut x a (cut y b c))) (leaves_at g.order p t) (if is_subset x y then kept_order else turned_order) (map names_of (leaves_at g.order p (cut x a (cut y b c))))) (same_Some _ _ e)
        (rotate_same g p k (cut x a (cut y b c)) (cut y (cut x a b) c) (if is_subset x y then kept_order else turned_order) st d (row_inside g p st x y a b c (λ v w m. all_in_true x (mem y) h v m) f d).1 (ap (numbers k) n ∙ sym (ap (λ i. if i then kept_order else turned_order) h)))
    go false h e = apart (is_apart x y) refl e
      where
        off : (b : Bool) → (true && not b) ≡ true → b ≡ false
        off b h = grind arith

        apart : (j : Bool) → is_apart x y ≡ j → (if j then Some (cut y b (cut x a c)) else None) ≡ Some t →
            Part g k (leaves_at g.order p (cut x a (cut y b c))) (leaves_at g.order p t) (if is_subset x y then kept_order else turned_order) (map names_of (leaves_at g.order p (cut x a (cut y b c))))
        apart false i e = absurd (none-some _ e)
        apart true i e =
            subst₂ (λ (t : Shape) (o : List ℕ). Part g k (leaves_at g.order p (cut x a (cut y b c))) (leaves_at g.order p t) o (map names_of (leaves_at g.order p (cut x a (cut y b c))))) (same_Some _ _ e) (sym (ap (λ i. if i then kept_order else turned_order) h))
            (rotate_turned g p k x y a b c st f d (λ v m. off (mem y v) (all_in_true x (minus everything (mem y)) i v m)))

-- Rotate down its path
pub rotate_along : (g : Graph) (side : Side) (path : List Side) (p : List (List ℕ)) (k : ℕ) (s t : Shape) → Stage g p → AreRising g.order s → IsDerivationAt g p s → result_at (rotate_result_at side) path s ≡ Some t →
    Part g k (leaves_at g.order p s) (leaves_at g.order p t) (order_at (rotate_order side) path k s) (map names_of (leaves_at g.order p s))
rotate_along g side [] p k s t st f d e = rotate_node g p k side s t st f d e
rotate_along g side (step ∷ path) p k leaf t st f d e = absurd (none-some _ e)
rotate_along g side (Kept ∷ path) p k (cut x a b) t st f d e =
    let m = mapped (λ c. cut x c b) (result_at (rotate_result_at side) path a) t e in
    subst₂ (λ (r : Shape) (ns : List (List ℕ)). Part g k (leaves_at g.order p (cut x a b)) (leaves_at g.order p r) (order_at (rotate_order side) (Kept ∷ path) k (cut x a b)) ns) m.2 (sym (map-append names_of (leaves_at g.order (kept_at g.order p x) a) (leaves_at g.order (merged_at g.order p x) b)))
    (beside_kept g p st x a b f d k m.0 (order_at (rotate_order side) path k a) (map names_of (leaves_at g.order (kept_at g.order p x) a)) (rotate_along g side path (kept_at g.order p x) k a m.0 (kept_below g p st x a b f d) f.1 d.1 m.1))
rotate_along g side (Merged ∷ path) p k (cut x a b) t st f d e =
    let m = mapped (λ c. cut x a c) (result_at (rotate_result_at side) path b) t e in
    subst₂ (λ (r : Shape) (ns : List (List ℕ)). Part g k (leaves_at g.order p (cut x a b)) (leaves_at g.order p r) (order_at (rotate_order side) (Merged ∷ path) k (cut x a b)) ns) m.2 (sym (map-append names_of (leaves_at g.order (kept_at g.order p x) a) (leaves_at g.order (merged_at g.order p x) b)))
    (beside_merged g p st x a b f d k m.0 (order_at (rotate_order side) path (k + leaf_count a) b) (map names_of (leaves_at g.order (merged_at g.order p x) b)) (rotate_along g side path (merged_at g.order p x) (k + leaf_count a) b m.0 (merged_below g p st x a b f d) f.2 d.2 m.1))

-- the maps of a proper move from a derivation to a derivation pair their leaves
pub move_pairs : (g : Graph) (s t : Shape) (m : PlainMove) → Stage g (singles g.order) → AreRising g.order s → IsDerivationAt g (singles g.order) s → IsProper g.order (singles g.order) s m → move_result g.order s m ≡ Some t → IsDerivationAt g (singles g.order) t →
    IsPairing g (leaves g.order s) (leaves g.order t) (move_maps g.order s m)
unfolding move_maps
move_pairs g s t (rotate_at []) st f d proper e dt = absurd (none-some _ e)
move_pairs g s t (rotate_at (side ∷ path)) st f d proper e dt =
    part-pairing g (leaves g.order s) (leaves g.order t) (move_order g.order (rotate_at (side ∷ path)) s) (map names_of (leaves g.order s)) (rotate_along g (last_step side path) (parent_path side path) (singles g.order) 0 s t st f d e)
move_pairs g s t (switch_at path u v) st f d proper e dt =
    part-pairing g (leaves g.order s) (leaves g.order t) (order_at (switch_order g.order u v) path 0 s) (names_at g.order u v path (singles g.order) s) (switch_along g u v path (singles g.order) 0 s t st f d dt proper e)

-- a proper Switch keeps derivations where its new shore is canonical, nontrivial and tight
pub switch_derives_law : (g : Graph) (p : List (List ℕ)) (s : Shape) (u v z : List ℕ) (a b : Shape) → IsGraph g → IsPartition g.order p → IsCovered (contracted g p) → IsDerivationAt g p s → BlocksAt g.order p [] u v s → switch_result_at g.order u v s ≡ Some (cut z a b) → IsCutAt g p z → IsDerivationAt g p (cut z a b)
switch_derives_law g p leaf u v z a b is list cov d blocks e cz = absurd (none-some _ e)
switch_derives_law g p (cut x c m) u v z a b is list cov d blocks e cz = go (is_proper u x && is_proper v (complement_of g.order x)) refl e
  where
    go : (t : Bool) → (is_proper u x && is_proper v (complement_of g.order x)) ≡ t → (if t then Some (if mem v g.order then cut (union_list g.order (outer_rest g.order x v) u) (merged_if_greatest_comes g.order x u m) (kept_if_greatest_comes g.order x u v c) else cut (union_list g.order (inner_rest g.order x u) v) (kept_if_greatest_stays g.order x u v c) (merged_if_greatest_stays g.order x u v m)) else None) ≡ Some (cut z a b) → IsDerivationAt g p (cut z a b)
    go false h e = absurd (none-some _ e)
    go true h e = switch_derives g p (record { graph = is; list = list; covered = cov }) x u v blocks.0.0 blocks.0.1 blocks.1.0 blocks.2.0 blocks.1.1 blocks.2.1 c m (rising-derivation_at g p (cut x c m) d) d h z a b cz (same_Some _ _ e)
