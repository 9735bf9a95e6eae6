-- A part of the leaves of a tree and what a move makes of it: the new leaves with the old numbers
-- in their order, and for each old leaf the names that make it the same leaf as its partner.
-- Parts are joined as trees are, and a whole one gives a pairing.
use Rattle.graph_core.proofs.from_counting.Common.{◌≡◌, ℕ, suc, zero, ◌+◌, ◌-◌, ◌≤◌, ◌<◌, inl, ◌==◌, List, [], ◌∷◌, ◌++◌, length, map, refl, sym, ap, ◌∙◌, arith, eq-eqb, ne_eqb, subst, subst₂, All, slice_index, slice_index_or, get_or-append-add, get_or_append_left, get_or-map, length-append, length-map, times_mem, total_at, bit, Within, last_of}
use Rattle.graph_core.proofs.Common.{rep_place, Graph, IsGraph, AreBlocks, IsPartition, block, names_of}
use Rattle.tree_core.proofs.Common.{PlainLeafMap, leaf_at, map_at, maps_from, numbers, position}
use Rattle.move_laws.proofs.Alignments.{Aligned, IsOrder, aligned-at, aligned-join, aligned-length, aligned-map, numbers-split, order-few, order-join, order-one, order-turn, position-once}
use Rattle.move_laws.proofs.Images.{move_is}
use Rattle.move_laws.proofs.Positions.{position-item}
use Rattle.move_laws.proofs.SameLeaves.{iso_same_leaf}
use Rattle.move_laws.specs.Common.{Isomorphism, IsPairing, IsSameLeaf}

-- as many maps as lists of names
pub length-maps_from : (o : List ℕ) (k : ℕ) (ns : List (List ℕ)) → length (maps_from o k ns) ≡ length ns
length-maps_from o k [] = refl
length-maps_from o k (names ∷ ns) = ap suc (length-maps_from o (k + 1) ns)

-- i is one of k + 1 to k + |ps|, and the leaf of that number is the same leaf as q by its names
abbrev pub Fit : Graph → ℕ → List (List (List ℕ)) → List (List ℕ) → ℕ → List (List ℕ) → Type 0
Fit g k ps ns i q = (k < i) × (i ≤ k + length ps) × IsSameLeaf g (slice_index_or ps (i - k - 1) []) q (slice_index_or ns (i - k - 1) [])

-- the old leaves ps after k others, the new leaves qs with the order of the old ones, and the names
pub record Part (g : Graph) (k : ℕ) (ps qs : List (List (List ℕ))) (o : List ℕ) (ns : List (List ℕ)) : Type 0 where
  pub each : length ns ≡ length ps
  pub order : IsOrder k (length ps) o
  pub fits : Aligned (Fit g k ps ns) o qs

fit-left : (g : Graph) (k : ℕ) (ps rs : List (List (List ℕ))) (ns ms : List (List ℕ)) → length ns ≡ length ps → (i : ℕ) (q : List (List ℕ)) → Fit g k ps ns i q → Fit g k (ps ++ rs) (ns ++ ms) i q
fit-left g k ps rs ns ms e i q f = grind (arith, length-append, get_or_append_left)

fit-right : (g : Graph) (k : ℕ) (ps rs : List (List (List ℕ))) (ns ms : List (List ℕ)) → length ns ≡ length ps → (i : ℕ) (q : List (List ℕ)) → Fit g (k + length ps) rs ms i q → Fit g k (ps ++ rs) (ns ++ ms) i q
fit-right g k ps rs ns ms e i q f =
    let l = f.0 in let u = f.1 in let a = length-append ps rs in
    let j = i - (k + length ps) - 1 in
    let first : i - k - 1 ≡ length ps + j = omega arith in
    let second : i - k - 1 ≡ length ns + j = omega arith in (
      omega arith,
      omega arith,
      subst₂ (λ (p : List (List ℕ)) (names : List ℕ). IsSameLeaf g p q names)
          (sym (ap (λ z. slice_index_or (ps ++ rs) z []) first ∙ get_or-append-add ps rs j []))
          (sym (ap (λ z. slice_index_or (ns ++ ms) z []) second ∙ get_or-append-add ns ms j [])) f.2,
    )

both-each : {A B : Type 0} (ps rs : List A) (ns ms : List B) → length ns ≡ length ps → length ms ≡ length rs → length (ns ++ ms) ≡ length (ps ++ rs)
both-each ps rs ns ms a b = let c = length-append ps rs in let d = length-append ns ms in omega arith

pub part-join : (g : Graph) (k : ℕ) (ps qs rs ss : List (List (List ℕ))) (o r : List ℕ) (ns ms : List (List ℕ)) → Part g k ps qs o ns → Part g (k + length ps) rs ss r ms → Part g k (ps ++ rs) (qs ++ ss) (o ++ r) (ns ++ ms)
part-join g k ps qs rs ss o r ns ms a b = record {
  each = both-each ps rs ns ms a.each b.each;
  order = subst (λ n. IsOrder k n (o ++ r)) (sym (length-append ps rs)) (order-join k (length ps) (length rs) o r a.order b.order);
  fits = aligned-join (Fit g k (ps ++ rs) (ns ++ ms)) o r qs ss (aligned-map (Fit g k ps ns) (Fit g k (ps ++ rs) (ns ++ ms)) (fit-left g k ps rs ns ms a.each) o qs a.fits) (aligned-map (Fit g (k + length ps) rs ms) (Fit g k (ps ++ rs) (ns ++ ms)) (fit-right g k ps rs ns ms a.each) r ss b.fits);
}

pub part-turn : (g : Graph) (k : ℕ) (ps qs rs ss : List (List (List ℕ))) (o r : List ℕ) (ns ms : List (List ℕ)) → Part g k ps qs o ns → Part g (k + length ps) rs ss r ms → Part g k (ps ++ rs) (ss ++ qs) (r ++ o) (ns ++ ms)
part-turn g k ps qs rs ss o r ns ms a b = record {
  each = both-each ps rs ns ms a.each b.each;
  order = subst (λ n. IsOrder k n (r ++ o)) (sym (length-append ps rs)) (order-turn k (length ps) (length rs) o r a.order b.order);
  fits = aligned-join (Fit g k (ps ++ rs) (ns ++ ms)) r o ss qs (aligned-map (Fit g (k + length ps) rs ms) (Fit g k (ps ++ rs) (ns ++ ms)) (fit-right g k ps rs ns ms a.each) r ss b.fits) (aligned-map (Fit g k ps ns) (Fit g k (ps ++ rs) (ns ++ ms)) (fit-left g k ps rs ns ms a.each) o qs a.fits);
}

pub part-one : (g : Graph) (k : ℕ) (p q : List (List ℕ)) (names : List ℕ) → IsSameLeaf g p q names → Part g k (p ∷ []) (q ∷ []) (numbers k 1) (names ∷ [])
part-one g k p q names same = record {
  each = refl;
  order = order-one k;
  fits = ((omega arith, omega arith, subst₂ (λ (p : List (List ℕ)) (names : List ℕ). IsSameLeaf g p q names) (ap (λ z. slice_index_or (p ∷ []) z []) (sym first)) (ap (λ z. slice_index_or (names ∷ []) z []) (sym first)) same), tt);
}
  where
    first : k + 1 - k - 1 ≡ 0
    first = omega arith

-- a partition is the same leaf as itself by the names of its blocks
pub own_same_leaf : (g : Graph) → IsGraph g → (p : List (List ℕ)) → AreBlocks g.order p → IsSameLeaf g p p (names_of p)
own_same_leaf g is p pp = iso_same_leaf g is p p (λ v. v) (λ v. v) pp pp own (names_of p) (length-map p last_of) (λ i w.
    get_or-map last_of p (i - 1) [] 0 (omega arith) ∙ ap (λ j. last_of (block p j)) (sym (move_is g is p p (λ v. v) (λ v. v) pp pp own i ∙ rep_place g.order p pp i w)))
  where
    own : Isomorphism g p p (λ v. v) (λ v. v)
    own = record {
      there = record { within = λ v w. w; blocks = λ v w wv ww e. e; again = λ v w. refl; edges = λ e w d. (e, w, inl (refl, refl)) };
      back = record { within = λ v w. w; blocks = λ v w wv ww e. e; again = λ v w. refl; edges = λ e w d. (e, w, inl (refl, refl)) };
    }

-- leaves that stay
pub part-own : (g : Graph) → IsGraph g → (k : ℕ) (ps : List (List (List ℕ))) → All (IsPartition g.order) ps → Part g k ps ps (numbers k (length ps)) (map names_of ps)
part-own g is k [] all = record { each = refl; order = record { once = λ i l u. absurd (omega arith); none = λ i w. refl }; fits = tt }
part-own g is k (p ∷ ps) all =
    let own = part-one g k p p (names_of p) (own_same_leaf g is p (all 0 [] (omega arith)).partition) in
    let rest = part-own g is (k + 1) ps (λ i d l. all (suc i) d (omega arith)) in
    let e : 1 + length ps ≡ suc (length ps) = omega arith in
    subst (λ (o : List ℕ). Part g k (p ∷ ps) (p ∷ ps) o (map names_of (p ∷ ps))) (sym (numbers-split k 1 (length ps)) ∙ ap (numbers k) e)
    (part-join g k (p ∷ []) (p ∷ []) ps ps (numbers k 1) (numbers (k + 1) (length ps)) (names_of p ∷ []) (map names_of ps) own rest)

maps-at : (o : List ℕ) (k : ℕ) (ns : List (List ℕ)) (j : ℕ) (d : PlainLeafMap) → j < length ns → slice_index_or (maps_from o k ns) j d ≡ record { to = position o (k + j + 1); images = slice_index_or ns j [] }
maps-at o k [] j d l = absurd (omega arith)
maps-at o k (names ∷ ns) zero d l = let e : k + 1 ≡ k + zero + 1 = omega arith in ap (λ i. record { to = position o i; images = names }) e
maps-at o k (names ∷ ns) (suc j) d l = let e : k + 1 + j + 1 ≡ k + suc j + 1 = omega arith in maps-at o (k + 1) ns j d (omega arith) ∙ ap (λ i. record { to = position o i; images = slice_index_or ns j [] }) e

-- a whole part gives a pairing
module _ (g : Graph) (ps qs : List (List (List ℕ))) (o : List ℕ) (ns : List (List ℕ)) (part : Part g 0 ps qs o ns) where
  maps : List PlainLeafMap
  maps = maps_from o 0 ns

  long : length o ≡ length qs
  long = aligned-length (Fit g 0 ps ns) o qs part.fits

  map-is : (i : ℕ) → Within (length ps) i → map_at maps i ≡ record { to = position o i; images = slice_index_or ns (i - 1) [] }
  unfolding maps
  map-is i w =
      let e = part.each in let f : 0 + (i - 1) + 1 ≡ i = omega arith in
      maps-at o 0 ns (i - 1) (record { to = 0; images = [] }) (omega arith) ∙ ap (λ j. record { to = position o j; images = slice_index_or ns (i - 1) [] }) f

  there : (i : ℕ) → Within (length ps) i → Within (length o) (position o i) × (slice_index o (position o i - 1) ≡ i)
  there i w = position-item o i (times_mem o i (let t = part.order.once i (omega arith) (omega arith) in omega arith))

  back : (j : ℕ) → Within (length qs) j → Within (length ps) (slice_index o (j - 1)) × (position o (slice_index o (j - 1)) ≡ j)
  back j w =
      let l = long in
      let f = aligned-at (Fit g 0 ps ns) o qs (j - 1) part.fits (omega arith) in let lo = f.0 in let hi = f.1 in
      let e : j - 1 + 1 ≡ j = omega arith in
      ((omega arith, omega arith), position-once o (j - 1) (order-few 0 (length ps) o part.order) (omega arith) ∙ e)

  pub part-pairing : IsPairing g ps qs (maps_from o 0 ns)
  unfolding maps
  part-pairing = record {
    one_each = length-maps_from o 0 ns ∙ part.each;
    within = λ i w. let t = (there i w).0 in let l = long in subst (λ (m : PlainLeafMap). Within (length qs) m.to) (sym (map-is i w)) (omega arith, omega arith);
    once = λ j w.
        let b = back j w in let i = slice_index o (j - 1) in
        total_at (length ps) (λ i. bit ((map_at maps i).to == j)) i b.0
        (λ l u d. ap bit (ne_eqb (map_at maps l).to j (λ e. d (sym (there l u).1 ∙ ap (λ z. slice_index o (z - 1)) (sym (ap (λ (m : PlainLeafMap). m.to) (map-is l u)) ∙ e)))))
        ∙ ap bit (eq-eqb (map_at maps i).to j (ap (λ (m : PlainLeafMap). m.to) (map-is i b.0) ∙ b.1));
    same = λ i w.
        let t = there i w in let tw = t.0 in let l = long in
        let f = aligned-at (Fit g 0 ps ns) o qs (position o i - 1) part.fits (omega arith) in
        let j : i - 0 - 1 ≡ i - 1 = omega arith in
        let s : IsSameLeaf g (leaf_at ps i) (leaf_at qs (position o i)) (slice_index_or ns (i - 1) []) = subst (λ z. IsSameLeaf g (slice_index_or ps z []) (leaf_at qs (position o i)) (slice_index_or ns z [])) (ap (λ z. z - 0 - 1) t.1 ∙ j) f.2 in
        subst (λ (m : PlainLeafMap). IsSameLeaf g (leaf_at ps i) (leaf_at qs m.to) m.images) (sym (map-is i w)) s;
  }
