-- A splice of graphs without parallel edges has none. Idea: two vertices of one side are joined
-- by at most the edges that joined them, and an old and a new vertex only by the one edge at w
-- whose target the new vertex is.
use Rattle.graph_core.proofs.from_counting.Common.{◌≡◌, ℕ, suc, ◌+◌, ◌-◌, ◌≤◌, ◌<◌, ◌≢◌, Bool, true, false, cond, ◌==◌, ◌&&◌, ◌||◌, not, inl, inr, List, [], ◌∷◌, ◌++◌, length, map, filter, refl, sym, ap, ap₂, ◌∙◌, arith, subst, ne_eqb, le_trans, slice_index_or, or_from, and_left, and_right, count_le_one, only_one, total_congr, at_le_total, total-first, Within, bit, total, mem}
use Rattle.graph_core.proofs.Common.{Graph, size, first_end, second_end, has_ends, IsMultigraph, IsSimple, has_ends-own, has_ends-cases, has_ends-back}
use Rattle.grow_gen.specs.Common.{IsCubic, is_at, end_opposite, edge_with_end, new_number, permutation, renumbered_edge, rehung_edges, splice}
use Rattle.grow_gen.proofs.EdgeSums.{Each, by_test, item-next, each-weaker}
use Rattle.grow_gen.proofs.Rehanging.{IsEdge, IsClear, not_at-ends, rehung_edges-none, member-later}
use Rattle.grow_gen.proofs.Renumbering.{kept_edges, ends_beside, new_number-same, new_number-where, old_or_new}
use Rattle.grow_gen.proofs.ThreeEdges.{each-edge_of, edges-at}
use Rattle.grow_gen.proofs.PermutedLists.{permuted_values, by_permutation}
use Rattle.grow_gen.proofs.Splicing.{beside, beside-in_range, targets, targets-permuted, targets-three, target-place, splice-multigraph}

-- the edge joins u and v
abbrev pub joins : ℕ → ℕ → ℕ × ℕ → Bool
joins u v e = (e.0 == u && e.1 == v) || (e.0 == v && e.1 == u)

-- how many edges join u and v
abbrev pub link_count : ℕ → ℕ → List (ℕ × ℕ) → ℕ
link_count u v [] = 0
link_count u v (e ∷ es) = bit (joins u v e) + link_count u v es

-- how many targets are y
abbrev hits : ℕ → List ℕ → ℕ
hits y [] = 0
hits y (t ∷ ts) = bit (t == y) + hits y ts

total-links : (u v : ℕ) (es : List (ℕ × ℕ)) → total (length es) (λ i. bit (joins u v (slice_index_or es (i - 1) (0, 0)))) ≡ link_count u v es
total-links u v [] = refl
total-links u v (e ∷ es) = total-first (length es) (λ i. bit (joins u v (slice_index_or (e ∷ es) (i - 1) (0, 0))))
    ∙ ap (λ k. bit (joins u v e) + k) (total_congr (length es) _ _ (λ i w. ap (λ p. bit (joins u v p)) (item-next e (0, 0) es i w.0)) ∙ total-links u v es)

-- without parallel edges at most one edge joins two vertices
pub few_links : (g : Graph) → IsSimple g → (u v : ℕ) → link_count u v g.ends ≤ 1
few_links g h u v = grind (arith, total-links u v g.ends, count_le_one (size g) (has_ends g u v), has_ends-cases g u v, has_ends-back g u v)

-- and the other way round
pub simple-from_links : (g : Graph) → ((e : ℕ) → Within (size g) e → link_count (first_end g e) (second_end g e) g.ends ≤ 1) → IsSimple g
simple-from_links g h e f we wf j =
    let t = total-links (first_end g e) (second_end g e) g.ends in
    let own = has_ends-own g e in
    let a = at_le_total (size g) (λ i. bit (has_ends g (first_end g e) (second_end g e) i)) e we in
    let b = ap bit own in
    let c = h e we in
    only_one (size g) (has_ends g (first_end g e) (second_end g e)) (omega (arith, t, a, b, c)) e f we wf own j

-- an edge without the end u does not join u to anything
no_link : (u v : ℕ) (e : ℕ × ℕ) → e.0 ≢ u → e.1 ≢ u → joins u v e ≡ false
no_link u v e a b = or_from (e.0 == u && e.1 == v) (e.0 == v && e.1 == u) (and_left (e.0 == u) (e.1 == v) (ne_eqb e.0 u a)) (and_right (e.0 == v) (e.1 == u) (ne_eqb e.1 u b))

link_count-back : (u v : ℕ) (es : List (ℕ × ℕ)) → link_count u v es ≡ link_count v u es
link_count-back u v es = grind arith

link_count-append : (u v : ℕ) (es fs : List (ℕ × ℕ)) → link_count u v (es ++ fs) ≡ link_count u v es + link_count u v fs
link_count-append u v [] fs = omega arith
link_count-append u v (e ∷ es) fs = omega (arith, link_count-append u v es fs)

-- a new end joins no two vertices that are not targets
links-rehung_old : (w u v : ℕ) (ts : List ℕ) (es : List (ℕ × ℕ)) → ((t : ℕ) → mem ts t ≡ true → (t ≢ u) × (t ≢ v)) → link_count u v (rehung_edges w ts es) ≤ link_count u v es
links-rehung_old w u v ts [] h = omega arith
links-rehung_old w u v [] (e ∷ es) h = omega arith
links-rehung_old w u v (t ∷ ts) (e ∷ es) h = by_test (is_at w e) (λ s. link_count u v (cond s (edge_with_end w t e ∷ rehung_edges w ts es) (e ∷ rehung_edges w (t ∷ ts) es)) ≤ bit (joins u v e) + link_count u v es)
    (λ a. let z = ap bit (none_joined a) in let k = links-rehung_old w u v ts es (λ x m. h x (member-later x t ts m)) in omega (arith, z, k))
    (λ a. let k = links-rehung_old w u v (t ∷ ts) es h in omega (arith, k))
  where
    none_joined : is_at w e ≡ true → joins u v (edge_with_end w t e) ≡ false
    none_joined a = grind arith

clear_away : (w y v : ℕ) (e : ℕ × ℕ) → IsClear w y e → is_at w e ≡ false → joins y v e ≡ false
clear_away w y v e c a = let d = not_at-ends w e a in no_link y v e (λ q. d.0 (c.0 q)) (λ q. d.1 (c.1 q))

-- a target y is joined by the edges whose target it is, and by no others
links-rehung_new : (w y v : ℕ) (ts : List ℕ) (es : List (ℕ × ℕ)) → Each (IsClear w y) es → length (filter (is_at w) es) ≤ length ts → link_count y v (rehung_edges w ts es) ≤ hits y ts
links-rehung_new w y v ts [] c l = omega arith
links-rehung_new w y v [] (e ∷ es) c l = by_test (is_at w e) (λ s. length (cond s (e ∷ filter (is_at w) es) (filter (is_at w) es)) ≤ 0 → link_count y v (e ∷ es) ≤ 0)
    (λ a k. absurd (omega arith))
    (λ a k. let z = ap bit (clear_away w y v e c.0 a) in let h = links-rehung_new w y v [] es c.1 k in let q = ap (link_count y v) (rehung_edges-none w es) in omega (arith, z, h, q))
    l
links-rehung_new w y v (t ∷ ts) (e ∷ es) c l = by_test (is_at w e)
    (λ s. length (cond s (e ∷ filter (is_at w) es) (filter (is_at w) es)) ≤ suc (length ts) → link_count y v (cond s (edge_with_end w t e ∷ rehung_edges w ts es) (e ∷ rehung_edges w (t ∷ ts) es)) ≤ bit (t == y) + hits y ts)
    (λ a k. let z = by_target a in let h = links-rehung_new w y v ts es c.1 (omega arith) in omega (arith, z, h))
    (λ a k. let z = ap bit (clear_away w y v e c.0 a) in let h = links-rehung_new w y v (t ∷ ts) es c.1 k in omega (arith, z, h))
    l
  where
    by_target : is_at w e ≡ true → bit (joins y v (edge_with_end w t e)) ≤ bit (t == y)
    by_target a = grind arith

-- two targets are joined by none
links-rehung_both : (w y z : ℕ) (ts : List ℕ) (es : List (ℕ × ℕ)) → Each (IsClear w y) es → Each (IsClear w z) es → length (filter (is_at w) es) ≤ length ts → link_count y z (rehung_edges w ts es) ≡ 0
links-rehung_both w y z ts [] c d l = refl
links-rehung_both w y z [] (e ∷ es) c d l = by_test (is_at w e) (λ s. length (cond s (e ∷ filter (is_at w) es) (filter (is_at w) es)) ≤ 0 → link_count y z (e ∷ es) ≡ 0)
    (λ a k. absurd (omega arith))
    (λ a k. ap₂ (λ s m. bit s + m) (clear_away w y z e c.0 a) (ap (link_count y z) (sym (rehung_edges-none w es)) ∙ links-rehung_both w y z [] es c.1 d.1 k))
    l
links-rehung_both w y z (t ∷ ts) (e ∷ es) c d l = by_test (is_at w e)
    (λ s. length (cond s (e ∷ filter (is_at w) es) (filter (is_at w) es)) ≤ suc (length ts) → link_count y z (cond s (edge_with_end w t e ∷ rehung_edges w ts es) (e ∷ rehung_edges w (t ∷ ts) es)) ≡ 0)
    (λ a k. ap₂ (λ s m. bit s + m) (not_both a) (links-rehung_both w y z ts es c.1 d.1 (omega arith)))
    (λ a k. ap₂ (λ s m. bit s + m) (clear_away w y z e c.0 a) (links-rehung_both w y z (t ∷ ts) es c.1 d.1 k))
    l
  where
    not_both : is_at w e ≡ true → joins y z (edge_with_end w t e) ≡ false
    not_both a = grind arith

-- the neighbours of vertex 1 are joined to it
hits-beside : (x : ℕ) (es : List (ℕ × ℕ)) → hits x (ends_beside 1 es) ≤ link_count 1 x es
hits-beside x [] = omega arith
hits-beside x (e ∷ es) = grind (arith, by_test (is_at 1 e), hits-beside x es)
  where
    joined : is_at 1 e ≡ true → bit (end_opposite 1 e == x) ≤ bit (joins 1 x e)
    joined a = grind arith

module _ (n w : ℕ) (ww : Within n w) where
  -- an edge that is brought in joins new vertices alone
  links-kept_old : (k u v : ℕ) (es : List (ℕ × ℕ)) → 2 ≤ k → u ≤ n → u ≢ w → Each (IsEdge k) es → link_count u v (map (renumbered_edge n w) (kept_edges es)) ≡ 0
  links-kept_old k u v [] t l d c = refl
  links-kept_old k u v (e ∷ es) t l d c = by_test (is_at 1 e) (λ s. link_count u v (map (renumbered_edge n w) (cond (not s) (e ∷ kept_edges es) (kept_edges es))) ≡ 0)
      (λ a. links-kept_old k u v es t l d c.1)
      (λ a. let q = not_at-ends 1 e a in ap₂ (λ s m. bit s + m) (no_link u v (renumbered_edge n w e) (far e.0 c.0.0 q.0) (far e.1 c.0.1 q.1)) (links-kept_old k u v es t l d c.1))
    where
      far : (x : ℕ) → Within k x → x ≢ 1 → new_number n w x ≢ u
      far x p r z = elim (new_number-where n w ww k x t (let a = p.0 in omega arith) p.1).1 [ inl a ↦ d (sym z ∙ a) | inr a ↦ absurd (omega arith) ]

  -- and new vertices as their vertices were joined
  links-kept_new : (k x y : ℕ) (es : List (ℕ × ℕ)) → 2 ≤ x → 2 ≤ y → Each (IsEdge k) es → link_count (new_number n w x) (new_number n w y) (map (renumbered_edge n w) (kept_edges es)) ≤ link_count x y es
  links-kept_new k x y [] a b c = omega arith
  links-kept_new k x y (e ∷ es) a b c = grind (arith, by_test (is_at 1 e), kept_edges es, links-kept_new k x y es a b c.1, not_at-ends 1 e, moved)
    where
      moved : 2 ≤ e.0 → 2 ≤ e.1 → joins (new_number n w x) (new_number n w y) (renumbered_edge n w e) ≡ joins x y e
      moved p q = grind (arith, new_number-same n w ww e.0 x p a, new_number-same n w ww e.1 y q b, new_number-same n w ww e.0 y p b, new_number-same n w ww e.1 x q a)

-- a permutation keeps how many are hit
hits-permuted : (f : ℕ → ℕ) (p q r y : ℕ) (i : ℕ) → i < 6 → hits y (permuted_values i f (p ∷ q ∷ r ∷ [])) ≡ hits y (f p ∷ f q ∷ f r ∷ [])
hits-permuted f p q r y = by_permutation (λ i. hits y (permuted_values i f (p ∷ q ∷ r ∷ [])) ≡ hits y (f p ∷ f q ∷ f r ∷ [])) (omega arith) (omega arith) (omega arith) (omega arith) (omega arith) (omega arith)

module _ (g h : Graph) (w i : ℕ) (mg : IsMultigraph g) (mh : IsMultigraph h) (cg : IsCubic g) (ch : IsCubic h) (two : 2 ≤ h.order) (ww : Within g.order w) (li : i < 6) (ng : IsSimple g) (nh : IsSimple h) where
  abbrev ends : List ℕ
  ends = targets g h w i mg mh cg ch two ww li

  -- a new vertex is a target at most once
  hit_once : (x : ℕ) → 2 ≤ x → hits (new_number g.order w x) ends ≤ 1
  hit_once x a =
      let n = beside g h w i mg mh cg ch two ww li in
      let r = beside-in_range g h w i mg mh cg ch two ww li in
      let p = ap (hits (new_number g.order w x)) (targets-permuted g h w i mg mh cg ch two ww li) ∙ hits-permuted (new_number g.order w) n.0 n.1 n.2 (new_number g.order w x) i li in
      let q0 = ap bit (new_number-same g.order w ww n.0 x r.0.0 a) in
      let q1 = ap bit (new_number-same g.order w ww n.1 x r.1.0 a) in
      let q2 = ap bit (new_number-same g.order w ww n.2 x r.2.0 a) in
      let b = ap (hits x) n.3 in
      let l = hits-beside x h.ends in
      let f = few_links h nh 1 x in
      omega (arith, p, q0, q1, q2, b, l, f)

  clear : (x : ℕ) → 2 ≤ x → x ≤ h.order → Each (IsClear w (new_number g.order w x)) g.ends
  clear x a b = grind (arith, each-weaker (IsEdge g.order) (IsClear w (new_number g.order w x)) g.ends, each-edge_of g mg, new_number-where g.order w ww h.order x two a b)

  few : length (filter (is_at w) g.ends) ≤ length ends
  few = let q = edges-at g mg cg w ww in let r = targets-three g h w i mg mh cg ch two ww li in omega arith

  away : (v : ℕ) → Within g.order v → v ≢ w → (t : ℕ) → mem ends t ≡ true → t ≢ v
  away v u d t m q = elim (target-place g h w i mg mh cg ch two ww li t m).1 [ inl z ↦ d (sym q ∙ z) | inr z ↦ absurd (omega arith) ]

  -- at most one edge joins two vertices
  one_link : (u v : ℕ) → Within (g.order + h.order - 2) u → Within (g.order + h.order - 2) v → link_count u v (rehung_edges w ends g.ends) + link_count u v (map (renumbered_edge g.order w) (kept_edges h.ends)) ≤ 1
  one_link u v wu wv = elim (old_or_new g.order w ww h.order u two wu) [
    | inl p ↦ elim (old_or_new g.order w ww h.order v two wv) [
      | inl q ↦ let a = links-rehung_old w u v ends g.ends (λ t m. (away u p.0 p.1 t m, away v q.0 q.1 t m)) in let b = few_links g ng u v in let k = links-kept_old g.order w ww h.order u v h.ends two p.0.1 p.1 (each-edge_of h mh) in omega (arith, a, b, k)
      | inr y ↦ let a = subst (λ z. link_count z u (rehung_edges w ends g.ends) ≤ 1) y.3 (le_trans (links-rehung_new w (new_number g.order w y.0) u ends g.ends (clear y.0 y.1 y.2) few) (hit_once y.0 y.1)) in
          let b = link_count-back u v (rehung_edges w ends g.ends) in let k = links-kept_old g.order w ww h.order u v h.ends two p.0.1 p.1 (each-edge_of h mh) in omega (arith, a, b, k)
    ]
    | inr x ↦ elim (old_or_new g.order w ww h.order v two wv) [
      | inl q ↦ let a = subst (λ z. link_count z v (rehung_edges w ends g.ends) ≤ 1) x.3 (le_trans (links-rehung_new w (new_number g.order w x.0) v ends g.ends (clear x.0 x.1 x.2) few) (hit_once x.0 x.1)) in
          let b = link_count-back u v (map (renumbered_edge g.order w) (kept_edges h.ends)) in let k = links-kept_old g.order w ww h.order v u h.ends two q.0.1 q.1 (each-edge_of h mh) in omega (arith, a, b, k)
      | inr y ↦ subst (λ z. link_count z v (rehung_edges w ends g.ends) + link_count z v (map (renumbered_edge g.order w) (kept_edges h.ends)) ≤ 1) x.3
          (subst (λ z. link_count (new_number g.order w x.0) z (rehung_edges w ends g.ends) + link_count (new_number g.order w x.0) z (map (renumbered_edge g.order w) (kept_edges h.ends)) ≤ 1) y.3
          (let a = links-rehung_both w (new_number g.order w x.0) (new_number g.order w y.0) ends g.ends (clear x.0 x.1 x.2) (clear y.0 y.1 y.2) few in
          let b = links-kept_new g.order w ww h.order x.0 y.0 h.ends x.1 y.1 (each-edge_of h mh) in let f = few_links h nh x.0 y.0 in omega (arith, a, b, f)))
    ]
  ]

  pub splice-simple : IsSimple (splice g w h (permutation i))
  unfolding splice
  splice-simple = grind (arith, simple-from_links (splice g w h (permutation i)), splice-multigraph g h w i mg mh cg ch two ww li, link_count-append, kept_edges h.ends, one_link)
