-- A matching of G - R can be made larger by one edge, or has a frame. Induction on the vertices
-- outside R and on the forest: a closing edge augments, or its cycle is shrunk.
use Rattle.graph_core.proofs.from_counting.Common.{◌≡◌, ℕ, suc, zero, ◌+◌, ◌-◌, ◌≤◌, ◌<◌, ◌≢◌, Bool, true, false, ◌==◌, refl, sym, ◌∙◌, arith, ◌&&◌, not, ◌⊎◌, inl, inr, subst, cases_eq, cases_Bool, both_ways, count_le, scan, half, Within, count, is_odd, Set, complement, none}
use Rattle.graph_core.proofs.Common.{Graph, IsGraph, first_end, second_end, size, HasEnds, IsMatching}
use Rattle.match_search.proofs.LongerPaths.{end_within, ends_by}
use Rattle.match_search.proofs.Forests.{first_outer, forest_start, outer_edge, turned, final_frame}
use Rattle.match_search.proofs.ForestSteps.{mate, grown, grown_size, more_e, more_inner, more_k, more_outer, more_v}
use Rattle.match_search.proofs.ClosingEdges.{even_j, cycle, stem_count, stem_free, stem_holds, stem_matching}
use Rattle.match_search.proofs.AlternatingPaths.{two_paths}
use Rattle.match_search.proofs.BlossomSteps.{Step, shrink_step}
use Rattle.match_search.specs.Common.{IsAlternating, IsAlternatingForest}

-- the greatest place up to n where the first of two holds, and the second after it
pub greatest : (n : ℕ) (P Q : ℕ → Type 0) → ((i : ℕ) → P i ⊎ Q i) → ((i : ℕ) × (i ≤ n) × P i × ((s : ℕ) → i < s → s ≤ n → Q s)) ⊎ ((s : ℕ) → s ≤ n → Q s)
greatest zero P Q h = elim (h 0) [
  | inl p ↦ inl (0, omega arith, p, λ s a b. absurd (omega arith))
  | inr q ↦ inr (λ s a. let z : 0 ≡ s = omega arith in subst Q z q)
]
greatest (suc n) P Q h = elim (h (suc n)) [
  | inl p ↦ inl (suc n, omega arith, p, λ s a b. absurd (omega arith))
  | inr q ↦ elim (greatest n P Q h) [
    | inl f ↦ inl (f.0, (let z = f.1 in omega arith), f.2, λ s a b. elim (cases_eq s (suc n)) [ inl e ↦ subst Q (sym e) q | inr e ↦ f.3 s a (omega arith) ])
    | inr f ↦ inr (λ s b. elim (cases_eq s (suc n)) [ inl e ↦ subst Q (sym e) q | inr e ↦ f s (omega arith) ])
  ]
]

pub on_path : (n : ℕ) (q : ℕ → ℕ) (z : ℕ) → ((t : ℕ) × (t ≤ n) × (z ≡ q t)) ⊎ ((t : ℕ) → t ≤ n → z ≢ q t)
on_path n q z = elim (greatest n (λ t. z ≡ q t) (λ t. z ≢ q t) (λ t. cases_eq z (q t))) [
  | inl f ↦ inl (f.0, f.1, f.2)
  | inr f ↦ inr f
]

module _ (g : Graph) (is : IsGraph g) (r f : Set) (mm : IsMatching g r f)
    (smaller : (h : Graph) → IsGraph h → (s k : Set) → IsMatching h s k → count h.order (complement s) < count g.order (complement r) → Step h s k) where
  -- an edge from an outer vertex to one that is not inner
  abbrev bad : Set → Set → ℕ → ℕ → Bool
  bad outer inner x y = (not (r x) && not (r y)) && (not (x == y) && (outer x && not (inner y)))

  bad_parts : (outer inner : Set) (x y : ℕ) → bad outer inner x y ≡ true → (r x ≡ false) × (r y ≡ false) × (x ≢ y) × (outer x ≡ true) × (inner y ≡ false)
  bad_parts outer inner x y t = grind arith

  bad_from : (outer inner : Set) (x y : ℕ) → r x ≡ false → r y ≡ false → x ≢ y → outer x ≡ true → inner y ≡ false → bad outer inner x y ≡ true
  bad_from outer inner x y rx ry n o i = grind arith

  abbrev Open : Set → Set → ℕ → Type 0
  Open outer inner d = (x : ℕ) × (y : ℕ) × HasEnds g d x y × (bad outer inner x y ≡ true)

  abbrev Closed : Set → Set → ℕ → Type 0
  Closed outer inner d = (x y : ℕ) → HasEnds g d x y → r x ≡ false → r y ≡ false → x ≢ y → outer x ≡ true → inner y ≡ true

  open_or_closed : (outer inner : Set) (d : ℕ) → Open outer inner d ⊎ Closed outer inner d
  open_or_closed outer inner d = elim (cases_Bool (bad outer inner (first_end g d) (second_end g d))) [
    | inl t ↦ inl (first_end g d, second_end g d, inl (refl, refl), t)
    | inr a ↦ grind (arith, cases_Bool (bad outer inner (second_end g d) (first_end g d)), cases_Bool, both_ways, bad_from outer inner)
  ]

  search_step : (n : ℕ) (outer inner : Set) (k : ℕ → ℕ) (v e : ℕ → ℕ → ℕ) → IsAlternatingForest g r f outer inner k v e → g.order + g.order < count g.order outer + count g.order inner + n → Step g r f
  search_step zero outer inner k v e forest l = let a = count_le g.order outer in let b = count_le g.order inner in absurd (omega arith)
  search_step (suc n) outer inner k v e forest l =
      elim (scan (size g) (Open outer inner) (Closed outer inner) (λ d w. open_or_closed outer inner d)) [
        | inr closed ↦ inr (outer, inner, final_frame g is r f mm outer inner k v e forest (λ d x y w ends. closed d w x y ends))
        | inl found ↦ at_edge (λ o i k' v' e' fo l. search_step n o i k' v' e' fo l) found.0 found.2.0 found.2.1 found.1 found.2.2 (bad_parts outer inner found.2.0 found.2.1 found.2.3)
      ]
    where
      at_edge : ((o i : Set) (k' : ℕ → ℕ) (v' e' : ℕ → ℕ → ℕ) → IsAlternatingForest g r f o i k' v' e' → g.order + g.order < count g.order o + count g.order i + n → Step g r f) → (a u w : ℕ) → Within (size g) a → HasEnds g a u w → (r u ≡ false) × (r w ≡ false) × (u ≢ w) × (outer u ≡ true) × (inner w ≡ false) → Step g r f
      at_edge on a u w wa ends component_count = elim (cases_Bool (outer w)) [
        | inr ow ↦
            let ww = end_within g is a w u wa (turned g a u w ends) in
            let m = mate g is r f mm outer inner k v e forest w ww component_count.1 ow in
            on
            (more_outer g is r f mm outer inner k v e forest a u w m.0 m.1 wa ends component_count.3 component_count.1 ow component_count.4 m.2 m.3 m.4)
            (more_inner g is r f mm outer inner k v e forest a u w m.0 m.1 wa ends component_count.3 component_count.1 ow component_count.4 m.2 m.3 m.4)
            (more_k g is r f mm outer inner k v e forest a u w m.0 m.1 wa ends component_count.3 component_count.1 ow component_count.4 m.2 m.3 m.4)
            (more_v g is r f mm outer inner k v e forest a u w m.0 m.1 wa ends component_count.3 component_count.1 ow component_count.4 m.2 m.3 m.4)
            (more_e g is r f mm outer inner k v e forest a u w m.0 m.1 wa ends component_count.3 component_count.1 ow component_count.4 m.2 m.3 m.4)
            (grown g is r f mm outer inner k v e forest a u w m.0 m.1 wa ends component_count.3 component_count.1 ow component_count.4 m.2 m.3 m.4)
            (let s = grown_size g is r f mm outer inner k v e forest a u w m.0 m.1 wa ends component_count.3 component_count.1 ow component_count.4 m.2 m.3 m.4 in omega arith)
        | inl ow ↦ closing a u w wa ends component_count.2 component_count.3 ow
      ]
        where
          closing : (a u w : ℕ) → Within (size g) a → HasEnds g a u w → u ≢ w → outer u ≡ true → outer w ≡ true → Step g r f
          closing a u w wa ends n ou ow =
              let pp = forest.path u ou in
              let qq = forest.path w ow in
              let lu = forest.last u ou in
              let lw = forest.last w ow in
              let last_ends = ends_by g a a (v u (k u + k u)) u (v w (k w + k w)) w refl lu lw ends in
              let fa = outer_edge g is r f mm outer inner k v e forest a u w wa ends ou (forest.apart w ow) in
              elim (greatest (k u + k u) (λ s. (t : ℕ) × (t ≤ k w + k w) × (v u s ≡ v w t)) (λ s. (t : ℕ) → t ≤ k w + k w → v u s ≢ v w t) (λ s. on_path (k w + k w) (v w) (v u s))) [
                | inr none_meet ↦ inl (two_paths g r f mm (k u) (v u) (e u) pp (k w) (v w) (e w) qq (λ i j li lj. none_meet i li j lj) a wa last_ends)
                | inl m ↦ meeting a u w wa pp qq last_ends (λ q. n (sym lu ∙ q ∙ lw)) fa (λ s l. (forest.sides u ou s l).1) (λ s l. (forest.sides w ow s l).1) m.0 m.1 m.2.0 m.2.1 m.2.2 (λ s t a b c. m.3 s a b t c)
              ]
            where
              meeting : (a u w : ℕ) → Within (size g) a → IsAlternating g r f (k u) (v u) (e u) → IsAlternating g r f (k w) (v w) (e w) → HasEnds g a (v u (k u + k u)) (v w (k w + k w)) → v u (k u + k u) ≢ v w (k w + k w) → f a ≡ false
                  → ((s : ℕ) → s ≤ k u + k u → inner (v u s) ≡ is_odd s) → ((s : ℕ) → s ≤ k w + k w → inner (v w s) ≡ is_odd s)
                  → (i : ℕ) → i ≤ k u + k u → (j : ℕ) → j ≤ k w + k w → v u i ≡ v w j → ((s t : ℕ) → i < s → s ≤ k u + k u → t ≤ k w + k w → v u s ≢ v w t) → Step g r f
              meeting a u w wa pp qq ends two fa su sw i li j lj meet latest =
                  let xi : k u + k u - i + i ≡ k u + k u = omega arith in
                  let mj : k w + k w - j + j ≡ k w + k w = omega arith in
                  let t = half j (even_j g r f mm inner (k u) (k w) (v u) (e u) (v w) (e w) pp qq su sw a wa ends two fa i j li lj meet latest) in
                  let c = cycle g r f mm inner (k u) (k w) (v u) (e u) (v w) (e w) pp qq su sw a wa ends two fa i j li lj meet latest (k w + k w - j) (k u + k u - i) mj xi in
                  let x = stem_matching g r f mm inner (k u) (k w) (v u) (e u) (v w) (e w) pp qq su sw a wa ends two fa i j li lj meet latest (k w + k w - j) (k u + k u - i) mj xi t.0 t.1 in
                  let y = stem_count g r f mm inner (k u) (k w) (v u) (e u) (v w) (e w) pp qq su sw a wa ends two fa i j li lj meet latest (k w + k w - j) (k u + k u - i) mj xi t.0 t.1 in
                  let z = stem_free g r f mm inner (k u) (k w) (v u) (e u) (v w) (e w) pp qq su sw a wa ends two fa i j li lj meet latest (k w + k w - j) (k u + k u - i) mj xi t.0 t.1 in
                  let o = stem_holds g r f mm inner (k u) (k w) (v u) (e u) (v w) (e w) pp qq su sw a wa ends two fa i j li lj meet latest (k w + k w - j) (k u + k u - i) mj xi t.0 t.1 in
                  shrink_step g is r f _ _ _ _ (record { cycle = c; stem = _; matching = x; same = y; free = z; holds = o; left = λ d. refl }) smaller

  pub one_step : Step g r f
  one_step = search_step (suc (g.order + g.order)) (first_outer g is r f mm) none (λ u. 0) (λ u j. u) (λ u j. 0) (forest_start g is r f mm) (omega arith)

step_within : (n : ℕ) (g : Graph) → IsGraph g → (r f : Set) → IsMatching g r f → count g.order (complement r) ≤ n → Step g r f
step_within zero g is r f mm l = one_step g is r f mm (λ h ih s k km less. absurd (omega arith))
step_within (suc n) g is r f mm l = one_step g is r f mm (λ h ih s k km less. step_within n h ih s k km (omega arith))

-- each matching of g - r can be made greater by one edge, or has a frame
pub step : (g : Graph) (r f : Set) → IsGraph g → IsMatching g r f → Step g r f
step g r f is mm = step_within (count g.order (complement r)) g is r f mm (omega arith)
