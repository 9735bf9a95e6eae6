-- A flood by parities: the neighbours of an open vertex of even come into odd, those of another one
-- into even. A vertex that would be in both shows that no side fits; else even is a side.
use Rattle.allowed_edges.proofs.from_counting.Common.{◌≡◌, ◌≢◌, ◌↔◌, ◌+◌, ℕ, List, [], ◌∷◌, Bool, true, false, ◌==◌, ◌&&◌, ◌||◌, not, refl, sym, ap, ap₂, ◌∙◌, arith, subst, eq-eqb, eqb-true, inl, inr, rules, and_parts, both_ways, cases_Bool, cases_eq, not-true, or_cases, or_left, or_right, Within, count, mem, none, Set}
use Rattle.graph_core.proofs.Common.{Graph, IsBipartite, IsConnected, IsGraph, IsMultigraph, IsSide, Joined, Walk, adjacent, adjacent-edge, adjacent_from, adjacent_within, count_lost, has_ends-cases, has_ends-own, joined_back, joined_on, joined_self}
use Rattle.graph_facts.specs.Layers.{AreLayers, AreOpenLayers}

-- neighbours are on different sides
other_side : (g : Graph) (x : Set) → IsMultigraph g → IsSide g x → (u v : ℕ) → adjacent g none u v ≡ true → x v ≡ not (x u)
other_side g x is side u v a = grind (arith, adjacent-edge g none u v a, has_ends-cases g u v)

module _ (g : Graph) (is : IsMultigraph g) where
  pub flood_start : (even odd open_set : Set) → Within g.order 1 → ((v : ℕ) → even v ≡ (1 == v)) → ((v : ℕ) → odd v ≡ false) → ((v : ℕ) → open_set v ≡ even v) → AreOpenLayers g even odd open_set
  flood_start even odd open_set w own no_odd same = grind (arith, eq-eqb 1 1 refl, or_left, joined_self g none 1, both_ways, eqb-true 1)

  -- the neighbours of an open vertex v
  module _ (near new even odd open_set even' odd' open' : Set) (v : ℕ) (flood : AreOpenLayers g even odd open_set) (v_open : open_set v ≡ true) (near_is : (w : ℕ) → near w ≡ adjacent g none v w)
      (new_is : (w : ℕ) → new w ≡ ((near w && not (even w)) && not (odd w))) (even_is : (w : ℕ) → even' w ≡ (even w || (not (even v) && near w))) (odd_is : (w : ℕ) → odd' w ≡ (odd w || (even v && near w)))
      (open_is : (w : ℕ) → open' w ≡ ((open_set w && not (v == w)) || new w)) where
    edge : (w : ℕ) → near w ≡ true → adjacent g none v w ≡ true
    edge w n = sym (near_is w) ∙ n

    -- what is found is what was found before, or is new
    both : (w : ℕ) → (even' w || odd' w) ≡ ((even w || odd w) || new w)
    both w = grind arith

    here : (even v || odd v) ≡ true
    here = flood.among v v_open

    other : (e o : Bool) → (e || o) ≡ true → e ≡ false → o ≡ true
    other e o h k = grind arith

    -- each found vertex was found before, or is beside v
    found_cases : (P : ℕ → Type 0) → ((w : ℕ) → (even w || odd w) ≡ true → P w) → ((w : ℕ) → adjacent g none v w ≡ true → P w) → (w : ℕ) → (even' w || odd' w) ≡ true → P w
    found_cases P old fresh w f = grind arith

    kept : (w : ℕ) → (even w || odd w) ≡ true → (even' w || odd' w) ≡ true
    kept w f = both w ∙ or_left (even w || odd w) (new w) f

    kept_even : (w : ℕ) → even w ≡ true → even' w ≡ true
    kept_even w f = even_is w ∙ or_left (even w) (not (even v) && near w) f

    -- a closed vertex other than v was closed before, if it was found
    closed : (u : ℕ) → v ≢ u → open' u ≡ false → (open_set u ≡ false) × (new u ≡ false)
    closed u d o = grind arith

    step_joined : (w : ℕ) → adjacent g none v w ≡ true → Joined g none v w
    unfolding Joined
    step_joined w a = (w ∷ [], (a, refl))

    pub flood_step : AreOpenLayers g even' odd' open'
    flood_step = record {
      start = kept_even 1 flood.start;
      among = λ w o. elim (or_cases (open_set w && not (v == w)) (new w) (sym (open_is w) ∙ o)) [
        | inl q ↦ kept w (flood.among w (and_parts (open_set w) (not (v == w)) q).0)
        | inr q ↦ both w ∙ or_right (even w || odd w) (new w) q
      ];
      within = found_cases (Within g.order) flood.within (λ w a. (adjacent_within g none is.ends v w a).1);
      reached = found_cases (Joined g none 1) flood.reached (λ w a. joined_on g none 1 v w (flood.reached v here) (step_joined w a));
      done = done;
      alike = λ x s w e. elim (or_cases (even w) (not (even v) && near w) (sym (even_is w) ∙ e)) [
        | inl q ↦ flood.alike x s w q
        | inr q ↦ grind (arith, and_parts (not (even v)) (near w) q, other_side g x is s v w, not-true (even v))
      ];
      unlike = λ x s w o. elim (or_cases (odd w) (even v && near w) (sym (odd_is w) ∙ o)) [
        | inl q ↦ flood.unlike x s w q
        | inr q ↦ let p = and_parts (even v) (near w) q in other_side g x is s v w (edge w p.1) ∙ ap not (flood.alike x s v p.0)
      ];
      over = over;
      back = back;
    }
      where
        found_old : (e o n : Bool) → ((e || o) || n) ≡ true → n ≡ false → (e || o) ≡ true
        found_old e o n h k = grind arith

        done : (u w : ℕ) → (even' u || odd' u) ≡ true → open' u ≡ false → adjacent g none u w ≡ true → (even' w || odd' w) ≡ true
        done u w f o a = search (rules, cases_eq v, found_old)

        over : (u w : ℕ) → even' u ≡ true → odd' u ≡ false → open' u ≡ false → adjacent g none u w ≡ true → odd' w ≡ true
        over u w e d o a = grind arith

        back : (u w : ℕ) → odd' u ≡ true → even' u ≡ false → open' u ≡ false → adjacent g none u w ≡ true → even' w ≡ true
        back u w d e o a = grind arith

  -- when no vertex is open
  pub flood_end : (even odd open_set : Set) → AreOpenLayers g even odd open_set → ((v : ℕ) → open_set v ≡ false) → AreLayers g even odd
  unfolding Joined
  flood_end even odd open_set flood closed = grind (arith, stays 1, or_left (even 1) (odd 1) flood.start)
    where
      stays : (u v : ℕ) (ws : List ℕ) → (even u || odd u) ≡ true → Walk (adjacent g none) u ws v → (even v || odd v) ≡ true
      stays u v [] f w = subst (λ v. (even v || odd v) ≡ true) w f
      stays u v (y ∷ ws) f w = stays y v ws (flood.done u y f (closed u) w.0) w.1

-- one vertex less is not found or open: v, which was open
pub flood_less : (n : ℕ) (near new even odd open_set even' odd' open' : Set) (v : ℕ) → Within n v → open_set v ≡ true → (even v || odd v) ≡ true → ((w : ℕ) → new w ≡ ((near w && not (even w)) && not (odd w))) →
    ((w : ℕ) → even' w ≡ (even w || (not (even v) && near w))) → ((w : ℕ) → odd' w ≡ (odd w || (even v && near w))) → ((w : ℕ) → open' w ≡ ((open_set w && not (v == w)) || new w)) →
    count n (λ w. not ((even' w || odd' w) && not (open' w))) + 1 ≡ count n (λ w. not ((even w || odd w) && not (open_set w)))
flood_less n near new even odd open_set even' odd' open' v w v_open v_found new_is even_is odd_is open_is =
    count_lost n (λ w. not ((even w || odd w) && not (open_set w))) (λ w. not ((even' w || odd' w) && not (open' w))) v w (grind arith) (λ u.
    ap₂ (λ f o. not (f && not o)) (both u) (open_is u) ∙ less (even u || odd u) (new u) (open_set u) (v == u) (λ t. apart (near u) (even u) (odd u) (sym (new_is u) ∙ t)) (λ t. subst (λ u. (even u || odd u) ≡ true) (eqb-true v u t) v_found))
  where
    both : (w : ℕ) → (even' w || odd' w) ≡ ((even w || odd w) || new w)
    both w = grind arith

    apart : (n e o : Bool) → ((n && not e) && not o) ≡ true → (e || o) ≡ false
    apart n e o h = grind arith

    less : (f n o e : Bool) → (n ≡ true → f ≡ false) → (e ≡ true → f ≡ true) → not ((f || n) && not ((o && not e) || n)) ≡ (not (f && not o) && not e)
    less f n o e h k = grind arith

-- what the layers say of the graph
module _ (g : Graph) (even odd : Set) (layers : AreLayers g even odd) where
  -- where each vertex is in one, the graph is connected
  pub all_joined : IsGraph g → ((v : ℕ) → Within g.order v → (even v || odd v) ≡ true) → IsConnected g
  all_joined is all u v wu wv = joined_on g none u 1 v (joined_back g none 1 u ((layers.reached u).0 (all u wu))) ((layers.reached v).0 (all v wv))

  module _ (n : ℕ) (full less left : List ℕ) (order : n ≡ g.order) (full_is : (v : ℕ) → (mem full v ≡ true) ↔ Within n v) (less_is : (v : ℕ) → mem less v ≡ (mem full v && not (even v))) (left_is : (v : ℕ) → mem left v ≡ (mem less v && not (odd v))) where
    pub none_apart : IsGraph g → left ≡ [] → IsConnected g
    none_apart is none = grind (arith, all_joined is)

  -- a vertex in both excludes a side
  pub no_side : IsMultigraph g → (v : ℕ) → even v ≡ true → odd v ≡ true → IsBipartite g → ⊥
  no_side is v e o b =
      let side : IsSide g b.0 = λ e w d. b.1 e w in
      never (b.0 1) (sym (layers.alike b.0 side v e) ∙ layers.unlike b.0 side v o)
    where
      never : (s : Bool) → s ≡ not s → ⊥
      never s q = grind arith

  -- where no vertex is in both, even is a side of a connected graph
  pub even_side : IsMultigraph g → IsConnected g → ((v : ℕ) → (even v && odd v) ≡ false) → IsSide g even
  even_side is joined alone e w d = grind (arith, adjacent_from g none, has_ends-own g e, cases_Bool)
