-- An elementary component of a graph with a perfect matching is matching covered. Allowed edges do
-- not leave it, so a perfect matching of the graph contains one of it. The new numbers of vertices
-- and of edges are their ranks.
use Rattle.tree_check.proofs.from_counting.Common.{◌≡◌, ◌≢◌, ℕ, suc, zero, ◌+◌, ◌-◌, ◌*◌, ◌≤◌, Bool, true, false, cond, ◌==◌, ◌&&◌, ◌||◌, not, List, [], ◌∷◌, ◌++◌, length, refl, sym, ap, ap₂, ◌∙◌, arith, subst, inl, inr, eq-eqb, eqb-true, get_or, get_or-append-add, Within, and_from, and_parts, append-nil, bit, both_ways, cases_Bool, cases_eq, count, count_congr, count_mem_length, get_or_append_left, IsRisingIn, length-map, length-rising_list, list_any, list_any-append, mem, mem-rising_list, mem-within, member_ranked, none, rank_once, rising_list, rising_list-rises, same_tests, Set, some, some_true, true_some, true≢false, two_members}
use Rattle.graph_core.proofs.Common.{adjacent, adjacent_from, adjacent-ends, degree, degree-inside, degree_congr, edge_at, first_end, Graph, has_ends, has_ends-back, has_ends-cases, has_ends-own, HasPerfect, in_cut, inside, is_allowed, is_allowed_found, is_allowed_says, IsConnected, IsCovered, IsGraph, IsMultigraph, IsPerfect, Joined, joined, joined_back, joined_on, joined_self, joined_walk, joins, second_end, size, walk_joined, Walk, with_ends}
use Rattle.graph6_text.proofs.DistinctPairs.{each_at}
use Rattle.two_ears.proofs.AddedEdges.{degree-added}
use Rattle.ear_text.proofs.from_ear_core.RankedStages.{rank-within}
use Rattle.bench_top.specs.from_mcg6_lines.Elementary.{allowed_subgraph, component_graph, number_in}
use Rattle.bench_top.proofs.from_mcg6_lines.Components.{same_number}
use Rattle.bench_top.proofs.from_mcg6_lines.TakenEdges.{each_taken, taken, taken-next}

-- adjacent in the subgraph of the allowed edges: joined by an allowed edge
any_taken : (g : Graph) (test : Set) (u v k : ℕ) → list_any (joins u v) (taken (λ e. (first_end g e, second_end g e)) test k) ≡ some k (λ e. test e && has_ends g u v e)
any_taken g test u v zero = refl
any_taken g test u v (suc k) =
    ap (list_any (joins u v)) (taken-next (λ e. (first_end g e, second_end g e)) test k)
    ∙ list_any-append (joins u v) (taken (λ e. (first_end g e, second_end g e)) test k) (cond (test (suc k)) ((first_end g (suc k), second_end g (suc k)) ∷ []) [])
    ∙ ap₂ ◌||◌ (any_taken g test u v k) (last (test (suc k)))
  where
    last : (b : Bool) → list_any (joins u v) (cond b ((first_end g (suc k), second_end g (suc k)) ∷ []) []) ≡ (b && has_ends g u v (suc k))
    last true = grind arith
    last false = refl

pub allowed_step : (g : Graph) (u v : ℕ) → adjacent (allowed_subgraph g) none u v ≡ some (size g) (λ e. is_allowed g e && has_ends g u v e)
unfolding allowed_subgraph
allowed_step g u v = adjacent-ends (allowed_subgraph g) u v ∙ any_taken g (is_allowed g) u v (size g)

pub allowed_order : (g : Graph) → (allowed_subgraph g).order ≡ g.order
unfolding allowed_subgraph
allowed_order g = refl

pub allowed_graph : (g : Graph) → IsGraph g → IsGraph (allowed_subgraph g)
unfolding allowed_subgraph
allowed_graph g is e w =
    each_at (λ p. Within g.order p.0 × Within g.order p.1) (allowed_subgraph g).ends (e - 1)
    (each_taken (λ p. Within g.order p.0 × Within g.order p.1) (λ d. (first_end g d, second_end g d)) (is_allowed g) (size g) (λ d wd t. is d wd)) (omega arith)

-- the degree in the graph of the edges that pass a test, with other ends: by the rank of each edge
length_taken : (f : ℕ → ℕ × ℕ) (test : Set) (k : ℕ) → length (taken f test k) ≡ count k test
length_taken f test k = length-map (rising_list k test) f ∙ length-rising_list k test

degree_taken : (g : Graph) (f : ℕ → ℕ × ℕ) (test m : Set) (v k : ℕ) →
    degree (with_ends g (taken f test k)) m v ≡ count k (λ e. (test e && m (count e test)) && ((f e).0 == v)) + count k (λ e. (test e && m (count e test)) && ((f e).1 == v))
degree_taken g f test m v zero = refl
degree_taken g f test m v (suc k) =
    ap (λ (ps : List (ℕ × ℕ)). degree (with_ends g ps) m v) (taken-next f test k) ∙ go (test (suc k)) refl (degree_taken g f test m v k)
  where
    bits : (x y : Bool) → bit (x && y) ≡ bit x * bit y
    bits x y = grind arith

    go : (b : Bool) → test (suc k) ≡ b → degree (with_ends g (taken f test k)) m v ≡ count k (λ e. (test e && m (count e test)) && ((f e).0 == v)) + count k (λ e. (test e && m (count e test)) && ((f e).1 == v)) →
        degree (with_ends g (taken f test k ++ cond b (f (suc k) ∷ []) [])) m v
        ≡ (count k (λ e. (test e && m (count e test)) && ((f e).0 == v)) + bit ((test (suc k) && m (count k test + bit (test (suc k)))) && ((f (suc k)).0 == v)))
        + (count k (λ e. (test e && m (count e test)) && ((f e).1 == v)) + bit ((test (suc k) && m (count k test + bit (test (suc k)))) && ((f (suc k)).1 == v)))
    go b t e = grind (arith, degree-added, length_taken, bits, append-nil)

-- the edge of some rank
taken_at : (f : ℕ → ℕ × ℕ) (test : Set) (k e : ℕ) → Within k e → test e ≡ true → get_or (taken f test k) (count e test - 1) (0, 0) ≡ f e
taken_at f test zero e w t = absurd (omega arith)
taken_at f test (suc k) e w t =
    ap (λ (ps : List (ℕ × ℕ)). get_or ps (count e test - 1) (0, 0)) (taken-next f test k)
    ∙ (elim (cases_eq e (suc k)) [
      | inl q ↦ last q (test (suc k)) refl
      | inr d ↦
          let r = rank-within k test e (omega arith) t in
          let l = length_taken f test k in
          get_or_append_left (taken f test k) (cond (test (suc k)) (f (suc k) ∷ []) []) (0, 0) (count e test - 1) (omega arith) ∙ taken_at f test k e (omega arith) t
    ])
  where
    last : e ≡ suc k → (b : Bool) → test (suc k) ≡ b → get_or (taken f test k ++ cond b (f (suc k) ∷ []) []) (count e test - 1) (0, 0) ≡ f e
    last q false s = absurd (both_ways (test (suc k)) s (ap test (sym q) ∙ t))
    last q true s =
        let l = length_taken f test k in
        let b = ap bit s in
        let c = ap (λ i. count i test) q in
        let here : count e test - 1 ≡ length (taken f test k) + 0 = omega arith in
        ap (λ i. get_or (taken f test k ++ (f (suc k) ∷ [])) i (0, 0)) here ∙ get_or-append-add (taken f test k) (f (suc k) ∷ []) 0 (0, 0) ∙ ap f (sym q)

not_cut : (a b : Bool) → a ≡ b → ((a && not b) || (not a && b)) ≡ false
not_cut a b q = grind arith

-- one component, with the vertices vs that walks of allowed edges reach from u
module _ (g : Graph) (is : IsMultigraph g) (u : ℕ) (wu : Within g.order u) (vs : List ℕ) (part : vs ≡ rising_list g.order (joined (allowed_subgraph g) none u)) where
  abbrev s : Set
  s = mem vs

  abbrev f : Set
  f e = is_allowed g e && inside g (mem vs) e

  abbrev ends : ℕ → ℕ × ℕ
  ends e = (number_in vs (first_end g e), number_in vs (second_end g e))

  rises : IsRisingIn g.order vs
  rises = subst (IsRisingIn g.order) (sym part) (rising_list-rises g.order (joined (allowed_subgraph g) none u))

  reached : (v : ℕ) → Within g.order v → s v ≡ joined (allowed_subgraph g) none u v
  reached v w = ap (λ (xs : List ℕ). mem xs v) part ∙ mem-rising_list g.order (joined (allowed_subgraph g) none u) v w

  vertex : (v : ℕ) → s v ≡ true → Within g.order v
  vertex v t = mem-within g.order vs rises v t

  -- what a walk of allowed edges reaches from there
  into : (v : ℕ) → Within g.order v → Joined (allowed_subgraph g) none u v → s v ≡ true
  into v w j = reached v w ∙ walk_joined (allowed_subgraph g) none (allowed_graph g is.ends) u v (subst (λ n. Within n u) (sym (allowed_order g)) wu) j

  out_of : (v : ℕ) → s v ≡ true → Joined (allowed_subgraph g) none u v
  out_of v t = joined_walk (allowed_subgraph g) none u v (sym (reached v (vertex v t)) ∙ t)

  step : (a b e : ℕ) → Within (size g) e → is_allowed g e ≡ true → has_ends g a b e ≡ true → Joined (allowed_subgraph g) none a b
  unfolding Joined
  step a b e w t h = (b ∷ [], (allowed_step g a b ∙ true_some (size g) (λ d. is_allowed g d && has_ends g a b d) e w (and_from (is_allowed g e) (has_ends g a b e) t h), refl))

  -- an allowed edge has both ends in the component, or none
  closed : (e : ℕ) → Within (size g) e → is_allowed g e ≡ true → s (first_end g e) ≡ s (second_end g e)
  closed e w t =
      let own = has_ends-own g e in
      same_tests (s (first_end g e)) (s (second_end g e))
      (λ x. into (second_end g e) (is.ends e w).1 (joined_on (allowed_subgraph g) none u (first_end g e) (second_end g e) (out_of (first_end g e) x) (step (first_end g e) (second_end g e) e w t own)))
      (λ x. into (first_end g e) (is.ends e w).0 (joined_on (allowed_subgraph g) none u (second_end g e) (first_end g e) (out_of (second_end g e) x) (step (second_end g e) (first_end g e) e w t (has_ends-back g (first_end g e) (second_end g e) e own))))

  own : s u ≡ true
  own = into u wu (joined_self (allowed_subgraph g) none u)

  component_order : (component_graph g vs).order ≡ length vs
  unfolding component_graph
  component_order = refl

  counted : count g.order s ≡ length vs
  counted = count_mem_length g.order vs rises

  -- the vertex of a number
  numbered : (w : ℕ) → Within (length vs) w → (v : ℕ) × Within g.order v × (s v ≡ true) × (count v s ≡ w)
  numbered w ww = member_ranked g.order s w (subst (λ n. Within n w) (sym counted) ww)

  module _ (m : Set) (p : IsPerfect g none m) where
    allowed_in : (e : ℕ) → Within (size g) e → m e ≡ true → is_allowed g e ≡ true
    allowed_in e w t = is_allowed_found g e w (m, p, t)

    -- the edges of m in the component
    abbrev n : Set
    n e = f e && m e

    no_cross : (e : ℕ) → Within (size g) e → (m e && in_cut g s e) ≡ false
    no_cross e w = grind (arith, cases_Bool, not_cut, first_end, second_end, closed, allowed_in, in_cut)

    kept : (e : ℕ) → Within (size g) e → n e ≡ (m e && inside g s e)
    kept e w = grind (arith, cases_Bool, allowed_in)

    degree_kept : (v : ℕ) → s v ≡ true → degree g n v ≡ degree g m v
    degree_kept v t = degree_congr g n (λ e. m e && inside g s e) v kept ∙ degree-inside g m s no_cross v t

    -- the same edges by their numbers in the component
    pub renumbered : Set
    renumbered i = some (size g) (λ e. n e && (count e f == i))

    pub same_edge : (e : ℕ) → Within (size g) e → (f e && renumbered (count e f)) ≡ n e
    unfolding renumbered
    same_edge e w = same_tests (f e && renumbered (count e f)) (n e)
        (λ t.
        let a = and_parts (f e) (renumbered (count e f)) t in
        let d = some_true (size g) (λ d. n d && (count d f == count e f)) a.1 in
        let b = and_parts (n d.0) (count d.0 f == count e f) d.2 in
        let c = and_parts (f d.0) (m d.0) b.0 in
        and_from (f e) (m e) a.0 (ap m (sym (rank_once f d.0 e c.0 a.0 (eqb-true (count d.0 f) (count e f) b.1))) ∙ c.1))
        (λ t. and_from (f e) (renumbered (count e f)) (and_parts (f e) (m e) t).0
        (true_some (size g) (λ d. n d && (count d f == count e f)) e w (and_from (n e) (count e f == count e f) t (eq-eqb (count e f) (count e f) refl))))

    both : (e : ℕ) → n e ≡ true → (s (first_end g e) ≡ true) × (s (second_end g e) ≡ true)
    both e t = and_parts (s (first_end g e)) (s (second_end g e)) (and_parts (is_allowed g e) (inside g s e) (and_parts (f e) (m e) t).0).1

    same_and : (a b c d : Bool) → a ≡ b → (b ≡ true → c ≡ d) → (a && c) ≡ (b && d)
    same_and a b c d q h = grind arith

    degree_component : (v : ℕ) → s v ≡ true → degree (component_graph g vs) renumbered (count v s) ≡ degree g n v
    unfolding component_graph
    degree_component v t =
        degree_taken (record { order = length vs; ends = [] }) ends f renumbered (count v s) (size g)
        ∙ ap₂ ◌+◌
        (count_congr (size g) (λ e. (f e && renumbered (count e f)) && (count (first_end g e) s == count v s)) (λ e. n e && (first_end g e == v)) (λ e w.
        same_and (f e && renumbered (count e f)) (n e) (count (first_end g e) s == count v s) (first_end g e == v) (same_edge e w) (λ h. same_number vs (first_end g e) v (both e h).0 t)))
        (count_congr (size g) (λ e. (f e && renumbered (count e f)) && (count (second_end g e) s == count v s)) (λ e. n e && (second_end g e == v)) (λ e w.
        same_and (f e && renumbered (count e f)) (n e) (count (second_end g e) s == count v s) (second_end g e == v) (same_edge e w) (λ h. same_number vs (second_end g e) v (both e h).1 t)))

    pub perfect_component : IsPerfect (component_graph g vs) none renumbered
    perfect_component = record {
      once = λ w ww o.
          let v = numbered w (subst (λ k. Within k w) component_order ww) in
          ap (degree (component_graph g vs) renumbered) (sym v.3) ∙ degree_component v.0 v.2 ∙ degree_kept v.0 v.2 ∙ p.once v.0 v.1 refl;
      away = λ w ww o. absurd (true≢false (sym o));
    }

    -- the partner of u is another vertex of the component
    two : 2 ≤ length vs
    two =
        let one = p.once u wu refl in
        let e = edge_at g m u (omega arith) in
        let c = closed e.0 e.1 (allowed_in e.0 e.1 e.2) in
        let loop = is.no_loop e.0 e.1 in
        let many = counted in
        elim e.3.1 [
          | inl q ↦
              let other : s e.3.0 ≡ true = ap s (sym q.1) ∙ sym c ∙ ap s q.0 ∙ own in
              let far : u ≢ e.3.0 = λ x. loop (q.0 ∙ x ∙ sym q.1) in
              let t = two_members g.order s u e.3.0 wu (vertex e.3.0 other) far own other in omega arith
          | inr q ↦
              let other : s e.3.0 ≡ true = ap s (sym q.0) ∙ c ∙ ap s q.1 ∙ own in
              let far : u ≢ e.3.0 = λ x. loop (q.0 ∙ sym x ∙ sym q.1) in
              let t = two_members g.order s u e.3.0 wu (vertex e.3.0 other) far own other in omega arith
        ]

  component_size : size (component_graph g vs) ≡ count (size g) f
  unfolding component_graph
  component_size = length_taken ends f (size g)

  component_ends : (e : ℕ) → Within (size g) e → f e ≡ true → (first_end (component_graph g vs) (count e f) ≡ number_in vs (first_end g e)) × (second_end (component_graph g vs) (count e f) ≡ number_in vs (second_end g e))
  unfolding component_graph
  component_ends e w t = let a = taken_at ends f (size g) e w t in (ap (λ q. q.0) a, ap (λ q. q.1) a)

  -- a walk of allowed edges in the component
  walk_component : (a b : ℕ) (ws : List ℕ) → Within g.order a → s a ≡ true → Walk (adjacent (allowed_subgraph g) none) a ws b → Joined (component_graph g vs) none (number_in vs a) (number_in vs b)
  unfolding Joined
  walk_component a b [] wa t w = ([], ap (number_in vs) w)
  walk_component a b (x ∷ ws) wa t w =
      let e = some_true (size g) (λ e. is_allowed g e && has_ends g a x e) (sym (allowed_step g a x) ∙ w.0) in
      let h = and_parts (is_allowed g e.0) (has_ends g a x e.0) e.2 in
      let c = closed e.0 e.1 h.0 in
      let l = component_size in
      elim (has_ends-cases g a x e.0 h.1) [
        | inl q ↦
            let tx : s x ≡ true = ap s (sym q.1) ∙ sym c ∙ ap s q.0 ∙ t in
            let fe : f e.0 ≡ true = and_from (is_allowed g e.0) (inside g s e.0) h.0 (and_from (s (first_end g e.0)) (s (second_end g e.0)) (ap s q.0 ∙ t) (ap s q.1 ∙ tx)) in
            let k : Within (size (component_graph g vs)) (count e.0 f) = (let r = rank-within (size g) f e.0 e.1 fe in omega arith) in
            let d = component_ends e.0 e.1 fe in
            let o = has_ends-own (component_graph g vs) (count e.0 f) in
            let bt : has_ends (component_graph g vs) (number_in vs a) (number_in vs x) (count e.0 f) ≡ true =
            ap₂ (λ y z. has_ends (component_graph g vs) y z (count e.0 f)) (ap (number_in vs) (sym q.0) ∙ sym d.0) (ap (number_in vs) (sym q.1) ∙ sym d.1) ∙ o in
            let r = walk_component x b ws (vertex x tx) tx w.1 in
            (number_in vs x ∷ r.0, (adjacent_from (component_graph g vs) none (number_in vs a) (number_in vs x) (count e.0 f) refl refl k bt, r.1))
        | inr q ↦
            let tx : s x ≡ true = ap s (sym q.0) ∙ c ∙ ap s q.1 ∙ t in
            let fe : f e.0 ≡ true = and_from (is_allowed g e.0) (inside g s e.0) h.0 (and_from (s (first_end g e.0)) (s (second_end g e.0)) (ap s q.0 ∙ tx) (ap s q.1 ∙ t)) in
            let k : Within (size (component_graph g vs)) (count e.0 f) = (let r = rank-within (size g) f e.0 e.1 fe in omega arith) in
            let d = component_ends e.0 e.1 fe in
            let o = has_ends-back (component_graph g vs) (first_end (component_graph g vs) (count e.0 f)) (second_end (component_graph g vs) (count e.0 f)) (count e.0 f) (has_ends-own (component_graph g vs) (count e.0 f)) in
            let bt : has_ends (component_graph g vs) (number_in vs a) (number_in vs x) (count e.0 f) ≡ true =
            ap₂ (λ y z. has_ends (component_graph g vs) y z (count e.0 f)) (ap (number_in vs) (sym q.1) ∙ sym d.1) (ap (number_in vs) (sym q.0) ∙ sym d.0) ∙ o in
            let r = walk_component x b ws (vertex x tx) tx w.1 in
            (number_in vs x ∷ r.0, (adjacent_from (component_graph g vs) none (number_in vs a) (number_in vs x) (count e.0 f) refl refl k bt, r.1))
      ]

  connected_component : IsConnected (component_graph g vs)
  unfolding Joined
  connected_component a b wa wb =
      let v = numbered a (subst (λ k. Within k a) component_order wa) in
      let w = numbered b (subst (λ k. Within k b) component_order wb) in
      let j = joined_on (allowed_subgraph g) none v.0 u w.0 (joined_back (allowed_subgraph g) none u v.0 (out_of v.0 v.2)) (out_of w.0 w.2) in
      subst (λ k. Joined (component_graph g vs) none k b) v.3 (subst (λ k. Joined (component_graph g vs) none (number_in vs v.0) k) w.3 (walk_component v.0 w.0 j.0 v.1 v.2 j.1))

  pub covered_component : HasPerfect g none → IsCovered (component_graph g vs)
  covered_component has = record {
    two = (let a = two has.0 has.1 in let b = component_order in omega arith);
    connected = connected_component;
    allowed = λ k wk d.
        let l = component_size in
        let e = member_ranked (size g) f k (omega arith) in
        let a = and_parts (is_allowed g e.0) (inside g s e.0) e.2 in
        let m = is_allowed_says g e.0 a.0 in
        let there = same_edge m.0 m.1 e.0 e.1 in (
          renumbered m.0 m.1,
          perfect_component m.0 m.1,
          ap (renumbered m.0 m.1) (sym e.3) ∙ (and_parts (f e.0) (renumbered m.0 m.1 (count e.0 f)) (there ∙ and_from (f e.0) (m.0 e.0) e.2 m.2)).1,
        );
  }
