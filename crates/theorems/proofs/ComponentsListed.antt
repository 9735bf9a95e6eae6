-- Each listed elementary component is matching covered; if there is one alone and each edge of the
-- graph is allowed, so is the graph.
-- Idea: the component of each vertex is listed, so all vertices are then in one, and its walks of
-- allowed edges are walks of the graph.
use Rattle.tree_check.proofs.from_counting.Common.{◌≡◌, ℕ, ◌≤◌, Bool, true, ◌==◌, ◌&&◌, ◌||◌, List, [], ◌∷◌, length, map, refl, sym, ap, ◌∙◌, arith, subst, inl, inr, eq-eqb, eqb-true, Within, and_parts, cases_eq, cases_lt, count_member, IsIn, mem, mem-rising_list, none, or_cases, or_right, rising_holds, rising_list, rising_only, some_true, true≢false}
use Rattle.graph_core.proofs.Common.{adjacent, adjacent_from, Allowed, component_count_le, components, edge_at, Graph, has_ends, HasPerfect, is_allowed, is_least, IsCovered, IsMultigraph, Joined, joined, joined_back, joined_on, joined_walk, length-components, size, some_leader, Walk}
use Rattle.bench_top.specs.from_mcg6_lines.Elementary.{allowed_subgraph, component_graph, elementary_parts}
use Rattle.theorems.proofs.ElementaryComponents.{allowed_graph, allowed_order, allowed_step, covered_component}

-- each listed component is reached from some vertex
in_mapped : (h : ℕ → List ℕ) (xs vs : List ℕ) → IsIn vs (map h xs) → (u : ℕ) × (mem xs u ≡ true) × (vs ≡ h u)
in_mapped h [] vs i = absurd i
in_mapped h (x ∷ xs) vs i = elim i [
  | inl q ↦ (x, ap (λ (b : Bool). b || mem xs x) (eq-eqb x x refl), q)
  | inr j ↦ let r = in_mapped h xs vs j in (r.0, or_right (x == r.0) (mem xs r.0) r.1, r.2)
]

pub elementary_covered : (g : Graph) (vs : List ℕ) → IsMultigraph g → HasPerfect g none → IsIn vs (elementary_parts g) → IsCovered (component_graph g vs)
unfolding elementary_parts components
elementary_covered g vs is has i =
    let u = in_mapped (λ u. rising_list (allowed_subgraph g).order (joined (allowed_subgraph g) none u)) (rising_list (allowed_subgraph g).order (is_least (allowed_subgraph g) none)) vs i in
    let w = (rising_only (allowed_subgraph g).order (is_least (allowed_subgraph g) none) u.0 u.1).0 in
    covered_component g is u.0 (subst (λ n. Within n u.0) (allowed_order g) w) vs (u.2 ∙ ap (λ n. rising_list n (joined (allowed_subgraph g) none u.0)) (allowed_order g)) has

mapped_in : (h : ℕ → List ℕ) (xs : List ℕ) (u : ℕ) → mem xs u ≡ true → IsIn (h u) (map h xs)
mapped_in h [] u t = absurd (true≢false (sym t))
mapped_in h (x ∷ xs) u t = elim (or_cases (x == u) (mem xs u) t) [
  | inl q ↦ inl (ap h (sym (eqb-true x u q)))
  | inr j ↦ inr (mapped_in h xs u j)
]

only_in : {A : Type 0} (xs : List A) (a b : A) → length xs ≡ 1 → IsIn a xs → IsIn b xs → a ≡ b
only_in [] a b l i j = absurd i
only_in (x ∷ []) a b l (inl p) (inl q) = p ∙ sym q
only_in (x ∷ []) a b l (inl p) (inr j) = absurd j
only_in (x ∷ []) a b l (inr i) j = absurd i
only_in (x ∷ y ∷ xs) a b l i j = absurd (omega arith)

-- one component that has all vertices
module _ (g : Graph) (is : IsMultigraph g) (one : length (elementary_parts g) ≡ 1) where
  abbrev h : Graph
  h = allowed_subgraph g

  -- the component of a vertex is listed
  leader : (v : ℕ) → Within g.order v → (u : ℕ) × Within g.order u × (joined h none u v ≡ true) × IsIn (rising_list h.order (joined h none u)) (elementary_parts g)
  unfolding elementary_parts components
  leader v w =
      let wh : Within h.order v = subst (λ n. Within n v) (sym (allowed_order g)) w in
      let c = count_member h.order (λ u. is_least h none u && joined h none u v) (some_leader h none (allowed_graph g is.ends) v wh refl) in
      let b = and_parts (is_least h none c.0) (joined h none c.0 v) c.2 in (
        c.0,
        subst (λ n. Within n c.0) (allowed_order g) c.1,
        b.1,
        mapped_in (λ u. rising_list h.order (joined h none u)) (rising_list h.order (is_least h none)) c.0 (rising_holds h.order (is_least h none) c.0 c.1 b.0),
      )

  -- so any two vertices are joined by allowed edges
  all_joined : (a b : ℕ) → Within g.order a → Within g.order b → Joined h none a b
  all_joined a b wa wb =
      let x = leader a wa in
      let y = leader b wb in
      let same = only_in (elementary_parts g) (rising_list h.order (joined h none x.0)) (rising_list h.order (joined h none y.0)) one x.3 y.3 in
      let wh : Within h.order b = subst (λ n. Within n b) (sym (allowed_order g)) wb in
      let there : joined h none x.0 b ≡ true =
      sym (mem-rising_list h.order (joined h none x.0) b wh) ∙ ap (λ (xs : List ℕ). mem xs b) same ∙ mem-rising_list h.order (joined h none y.0) b wh ∙ y.2 in
      joined_on h none a x.0 b (joined_back h none x.0 a (joined_walk h none x.0 a x.2)) (joined_walk h none x.0 b there)

  walk_up : (a b : ℕ) (ws : List ℕ) → Walk (adjacent h none) a ws b → Walk (adjacent g none) a ws b
  walk_up a b [] w = w
  walk_up a b (x ∷ ws) w =
      let e = some_true (size g) (λ e. is_allowed g e && has_ends g a x e) (sym (allowed_step g a x) ∙ w.0) in
      let t = and_parts (is_allowed g e.0) (has_ends g a x e.0) e.2 in
      (adjacent_from g none a x e.0 refl refl e.1 t.1, walk_up x b ws w.1)

  some_vertex : g.order ≡ 0 → ⊥
  unfolding elementary_parts
  some_vertex z = grind (arith, length-components, none, component_count_le, allowed_order)

  pub whole_covered : HasPerfect g none → ((e : ℕ) → Within (size g) e → Allowed g e) → IsCovered g
  unfolding Joined
  whole_covered has all = record {
    two = two_vertices;
    connected = λ a b wa wb. let j = all_joined a b wa wb in (j.0, walk_up a b j.0 j.1);
    allowed = λ e w d. all e w;
  }
    where
      -- some vertex, since there is a component; its partner is another
      two_vertices : 2 ≤ g.order
      two_vertices = grind (arith, cases_lt, cases_eq, edge_at, some_vertex)
