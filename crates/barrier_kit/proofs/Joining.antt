-- Deleting a vertex of a barrier B and one component of G - B leaves a graph with a perfect
-- matching, where each vertex set that is neither empty nor all has an edge of some perfect
-- matching in its cut. Hall's theorem gives the other vertices of the barrier different components,
-- to which allowed edges lead, and the matchings of the components are joined.
use Rattle.graph_core.proofs.from_counting.Common.{◌≡◌, ℕ, ◌+◌, ◌*◌, ◌≤◌, Bool, true, false, ◌==◌, refl, sym, ap, ◌∙◌, arith, ◌&&◌, ◌||◌, not, eq-eqb, ne_eqb, eqb-true, ◌⊎◌, inl, inr, cases_eq, cases_Bool, false_from_ne_true, both_ways, and_parts, and_from, count_member, count_minus, count_zero, count_singleton, some_true, true_some, at_le_total, total_add, total_congr, total_le, total_none, and_fails_second, same_tests, Within, bit, count, Set, complement, meet, minus, none, singleton, union, some}
use Rattle.barrier_kit.proofs.BarrierCuts.{cover_in, covers, covers_out, cut_family, leader_of, leader_same, leads_out, many_parts, one_cut, part_out, sat_inside}
use Rattle.barrier_kit.proofs.Families.{glue_family}
use Rattle.barrier_kit.proofs.Hall.{hall, hits}
use Rattle.barrier_kit.proofs.Matched.{inner, perfect_congr, restrict, AreCutsMet}
use Rattle.barrier_kit.specs.Common.{Picks, neighbours}
use Rattle.graph_core.proofs.Common.{is_allowed, is_allowed_found, is_allowed_says, joined_outside, parity, two_cuts, is_least, Graph, IsGraph, connects, edges_in_cut, first_end, in_cut, inside, second_end, size, IsPerfect, IsBarrier, joined}

-- some allowed edge joins z to the component of u
abbrev pub touches : Graph → Set → ℕ → ℕ → Bool
touches g s z u = some (size g) (λ e. is_allowed g e && connects g (singleton z) (joined g s u) e)

-- where each edge from z leads into y, the cut of y is that of z and that of both
pub cut_split : (g : Graph) (m z y : Set) → ((e : ℕ) → Within (size g) e → m e ≡ true → (z (first_end g e) ≡ true → y (second_end g e) ≡ true) × (z (second_end g e) ≡ true → y (first_end g e) ≡ true)) →
    ((e : ℕ) → Within (size g) e → (z (first_end g e) ≡ true → y (first_end g e) ≡ false) × (z (second_end g e) ≡ true → y (second_end g e) ≡ false)) → edges_in_cut g m y ≡ edges_in_cut g m z + edges_in_cut g m (union z y)
cut_split g m z y into apart = total_congr (size g) _ _ (λ e w. grind arith) ∙ total_add (size g) (λ e. bit (m e && in_cut g z e)) (λ e. bit (m e && in_cut g (union z y) e))

module _ (g : Graph) (is : IsGraph g) (met : AreCutsMet g) (s : Set) (bar : IsBarrier g s) (b : ℕ) (wb : Within g.order b) (sb : s b ≡ true) where
  module _ (z : Set) (sub : (v : ℕ) → Within g.order v → z v ≡ true → s v ≡ true) (zb : z b ≡ false) where
    abbrev near_parts : Set
    near_parts = neighbours g.order (touches g s) (is_least g s) z

    lead : (u : ℕ) → near_parts u ≡ true → is_least g s u ≡ true
    lead u h = (and_parts (is_least g s u) (some g.order (λ y. z y && touches g s y u)) h).0

    abbrev reached : Set
    reached = covers g is s near_parts lead

    -- a vertex across an edge from z
    across : (e x y : ℕ) → Within (size g) e → is_allowed g e ≡ true → Within g.order x → Within g.order y → z x ≡ true → s y ≡ false → ((u : ℕ) → joined g s u y ≡ true → connects g (singleton x) (joined g s u) e ≡ true) → reached y ≡ true
    across e x y w ok wx wy zx sy h =
        let r = leader_of g s is y wy sy in
        let at = true_some (size g) (λ i. is_allowed g i && connects g (singleton x) (joined g s r.0) i) e w (and_from (is_allowed g e) (connects g (singleton x) (joined g s r.0) e) ok (h r.0 r.3)) in
        cover_in g is s near_parts lead r.0 y r.1 (and_from (is_least g s r.0) (some g.order (λ y. z y && touches g s y r.0)) r.2 (true_some g.order (λ y. z y && touches g s y r.0) x wx (and_from (z x) (touches g s x r.0) zx at))) r.3

    left : (a c : Bool) → c ≡ true → (a && c) ≡ false → a ≡ false
    left a c p q = grind arith

    into : (m : Set) → IsPerfect g none m → (e : ℕ) → Within (size g) e → m e ≡ true → (z (first_end g e) ≡ true → reached (second_end g e) ≡ true) × (z (second_end g e) ≡ true → reached (first_end g e) ≡ true)
    into m p e w t =
        let i = and_fails_second (m e) (inside g s e) t (count_zero (size g) (λ e. m e && inside g s e) (sat_inside g is s bar m p) e w) in
        let ok = is_allowed_found g e w (m, p, t) in (
          λ h. across e (first_end g e) (second_end g e) w ok (is e w).0 (is e w).1 h (and_fails_second (s (first_end g e)) (s (second_end g e)) (sub (first_end g e) (is e w).0 h) i) (λ u j. grind arith),
          λ h. across e (second_end g e) (first_end g e) w ok (is e w).1 (is e w).0 h (left (s (first_end g e)) (s (second_end g e)) (sub (second_end g e) (is e w).1 h) i) (λ u j. grind arith),
        )

    apart : (e : ℕ) → Within (size g) e → (z (first_end g e) ≡ true → reached (first_end g e) ≡ false) × (z (second_end g e) ≡ true → reached (second_end g e) ≡ false)
    apart e w = (λ h. covers_out g is s near_parts lead (first_end g e) (is e w).0 (sub (first_end g e) (is e w).0 h), λ h. covers_out g is s near_parts lead (second_end g e) (is e w).1 (sub (second_end g e) (is e w).1 h))

    sum_parts : (m : Set) → IsPerfect g none m → count g.order near_parts ≡ edges_in_cut g m reached
    sum_parts m p = total_congr g.order _ _ (λ u w. go u w (near_parts u) refl) ∙ cut_family g is s near_parts lead m
      where
        go : (u : ℕ) → Within g.order u → (c : Bool) → near_parts u ≡ c → bit (near_parts u) ≡ bit (near_parts u) * edges_in_cut g m (joined g s u)
        go u w false t = rw t (omega arith)
        go u w true t = rw t (let a = one_cut g is met s bar u b w (lead u t) wb sb m p in omega arith)

    none_in : (m : Set) → IsPerfect g none m → inner g m z ≡ 0
    none_in m p = total_none (size g) _ (λ e w. ap bit (less (m e) (s (first_end g e)) (s (second_end g e)) (z (first_end g e)) (z (second_end g e)) (sub (first_end g e) (is e w).0) (sub (second_end g e) (is e w).1) (count_zero (size g) (λ e. m e && inside g s e) (sat_inside g is s bar m p) e w)))
      where
        less : (k a c x y : Bool) → (x ≡ true → a ≡ true) → (y ≡ true → c ≡ true) → (k && (a && c)) ≡ false → (k && (x && y)) ≡ false
        less k a c x y h i q = grind arith

    -- a part of a barrier has edges to more components than it has vertices
    pub surplus : (x : ℕ) → Within g.order x → z x ≡ true → count g.order z + 1 ≤ count g.order near_parts
    surplus x wx zx =
        let m = met (union z reached) x b wx wb (ap (λ k. k || reached x) zx) (rw (zb, covers_out g is s near_parts lead b wb sb) refl) in
        let a = parity g is m.0 z m.1 in
        let i = none_in m.0 m.1 in
        let c = sum_parts m.0 m.1 in
        let d = cut_split g m.0 z reached (into m.0 m.1) apart in
        let k = m.2 in omega arith

  -- a vertex of the barrier and a component that it has an edge to
  pub star : (z u : ℕ) → Within g.order z → Within g.order u → s z ≡ true → is_least g s u ≡ true → touches g s z u ≡ true → (m : Set) × IsPerfect g (complement (union (singleton z) (joined g s u))) m
  star z u wz wu sz lu h =
      let f = some_true (size g) (λ e. is_allowed g e && connects g (singleton z) (joined g s u) e) h in
      let t = and_parts (is_allowed g f.0) (connects g (singleton z) (joined g s u) f.0) f.2 in
      let e : (e : ℕ) × Within (size g) e × (connects g (singleton z) (joined g s u) e ≡ true) = (f.0, f.1, t.1) in
      let zo = part_out g s u z is (leads_out g s u lu) sz in
      let z_out : (v : ℕ) → (z == v) ≡ true → joined g s u v ≡ false = λ v t. ap (joined g s u) (sym (eqb-true z v t)) ∙ zo in
      let a = is_allowed_says g f.0 t.0 in
      let m : Set = a.0 in
      let one = parity g is m (singleton z) a.1 in
      let c = count_singleton g.order z wz in
      let k = one_cut g is met s bar u b wu lu wb sb m a.1 in
      let parted = two_cuts g m (singleton z) (joined g s u) in
      let w : bit (m e.0 && connects g (minus (singleton z) (joined g s u)) (minus (joined g s u) (singleton z)) e.0) ≡ 1 = ap bit (and_from (m e.0) _ a.2 (grind arith)) in
      let y = at_le_total (size g) (λ i. bit (m i && connects g (minus (singleton z) (joined g s u)) (minus (joined g s u) (singleton z)) i)) e.0 e.1 in
      let q : edges_in_cut g m (union (singleton z) (joined g s u)) ≡ 0 = omega arith in
      (_, restrict g m (union (singleton z) (joined g s u)) a.1 q)

  -- the graph without a vertex of the barrier and a component
  module _ (l : ℕ) (wl : Within g.order l) (ll : is_least g s l ≡ true) where
    abbrev from : Set
    from = minus s (singleton b)

    abbrev others : Set
    others = minus (is_least g s) (singleton l)

    from_s : (v : ℕ) → from v ≡ true → (s v ≡ true) × ((b == v) ≡ false)
    from_s v h = grind arith

    others_l : (v : ℕ) → others v ≡ true → (is_least g s v ≡ true) × ((l == v) ≡ false)
    others_l v h = grind arith

    enough : (z : Set) → count g.order (meet z from) ≤ count g.order (neighbours g.order (touches g s) others (meet z from))
    enough z = elim (cases_eq (count g.order (meet z from)) 0) [
      | inl e ↦ omega arith
      | inr e ↦
          let y : Set = meet z from in
          let x = count_member g.order (meet z from) (omega arith) in
          let more = surplus (meet z from) (λ v w h. (from_s v (and_parts (z v) (from v) h).1).0) (grind arith) x.0 x.1 x.2 in
          let first_end = total_le g.order (λ v. bit (neighbours g.order (touches g s) (is_least g s) (meet z from) v)) (λ v. bit (neighbours g.order (touches g s) others (meet z from) v) + bit (singleton l v)) (λ v t. grind arith) in
          let near' = total_add g.order (λ v. bit (neighbours g.order (touches g s) others (meet z from) v)) (λ v. bit (singleton l v)) in
          let k = count_singleton g.order l wl in omega arith
    ]

    picks : Picks g.order (touches g s) from others
    picks = hall g.order (touches g s) (count g.order from) from others (omega arith) enough

    as_many : count g.order from ≡ count g.order others
    as_many = let a = count_minus g.order s b wb sb in let c = count_minus g.order (is_least g s) l wl ll in let d = many_parts g is met s bar b wb sb in omega arith

    abbrev star_set : ℕ → Set
    star_set z = union (singleton z) (joined g s (picks.to z))

    abbrev so_far : ℕ → Set
    so_far k v = some k (λ z. from z && star_set z v)

    in_star : (z v : ℕ) → (from z && star_set z v) ≡ true → (from z ≡ true) × ((z ≡ v) ⊎ (joined g s (picks.to z) v ≡ true))
    in_star z v h = grind arith

    in_part : (z v : ℕ) → Within g.order z → from z ≡ true → joined g s (picks.to z) v ≡ true → s v ≡ false
    in_part z v wz fz j = joined_outside g s is (picks.to z) v (leads_out g s (picks.to z) (others_l (picks.to z) (picks.lands z wz fz).1).0) j

    -- two stars with a vertex in common are one
    star_apart : (y z v : ℕ) → Within g.order y → Within g.order z → Within g.order v → (from y && star_set y v) ≡ true → (from z && star_set z v) ≡ true → y ≡ z
    star_apart y z v wy wz wv hy hz = grind (arith, in_star, both_ways, in_part, from_s, leader_same, others_l)

    abbrev left_over : Set
    left_over v = not (b == v) && not (joined g s l v)

    all_stars : (v : ℕ) → Within g.order v → so_far g.order v ≡ left_over v
    all_stars v w = same_tests _ _ there back
      where
        there : so_far g.order v ≡ true → left_over v ≡ true
        there h = let z = some_true g.order (λ z. from z && star_set z v) h in let p = in_star z.0 v z.2 in
            elim p.1 [
              | inl e ↦ let q = from_s z.0 p.0 in rw (ap (λ i. b == i) (sym e) ∙ q.1, part_out g s l v is (leads_out g s l ll) (ap s (sym e) ∙ q.0)) refl
              | inr j ↦
                  let a = picks.lands z.0 z.1 p.0 in let c = others_l (picks.to z.0) a.1 in
                  let n_b : (b == v) ≡ false = ne_eqb b v (λ e. both_ways (s v) (in_part z.0 v z.1 p.0 j) (ap s (sym e) ∙ sb)) in
                  let n_l : joined g s l v ≡ false = false_from_ne_true _ (λ t. both_ways (l == picks.to z.0) c.1 (eq-eqb _ _ (leader_same g s is l v (picks.to z.0) wl w a.0 ll t c.0 j))) in
                  rw (n_b, n_l) refl
            ]

        back : left_over v ≡ true → so_far g.order v ≡ true
        back h =
            let p = both_off (b == v) (joined g s l v) h in
            elim (cases_Bool (s v)) [
              | inl t ↦ true_some g.order (λ z. from z && star_set z v) v w (grind arith)
              | inr f ↦
                  let r = leader_of g s is v w f in
                  let n_l : (l == r.0) ≡ false = ne_eqb l r.0 (λ e. both_ways (joined g s l v) p.1 (ap (λ i. joined g s i v) e ∙ r.3)) in
                  let k = hits g.order (touches g s) from others picks as_many r.0 r.1 (rw (r.2, n_l) refl) in
                  true_some g.order (λ z. from z && star_set z v) k.0 k.1 (grind arith)
            ]
          where
            both_off : (a c : Bool) → (not a && not c) ≡ true → (a ≡ false) × (c ≡ false)
            both_off a c h = grind arith

    pub join : (m : Set) × IsPerfect g (complement left_over) m
    join =
        let m = glue_family g is from star_set
        (λ z w h. let r = picks.lands z w h in star z (picks.to z) w r.0 (from_s z h).0 (others_l (picks.to z) r.1).0 r.2)
        (λ y z v wy wz wv fy hy fz hz. star_apart y z v wy wz wv (and_from (from y) (star_set y v) fy hy) (and_from (from z) (star_set z v) fz hz)) in (m.0, perfect_congr g (complement (so_far g.order)) (complement left_over) m.0 (λ v w. ap not (all_stars v w)) m.1)
