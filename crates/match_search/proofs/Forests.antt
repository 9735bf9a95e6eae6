-- Alternating forests: the first one, how many outer vertices there are, and the frame of a
-- forest that is closed. Outer and covered inner vertices are paired by the matching; in a closed
-- forest each outer vertex is a class by itself.
use Rattle.graph_core.proofs.from_counting.Common.{◌≡◌, ℕ, suc, zero, ◌+◌, ◌*◌, ◌≤◌, ◌≢◌, Bool, true, false, cond, ◌==◌, refl, sym, ap, ◌∙◌, arith, ◌&&◌, not, eq-eqb, inl, inr, nat_lt, nat_le, lt-ltb, le-ltb, cases_eq, and_from, both_ways, true≢false, false_from_ne_true, le-leb, lt-leb, at_le_total, total_add, total_congr, Within, bit, count, is_odd, total, Set, none, union}
use Rattle.graph_core.proofs.Common.{bit_same, ends_le_degree, ends_of_is, missed_edges, two_ends_le_degree, Graph, IsGraph, degree, first_end, second_end, size, HasEnds, IsMatching, missed_count}
use Rattle.match_search.proofs.Certificates.{ends_total}
use Rattle.match_search.proofs.AlternatingPaths.{flipped_count, flipped_end, flipped_matching}
use Rattle.match_search.specs.Common.{IsAlternatingForest, flipped, Frame}

-- an edge of f at a vertex
pub met : (g : Graph) (f : Set) (d x y : ℕ) → Within (size g) d → f d ≡ true → HasEnds g d x y → (1 ≤ degree g f x) × (1 ≤ degree g f y)
met g f d x y w fd ends = grind (arith, ends_le_degree g f d x w fd, ends_of_is g d x y ends x, bit_same x, ends_le_degree g f d y w fd, ends_of_is g d x y ends y, bit_same y)

-- two edges of a matching with a common end are one
pub one_edge : (g : Graph) (r f : Set) → IsMatching g r f → (d e x y z : ℕ) → Within g.order x → Within (size g) d → Within (size g) e → f d ≡ true → f e ≡ true → HasEnds g d x y → HasEnds g e x z → d ≡ e
one_edge g r f mm d e x y z wx wd we fd fe p q = grind (arith, cases_eq d e, two_ends_le_degree g f d e x wd we, ends_of_is g d x y p x, ends_of_is g e x z q x, bit_same x)

pub turned : (g : Graph) (d x y : ℕ) → HasEnds g d x y → HasEnds g d y x
turned g d x y p = elim p [ inl a ↦ inr a | inr a ↦ inl a ]

-- the vertices that f misses are a forest
module _ (g : Graph) (is : IsGraph g) (r f : Set) (mm : IsMatching g r f) where
  abbrev pub first_outer : Set
  first_outer v = (nat_lt 0 v && nat_le v g.order) && (not (r v) && (degree g f v == 0))

  pub first_parts : (v : ℕ) → first_outer v ≡ true → Within g.order v × (r v ≡ false) × (degree g f v ≡ 0)
  first_parts v t = grind arith

  not_first : (v : ℕ) → 1 ≤ degree g f v → first_outer v ≡ false
  not_first v l = false_from_ne_true (first_outer v) (λ t. let a = (first_parts v t).2 in absurd (omega arith))

  pub forest_start : IsAlternatingForest g r f first_outer none (λ u. 0) (λ u j. u) (λ u j. 0)
  forest_start = record {
    outer_in = λ u t. let a = first_parts u t in (a.0, a.1);
    inner_in = λ u t. absurd (true≢false (sym t));
    apart = λ u t. refl;
    misses = λ u w ru du. and_from (nat_lt 0 u && nat_le u g.order) (not (r u) && (degree g f u == 0)) (and_from (nat_lt 0 u) (nat_le u g.order) (lt-ltb 0 u (omega arith)) (le-leb u g.order (omega arith))) (and_from (not (r u)) (degree g f u == 0) (ap not ru) (eq-eqb (degree g f u) 0 du));
    mates = λ d w fd. let a = met g f d (first_end g d) (second_end g d) w fd (inl (refl, refl)) in (not_first (first_end g d) a.0, sym (not_first (second_end g d) a.1));
    seen = λ u t. absurd (true≢false (sym t));
    path = λ u t. let a = first_parts u t in record {
      path = record {
        apart = λ i j wi wj q. omega arith;
        within = λ i w. a.0;
        outside = λ i w. a.1;
        real = λ i w. absurd (omega arith);
        ends = λ i w. absurd (omega arith);
      };
      free = a.2;
      turns = λ i w. absurd (omega arith);
    };
    last = λ u t. refl;
    sides = λ u t j w. let z : j ≡ 0 = omega arith in (t ∙ sym (ap (λ k. not (is_odd k)) z), sym (ap is_odd z));
  }

module _ (g : Graph) (is : IsGraph g) (r f : Set) (mm : IsMatching g r f) (outer inner : Set) (k : ℕ → ℕ) (v e : ℕ → ℕ → ℕ) (forest : IsAlternatingForest g r f outer inner k v e) where
  pub mates_of : (d x y : ℕ) → Within (size g) d → f d ≡ true → HasEnds g d x y → (outer x ≡ inner y) × (inner x ≡ outer y)
  mates_of d x y w fd ends = grind arith

  -- no edge of f joins two outer vertices, and none an outer one and one outside the forest
  pub outer_edge : (d x y : ℕ) → Within (size g) d → HasEnds g d x y → outer x ≡ true → inner y ≡ false → f d ≡ false
  outer_edge d x y w ends ox iy = false_from_ne_true (f d) (λ t. both_ways (inner y) iy (sym (mates_of d x y w t ends).0 ∙ ox))

  -- as many outer vertices as inner ones and missed ones
  pub forest_size : count g.order outer ≡ count g.order inner + missed_count g r f
  unfolding missed_count
  forest_size =
      let a = total_congr g.order (λ u. bit (outer u)) (λ u. bit (not (r u) && (degree g f u == 0)) + bit (outer u) * degree g f u) (λ u w. each u w) in
      let b = total_add g.order (λ u. bit (not (r u) && (degree g f u == 0))) (λ u. bit (outer u) * degree g f u) in
      let c = ends_total g is f outer in
      let d = ends_total g is f inner in
      let i : total g.order (λ u. bit (inner u) * degree g f u) ≡ count g.order inner = total_congr g.order _ _ (λ u w. ones u) in
      let x : count (size g) (λ d. f d && outer (first_end g d)) ≡ count (size g) (λ d. f d && inner (second_end g d)) = total_congr (size g) _ _ (λ d w. ap bit (grind arith)) in
      let y : count (size g) (λ d. f d && outer (second_end g d)) ≡ count (size g) (λ d. f d && inner (first_end g d)) = total_congr (size g) _ _ (λ d w. ap bit (grind arith)) in
      omega arith
    where
      ones : (u : ℕ) → bit (inner u) * degree g f u ≡ bit (inner u)
      ones u = grind arith

      each : (u : ℕ) → Within g.order u → bit (outer u) ≡ bit (not (r u) && (degree g f u == 0)) + bit (outer u) * degree g f u
      each u w = grind arith

  -- where each edge from an outer vertex leads to an inner one
  module _ (closed : (d x y : ℕ) → Within (size g) d → HasEnds g d x y → r x ≡ false → r y ≡ false → x ≢ y → outer x ≡ true → inner y ≡ true) where
    abbrev rank : ℕ → ℕ
    rank u = cond (outer u) (count u outer) 0

    one_class : (n j : ℕ) → 1 ≤ j → count n (λ u. rank u == j) ≡ bit (nat_le j (count n outer))
    one_class zero j l = sym (ap bit (lt-leb j 0 (omega arith)))
    one_class (suc n) j l = go (outer (suc n)) refl (one_class n j l)
      where
        go : (b : Bool) → outer (suc n) ≡ b → count n (λ u. rank u == j) ≡ bit (nat_le j (count n outer)) → count n (λ u. rank u == j) + bit (rank (suc n) == j) ≡ bit (nat_le j (count n outer + bit (outer (suc n))))
        go b q h = grind arith

    count_more_terms : (n u : ℕ) → u ≤ n → count u outer ≤ count n outer
    count_more_terms zero u l = let z : u ≡ 0 = omega arith in let a = ap (λ s. count s outer) z in omega arith
    count_more_terms (suc n) u l = elim (cases_eq u (suc n)) [
      | inl q ↦ let a = ap (λ s. count s outer) q in omega arith
      | inr q ↦ let a = count_more_terms n u (omega arith) in omega arith
    ]

    rank_not : (u : ℕ) → outer u ≡ false → rank u ≡ 0
    rank_not u q = ap (λ s. cond s (count u outer) 0) q

    odd_one : (j : ℕ) → Within (count g.order outer) j → is_odd (count g.order (λ u. rank u == j)) ≡ true
    odd_one j w = ap is_odd (one_class g.order j w.0 ∙ ap bit (le-leb j (count g.order outer) w.1))

    not_outer : (u : ℕ) → union r inner u ≡ true → outer u ≡ false
    not_outer u t = grind arith

    ends_not_outer : (d x y : ℕ) → Within (size g) d → HasEnds g d x y → x ≢ y → union r inner x ≡ false → union r inner y ≡ false → outer x ≡ false
    ends_not_outer d x y w ends n a b = grind arith

    -- the frame of a final forest: each outer vertex is a class
    pub final_frame : Frame g r (count (size g) f) outer inner
    final_frame = record {
      label = rank;
      classes = count g.order outer;
      certificate = record {
        outside = λ u w t. (forest.inner_in u t).1;
        labels = record {
          low = λ u w. low u w (outer u);
          away = λ u w t. rank_not u (not_outer u t);
          along = λ d w a b. elim (cases_eq (first_end g d) (second_end g d)) [
            | inl q ↦ ap rank q
            | inr q ↦ rank_not (first_end g d) (ends_not_outer d (first_end g d) (second_end g d) w (inl (refl, refl)) q a b) ∙ sym (rank_not (second_end g d) (ends_not_outer d (second_end g d) (first_end g d) w (inr (refl, refl)) (λ s. q (sym s)) b a))
          ];
          odd = odd_one;
        };
        sizes = let a = missed_edges g r f is mm in let b = forest_size in omega arith;
      };
      labelled = λ u w. labelled u w (outer u) refl;
      missable = λ u w t. let p = forest.path u t in let kk : k u ≤ k u = omega arith in (
        flipped f (e u) (k u),
        flipped_matching g r f mm (k u) (v u) (e u) p (k u) kk,
        flipped_count g r f mm (k u) (v u) (e u) p (k u) kk,
        ap (degree g (flipped f (e u) (k u))) (sym (forest.last u t)) ∙ flipped_end g r f mm (k u) (v u) (e u) p (k u) kk,
      );
      seen = λ u w t. forest.seen u t;
    }
      where
        low : (u : ℕ) → Within g.order u → (b : Bool) → cond b (count u outer) 0 ≤ count g.order outer
        low u w b = grind (arith, count_more_terms)

        labelled : (u : ℕ) → Within g.order u → (b : Bool) → outer u ≡ b → outer u ≡ nat_lt 0 (rank u)
        labelled u w false q = q ∙ sym (ap (nat_lt 0) (rank_not u q) ∙ le-ltb 0 0 (omega arith))
        labelled u w true q =
            let a = at_le_total u (λ u. bit (outer u)) u (omega arith) in
            let b = ap bit q in
            let c : rank u ≡ count u outer = ap (λ s. cond s (count u outer) 0) q in
            q ∙ sym (lt-ltb 0 (rank u) (omega arith))
