-- A blossom opened by mates: an edge is taken out, another is put in its place at the tip, and
-- the cycle is paired round from there. Each change is one of a few edges, so the mates change at
-- their ends alone.
use Rattle.graph_core.proofs.from_counting.Common.{◌≡◌, ◌≢◌, ℕ, zero, suc, ◌+◌, ◌≤◌, Bool, true, false, cond, ◌==◌, refl, sym, ap, ◌∙◌, arith, eq-eqb, ne_eqb, eqb-true, inl, inr, ◌⊎◌, not, ◌&&◌, subst, cases_Bool, cases_eq, both_ways, and_parts, and_from, true≢false, count_put, some_true, true_some, Within, bit, count, Set, put, union}
use Rattle.graph_core.proofs.Common.{degree_put, edge_at, ends_of_is, Graph, HasEnds, IsGraph, degree, size, IsMatching}
use Rattle.match_search.specs.Common.{IsNearPerfect, HasMates, paired_round, with_mate, with_pair, IsOddCycle, every_other, listed, next, picked}
use Rattle.match_search.proofs.Forests.{met, one_edge, turned}
use Rattle.match_search.proofs.MatePairs.{with_here, with_there}
use Rattle.match_search.proofs.OddCycles.{edges_apart, every_other-near_perfect, next_in}
use Rattle.match_search.proofs.NearPerfectSets.{bit_union, count_split, degree_split}

-- a pair less
module _ (g : Graph) (r m : Set) (mate : ℕ → ℕ) (has : HasMates g r m mate) (d v w : ℕ) (wd : Within (size g) d) (md : m d ≡ true) (ends : HasEnds g d v w) where
  abbrev pub less : Set
  less = put m d false

  less_degree : (u : ℕ) → degree g less u + (bit (v == u) + bit (w == u)) ≡ degree g m u
  less_degree u = grind (arith, degree_put, ends_of_is, true≢false)

  pub less_count : count (size g) less + 1 ≡ count (size g) m
  less_count = let a = count_put (size g) m d false wd in let b = ap bit md in omega arith

  pub less_pairs : HasMates g r less (with_mate (with_mate mate v 0) w 0)
  less_pairs = grind (arith, less_degree, cases_eq w, eq-eqb w, cases_eq v, eq-eqb v, with_here (with_mate mate v 0) w 0, with_there (with_mate mate v 0) w 0, with_there mate v 0)

-- the cycle paired round from place t
module _ (g : Graph) (is : IsGraph g) (r : Set) (n : ℕ) (c e : ℕ → ℕ) (cyc : IsOddCycle g r n c e) (t : ℕ) (wt : Within n t) where
  abbrev pub et : Set
  et = picked n (every_other t) e

  near : IsNearPerfect g (listed n c) (c t) et
  near = every_other-near_perfect g r n c e cyc t wt

  et_matching : IsMatching g (λ v. false) et
  et_matching = record {
    once = λ v w. let a = near.degrees v w in let b = le (listed n c v && not (v == c t)) in omega arith;
    away = λ v w q. absurd (true≢false (sym q));
  }
    where
      le : (b : Bool) → bit b ≤ 1
      le b = grind arith

  et_holds : (i : ℕ) → Within n i → every_other t i ≡ true → et (e i) ≡ true
  et_holds i w q = true_some n (λ j. every_other t j && (e j == e i)) i w (and_from (every_other t i) (e i == e i) q (eq-eqb (e i) (e i) refl))

  et_met : (i : ℕ) → Within n i → every_other t i ≡ true → (1 ≤ degree g et (c i)) × (1 ≤ degree g et (c (next n i)))
  et_met i w q = met g et (e i) (c i) (c (next n i)) (cyc.real i w) (et_holds i w q) (cyc.ends i w)

  -- a vertex that these edges miss keeps its mate
  pub round_keeps : (mate : ℕ → ℕ) (k u : ℕ) → k ≤ n → degree g et u ≡ 0 → paired_round mate n c t k u ≡ mate u
  round_keeps mate zero u l z = refl
  round_keeps mate (suc k) u l z = go (every_other t (suc k)) refl (round_keeps mate k u (omega arith) z)
    where
      go : (b : Bool) → every_other t (suc k) ≡ b → paired_round mate n c t k u ≡ mate u → cond b (with_pair (paired_round mate n c t k) (c (suc k)) (c (next n (suc k))) u) (paired_round mate n c t k u) ≡ mate u
      go b q rest = grind (arith, et_met (suc k), with_there)

  next_other : (i : ℕ) → Within n i → c i ≢ c (next n i)
  next_other i w q = grind arith

  -- two of these edges have no common end
  apart : (i j x y z : ℕ) → Within n i → Within n j → every_other t i ≡ true → every_other t j ≡ true → i ≢ j → Within g.order x → HasEnds g (e i) x y → HasEnds g (e j) x z → ⊥
  apart i j x y z wi wj qi qj d wx hi hj = d (edges_apart g r n c e cyc i j wi wj (one_edge g (λ v. false) et et_matching (e i) (e j) x y z wx (cyc.real i wi) (cyc.real j wj) (et_holds i wi qi) (et_holds j wj qj) hi hj))

  -- each pair is joined by the mates
  pub round_pairs : (mate : ℕ → ℕ) (k i : ℕ) → k ≤ n → Within k i → every_other t i ≡ true → (paired_round mate n c t k (c i) ≡ c (next n i)) × (paired_round mate n c t k (c (next n i)) ≡ c i)
  round_pairs mate zero i l w q = absurd (omega arith)
  round_pairs mate (suc k) i l w q = elim (cases_eq i (suc k)) [
    | inl s ↦ grind (arith, with_there, next_other, with_here)
    | inr s ↦ let old = round_pairs mate k i (omega arith) (below i w s) q in (there (c i) (c (next n i)) i (omega arith) q s (cyc.within i (omega arith)) (cyc.ends i (omega arith)) ∙ old.0, there (c (next n i)) (c i) i (omega arith) q s (cyc.within (next n i) (next_in n i (omega arith))) (turned g (e i) (c i) (c (next n i)) (cyc.ends i (omega arith))) ∙ old.1)
  ]
    where
      below : (i : ℕ) → Within (suc k) i → i ≢ suc k → Within k i
      below i w s = omega arith

      there : (u v i : ℕ) → Within n i → every_other t i ≡ true → i ≢ suc k → Within g.order u → HasEnds g (e i) u v → paired_round mate n c t (suc k) u ≡ paired_round mate n c t k u
      there u v j w_j q_j s wu ends = go (every_other t (suc k)) refl
        where
          go : (b : Bool) → every_other t (suc k) ≡ b → cond b (with_pair (paired_round mate n c t k) (c (suc k)) (c (next n (suc k))) u) (paired_round mate n c t k u) ≡ paired_round mate n c t k u
          go false o = refl
          go true o =
              with_there (with_mate (paired_round mate n c t k) (c (suc k)) (c (next n (suc k)))) (c (next n (suc k))) (c (suc k)) u (λ h. far h)
              ∙ with_there (paired_round mate n c t k) (c (suc k)) (c (next n (suc k))) u (λ h. close h)
            where
              wk : Within n (suc k)
              wk = omega arith

              far : u ≡ c (next n (suc k)) → ⊥
              far h = apart j (suc k) u v (c (suc k)) w_j wk q_j o s wu ends (subst (λ (x : ℕ). HasEnds g (e (suc k)) x (c (suc k))) (sym h) (turned g (e (suc k)) (c (suc k)) (c (next n (suc k))) (cyc.ends (suc k) wk)))

              close : u ≡ c (suc k) → ⊥
              close h = apart j (suc k) u v (c (next n (suc k))) w_j wk q_j o s wu ends (subst (λ (x : ℕ). HasEnds g (e (suc k)) x (c (next n (suc k)))) (sym h) (cyc.ends (suc k) wk))

  -- a matching that misses the cycle except for place t, with these edges
  module _ (m : Set) (mate : ℕ → ℕ) (has : HasMates g r m mate) (missed : (v : ℕ) → Within g.order v → listed n c v ≡ true → v ≢ c t → degree g m v ≡ 0) (cr : (v : ℕ) → listed n c v ≡ true → r v ≡ false) where
    abbrev pub full : Set
    full = union m et

    apart_sets : (i : ℕ) → Within (size g) i → m i ≡ true → et i ≡ true → ⊥
    apart_sets i w a b =
        let s = some_true n (λ j. every_other t j && (e j == i)) b in
        let p = and_parts (every_other t s.0) (e s.0 == i) s.2 in
        let q = eqb-true (e s.0) i p.1 in
        let ends = subst (λ (x : ℕ). HasEnds g x (c s.0) (c (next n s.0))) q (cyc.ends s.0 s.1) in
        let in_m = (met g m i (c s.0) (c (next n s.0)) w a ends).0 in
        let in_et = (et_met s.0 s.1 p.0).0 in
        let z = near.degrees (c s.0) (cyc.within s.0 s.1) in
        off (c s.0) (cyc.within s.0 s.1) z in_et in_m
      where
        off : (v : ℕ) → Within g.order v → degree g et v ≡ bit (listed n c v && not (v == c t)) → 1 ≤ degree g et v → 1 ≤ degree g m v → ⊥
        off v wv z a b = grind arith

    full_degree : (v : ℕ) → degree g full v ≡ degree g m v + degree g et v
    full_degree v = degree_split g full m et v (λ i w. bit_union (m i) (et i) (apart_sets i w))

    pub full_count : count (size g) full ≡ count (size g) m + count (size g) et
    full_count = count_split (size g) full m et (λ i w. bit_union (m i) (et i) (apart_sets i w))

    -- a vertex is missed by one of the two at least
    one_misses : (v : ℕ) → Within g.order v → (degree g et v ≡ 0) ⊎ ((degree g et v ≡ 1) × (degree g m v ≡ 0) × (listed n c v ≡ true))
    one_misses v w = grind (arith, cases_Bool, cases_eq, near, bit, eq-eqb, ne_eqb)

    pub full_pairs : HasMates g r full (paired_round mate n c t n)
    full_pairs = record {
      matching = record {
        once = λ v w. let d = full_degree v in let o = has.matching.once v w in elim (one_misses v w) [ inl z ↦ omega arith | inr z ↦ let a = z.0 in let b = z.1 in omega arith ];
        away = λ v w q. let d = full_degree v in let o = has.matching.away v w q in elim (one_misses v w) [ inl z ↦ omega arith | inr z ↦ absurd (both_ways (r v) (cr v z.2) q) ];
      };
      exposed = λ v w q. elim (one_misses v w) [
        | inl z ↦ let d = full_degree v in let x = has.exposed v w (sym (round_keeps mate n v (omega arith) z) ∙ q) in omega arith
        | inr z ↦ let p = partner v w z.0 in absurd (let a = p.2 ∙ q in let b = p.1 in omega arith)
      ];
      paired = λ v w q. elim (one_misses v w) [
        | inl z ↦ grind (arith, round_keeps mate n v)
        | inr z ↦ let p = partner v w z.0 in let d = p.3 in (d.0, d.1, in_full d.0 d.2, subst (λ (x : ℕ). HasEnds g d.0 v x) p.2 d.3)
      ];
    }
      where
        in_full : (d : ℕ) → et d ≡ true → full d ≡ true
        in_full d q = Rattle.std.proofs.lemmas.Bool.or_right (m d) (et d) q

        -- the other end of the edge of the cycle at v
        partner : (v : ℕ) → Within g.order v → degree g et v ≡ 1 → (u : ℕ) × (1 ≤ u) × (u ≡ paired_round mate n c t n v) × ((d : ℕ) × Within (size g) d × (et d ≡ true) × HasEnds g d v u)
        partner v w z = grind (arith, edge_at g et v, some_true n, and_parts, eqb-true, round_pairs mate n)
