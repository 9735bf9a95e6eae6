-- The paths of a forest in the shrunk graph: where a set of its vertices is shrunk to its base, the
-- path of an outer vertex leaves out the places between the base and the last one in the set. So
-- each of its vertices is outside the set or is the base, where the degrees are what they were.
use Rattle.graph_core.proofs.from_counting.Common.{◌≡◌, ◌≢◌, ℕ, suc, ◌+◌, ◌-◌, ◌≤◌, ◌<◌, ◌⊎◌, true, false, cond, refl, sym, ap, ◌∙◌, arith, not, ◌&&◌, inl, inr, and_true, both_ways, cases_eq, cases_lt}
use Rattle.graph_core.proofs.Common.{HasEnds, degree}
use Rattle.match_search.specs.Common.{IsAlternating, shrunk_vertex}
use Rattle.match_search.proofs.CrossingPaths.{Way}
use Rattle.match_search.proofs.Forests.{turned}
use Rattle.match_search.proofs.LongerPaths.{ends_by}
use Rattle.match_search.proofs.ShrunkForests.{H, ShrunkForest, Stays, in_h, left_edges, off_left, pulled_at_stay, rs, stays_degree, stays_left}
use Rattle.match_search.proofs.ShrunkInstances.{pulled_ends}
use Rattle.match_search.proofs.SkippedPlaces.{edge_high, edge_low, edge_next, edge_none, edge_odd, edge_off, edge_place, place, place_apart, place_high, place_low, place_none}

module _ (given : ShrunkForest) where
  open given use {g, r, f, outer, c, z, es, shrunk, e1, fits}
  open given.walked use {k, v, e, forest}

  abbrev base : ℕ
  base = k z + k z

  pulled_in : (w : ℕ) → c w ≡ true → shrunk_vertex c z w ≡ z
  pulled_in w q = ap (λ b. cond b z w) q

  -- the path of an outer vertex that stays, which crosses c by s pairs or avoids it
  module _ (u s : ℕ) (o : outer u ≡ true) (st : Stays c z u) (way : Way c k v z u s) where
    abbrev pub length_of : ℕ
    length_of = k u - s

    abbrev pub at : ℕ → ℕ
    at j = v u (place base (s + s) j)

    abbrev pub on : ℕ → ℕ
    on j = edge_place base (s + s) j

    abbrev old : IsAlternating g r f (k u) (v u) (e u)
    old = forest.path u o

    pub few : s ≤ k u
    few = grind arith

    pub place_fits : (j : ℕ) → j ≤ length_of + length_of → place base (s + s) j ≤ k u + k u
    place_fits j l = grind (arith, few, cases_lt, place_high, place_low)

    edge_fits : (j : ℕ) → j < length_of + length_of → on j < k u + k u
    edge_fits j l = let a = edge_next base (s + s) j in let b = place_fits (suc j) (omega arith) in omega arith

    stays_low : (j : ℕ) → j ≤ base → j ≤ k u + k u → Stays c z (v u j)
    stays_low j h l = elim way [
      | inl x ↦ elim (cases_eq j base) [
        | inl q ↦ inr (x.over j h ∙ ap (v z) q ∙ forest.last z fits.base_outer)
        | inr q ↦ inl (ap c (x.over j h) ∙ fits.stem j (omega arith))
      ]
      | inr x ↦ inl (x.1 j l)
    ]

    out_high : (j : ℕ) → base < j → j ≤ length_of + length_of → c (v u (j + (s + s))) ≡ false
    out_high j h l = grind (arith, few)

    pub stays_at : (j : ℕ) → j ≤ length_of + length_of → Stays c z (at j)
    stays_at j l = grind (arith, cases_lt, place_high, out_high, place_low, stays_low)

    -- the edges lead on from what their first ends became
    pulled_same : (j : ℕ) → j < length_of + length_of → on j ≡ place base (s + s) j → at j ≡ shrunk_vertex c z (v u (on j))
    pulled_same j l q = sym (pulled_at_stay given (at j) (stays_at j (omega arith))) ∙ ap (λ i. shrunk_vertex c z (v u i)) (sym q)

    pulled_first : (j : ℕ) → j < length_of + length_of → at j ≡ shrunk_vertex c z (v u (on j))
    pulled_first j l = grind (arith, cases_eq, pulled_same, edge_off, edge_none, place_none, edge_high, place_low, pulled_in)

    pulled_second : (j : ℕ) → j < length_of + length_of → at (suc j) ≡ shrunk_vertex c z (v u (suc (on j)))
    pulled_second j l = sym (pulled_at_stay given (at (suc j)) (stays_at (suc j) (omega arith))) ∙ ap (λ i. shrunk_vertex c z (v u i)) (edge_next base (s + s) j)

    -- no edge of the new path has both ends in c
    one_out : (j : ℕ) → j < length_of + length_of → (c (v u (on j)) ≡ false) ⊎ (c (v u (suc (on j))) ≡ false)
    one_out j l = elim way [
      | inr x ↦ inl (x.1 (on j) (let a = edge_fits j l in omega arith))
      | inl x ↦ elim (cases_lt j base) [
        | inl h ↦ inl (ap (λ i. c (v u i)) (edge_low base (s + s) j h) ∙ ap c (x.over j (omega arith)) ∙ fits.stem j h)
        | inr h ↦ inr (x.beyond (suc (on j)) (let a = edge_high base (s + s) j h in omega arith) (let a = edge_fits j l in omega arith))
      ]
    ]

    ends_at : (j : ℕ) → j < length_of + length_of → HasEnds g (e u (on j)) (v u (on j)) (v u (suc (on j)))
    ends_at j l = old.path.ends (on j) (edge_fits j l)

    off : (j : ℕ) → j < length_of + length_of → e1 (e u (on j)) ≡ false
    off j l = let w = old.path.real (on j) (edge_fits j l) in elim (one_out j l) [
      | inl q ↦ off_left given (e u (on j)) (v u (on j)) (v u (suc (on j))) w (ends_at j l) q
      | inr q ↦ off_left given (e u (on j)) (v u (suc (on j))) (v u (on j)) w (turned g (e u (on j)) (v u (on j)) (v u (suc (on j))) (ends_at j l)) q
    ]

    pub new_path : IsAlternating (H given) (rs given) (left_edges given) length_of at (λ j. e u (on j))
    new_path = record {
      path = record {
        apart = λ i j li lj q. place_apart base (s + s) i j (old.path.apart (place base (s + s) i) (place base (s + s) j) (place_fits i li) (place_fits j lj) q);
        within = λ i l. old.path.within (place base (s + s) i) (place_fits i l);
        outside = λ i l. stays_left given (at i) (stays_at i l) (old.path.outside (place base (s + s) i) (place_fits i l));
        real = λ i l. in_h given (e u (on i)) (old.path.real (on i) (edge_fits i l));
        ends = λ i l. ends_by (H given) (e u (on i)) (e u (on i)) (at i) (shrunk_vertex c z (v u (on i))) (at (suc i)) (shrunk_vertex c z (v u (suc (on i)))) refl (pulled_first i l) (pulled_second i l)
            (pulled_ends g c z es shrunk fits.base (e u (on i)) (v u (on i)) (v u (suc (on i))) (old.path.real (on i) (edge_fits i l)) (ends_at i l));
      };
      free = stays_degree given (at 0) (stays_at 0 (omega arith)) ∙ ap (λ i. degree g f (v u i)) (place_low base (s + s) 0 (omega arith)) ∙ old.free;
      turns = λ i l. ap (λ b. f (e u (on i)) && not b) (off i l) ∙ and_true (f (e u (on i))) ∙ old.turns (on i) (edge_fits i l) ∙ edge_odd base s i;
    }

    pub new_last : at (length_of + length_of) ≡ u
    new_last = ap (v u) here ∙ forest.last u o
      where
        here : place base (s + s) (length_of + length_of) ≡ k u + k u
        here = let small = few in elim way [
          | inr x ↦ let a = x.0 in let b = place_none base (s + s) (length_of + length_of) (omega arith) in omega arith
          | inl x ↦ elim st [
            | inr q ↦ let w = x.within in let a = ap k q in let b = place_low base (s + s) (length_of + length_of) (omega arith) in omega arith
            | inl q ↦
                let w = x.within in
                let n : k z + s ≢ k u = λ t. both_ways (c u) q (ap c (sym (forest.last u o)) ∙ ap (λ i. c (v u (i + i))) (sym t) ∙ x.last) in
                let b = place_high base (s + s) (length_of + length_of) (omega arith) in omega arith
          ]
        ]
