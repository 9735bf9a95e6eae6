-- From a matching to a single ear. If the matching leads out of the stage at two vertices alone,
-- each ear that it makes with the kept one has these for its ends, so it serves alone.
use Rattle.graph_core.proofs.from_counting.Common.{◌≡◌, ◌≢◌, ℕ, ◌+◌, ◌≤◌, Bool, true, false, cond, ◌==◌, ◌&&◌, ◌||◌, not, refl, sym, ap, ◌∙◌, arith, eq-eqb, eqb-true, ne_eqb, inl, inr, subst, List, [], ◌∷◌, both_ways, cases_eq, false_from_ne_true, or_cases, or_left, or_right, or_parts, true≢false, not-true, same_tests, Within, bit, IsIn, mem, Set, pair_set}
use Rattle.graph_core.proofs.Common.{Graph, IsGraph, first_end, second_end}
use Rattle.two_ears.specs.from_match_core.Common.{MatchingValue, edges_of}
use Rattle.two_ears.specs.VertexPairs.{in_pairs, pairs_at}
use Rattle.ear_core.proofs.LoneMatchings.{ends-differ}
use Rattle.ear_core.proofs.Mates.{row-found}
use Rattle.ear_core.proofs.NextStages.{met-within}
use Rattle.ear_core.proofs.Searching.{ends-among, serves-same}
use Rattle.ear_core.proofs.ServingPairs.{serving-one}
use Rattle.ear_core.specs.Common.{AreCandidates, IsChosen, IsMatedEar, IsPerfectRows, Serves, ends_of_ear, ends_of_ears, row_edge, IsNeeded, IsSingle, PlainEar, PlainStep, last_vertex, LeadsAtTwo, barred, is_open, IsStage, is_met}

module _ (g : Graph) (is : IsGraph g) (f : Set) (u v : ℕ) (e w : ℕ) (opens : is_open g f u v e ≡ true) (at : (first_end g e == w || second_end g e == w) ≡ true) where
  -- an end of an open edge is not barred
  end-free : barred g f u v e w ≡ false
  end-free = grind (arith, or_parts, not-true, opens, or_cases, eqb-true)

  -- off the stage it is at u or v
  pub off-ends : f e ≡ false → is_met g f w ≡ true → pair_set u v w ≡ true
  off-ends off met = grind arith

  -- at u and v it is off the stage
  pub leads-off : pair_set u v w ≡ true → f e ≡ false
  leads-off t = false_from_ne_true (f e) (λ on. both_ways (pair_set u v w) (sym (ap (λ b. cond b (pair_set u v w) (is_met g f w && not (pair_set u v w))) on) ∙ end-free) t)

module _ (g : Graph) (is : IsGraph g) (f : Set) (m : MatchingValue) (rows : IsPerfectRows g m) (two_ends : LeadsAtTwo g f (mem (edges_of m))) where
  abbrev u : ℕ
  u = two_ends.0

  abbrev v : ℕ
  v = two_ends.1

  opens : (w : ℕ) → Within g.order w → is_open g f u v (row_edge m.rows w) ≡ true
  opens w ww = let r = row-found g is m rows w ww in two_ends.5.part (row_edge m.rows w) r.0 r.1

  led-at : (w : ℕ) → is_met g f w ≡ true → f (row_edge m.rows w) ≡ false → pair_set u v w ≡ true
  led-at w t off = let ww = met-within g is f w t in off-ends g is f u v (row_edge m.rows w) w (opens w ww) (row-found g is m rows w ww).2 off t

  -- the matching leads out of the stage
  pub lone-leads : (w : ℕ) × Within g.order w × (is_met g f w ≡ true) × (f (row_edge m.rows w) ≡ false)
  lone-leads = grind (arith, met-within g is f u two_ends.3, leads-off g is f u v (row_edge m.rows u) u, opens u, row-found g is m rows u, or_left (u == u) (v == u) (eq-eqb u u refl), eq-eqb u u refl)

  module _ (n : ℕ → ℕ) (ears : List PlainEar) (mated : (a : PlainEar) → IsIn a ears → IsMatedEar g f (row_edge m.rows) n a) (made : AreCandidates g f ears) where
    begins-at : (a : PlainEar) → IsIn a ears → pair_set u v a.begin ≡ true
    begins-at a i = led-at a.begin (mated a i).ear.start (mated a i).leaves

    ends-at : (a : PlainEar) → IsIn a ears → pair_set u v (last_vertex g a.begin a.edges) ≡ true
    ends-at a i = led-at (last_vertex g a.begin a.edges) (mated a i).ear.end (mated a i).arrives

    -- an end of some ear is u or v
    among-two : (xs : List PlainEar) → ((a : PlainEar) → IsIn a xs → IsIn a ears) → (w : ℕ) → 1 ≤ pairs_at (ends_of_ears g xs) w → pair_set u v w ≡ true
    among-two [] sub w l = absurd (omega arith)
    among-two (a ∷ xs) sub w l = elim (cases_eq a.begin w) [
      | inl i ↦ subst (λ k. pair_set u v k ≡ true) i (begins-at a (sub a (inl refl)))
      | inr i ↦ elim (cases_eq (last_vertex g a.begin a.edges) w) [
        | inl j ↦ subst (λ k. pair_set u v k ≡ true) j (ends-at a (sub a (inl refl)))
        | inr j ↦ let b = ap bit (ne_eqb a.begin w i) in let c = ap bit (ne_eqb (last_vertex g a.begin a.edges) w j) in among-two xs (λ b k. sub b (inr k)) w (omega arith)
      ]
    ]

    -- u and v are the ends of each ear
    both-ends : (a : PlainEar) → IsIn a ears → (w : ℕ) → pair_set u v w ≡ true → ends_of_ear g a w ≡ true
    both-ends a i w t = four u v w a.begin (last_vertex g a.begin a.edges) (ends-differ g f a.begin a.edges (mated a i).ear) t (begins-at a i) (ends-at a i)
      where
        four : (u v w b c : ℕ) → b ≢ c → pair_set u v w ≡ true → pair_set u v b ≡ true → pair_set u v c ≡ true → pair_set b c w ≡ true
        four u v w b c d t p q = grind (arith, or_cases, or_left, eq-eqb, eqb-true, or_right)

    pub lone-serves : (a : PlainEar) → IsIn a ears → Serves g f (ends_of_ear g a)
    lone-serves a i = serves-same g f (in_pairs (ends_of_ears g ears)) (ends_of_ear g a) (λ w. same_tests (in_pairs (ends_of_ears g ears) w) (ends_of_ear g a w)
        (λ t. both-ends a i w (among-two ears (λ b j. j) w (pos (pairs_at (ends_of_ears g ears) w) t)))
        (λ t. ap not (ne_eqb (pairs_at (ends_of_ears g ears) w) 0 (λ e. let x = ends-among g a ears w i in absurd (none_at w (a.begin == w) (last_vertex g a.begin a.edges == w) t (omega arith)))))) made.serve
      where
        pos : (k : ℕ) → not (k == 0) ≡ true → 1 ≤ k
        pos k t = elim (cases_eq k 0) [ inl e ↦ absurd (both_ways (k == 0) (not-true (k == 0) t) (eq-eqb k 0 e)) | inr e ↦ omega arith ]

        none_at : (w : ℕ) (a b : Bool) → (a || b) ≡ true → bit a + bit b ≤ 0 → ⊥
        none_at w true b t l = omega arith
        none_at w false true t l = omega arith
        none_at w false false t l = true≢false (sym t)

    -- a step of them is single
    pub lone-single : IsStage g f → (s : PlainStep) → IsChosen ears s → IsNeeded g f s → IsSingle s
    lone-single stage s chosen needed = grind (arith, serving-one g is f stage, lone-serves)
