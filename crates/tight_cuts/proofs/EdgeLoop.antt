-- The loop over the edges. Idea: what an edge gives is tight, and if some nontrivial tight set
-- has the edge in its cut, so has a candidate then.
use Rattle.graph_core.proofs.from_counting.Common.{◌≡◌, ℕ, suc, zero, ◌≤◌, Bool, true, false, cond, ◌==◌, refl, sym, ap, ap₂, ◌∙◌, arith, ◌&&◌, ◌||◌, not, inl, inr, ◌⊎◌, List, [], ◌∷◌, subst, map, flat_map, Option, Some, None, eq-eqb, ne_eqb, eqb-true, All, find, fold, AllPairs, fold_push, cases_eq, cases_lt, cases_Bool, and_parts, or_from, or_left, or_right, true≢false, both_ways, not-true, list_any-append, count_minus, count_member, some_true, some_none, some_congr, or_false, list_any, Within, rising_list, ordered_pairs, pair_with, Set, complement, minus, singleton, everything, pair_set, some}
use Rattle.tight_cuts.specs.Common.{ShoresDiffer, Flow, cuts, lesser_end, greater_end, first_separated, Candidate, is_separated, common_shore, with_intersection, with_edge_cut, IsTightCandidate, SeparatesTightly}
use Rattle.graph_core.proofs.Common.{IsCovered, Graph, size, first_end, second_end, IsGraph, in_cut, has_ends, IsTight, IsNontrivial}
use Rattle.tight_cuts.proofs.LeastShores.{separated_says, separated_found, common_parts, parts_nontrivial}
use Rattle.tight_cuts.proofs.PairsOfEdges.{cut_between}
use Rattle.tight_cuts.proofs.Shores.{with_found, with_apart, with_grows, with_covers}
use Rattle.barrier_kit.proofs.Common.{nontrivial-turned, tight-turned}

-- the first element that passes
abbrev pub same_pair : ℕ × ℕ → ℕ × ℕ → Bool
same_pair k j = (j.0 == k.0) && (j.1 == k.1)

find_some : (p : ℕ × ℕ → Bool) (xs : List (ℕ × ℕ)) (k : ℕ × ℕ) → find p xs ≡ Some k → (p k ≡ true) × (list_any (same_pair k) xs ≡ true)
find_some p [] k h = cc
find_some p (x ∷ xs) k h = grind (arith, cases_Bool, find, or_right, list_any, find_some p xs k)

find_none : (p : ℕ × ℕ → Bool) (xs : List (ℕ × ℕ)) → find p xs ≡ None → list_any p xs ≡ false
find_none p [] h = refl
find_none p (x ∷ xs) h = elim (cases_Bool (p x)) [
  | inl t ↦ let s : Some x ≡ None = ap (λ b. cond b (Some x) (find p xs)) (sym t) ∙ h in cc
  | inr f ↦ or_from (p x) (list_any p xs) f (find_none p xs (ap (λ b. cond b (Some x) (find p xs)) (sym f) ∙ h))
]

-- some pair of 1 to n
any_flat : (p : ℕ × ℕ → Bool) (f : ℕ → List (ℕ × ℕ)) (xs : List ℕ) → list_any p (flat_map f xs) ≡ list_any (λ a. list_any p (f a)) xs
any_flat p f [] = refl
any_flat p f (x ∷ xs) = list_any-append p (f x) (flat_map f xs) ∙ ap (λ b. list_any p (f x) || b) (any_flat p f xs)

any_with : (p : ℕ × ℕ → Bool) (a : ℕ) (xs : List ℕ) → list_any p (map (pair_with a) xs) ≡ list_any (λ b. p (a, b)) xs
any_with p a [] = refl
any_with p a (x ∷ xs) = ap (λ b. p (a, x) || b) (any_with p a xs)

any_rising : (n : ℕ) (p : ℕ → Bool) → list_any p (rising_list n everything) ≡ some n p
any_rising zero p = refl
any_rising (suc n) p = list_any-append p (rising_list n everything) (suc n ∷ []) ∙ ap₂ ◌||◌ (any_rising n p) (or_false (p (suc n)))

pub any_pair : (n : ℕ) (p : ℕ × ℕ → Bool) → list_any p (ordered_pairs n) ≡ some n (λ a. some n (λ b. p (a, b)))
any_pair n p = grind (arith, any_flat p, any_rising n, some_congr n, any_with p)

pub first_pair : (n : ℕ) (p : ℕ × ℕ → Bool) (k : ℕ × ℕ) → find p (ordered_pairs n) ≡ Some k → (p k ≡ true) × Within n k.0 × Within n k.1
first_pair n p k h = grind (arith, find_some p (ordered_pairs n) k h, some_true n, any_pair n (same_pair k), and_parts, eqb-true)

pub no_pair : (n : ℕ) (p : ℕ × ℕ → Bool) → find p (ordered_pairs n) ≡ None → (x y : ℕ) → Within n x → Within n y → p (x, y) ≡ false
no_pair n p h x y wx wy = some_none n (λ b. p (x, b)) (some_none n (λ a. some n (λ b. p (a, b))) (sym (any_pair n p) ∙ find_none p (ordered_pairs n) h) x wx) y wy

pub ends_between : (g : Graph) (e : ℕ) → has_ends g (lesser_end g e) (greater_end g e) e ≡ true
ends_between g e = grind arith

module _ (g : Graph) (is : IsGraph g) (cov : IsCovered g) (e : ℕ) (we : Within (size g) e) where
  pub low_within : Within g.order (lesser_end g e)
  low_within = let w = is e we in let a = w.0 in let b = w.1 in elim (cases_lt (first_end g e) (second_end g e)) [ inl l ↦ omega arith | inr l ↦ omega arith ]

  pub high_within : Within g.order (greater_end g e)
  high_within = let w = is e we in let a = w.0 in let b = w.1 in elim (cases_lt (first_end g e) (second_end g e)) [ inl l ↦ omega arith | inr l ↦ omega arith ]

  -- what a separated pair gives
  pub shore_parts : (k : ℕ × ℕ) → Within g.order k.0 → Within g.order k.1 → is_separated g (lesser_end g e) (greater_end g e) k ≡ true → SeparatesTightly g (lesser_end g e) (greater_end g e) k (common_shore g (lesser_end g e) (greater_end g e) k)
  shore_parts k wx wy h =
      let q = separated_says g (lesser_end g e) (greater_end g e) k h in
      let p = q.2.1 in
      let al = cov.allowed e we (λ l. let s : lesser_end g e ≡ greater_end g e = omega arith in true≢false (sym p.has_a ∙ ap q.2.0 s ∙ p.lacks_b)) in
      common_parts g is (lesser_end g e) (greater_end g e) k low_within high_within wx wy cov e we (ends_between g e) al q.2.0 p

  -- what the first separated pair gives is nontrivial, and the edge is in its cut
  pub shore_cuts : (k : ℕ × ℕ) → first_separated g e ≡ Some k → IsNontrivial g.order (common_shore g (lesser_end g e) (greater_end g e) k) × (in_cut g (common_shore g (lesser_end g e) (greater_end g e) k) e ≡ true)
  shore_cuts k q =
      let f = first_pair g.order (is_separated g (lesser_end g e) (greater_end g e)) k q in
      let p = shore_parts k f.1 f.2 f.0 in
      let s = separated_says g (lesser_end g e) (greater_end g e) k f.0 in (
        parts_nontrivial g (lesser_end g e) (greater_end g e) k (common_shore g (lesser_end g e) (greater_end g e) k) low_within high_within f.1 f.2
            (λ d. both_ways (pair_set (lesser_end g e) (greater_end g e) k.0) s.0 (or_left (lesser_end g e == k.0) (greater_end g e == k.0) (eq-eqb (lesser_end g e) k.0 d)))
            (λ d. both_ways (pair_set (lesser_end g e) (greater_end g e) k.1) s.1 (or_right (lesser_end g e == k.1) (greater_end g e == k.1) (eq-eqb (greater_end g e) k.1 d))) p,
        cut_between g (common_shore g (lesser_end g e) (greater_end g e) k) (lesser_end g e) (greater_end g e) e (ends_between g e) p.has_a p.lacks_b,
      )

  module _ (list : List Candidate) where
    edge_cases : ((list_any (cuts g e) list ≡ true) × (with_edge_cut g list e ≡ list))
        ⊎ ((list_any (cuts g e) list ≡ false) × (with_edge_cut g list e ≡ with_intersection g (lesser_end g e) (greater_end g e) list (first_separated g e)))
    edge_cases = grind arith

    -- the list stays one of tight nontrivial canonical shores
    pub step_found : All (IsTightCandidate g) list → All (IsTightCandidate g) (with_edge_cut g list e)
    step_found h = grind (arith, edge_cases, go (first_separated g e) refl)
      where
        go : (o : Option (ℕ × ℕ)) → first_separated g e ≡ o → All (IsTightCandidate g) (with_intersection g (lesser_end g e) (greater_end g e) list o)
        go o q = grind (arith, first_pair g.order (is_separated g (lesser_end g e) (greater_end g e)), with_found g Flow list, shore_parts)

    pub step_grows : (p : Candidate → Bool) → list_any p list ≡ true → list_any p (with_edge_cut g list e) ≡ true
    step_grows p h = grind (arith, edge_cases, with_grows)

    cover_side : (x : Set) → IsTight g x → IsNontrivial g.order x → x (lesser_end g e) ≡ true → x (greater_end g e) ≡ false →
        list_any (cuts g e) (with_intersection g (lesser_end g e) (greater_end g e) list (first_separated g e)) ≡ true
    cover_side x t nt xa xb = go (first_separated g e) refl
      where
        in_x : (v : ℕ) × Within g.order v × ((x v && not (lesser_end g e == v)) ≡ true)
        in_x = let i = count_minus g.order x (lesser_end g e) low_within xa in let j = nt.inside in count_member g.order (minus x (singleton (lesser_end g e))) (omega arith)

        out_x : (v : ℕ) × Within g.order v × ((not (x v) && not (greater_end g e == v)) ≡ true)
        out_x = let i = count_minus g.order (complement x) (greater_end g e) high_within (ap not xb) in let j = nt.outside in count_member g.order (minus (complement x) (singleton (greater_end g e))) (omega arith)

        separated : is_separated g (lesser_end g e) (greater_end g e) (in_x.0, out_x.0) ≡ true
        separated =
            let p = and_parts (x in_x.0) (not (lesser_end g e == in_x.0)) in_x.2 in
            let q = and_parts (not (x out_x.0)) (not (greater_end g e == out_x.0)) out_x.2 in
            let r = not-true (x out_x.0) q.0 in
            separated_found g (lesser_end g e) (greater_end g e) (in_x.0, out_x.0) x is low_within high_within in_x.1 out_x.1
            (or_from (lesser_end g e == in_x.0) (greater_end g e == in_x.0) (not-true (lesser_end g e == in_x.0) p.1) (ne_eqb (greater_end g e) in_x.0 (λ s. both_ways (x (greater_end g e)) xb (ap x s ∙ p.0))))
            (or_from (lesser_end g e == out_x.0) (greater_end g e == out_x.0) (ne_eqb (lesser_end g e) out_x.0 (λ s. both_ways (x (lesser_end g e)) (ap x s ∙ r) xa)) (not-true (greater_end g e == out_x.0) q.1))
            (record { tight = t; has_a = xa; has_x = p.0; lacks_b = xb; lacks_y = r })

        go : (o : Option (ℕ × ℕ)) → first_separated g e ≡ o → list_any (cuts g e) (with_intersection g (lesser_end g e) (greater_end g e) list o) ≡ true
        go None q = absurd (both_ways (is_separated g (lesser_end g e) (greater_end g e) (in_x.0, out_x.0)) (no_pair g.order (is_separated g (lesser_end g e) (greater_end g e)) q in_x.0 out_x.0 in_x.1 out_x.1) separated)
        go (Some k) q = let c = shore_cuts k q in with_covers g Flow list (common_shore g (lesser_end g e) (greater_end g e) k) e is we c.0 c.1

    -- after the edge, it is in the cut of a candidate if it is in a nontrivial tight cut
    pub step_covers : (x : Set) → IsTight g x → IsNontrivial g.order x → in_cut g x e ≡ true → list_any (cuts g e) (with_edge_cut g list e) ≡ true
    step_covers x t nt ce = elim edge_cases [
      | inl c ↦ ap (list_any (cuts g e)) c.1 ∙ c.0
      | inr c ↦ grind (arith, ends_between g e, cover_side x t nt, cover_side (complement x) (tight-turned g x t) (nontrivial-turned g.order x nt), tight-turned g x t, nontrivial-turned g.order x nt)
    ]

pub edge_apart : (g : Graph) (list : List Candidate) (e : ℕ) → AllPairs ShoresDiffer list → AllPairs ShoresDiffer (with_edge_cut g list e)
edge_apart g list e h = grind (arith, with_apart)

-- the list after the edges 1 to m
abbrev pub after_edges : Graph → List Candidate → ℕ → List Candidate
after_edges g list m = fold (with_edge_cut g) list (rising_list m everything)

pub after_suc : (g : Graph) (list : List Candidate) (m : ℕ) → after_edges g list (suc m) ≡ with_edge_cut g (after_edges g list m) (suc m)
after_suc g list m = fold_push (with_edge_cut g) list (rising_list m everything) (suc m)

pub after_apart : (g : Graph) (list : List Candidate) (m : ℕ) → AllPairs ShoresDiffer list → AllPairs ShoresDiffer (after_edges g list m)
after_apart g list zero h = h
after_apart g list (suc m) h = subst (AllPairs ShoresDiffer) (sym (after_suc g list m)) (edge_apart g (after_edges g list m) (suc m) (after_apart g list m h))

pub after_found : (g : Graph) → IsGraph g → IsCovered g → (list : List Candidate) (m : ℕ) → m ≤ size g → All (IsTightCandidate g) list → All (IsTightCandidate g) (after_edges g list m)
after_found g is cov list zero l h = h
after_found g is cov list (suc m) l h = subst (All (IsTightCandidate g)) (sym (after_suc g list m)) (step_found g is cov (suc m) (omega arith) (after_edges g list m) (after_found g is cov list m (omega arith) h))

pub after_covers : (g : Graph) → IsGraph g → IsCovered g → (list : List Candidate) (m : ℕ) → m ≤ size g → (x : Set) (e : ℕ) → Within m e → IsTight g x → IsNontrivial g.order x → in_cut g x e ≡ true → list_any (cuts g e) (after_edges g list m) ≡ true
after_covers g is cov list zero l x e w t nt ce = absurd (omega arith)
after_covers g is cov list (suc m) l x e w t nt ce = ap (list_any (cuts g e)) (after_suc g list m) ∙ elim (cases_eq e (suc m)) [
  | inl d ↦ ap (λ i. list_any (cuts g e) (with_edge_cut g (after_edges g list m) i)) (sym d) ∙ step_covers g is cov e (omega arith) (after_edges g list m) x t nt ce
  | inr d ↦ step_grows g is cov (suc m) (omega arith) (after_edges g list m) (cuts g e) (after_covers g is cov list m (omega arith) x e (omega arith) t nt ce)
]
