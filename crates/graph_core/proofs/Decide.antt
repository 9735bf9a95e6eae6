-- The tests for matchings, tightness and equivalence against the relations; each is decided.
-- Each test goes by the edge numbers alone, so the search over all edge sets misses none.
use Rattle.std.proofs.Common.{◌≡◌, ℕ, suc, zero, ◌+◌, ◌≢◌, Bool, true, cond, ◌==◌, sym, ap, ap₂, ◌∙◌, arith, ◌&&◌, ◌||◌, not, eq-eqb, eqb-true, ◌⊎◌, inl, inr, ◌≤◌, ◌<◌, nat_le, leb-true, le-leb, List, [], ◌∷◌}
use Rattle.vset_core.proofs.from_counting.Common.{cases_eq, cases_Bool, or_cases, and_parts, and_from, both_ways, not-true, nat_tests, Respects, choose_set, each_passes, implied, implies, none_fails, set_found, some_set_found, count_congr, count_le, every_congr, every_true, true_every, total_none, Within, count, is_odd, Set, complement, none, pair_set}
use Rattle.graph_core.proofs.Walks.{adjacent-edge, has_ends-cases}
use Rattle.graph_core.specs.Common.{IsCovered, IsReason, Reason, Small, Parted, Unmatched, Unallowed, Graph, IsGraph, IsMultigraph, degree, edges_in_cut, first_end, in_cut, second_end, size, Allowed, HasPerfect, IsMatching, IsMaximum, IsPerfect, fits_at, has_perfect, is_allowed, is_matching, is_perfect, right_degree, Equivalent, is_equivalent, CutIsTight, IsTight, is_tight, Joined, Walk, adjacent}

pub is_perfect_true : (g : Graph) (r m : Set) → is_perfect g r m ≡ true → IsPerfect g r m
is_perfect_true g r m h = grind (arith, eqb-true, every_true g.order (right_degree g r m) h)

pub true_is_perfect : (g : Graph) (r m : Set) → IsPerfect g r m → is_perfect g r m ≡ true
true_is_perfect g r m h = grind (arith, true_every g.order (right_degree g r m), eq-eqb, cases_Bool)

pub degree_congr : (g : Graph) (m k : Set) (v : ℕ) → ((e : ℕ) → Within (size g) e → m e ≡ k e) → degree g m v ≡ degree g k v
degree_congr g m k v h = ap₂ ◌+◌ (count_congr (size g) _ _ (λ e w. ap (λ b. b && (first_end g e == v)) (h e w))) (count_congr (size g) _ _ (λ e w. ap (λ b. b && (second_end g e == v)) (h e w)))

pub is_perfect_congr : (g : Graph) (r m k : Set) → ((e : ℕ) → Within (size g) e → m e ≡ k e) → is_perfect g r m ≡ is_perfect g r k
is_perfect_congr g r m k h = every_congr g.order _ _ (λ v w. ap (λ d. d == cond (r v) 0 1) (degree_congr g m k v h))

pub allowed_or_not : (g : Graph) (e : ℕ) → Within (size g) e → (Allowed g e) ⊎ (Allowed g e → ⊥)
allowed_or_not g e w =
    elim (choose_set (size g) (λ m. is_perfect g none m && m e) (record { same = λ m k h. ap₂ ◌&&◌ (is_perfect_congr g none m k h) (h e w) })) [
      | inl f ↦ let b = and_parts (is_perfect g none f.0) (f.0 e) f.1 in inl (f.0, is_perfect_true g none f.0 b.0, b.1)
      | inr f ↦ inr (λ a. both_ways (is_perfect g none a.0 && a.0 e) (f a.0) (and_from (is_perfect g none a.0) (a.0 e) (true_is_perfect g none a.0 a.1) a.2))
    ]

-- the cut is tight, or some perfect matching shows that it is not
pub tight_or_not : (g : Graph) (x : Set) → (CutIsTight g x) ⊎ ((m : Set) × IsPerfect g none m × (edges_in_cut g m x ≢ 1))
tight_or_not g x =
    elim (choose_set (size g) (λ m. is_perfect g none m && not (edges_in_cut g m x == 1)) (record { same = λ m k h. ap₂ ◌&&◌ (is_perfect_congr g none m k h) (ap (λ d. not (d == 1)) (count_congr (size g) _ _ (λ e w. ap (λ b. b && in_cut g x e) (h e w)))) })) [
      | inl f ↦ let b = and_parts (is_perfect g none f.0) (not (edges_in_cut g f.0 x == 1)) f.1 in inr (f.0, is_perfect_true g none f.0 b.0, grind (arith, nat_tests, b.1))
      | inr f ↦ inl (λ m p. grind (arith, nat_tests, f m, true_is_perfect g none m p))
    ]

pub is_matching_true : (g : Graph) (r m : Set) → is_matching g r m ≡ true → IsMatching g r m
is_matching_true g r m h = grind (arith, leb-true, every_true g.order (fits_at g r m) h)

pub true_is_matching : (g : Graph) (r m : Set) → IsMatching g r m → is_matching g r m ≡ true
true_is_matching g r m h = grind (arith, true_every g.order (fits_at g r m), le-leb)

pub is_matching_congr : (g : Graph) (r m k : Set) → ((e : ℕ) → Within (size g) e → m e ≡ k e) → is_matching g r m ≡ is_matching g r k
is_matching_congr g r m k h = every_congr g.order _ _ (λ v w. ap (λ d. nat_le d (cond (r v) 0 1)) (degree_congr g m k v h))

-- no edges are a matching
pub none_matching : (g : Graph) (r : Set) → IsMatching g r none
none_matching g r = grind (arith, total_none (size g))

-- there is a maximum matching
pub maximum_below : (g : Graph) (r : Set) (k : ℕ) → ((m : Set) → IsMatching g r m → count (size g) m ≤ k) → (m : Set) × IsMaximum g r m
maximum_below g r zero h = (none, record { is = none_matching g r; most = λ k p. omega (arith, h k p) })
maximum_below g r (suc k) h = elim (choose_set (size g) (λ m. is_matching g r m && (count (size g) m == suc k)) (record { same = λ m n e. ap₂ ◌&&◌ (is_matching_congr g r m n e) (ap (λ c. c == suc k) (count_congr (size g) m n e)) })) [
  | inl f ↦ let b = and_parts (is_matching g r f.0) (count (size g) f.0 == suc k) f.1 in
      (f.0, record { is = is_matching_true g r f.0 b.0; most = λ n p. let a = h n p in let c = eqb-true (count (size g) f.0) (suc k) b.1 in omega arith })
  | inr f ↦ maximum_below g r k (λ m p. let a = h m p in
      below (count (size g) m) k a (λ e. both_ways (is_matching g r m && (count (size g) m == suc k)) (f m) (and_from (is_matching g r m) (count (size g) m == suc k) (true_is_matching g r m p) (eq-eqb (count (size g) m) (suc k) e))))
]
  where
    below : (c k : ℕ) → c ≤ suc k → (c ≡ suc k → ⊥) → c ≤ k
    below c k a b = omega arith

pub maximum_exists : (g : Graph) (r : Set) → (m : Set) × IsMaximum g r m
maximum_exists g r = maximum_below g r (size g) (λ m p. count_le (size g) m)

-- some maximum matching misses v, or each meets it
pub missed_or_met : (g : Graph) (r : Set) (v : ℕ) → Within g.order v → ((m : Set) × IsMaximum g r m × (degree g m v ≡ 0)) ⊎ ((m : Set) → IsMaximum g r m → 0 < degree g m v)
missed_or_met g r v w =
    let x = maximum_exists g r in
    let p : Set → Bool = λ m. is_matching g r m && ((count (size g) m == count (size g) x.0) && (degree g m v == 0)) in
    elim (choose_set (size g) p (record { same = λ m n e. ap₂ ◌&&◌ (is_matching_congr g r m n e) (ap₂ ◌&&◌ (ap (λ c. c == count (size g) x.0) (count_congr (size g) m n e)) (ap (λ c. c == 0) (degree_congr g m n v e))) })) [
      | inl f ↦ let b = and_parts (is_matching g r f.0) _ f.1 in let c = and_parts (count (size g) f.0 == count (size g) x.0) (degree g f.0 v == 0) b.1 in
          let q = eqb-true (count (size g) f.0) (count (size g) x.0) c.0 in
          inl (f.0, record { is = is_matching_true g r f.0 b.0; most = λ n k. let a = x.1.most n k in omega arith }, eqb-true (degree g f.0 v) 0 c.1)
      | inr f ↦ inr (λ m q. pos (degree g m v) (λ z. both_ways (p m) (f m) (and_from (is_matching g r m) _ (true_is_matching g r m q.is) (and_from _ _
          (eq-eqb (count (size g) m) (count (size g) x.0) (same (count (size g) m) (count (size g) x.0) (x.1.most m q.is) (q.most x.0 x.1.is))) (eq-eqb (degree g m v) 0 z)))))
    ]
  where
    pos : (d : ℕ) → (d ≡ 0 → ⊥) → 0 < d
    pos d h = omega arith

    same : (a b : ℕ) → a ≤ b → b ≤ a → a ≡ b
    same a b p q = omega arith

perfect_respects : (g : Graph) (r : Set) → Respects (size g) (is_perfect g r)
perfect_respects g r = record { same = λ m k h. is_perfect_congr g r m k h }

-- some perfect matching is there where the test finds one
pub has_perfect_says : (g : Graph) (r : Set) → has_perfect g r ≡ true → HasPerfect g r
has_perfect_says g r h = let q = some_set_found (size g) (is_perfect g r) h in (q.0, is_perfect_true g r q.0 q.1)

pub has_perfect_found : (g : Graph) (r : Set) → HasPerfect g r → has_perfect g r ≡ true
has_perfect_found g r h = set_found (size g) (is_perfect g r) (perfect_respects g r) h.0 (true_is_perfect g r h.0 h.1)

-- an edge is allowed where the test says so
pub is_allowed_says : (g : Graph) (e : ℕ) → is_allowed g e ≡ true → Allowed g e
is_allowed_says g e h = grind (arith, some_set_found (size g), and_parts, is_perfect_true g none)

pub is_allowed_found : (g : Graph) (e : ℕ) → Within (size g) e → Allowed g e → is_allowed g e ≡ true
is_allowed_found g e w a = set_found (size g) (λ m. is_perfect g none m && m e) (record { same = λ m k h. ap₂ ◌&&◌ (is_perfect_congr g none m k h) (h e w) }) a.0 (and_from (is_perfect g none a.0) (a.0 e) (true_is_perfect g none a.0 a.1) a.2)

-- two vertices are equivalent where the test says so
pub is_equivalent_says : (g : Graph) (a b : ℕ) → is_equivalent g a b ≡ true → Equivalent g a b
is_equivalent_says g a b h = grind (arith, or_cases, eqb-true, both_ways, not-true, has_perfect_found)

pub is_equivalent_found : (g : Graph) (a b : ℕ) → Equivalent g a b → is_equivalent g a b ≡ true
is_equivalent_found g a b k = grind (arith, eq-eqb a b, cases_Bool (has_perfect g (pair_set a b)), has_perfect_says g (pair_set a b))

-- the test for one edge in the cut of x, where m is a perfect matching
cut_respects : (g : Graph) (x : Set) → Respects (size g) (λ m. not (is_perfect g none m) || (count (size g) (λ e. m e && in_cut g x e) == 1))
cut_respects g x = record { same = λ m k h. ap₂ ◌||◌ (ap not (is_perfect_congr g none m k h)) (ap (λ d. d == 1) (count_congr (size g) _ _ (λ e w. ap (λ b. b && in_cut g x e) (h e w)))) }

-- a shore is tight where the test says so
pub is_tight_says : (g : Graph) (x : Set) → is_tight g x ≡ true → IsTight g x
is_tight_says g x h =
    let b = and_parts (is_odd (count g.order x) && is_odd (count g.order (complement x))) _ h in
    let c = and_parts (is_odd (count g.order x)) (is_odd (count g.order (complement x))) b.0 in
    record { odd = c.0; odd_complement = c.1; cut = λ m p. eqb-true _ _ (implied (is_perfect g none m) _ (each_passes (size g) _ (cut_respects g x) b.1 m) (true_is_perfect g none m p)) }

pub is_tight_found : (g : Graph) (x : Set) → IsTight g x → is_tight g x ≡ true
is_tight_found g x t = grind (arith, and_from, none_fails, implies, eq-eqb, is_perfect_true)

-- a covered graph has a perfect matching
pub covered_perfect : (g : Graph) → IsGraph g → IsCovered g → (m : Set) × IsPerfect g none m
unfolding Joined
covered_perfect g is cov = let j = cov.connected 1 2 (let t = cov.two in omega arith) (let t = cov.two in omega arith) in go 1 j.0 (λ e. absurd (omega arith)) j.1
  where
    go : (u : ℕ) (ws : List ℕ) → u ≢ 2 → Walk (adjacent g none) u ws 2 → (m : Set) × IsPerfect g none m
    go u [] d w = absurd (d w)
    go u (y ∷ ws) d w = elim (cases_eq u y) [
      | inl e ↦ go y ws (λ q. d (e ∙ q)) w.1
      | inr ne ↦ let p = adjacent-edge g none u y w.0 in
          let m = cov.allowed p.2.0 p.2.1 (λ q. ne (elim (has_ends-cases g u y p.2.0 p.2.2) [ inl k ↦ sym k.0 ∙ q ∙ k.1 | inr k ↦ sym k.1 ∙ sym q ∙ k.0 ])) in (m.0, m.1)
    ]

-- a graph for which there is a reason is not covered: each reason denies a part of being covered
pub reason-uncovered : (g : Graph) (r : Reason) → IsMultigraph g → IsReason g r → IsCovered g → ⊥
reason-uncovered g Small is small cov = let two = cov.two in absurd (omega arith)
reason-uncovered g (Parted a b) is why cov = let two = cov.two in why.2.without (cov.connected 1 b (omega arith) why.2.within)
reason-uncovered g (Unmatched s) is why cov = why.2 (covered_perfect g is.ends cov)
reason-uncovered g (Unallowed e) is why cov = why.3.without (cov.allowed e why.3.within (is.no_loop e why.3.within))
