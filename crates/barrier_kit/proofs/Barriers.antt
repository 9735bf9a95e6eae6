-- Barriers and perfect matchings: if G has a perfect matching, o(G - S) is at most |S|. Parity does
-- the rest: if two vertices u and v lie in a barrier, G - u - v has no perfect matching, and if it
-- has none, u and v lie in a barrier.
use Rattle.graph_core.proofs.from_counting.Common.{◌≡◌, ℕ, suc, zero, ◌+◌, ◌*◌, ◌≤◌, ◌≢◌, Bool, true, false, ◌==◌, refl, sym, ap, ap₂, ◌∙◌, arith, ◌&&◌, ◌||◌, not, eq-eqb, ne_eqb, eqb-true, true≢false, count_complement, count_congr, odd-add, odd-double, odd_total, total_add, total_at, total_congr, total_mul, total_none, total_swap, fun_ext, Within, bit, count, is_odd, total, pair_set, Set, complement, minus, none, union}
use Rattle.graph_core.proofs.Common.{joined_outside, one_leader, some_leader, missed_edges, none_missed-perfect, perfect_matching, perfect_misses, berge_bound, is_least, odd_component_count, Graph, IsGraph, size, IsPerfect, missed_count, IsBarrier, joined}
use Rattle.graph_facts.proofs.from_match_core.TutteBerge.{TutteBerge, tutte_berge}

-- the vertices outside s, component by component
pub by_components : (g : Graph) (s : Set) → IsGraph g → count g.order (complement s) ≡ total g.order (λ u. bit (is_least g s u) * count g.order (joined g s u))
by_components g s is =
    total_congr g.order _ _ (λ v w. leader v w)
    ∙ total_congr g.order _ _ (λ v w. sym (total_mul g.order (bit (not (s v))) (λ u. bit (is_least g s u && joined g s u v))))
    ∙ total_swap g.order g.order (λ v u. bit (not (s v)) * bit (is_least g s u && joined g s u v))
    ∙ total_congr g.order _ _ (λ u w. total_congr g.order _ _ (λ v x. grind (arith, joined_outside, true≢false)) ∙ total_mul g.order (bit (is_least g s u)) (λ v. bit (joined g s u v)))
  where
    leader : (v : ℕ) → Within g.order v → bit (not (s v)) ≡ bit (not (s v)) * count g.order (λ u. is_least g s u && joined g s u v)
    leader v w = grind (arith, one_leader, some_leader)

-- the number of odd components and of the vertices outside s are odd together
pub odd_component_count-parity : (g : Graph) (s : Set) → IsGraph g → is_odd (count g.order (complement s)) ≡ is_odd (odd_component_count g s)
unfolding odd_component_count
odd_component_count-parity g s is = grind (arith, by_components g s is, odd_total g.order)

-- with a perfect matching no set leaves more odd components than it has vertices
pub few_odd_components : (g : Graph) (s m : Set) → IsGraph g → IsPerfect g none m → odd_component_count g s ≤ count g.order s
few_odd_components g s m is p = let a = berge_bound g none s m is (perfect_matching g none m p) in let b = perfect_misses g none m p in omega arith

-- a set that contains a and b, less these two
pub two_less : (n : ℕ) (s : Set) (a b : ℕ) → Within n a → Within n b → a ≢ b → s a ≡ true → s b ≡ true → count n s ≡ count n (minus s (pair_set a b)) + 2
two_less n s a b wa wb d sa sb =
    total_congr n _ _ (λ v w. grind arith)
    ∙ total_add n (λ v. bit (minus s (pair_set a b) v)) (λ v. bit (a == v) + bit (b == v))
    ∙ ap (λ k. count n (minus s (pair_set a b)) + k) (total_add n (λ v. bit (a == v)) (λ v. bit (b == v)) ∙ ap₂ ◌+◌ (once a wa) (once b wb))
  where
    once : (c : ℕ) → Within n c → total n (λ v. bit (c == v)) ≡ 1
    once c w = total_at n (λ v. bit (c == v)) c w (λ v u e. ap bit (ne_eqb c v (λ q. e (sym q)))) ∙ ap bit (eq-eqb c c refl)

-- two vertices of a barrier are equivalent
pub barrier_pair : (g : Graph) (s : Set) (a b : ℕ) → IsGraph g → IsBarrier g s → Within g.order a → Within g.order b → a ≢ b → s a ≡ true → s b ≡ true → (m : Set) → IsPerfect g (pair_set a b) m → ⊥
barrier_pair g s a b is bar wa wb d sa sb m p =
    let k = berge_bound g (pair_set a b) (minus s (pair_set a b)) m is (perfect_matching g (pair_set a b) m p) in
    let z = perfect_misses g (pair_set a b) m p in
    let e = ap (odd_component_count g) (fun_ext (λ v. back (s v) (a == v) (b == v) (λ t. ap s (sym (eqb-true a v t)) ∙ sa) (λ t. ap s (sym (eqb-true b v t)) ∙ sb))) in
    let t = two_less g.order s a b wa wb d sa sb in absurd (omega (arith, bar, k, z, e, t))
  where
    back : (x y z : Bool) → (y ≡ true → x ≡ true) → (z ≡ true → x ≡ true) → ((y || z) || (x && not (y || z))) ≡ x
    back x y z h k = grind arith

-- two equivalent vertices lie in a barrier
pub equivalent_barrier : (g : Graph) (m : Set) (a b : ℕ) → IsGraph g → IsPerfect g none m → Within g.order a → Within g.order b → a ≢ b → ((k : Set) → IsPerfect g (pair_set a b) k → ⊥) → (s : Set) × IsBarrier g s × (s a ≡ true) × (s b ≡ true)
equivalent_barrier g m a b is p wa wb d no_match = (union (pair_set a b) t.s, equal, ap (λ c. (c || (b == a)) || t.s a) (eq-eqb a a refl), at_b (a == b) (b == b) (t.s b) (eq-eqb b b refl))
  where
    t : TutteBerge g (pair_set a b)
    t = tutte_berge g (pair_set a b) is

    at_b : (x y z : Bool) → y ≡ true → ((x || y) || z) ≡ true
    at_b x y z h = grind arith

    equal : IsBarrier g (union (pair_set a b) t.s)
    equal = settle (missed_count g (pair_set a b) t.m) (count g.order t.s) (odd_component_count g (union (pair_set a b) t.s)) (count g.order (union (pair_set a b) t.s)) t.equal two_more (few_odd_components g (union (pair_set a b) t.s) m is p)
        (λ z. no_match t.m (none_missed-perfect g (pair_set a b) t.m t.is z)) (grind (arith, odd_component_count-parity, odd-add, count_complement, n_even))
      where
        two_more : count g.order (union (pair_set a b) t.s) ≡ count g.order t.s + 2
        two_more = two_less g.order (union (pair_set a b) t.s) a b wa wb d (ap (λ c. (c || (b == a)) || t.s a) (eq-eqb a a refl)) (at_b (a == b) (b == b) (t.s b) (eq-eqb b b refl))
            ∙ ap (λ k. k + 2) (count_congr g.order _ _ (λ v w. grind arith))

        n_even : is_odd g.order ≡ false
        n_even = let a = missed_edges g none m is (perfect_matching g none m p) in let b = perfect_misses g none m p in let c = count_complement g.order none in
            let z : count g.order none ≡ 0 = total_none g.order _ (λ v w. refl) in
            let e : g.order ≡ count (size g) m + count (size g) m = omega arith in ap is_odd e ∙ odd-double (count (size g) m)

        settle : (k c o n : ℕ) → k + c ≡ o → n ≡ c + 2 → o ≤ n → (k ≡ 0 → ⊥) → is_odd o ≡ is_odd n → o ≡ n
        settle zero c o n e f l h q = absurd (h refl)
        settle (suc zero) c o n e f l h q = absurd (flip (is_odd c) (ap is_odd (e' c o e) ∙ q ∙ ap is_odd (f' c n f)))
          where
            e' : (c o : ℕ) → 1 + c ≡ o → suc c ≡ o
            e' c o e = omega arith

            f' : (c n : ℕ) → n ≡ c + 2 → n ≡ suc (suc c)
            f' c n f = omega arith

            flip : (x : Bool) → not x ≡ not (not x) → ⊥
            flip x h = grind arith
        settle (suc (suc k)) c o n e f l h q = omega arith
