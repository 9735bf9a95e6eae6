-- An edge is allowed if and only if its ends are partners; the list of the allowed edges, the least
-- edge that is none, and whether a maximum matching is perfect. A perfect matching with the edge,
-- less the edge, is perfect without its ends, and back. A perfect matching is as large as any.
use Rattle.graph_core.proofs.from_counting.Common.{◌≡◌, ◌↔◌, ℕ, ◌==◌, ◌||◌, List, refl, arith, eq-eqb, inl, inr, same_tests, both_ways, cases_Bool, or_right, rising_only, mem-rising_list, rising_list-rises, Within, Lists, item, mem, rising_list, Set, none, pair_set}
use Rattle.graph_core.proofs.Common.{Graph, IsGraph, IsMultigraph, first_end, second_end, size, Allowed, HasPerfect, IsMaximum, has_perfect, is_allowed, missed_count, has_perfect_found, has_perfect_says, is_allowed_found, is_allowed_says, missed_edges, none_missed-perfect, perfect_matching, perfect_misses}
use Rattle.match_core.specs.Common.{ArePartners, are_partners}
use Rattle.allowed_edges.proofs.ThroughEdges.{one_cut, one_glued}

module _ (g : Graph) (is : IsMultigraph g) (e : ℕ) (we : Within (size g) e) where
  -- the ends of an allowed edge are partners
  allowed-perfect : Allowed g e → HasPerfect g (pair_set (first_end g e) (second_end g e))
  allowed-perfect = one_cut g is e we none (pair_set (first_end g e) (second_end g e)) (λ v. refl) (λ v. refl)

  -- an edge whose ends are partners is allowed
  perfect-allowed : HasPerfect g (pair_set (first_end g e) (second_end g e)) → Allowed g e
  perfect-allowed p = (
    λ i. p.0 i || (e == i),
    one_glued g is e we none (pair_set (first_end g e) (second_end g e)) (λ v. refl) (λ v. refl) p.0 (λ i. p.0 i || (e == i)) p.1 (λ i. refl),
    or_right (p.0 e) (e == e) (eq-eqb e e refl),
  )

  pub partners-allowed : are_partners g none (first_end g e) (second_end g e) ≡ is_allowed g e
  partners-allowed = grind (arith, same_tests, is_allowed_found, perfect-allowed, has_perfect_says, pair_set, first_end, second_end, has_perfect_found, allowed-perfect, is_allowed_says)

-- the row of one end says whether the edge is allowed
pub row-allowed : (g : Graph) (table : List (List ℕ)) (row : List ℕ) (e a b : ℕ) → IsMultigraph g → Within (size g) e → ArePartners g none table → row ≡ item table a → a ≡ first_end g e → b ≡ second_end g e → mem row b ≡ is_allowed g e
row-allowed g table row e a b is we are row_is first second = grind (arith, partners-allowed g is e we)

-- the allowed edges as a list
pub listed-allowed : (g : Graph) (es : List ℕ) → es ≡ rising_list (size g) (is_allowed g) → Lists (size g) es (Allowed g)
listed-allowed g es q = grind (arith, rising_list-rises (size g) (is_allowed g), rising_only (size g) (is_allowed g), is_allowed_says g, mem-rising_list (size g) (is_allowed g), is_allowed_found g)

-- a maximum matching misses no vertex if and only if there is a perfect matching
pub maximum-perfect : (g : Graph) (m : Set) → IsGraph g → IsMaximum g none m → (missed_count g none m ≡ 0) ↔ HasPerfect g none
maximum-perfect g m is max = grind (arith, none_missed-perfect g none m max.is, perfect_matching g none, missed_edges g none m is max.is, missed_edges g none, perfect_misses g none)

-- where a perfect matching is not excluded, there is one: whether there is one is decided
pub perfect_unless_none : (g : Graph) → ¬ (¬ (HasPerfect g none)) → HasPerfect g none
perfect_unless_none g h = elim (cases_Bool (has_perfect g none)) [
  | inl t ↦ has_perfect_says g none t
  | inr f ↦ absurd (h (λ p. both_ways (has_perfect g none) f (has_perfect_found g none p)))
]
