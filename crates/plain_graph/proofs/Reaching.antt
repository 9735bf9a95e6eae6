-- The vertices that walks with one more step reach, and those that a walk of as many steps as there
-- are vertices reaches.
use Rattle.allowed_edges.proofs.from_counting.Common.{◌≡◌, ℕ, ◌+◌, ◌&&◌, ◌||◌, ◌==◌, not, true, false, ap, sym, ◌∙◌, arith, List, [], length, Option, unwrap_or, nat_lt, ltb-true, lt-ltb, eq-eqb, ne_eqb, inl, inr, IfSome, IfNone, not_from_false, and_from, and_parts, and_right, both_ways, cases_eq, cases_lt, false_from_ne_true, count_congr, count_mem_length, set-narrower, some_congr, some_true, true_some, Within, count, IsLeastOf, IsRisingIn, mem, Set, some}
use Rattle.graph_core.proofs.Common.{is_least, Graph, adjacent, joined, reaches, flood_own}

-- one step more
pub reaches-step : (g : Graph) (s x : Set) (u k : ℕ) → ((v : ℕ) → Within g.order v → x v ≡ reaches g.order (adjacent g s) u k v) → (v : ℕ) → Within g.order v →
    reaches g.order (adjacent g s) u (k + 1) v ≡ (x v || some g.order (λ w. x w && adjacent g s w v))
reaches-step g s x u k h v w = grind (arith, some_congr g.order)

-- as many steps as there are vertices
pub reaches-all : (g : Graph) (s : Set) (u k : ℕ) → k ≡ g.order → (v : ℕ) → reaches g.order (adjacent g s) u k v ≡ joined g s u v
unfolding joined
reaches-all g s u k e v = ap (λ j. reaches g.order (adjacent g s) u j v) e

-- the first of a set with a member is its least
first_of : (o : Option ℕ) (xs : List ℕ) (u : ℕ) → IfSome o (IsLeastOf xs) → mem xs u ≡ true → IfNone o (xs ≡ []) → IsLeastOf xs (unwrap_or o u)
first_of o xs u some m none = grind arith

-- a vertex outside s is the least of its component where it is the first of the vertices that it
-- is joined to
pub least-first : (g : Graph) (s : Set) (u : ℕ) (part : List ℕ) (o : Option ℕ) → Within g.order u → s u ≡ false → ((v : ℕ) → Within g.order v → mem part v ≡ joined g s u v) → ((v : ℕ) → mem part v ≡ true → Within g.order v) →
    IfSome o (IsLeastOf part) → IfNone o (part ≡ []) → (unwrap_or o u == u) ≡ is_least g s u
unfolding joined
least-first g s u part o w out is vertices some_first none_first = elim (cases_eq x u) [
  | inl e ↦ eq-eqb x u e ∙ sym (and_from (not (s u)) (not (some g.order less)) (not_from_false (s u) out) (not_from_false (some g.order less) (no_less e)))
  | inr n ↦ ne_eqb x u n ∙ sym (and_right (not (s u)) (not (some g.order less)) (ap not (some_less n)))
]
  where
    x : ℕ
    x = unwrap_or o u

    less : Set
    less v = joined g s u v && nat_lt v u

    own : mem part u ≡ true
    own = is u w ∙ flood_own g.order (adjacent g s) u g.order

    least : IsLeastOf part x
    least = first_of o part u some_first own none_first

    no_less : x ≡ u → some g.order less ≡ false
    no_less e = grind (arith, false_from_ne_true (some g.order less), some_true g.order less, and_parts, nat_lt, ltb-true, both_ways)

    some_less : (x ≡ u → ⊥) → some g.order less ≡ true
    some_less n = elim (cases_lt x u) [
      | inl l ↦ let wx = vertices x least.member in true_some g.order less x (omega arith) (and_from (joined g s u x) (nat_lt x u) (sym (is x (omega arith)) ∙ least.member) (lt-ltb x u l))
      | inr ge ↦ absurd (both_ways (mem part u) (least.before u (omega arith)) own)
    ]

-- a set that has the numbers of a test within 1 to n is as long as the test counts
pub length-part : (n m : ℕ) (part : List ℕ) (x : Set) → IsRisingIn m part → ((v : ℕ) → mem part v ≡ true → Within n v) → ((v : ℕ) → Within n v → mem part v ≡ x v) → length part ≡ count n x
length-part n m part x rises within is = sym (count_mem_length n part (set-narrower m n part rises (λ v h. (within v h).1))) ∙ count_congr n (mem part) x is
