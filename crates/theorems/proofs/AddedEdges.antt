-- A perfect matching without the ends of an edge, with this edge, is one of the graph; and how a
-- matching meets a set of vertices. The edge is a perfect matching of its two ends.
use Rattle.tree_check.proofs.from_counting.Common.{◌≡◌, ◌≢◌, ℕ, ◌*◌, Bool, true, false, ◌==◌, ◌||◌, not, refl, sym, ap, ◌∙◌, arith, eq-eqb, eqb-true, inl, inr, or_cases, or_right, not_not_back, or_false_back, total_congr, Within, bit, count, total, Set, complement, minus, none, pair_set, singleton, union}
use Rattle.barrier_kit.proofs.Common.{glue, perfect_congr}
use Rattle.graph_core.proofs.Common.{has_ends-own, Graph, IsGraph, degree, first_end, second_end, size, Allowed, HasPerfect, IsPerfect}
use Rattle.quick_kinds.proofs.UnmatchedFours.{one_edge}

-- the two ends of an edge
abbrev pub ends_set : Graph → ℕ → Set
ends_set g e = pair_set (first_end g e) (second_end g e)

pub add_edge : (g : Graph) (r m : Set) (e : ℕ) → IsGraph g → Within (size g) e → first_end g e ≢ second_end g e → r (first_end g e) ≡ false → r (second_end g e) ≡ false →
    IsPerfect g (union (ends_set g e) r) m → IsPerfect g r (λ i. m i || singleton e i)
add_edge g r m e is w d ra rb p =
    perfect_congr g (complement (union (complement (union (ends_set g e) r)) (ends_set g e))) r (λ i. m i || singleton e i) (λ v wv. back (ends_set g e v) (r v) (λ h. elim (or_cases (first_end g e == v) (second_end g e == v) h) [
      | inl t ↦ ap r (sym (eqb-true (first_end g e) v t)) ∙ ra
      | inr t ↦ ap r (sym (eqb-true (second_end g e) v t)) ∙ rb
    ]))
    (glue g (complement (union (ends_set g e) r)) (ends_set g e) m (singleton e) is (λ v wv h k. apart (ends_set g e v) (r v) h k)
    (perfect_congr g (union (ends_set g e) r) (complement (complement (union (ends_set g e) r))) m (λ v wv. not_not_back (union (ends_set g e) r v)) p)
    (one_edge g e (first_end g e) (second_end g e) w (has_ends-own g e) d))
  where
    apart : (a b : Bool) → not (a || b) ≡ true → a ≡ true → ⊥
    apart a b h k = grind arith

    back : (a b : Bool) → (a ≡ true → b ≡ false) → not (not (a || b) || a) ≡ b
    back a b h = grind arith

-- an edge is in a perfect matching if there is one without its ends
pub allowed_from : (g : Graph) (e : ℕ) → IsGraph g → Within (size g) e → first_end g e ≢ second_end g e → HasPerfect g (ends_set g e) → Allowed g e
allowed_from g e is w d h = (
  (λ i. h.0 i || singleton e i),
  add_edge g none h.0 e is w d refl refl (perfect_congr g (ends_set g e) (union (ends_set g e) none) h.0 (λ v wv. or_false_back (ends_set g e v)) h.1),
  or_right (h.0 e) (e == e) (eq-eqb e e refl),
)

-- the vertices of y outside r each have one edge
pub degrees_outside : (g : Graph) (r m y : Set) → IsPerfect g r m → total g.order (λ v. bit (y v) * degree g m v) ≡ count g.order (minus y r)
degrees_outside g r m y p = grind (arith, total_congr, bit, degree)
