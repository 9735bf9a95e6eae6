-- Two matchings with the same mates have the same degrees, so they have the same number of edges.
-- Idea: the degree of a vertex is 1 if it has a mate and 0 if not, and the degrees of all vertices
-- add up to twice the number of edges.
use Rattle.graph_core.proofs.from_counting.Common.{◌≡◌, ℕ, ◌+◌, ◌*◌, ◌==◌, sym, ap, ◌∙◌, arith, inl, inr, not, ◌&&◌, eq-eqb, ne_eqb, cases_eq, total_congr, Within, bit, count, Set, complement}
use Rattle.graph_core.proofs.Common.{missed_edges, Graph, IsGraph, degree, size, missed_count}
use Rattle.match_search.specs.Common.{HasMates}
use Rattle.match_search.proofs.Forests.{met}

-- a vertex has one edge of the matching if it has a mate, and none if it is exposed
pub mates_degree : (g : Graph) (r m : Set) (mate : ℕ → ℕ) → HasMates g r m mate → (v : ℕ) → Within g.order v → degree g m v ≡ bit (not (mate v == 0))
mates_degree g r m mate has v w = elim (cases_eq (mate v) 0) [
  | inl q ↦ has.exposed v w q ∙ sym (ap (λ b. bit (not b)) (eq-eqb (mate v) 0 q))
  | inr q ↦ let d = has.paired v w q in let a = (met g m d.0 v (mate v) d.1 d.2 d.3).0 in let o = has.matching.once v w in let b = ap (λ b. bit (not b)) (ne_eqb (mate v) 0 q) in omega arith
]

pub same_mates_missed : (g : Graph) (r m n : Set) (mate : ℕ → ℕ) → HasMates g r m mate → HasMates g r n mate → missed_count g r m ≡ missed_count g r n
unfolding missed_count
same_mates_missed g r m n mate hm hn = grind (arith, total_congr g.order, mates_degree g r m mate hm, mates_degree g r n mate hn)

-- matchings with the same mates have as many edges
pub same_mates_count : (g : Graph) → IsGraph g → (r m n : Set) (mate : ℕ → ℕ) → HasMates g r m mate → HasMates g r n mate → count (size g) m ≡ count (size g) n
same_mates_count g is r m n mate hm hn = grind (arith, missed_edges g r m is hm.matching, missed_edges g r n is hn.matching, same_mates_missed g r m n mate hm hn)

-- the exposed vertices outside r, by their mates, and twice the edges of the matching are the
-- vertices outside r
pub exposed_mates : (g : Graph) → IsGraph g → (r m : Set) (mate : ℕ → ℕ) → HasMates g r m mate → count g.order (λ v. not (r v) && (mate v == 0)) + 2 * count (size g) m ≡ count g.order (complement r)
unfolding missed_count
exposed_mates g is r m mate has =
    ap (λ k. k + 2 * count (size g) m) (total_congr g.order (λ v. bit (not (r v) && (mate v == 0))) (λ v. bit (not (r v) && (degree g m v == 0)))
    (λ v w. ap (λ b. bit (not (r v) && b)) (sym (ap (λ d. d == 0) (mates_degree g r m mate has v w) ∙ (grind arith)))))
    ∙ missed_edges g r m is has.matching
