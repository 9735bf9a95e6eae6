-- Hall's theorem: a matching that meets a whole side, against the sizes of neighbourhoods. The
-- partners that Hall's condition gives are such a matching; and an edge of a matching at a vertex
-- of a set has its other end among the neighbours, so these meet as many edges.
use Rattle.tree_check.proofs.from_counting.Common.{◌≡◌, ℕ, ◌+◌, ◌*◌, ◌≤◌, Bool, true, ◌&&◌, not, sym, ap, ◌∙◌, arith, ◌↔◌, and_from, and_parts, both_ways, not-true, some_true, true_some, total_add, total_congr, total_le, true≢false, count_mono, Within, bit, count, some, total, Set, complement, meet, none}
use Rattle.barrier_kit.proofs.Common.{neighbours}
use Rattle.graph_core.proofs.Common.{adjacent-edge, has_ends-back, has_ends-own, perfect_matching, Graph, IsGraph, IsMatching, IsMultigraph, IsSide, adjacent, degree, first_end, has_ends, second_end, size}
use Rattle.match_search.proofs.Certificates.{ends_total}
use Rattle.theorems.proofs.Neighbourhoods.{edge_neighbour, near_side}
use Rattle.theorems.proofs.Partners.{beside, matched_pairs, own_paired, paired}
use Rattle.theorems.specs.Braces.{neighbourhood}

-- what the degrees in a set add up to, end by end
pub ends_sum : (g : Graph) (m x : Set) → IsGraph g → total g.order (λ v. bit (x v) * degree g m v) ≡ total (size g) (λ e. bit (m e && x (first_end g e)) + bit (m e && x (second_end g e)))
ends_sum g m x is = ends_total g is m x ∙ sym (total_add (size g) (λ e. bit (m e && x (first_end g e))) (λ e. bit (m e && x (second_end g e))))

-- a matching meets at most as many ends in a set as the set has vertices
pub ends_few : (g : Graph) (m x : Set) → IsMatching g none m → total g.order (λ v. bit (x v) * degree g m v) ≤ count g.order x
ends_few g m x mm = total_le g.order _ (λ v. bit (x v)) (λ v w. each (x v) (degree g m v) (mm.once v w))
  where
    each : (b : Bool) (d : ℕ) → d ≤ 1 → bit b * d ≤ bit b
    each b d h = grind arith

-- a set all of whose vertices a matching meets has as many neighbours
module _ (g : Graph) (s m : Set) (is : IsGraph g) (mm : IsMatching g none m) (met : (v : ℕ) → Within g.order v → s v ≡ true → degree g m v ≡ 1) where
  abbrev near : Set
  near = neighbourhood g s

  into : (e : ℕ) → Within (size g) e → bit (m e && s (first_end g e)) + bit (m e && s (second_end g e)) ≤ bit (m e && near (first_end g e)) + bit (m e && near (second_end g e))
  into e w = bits (m e) (s (first_end g e)) (s (second_end g e)) (near (first_end g e)) (near (second_end g e))
      (λ h. edge_neighbour g s (first_end g e) (second_end g e) e (is e w).0 h w (has_ends-own g e))
      (λ h. edge_neighbour g s (second_end g e) (first_end g e) e (is e w).1 h w (has_ends-back g (first_end g e) (second_end g e) e (has_ends-own g e)))
    where
      bits : (k a b c d : Bool) → (a ≡ true → d ≡ true) → (b ≡ true → c ≡ true) → bit (k && a) + bit (k && b) ≤ bit (k && c) + bit (k && d)
      bits k a b c d h i = grind arith

  pub met_near : count g.order s ≤ count g.order near
  met_near =
      let x = total_congr g.order (λ v. bit (s v)) (λ v. bit (s v) * degree g m v) (λ v w. one (s v) (degree g m v) (met v w)) in
      let y = ends_sum g m s is in
      let z = total_le (size g) (λ e. bit (m e && s (first_end g e)) + bit (m e && s (second_end g e))) (λ e. bit (m e && near (first_end g e)) + bit (m e && near (second_end g e))) into in
      let n = ends_sum g m near is in
      let f = ends_few g m near mm in omega arith
    where
      one : (b : Bool) (d : ℕ) → (b ≡ true → d ≡ 1) → bit b ≡ bit b * d
      one b d h = grind arith

module _ (g : Graph) (a : Set) (is : IsMultigraph g) (two : IsSide g a) where
  -- neighbours of a part of the side are beside it, on the other side
  pub near_beside : (s : Set) → ((v : ℕ) → s v ≡ true → a v ≡ true) → (v : ℕ) → Within g.order v → neighbourhood g s v ≡ true → neighbours g.order (beside g) (complement a) s v ≡ true
  near_beside s sub v w h = grind (arith, some_true, adjacent, none, and_parts, adjacent-edge, and_from, complement, some, near_side, true_some, size, has_ends)

  pub halls_theorem : ((m : Set) × IsMatching g none m × ((v : ℕ) → Within g.order v → a v ≡ true → degree g m v ≡ 1)) ↔
      ((s : Set) → ((v : ℕ) → Within g.order v → s v ≡ true → a v ≡ true) → count g.order s ≤ count g.order (neighbourhood g s))
  halls_theorem = (
    (λ h s sub. met_near g s h.0 is.ends h.1 (λ v w t. h.2 v w (sub v w t))),
    (λ h.
        let apart : (v : ℕ) → a v ≡ true → complement a v ≡ true → ⊥ = λ v i j. both_ways (a v) (not-true (a v) j) i in
        let enough : (z : Set) → count g.order (meet z a) ≤ count g.order (neighbours g.order (beside g) (complement a) (meet z a)) = λ z.
        let sub : (v : ℕ) → meet z a v ≡ true → a v ≡ true = λ v i. (and_parts (z v) (a v) i).1 in
        let few = h (meet z a) (λ v w. sub v) in
        let more = count_mono g.order (neighbourhood g (meet z a)) (neighbours g.order (beside g) (complement a) (meet z a)) (near_beside (meet z a) sub) in omega arith in
        let m = matched_pairs g a (complement a) is.ends apart enough in (
          m.0,
          record { once = (perfect_matching g (complement (paired g a (complement a) is.ends apart enough)) m.0 m.1).once; away = λ v w o. absurd (true≢false (sym o)) },
          (λ v w t. m.1.once v w (ap not (own_paired g a (complement a) is.ends apart enough v w t))),
        )),
  )
