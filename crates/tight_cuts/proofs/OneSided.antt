-- Vertices that edges lying together with e join are on one side of each nontrivial tight set with
-- e in its cut. If they are all vertices but the ends of e, no pair is separated at e.
use Rattle.graph_core.proofs.from_counting.Common.{◌≡◌, ◌≢◌, ℕ, Bool, true, false, ◌||◌, ◌&&◌, ◌⊎◌, not, ◌==◌, refl, sym, ◌∙◌, inl, inr, List, [], ◌∷◌, None, eq-eqb, eqb-true, arith, and_parts, both_ways, false_from_ne_true, not-true, or_cases, or_left, or_right, Within, item, mem, union, Set, none, pair_set}
use Rattle.graph_core.proofs.Common.{Graph, IsGraph, IsMultigraph, adjacent, first_end, has_perfect_says, in_cut, second_end, size, Together, IsNontrivial, IsTight, adjacent-edge, adjacent_within, has_ends-cases}
use Rattle.barrier_kit.proofs.from_allowed_edges.ThroughEdges.{two_glued}
use Rattle.barrier_kit.specs.from_allowed_edges.Leaving.{ShareNone}
use Rattle.barrier_kit.specs.from_match_core.Common.{are_partners}
use Rattle.tight_cuts.proofs.EdgeLoop.{ends_between}
use Rattle.tight_cuts.proofs.FirstPairs.{no_first}
use Rattle.tight_cuts.proofs.LeastShores.{parts_nontrivial, separated_says}
use Rattle.tight_cuts.proofs.PairsOfEdges.{cut_between, others_stay}
use Rattle.tight_cuts.specs.Common.{first_separated, greater_end, is_separated, lesser_end, AreClusters, IsOneSided}

-- one vertex alone
pub alone : (g : Graph) (e v : ℕ) (x : List ℕ) → x ≡ v ∷ [] → IsOneSided g e (mem x)
alone g e v x is z tight nontrivial cut u w hu hw = grind arith

-- an edge that is not in the cut has its ends on one side
level : (s t : Bool) → ((s && not t) || (not s && t)) ≡ false → s ≡ t
level s t h = grind arith

-- a set that holds one end of an edge f that lies together with e may take both
module _ (g : Graph) (e f : ℕ) (we : Within (size g) e) (wf : Within (size g) f) (d : f ≢ e) (t : Together g e f) where
  ends_level : (z : Set) → IsTight g z → in_cut g z e ≡ true → z (first_end g f) ≡ z (second_end g f)
  ends_level z tight c = level (z (first_end g f)) (z (second_end g f)) (others_stay g z e f tight we wf d t c)

  module _ (x : Set) (one : IsOneSided g e x) (cut : in_cut g x f ≡ true) where
    -- the end that the set holds
    held_end : (x (first_end g f) ≡ true) ⊎ (x (second_end g f) ≡ true)
    held_end = grind arith

    -- each vertex of the wider set is on the side of the first end
    pub both_ends : (y : Set) → ((v : ℕ) → y v ≡ ((x v || (first_end g f == v)) || (second_end g f == v))) → IsOneSided g e y
    both_ends y is z tight nontrivial c u v hu hv = grind (arith, held_end, ends_level, or_cases, eqb-true)

-- a set may take vertices that are on the side of one of its own
pub widened : (g : Graph) (e u : ℕ) (x y : Set) → IsOneSided g e x → x u ≡ true →
    ((v : ℕ) → y v ≡ true → (x v ≡ true) ⊎ ((z : Set) → IsTight g z → IsNontrivial g.order z → in_cut g z e ≡ true → z u ≡ z v)) → IsOneSided g e y
widened g e u x y one xu from z tight nontrivial cut v w hv hw = sym (side v hv) ∙ side w hw
  where
    side : (v : ℕ) → y v ≡ true → z u ≡ z v
    side v h = elim (from v h) [
      | inl k ↦ one z tight nontrivial cut u v xu k
      | inr k ↦ k z tight nontrivial cut
    ]

-- neighbours that are partners without the ends of e are on one side
module _ (g : Graph) (is : IsMultigraph g) (e u v : ℕ) (we : Within (size g) e) (r : Set) (ends : (i : ℕ) → r i ≡ ((first_end g e == i) || (second_end g e == i))) (partners : are_partners g r u v ≡ true) (near : adjacent g none u v ≡ true) where
  parts : (r u ≡ false) × (r v ≡ false)
  parts = grind (arith, and_parts, not-true)

  edge : (f : ℕ) × Within (size g) f × (((first_end g f ≡ u) × (second_end g f ≡ v)) ⊎ ((first_end g f ≡ v) × (second_end g f ≡ u)))
  edge = let q = (adjacent-edge g none u v near).2 in (q.0, q.1, has_ends-cases g u v q.0 q.2)

  apart : ShareNone g e edge.0
  apart i a b = grind (arith, parts, ends, edge.2)

  differ : edge.0 ≢ e
  differ q = grind (arith, parts, ends, edge.2)

  together : Together g e edge.0
  together =
      let p = has_perfect_says g (union r (pair_set u v)) (grind (arith, and_parts)) in (
        (λ i. (p.0 i || (e == i)) || (edge.0 == i)),
        two_glued g is e edge.0 we edge.1 apart none r (union r (pair_set u v)) (λ i. refl) (λ i. grind (arith, ends i)) (λ i. grind (arith, edge.2)) p.0 (λ i. (p.0 i || (e == i)) || (edge.0 == i)) p.1 (λ i. refl),
        or_left (p.0 e || (e == e)) (edge.0 == e) (or_right (p.0 e) (e == e) (eq-eqb e e refl)),
        or_right (p.0 edge.0 || (e == edge.0)) (edge.0 == edge.0) (eq-eqb edge.0 edge.0 refl),
      )

  pub partners_level : (z : Set) → IsTight g z → IsNontrivial g.order z → in_cut g z e ≡ true → z u ≡ z v
  partners_level z tight nontrivial cut = grind (arith, ends_level g e edge.0 we edge.1 differ together z tight cut, edge.2)

-- a set with the neighbours of one of its vertices that are also partners of it
pub widened_by_row : (g : Graph) → IsMultigraph g → (e u : ℕ) → Within (size g) e → (r x y : Set) (row near : List ℕ) → ((i : ℕ) → r i ≡ ((first_end g e == i) || (second_end g e == i))) → IsOneSided g e x → x u ≡ true →
    ((v : ℕ) → Within g.order v → mem row v ≡ are_partners g r u v) → ((v : ℕ) → mem near v ≡ adjacent g none u v) → ((v : ℕ) → y v ≡ (x v || (mem near v && mem row v))) → IsOneSided g e y
widened_by_row g is e u we r x y row near ends one xu partners beside each = widened g e u x y one xu (λ v h. elim (or_cases (x v) (mem near v && mem row v) (sym (each v) ∙ h)) [
  | inl k ↦ inl k
  | inr k ↦
      let p = and_parts (mem near v) (mem row v) k in
      let a : adjacent g none u v ≡ true = sym (beside v) ∙ p.0 in
      inr (partners_level g is e u v we r ends (sym (partners v (adjacent_within g none is.ends u v a).1) ∙ p.1) a)
])

-- a set with the cluster of one of its vertices
pub with_cluster : (g : Graph) (e u : ℕ) (rows : List (List ℕ)) (x y : Set) → AreClusters g rows → Within g.order u → IsOneSided g e x → x u ≡ true → ((v : ℕ) → y v ≡ (x v || mem (item rows u) v)) → IsOneSided g e y
with_cluster g e u rows x y clusters wu one xu is = grind (arith, widened, or_cases, mem, item)

-- a set that holds all vertices but the ends of e
pub none_parted : (g : Graph) → IsGraph g → (e : ℕ) → Within (size g) e → (x : Set) → IsOneSided g e x → ((v : ℕ) → Within g.order v → first_end g e ≢ v → second_end g e ≢ v → x v ≡ true) → first_separated g e ≡ None
none_parted g is e we x one all = no_first g.order (is_separated g (lesser_end g e) (greater_end g e)) (λ u v wu wv. false_from_ne_true (is_separated g (lesser_end g e) (greater_end g e) (u, v)) (λ t.
    let p = separated_says g (lesser_end g e) (greater_end g e) (u, v) t in
    let q = p.2.1 in
    let c = cut_between g p.2.0 (lesser_end g e) (greater_end g e) e (ends_between g e) q.has_a q.lacks_b in
    let nontrivial : IsNontrivial g.order p.2.0 = parts_nontrivial g (lesser_end g e) (greater_end g e) (u, v) p.2.0 low high wu wv (grind arith) (grind arith) q in
    both_ways (p.2.0 v) q.lacks_y (sym (one p.2.0 q.tight nontrivial c u v (inside u wu p.0) (inside v wv p.1)) ∙ q.has_x)))
  where
    inside : (v : ℕ) → Within g.order v → pair_set (lesser_end g e) (greater_end g e) v ≡ false → x v ≡ true
    inside v w h = grind arith

    low : Within g.order (lesser_end g e)
    low = grind (arith, is e we)

    high : Within g.order (greater_end g e)
    high = grind (arith, is e we)
