-- Tight shores of a bipartite covered graph are the vertex sets that no arc of the digraph of a
-- perfect matching leaves, but from one vertex a of the side: then only the edge of the matching
-- at a leaves the set from the side, and none from the other.
use Rattle.graph_core.proofs.from_counting.Common.{◌≡◌, ◌≢◌, ℕ, ◌+◌, ◌≤◌, Bool, true, false, cond, ◌==◌, refl, sym, ap, ◌∙◌, arith, ◌&&◌, ◌||◌, not, eq-eqb, ne_eqb, inl, inr, ◌⊎◌, cases_eq, cases_Bool, true≢false, both_ways, and_parts, and_from, false_from_ne_true, not-true, and_right, member_count, two_members, some_true, true_some, total_add, total_le, total_none, bit, count, Within, Set, none, minus, meet}
use Rattle.graph_core.proofs.Common.{IsSide, IsCovered, Graph, size, first_end, second_end, IsGraph, has_ends, IsPerfect, IsTight, adjacent, tight_from_cut, perfect_matching, matching_apart, adjacent-edge, adjacent_from, has_ends-cases}
use Rattle.matching_digraph.proofs.Balance.{balance, crossing, leaves_left, leaves_right, none_right}
use Rattle.matching_digraph.specs.Digraph.{NoArcLeaves, arc, are_mates, step_past}

-- an edge of m with these ends makes mates
pub mates_from : (g : Graph) (m : Set) (u v e : ℕ) → Within (size g) e → m e ≡ true → has_ends g u v e ≡ true → are_mates g m u v ≡ true
mates_from g m u v e w t h = true_some (size g) (λ e. m e && has_ends g u v e) e w (and_from (m e) (has_ends g u v e) t h)

-- and mates have an edge of m
pub mates_edge : (g : Graph) (m : Set) (u v : ℕ) → are_mates g m u v ≡ true → (e : ℕ) × Within (size g) e × (m e ≡ true) × (has_ends g u v e ≡ true)
mates_edge g m u v h = let r = some_true (size g) (λ e. m e && has_ends g u v e) h in let p = and_parts (m r.0) (has_ends g u v r.0) r.2 in (r.0, r.1, p.0, p.1)

-- a test of both ends, where the edge has the ends u and v
pub at_ends : (g : Graph) (P : ℕ → ℕ → Type 0) (u v e : ℕ) → ((s t : ℕ) → P s t → P t s) → has_ends g u v e ≡ true → P (first_end g e) (second_end g e) → P u v
at_ends g P u v e turn h p = grind arith

-- the ends of an edge are vertices
pub ends_within : (g : Graph) → IsGraph g → (u v e : ℕ) → Within (size g) e → has_ends g u v e ≡ true → Within g.order u × Within g.order v
ends_within g is u v e w h = let k = is e w in at_ends g (λ s t. Within g.order s × Within g.order t) u v e (λ s t p. (p.1, p.0)) h (k.0, k.1)

pub ends_of_mates : (g : Graph) → IsGraph g → (m : Set) (u v : ℕ) → are_mates g m u v ≡ true → Within g.order u × Within g.order v
ends_of_mates g is m u v h = let e = mates_edge g m u v h in ends_within g is u v e.0 e.1 e.3

module _ (g : Graph) (is : IsGraph g) (x m : Set) (two : IsSide g x) (perfect : IsPerfect g none m) where
  -- the ends of an edge of m are on different sides
  pub mates_cross : (u v : ℕ) → are_mates g m u v ≡ true → x u ≡ not (x v)
  mates_cross u v h =
      let e = mates_edge g m u v h in
      at_ends g (λ s t. x s ≡ not (x t)) u v e.0 (λ s t. grind arith) e.3 (apart (x (first_end g e.0)) (x (second_end g e.0)) (crossing g is x none m two perfect e.0 e.1 e.2))
    where
      apart : (s t : Bool) → ((s && not t) || (not s && t)) ≡ true → s ≡ not t
      apart s t h = grind arith

  -- the edges of m at two mates of v are one edge
  pub mate_one : (u w v : ℕ) → Within g.order v → are_mates g m u v ≡ true → are_mates g m w v ≡ true → u ≡ w
  mate_one u w v wv h k =
      let e = mates_edge g m u v h in
      let f = mates_edge g m w v k in
      let same = matching_apart g m (perfect_matching g none m perfect) e.0 f.0 v e.1 f.1 wv e.2 f.2 (end_of e.0 u e.3) (end_of f.0 w f.3) in
      (grind arith)
    where
      end_of : (e u : ℕ) → has_ends g u v e ≡ true → (first_end g e ≡ v) ⊎ (second_end g e ≡ v)
      end_of e u h = grind arith

  module _ (a b : ℕ) (wa : Within g.order a) (mates : are_mates g m a b ≡ true) (xa : x a ≡ true) (y : Set) (ya : y a ≡ true) (yb : y b ≡ false) where
    xb : x b ≡ false
    xb = grind (arith, mates_cross a b mates)

    left : (u v e : ℕ) → has_ends g u v e ≡ true → y u ≡ true → x u ≡ true → y v ≡ false → x v ≡ false → leaves_left g is x two y e ≡ true
    left u v e h yu xu yv xv = grind arith

    -- the edge of m at a leaves y from the side
    leaving : (e : ℕ) × Within (size g) e × (m e ≡ true) × (has_ends g a b e ≡ true) × ((m e && leaves_left g is x two y e) ≡ true)
    leaving = let e = mates_edge g m a b mates in (e.0, e.1, e.2, e.3, and_from (m e.0) (leaves_left g is x two y e.0) e.2 (left a b e.0 e.3 ya xa yb xb))

    -- steps of the digraph
    step_adjacent : (u v : ℕ) → x u ≡ false → adjacent g none u v ≡ true → step_past a (arc g x m) u v ≡ true
    step_adjacent u v xu h = and_from (not (a == u)) (arc g x m u v) (ap not (ne_eqb a u (λ q. both_ways (x u) xu (ap x (sym q) ∙ xa)))) (ap (λ s. cond s (are_mates g m u v) (adjacent g none u v)) xu ∙ h)

    step_mate : (u v : ℕ) → x u ≡ true → a ≢ u → are_mates g m u v ≡ true → step_past a (arc g x m) u v ≡ true
    step_mate u v xu d h = and_from (not (a == u)) (arc g x m u v) (ap not (ne_eqb a u d)) (ap (λ s. cond s (are_mates g m u v) (adjacent g none u v)) xu ∙ h)

    -- the ends of an edge that leaves from the right, and from the left
    right_ends : (e : ℕ) → leaves_right g is x two y e ≡ true → (u v : ℕ) × (has_ends g u v e ≡ true) × (y u ≡ true) × (x u ≡ false) × (y v ≡ false)
    right_ends e h = grind arith

    left_ends : (e : ℕ) → leaves_left g is x two y e ≡ true → (u v : ℕ) × (has_ends g u v e ≡ true) × (y u ≡ true) × (x u ≡ true) × (y v ≡ false)
    left_ends e h = grind arith

    -- how many edges of k leave y from the left, and from the right
    abbrev lefts : Set → ℕ
    lefts k = count (size g) (λ e. k e && leaves_left g is x two y e)

    abbrev rights : Set → ℕ
    rights k = count (size g) (λ e. k e && leaves_right g is x two y e)

    module _ (closed : NoArcLeaves g x m a y) where
      no_right : (e : ℕ) → Within (size g) e → leaves_right g is x two y e ≡ false
      no_right e w = grind (arith, false_from_ne_true (leaves_right g is x two y e), leaves_right g is x two y e, right_ends e, ends_within g is, both_ways, step_adjacent, adjacent_from g none)

      rights_none : (k : Set) → rights k ≡ 0
      rights_none k = total_none (size g) (λ e. bit (k e && leaves_right g is x two y e)) (λ e w. ap bit (and_right (k e) (leaves_right g is x two y e) (no_right e w)))

      lefts_one : lefts m ≤ 1
      lefts_one =
          let l = total_le (size g) (λ e. bit (m e && leaves_left g is x two y e)) (λ e. bit (m e && (first_end g e == a)) + bit (m e && (second_end g e == a))) (λ e w. grind (arith, some_end)) in
          let s = total_add (size g) (λ e. bit (m e && (first_end g e == a))) (λ e. bit (m e && (second_end g e == a))) in
          let d = perfect.once a wa refl in omega arith
        where
          some_end : (e : ℕ) → Within (size g) e → m e ≡ true → leaves_left g is x two y e ≡ true → 1 ≤ bit (first_end g e == a) + bit (second_end g e == a)
          some_end e w t h = grind (arith, left_ends e h, ends_within g is, cases_eq a, has_ends-cases g, eq-eqb (first_end g e) a, eq-eqb (second_end g e) a, both_ways, step_mate, mates_from g m)

      -- a set that no arc leaves is tight
      pub closed_tight : IsTight g y
      closed_tight = tight_from_cut g y m is perfect (λ k p.
          let i = balance g is x two y m perfect in
          let j = balance g is x two y k p in
          let c = rights_none m in
          let d = rights_none k in
          let o = lefts_one in
          let l = member_count (size g) (λ e. m e && leaves_left g is x two y e) leaving.0 leaving.1 leaving.4 in
          let i0 = i.0 in let i1 = i.1 in let j0 = j.0 in let j1 = j.1 in omega arith)

    -- and a tight set is left by no arc
    pub tight_closed : IsCovered g → IsTight g y → NoArcLeaves g x m a y
    tight_closed cov tight u v wu wv yu s =
        let p = and_parts (not (a == u)) (arc g x m u v) s in
        elim (cases_Bool (y v)) [
          | inl t ↦ t
          | inr yv ↦ elim (cases_Bool (x u)) [
            | inl xu ↦
                let h : are_mates g m u v ≡ true = ap (λ s. cond s (are_mates g m u v) (adjacent g none u v)) (sym xu) ∙ p.1 in
                let e = mates_edge g m u v h in
                let n : (m e.0 && leaves_left g is x two y e.0) ≡ true = and_from (m e.0) (leaves_left g is x two y e.0) e.2 (left u v e.0 e.3 yu xu yv (grind arith)) in
                let k = two_members (size g) (λ e. m e && leaves_left g is x two y e) leaving.0 e.0 leaving.1 e.1 (λ q. other u v e.0 xu (not-true (a == u) p.0) e.3 (ap (has_ends g a b) (sym q) ∙ leaving.3)) leaving.4 n in
                let c = cut_one in absurd (omega arith)
            | inr xu ↦ grind (arith, adjacent-edge g none u v, both_ways, leaves_right g is x two y, none_right g is x two cov y tight.cut more)
          ]
        ]
      where
        cut_one : lefts m + rights m ≡ 1
        cut_one = (balance g is x two y m perfect).1 ∙ tight.cut m perfect

        more : count g.order (meet y x) ≡ count g.order (minus y x) + 1
        more =
            let i = (balance g is x two y m perfect).0 in
            let c = cut_one in
            let l = member_count (size g) (λ e. m e && leaves_left g is x two y e) leaving.0 leaving.1 leaving.4 in omega arith

        -- an edge with the ends u and v, and a and b, has a = u
        other : (u v e : ℕ) → x u ≡ true → (a == u) ≡ false → has_ends g u v e ≡ true → has_ends g a b e ≡ true → ⊥
        other u v e xu d h k = grind (arith, has_ends-cases g u v e h, has_ends-cases g a b e k, true≢false, eq-eqb a u, both_ways (x u), xb)

        right : (u v e : ℕ) → has_ends g u v e ≡ true → y u ≡ true → x u ≡ false → y v ≡ false → x v ≡ true → leaves_right g is x two y e ≡ true
        right u v e h yu xu yv xv = grind arith
