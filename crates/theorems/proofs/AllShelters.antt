-- One of the shores of a nontrivial tight cut of a covered graph contains a barrier with two vertices,
-- or a pocket and its first vertex. By induction on the order: a bicritical graph has such a pocket.
-- Another one has a barrier with two vertices. If half of it is no such barrier in a shore, a component
-- is a gate of the shore; by induction on the size of the gate.
-- Used by: CutsBeside.
use Rattle.tree_check.proofs.from_counting.Common.{◌≡◌, ℕ, suc, zero, ◌≤◌, ◌<◌, ◌⊎◌, Bool, true, false, ◌&&◌, not, sym, ap, ◌∙◌, arith, inl, inr, cases_lt, le_refl, and_parts, both_ways, not_not, count_complement, count_le, count_member, odd_pos, odd_three, two_members, Within, count, Set, complement, meet, minus}
use Rattle.barrier_kit.proofs.Common.{equivalent_barrier, tight-turned}
use Rattle.graph_core.proofs.Common.{covered_perfect, Graph, IsBarrier, IsCovered, IsGraph, IsNontrivial, IsTight}
use Rattle.quick_kinds.proofs.from_brick_kit.Bricks.{critical_or_pair}
use Rattle.theorems.proofs.ContractedShores.{Shrunk, order_is, shrink}
use Rattle.theorems.proofs.GatePockets.{Lesser, far_pocket}
use Rattle.theorems.proofs.GateSteps.{GateContraction, Shelter, covers, far_barrier, image, image_tight, image_wide, near_barrier, one_far}
use Rattle.theorems.proofs.HalfBarriers.{Gate, barrier_or_gate}
use Rattle.theorems.proofs.NearPockets.{near_pocket}
use Rattle.theorems.proofs.PocketShelters.{critical_shelter, holds_same}

-- each nontrivial tight cut of g has a shelter
abbrev Sheltered : Graph → Type 0
Sheltered g = (x : Set) → IsTight g x → IsNontrivial g.order x → Shelter g x ⊎ Shelter g (complement x)

shelter_same : (g : Graph) (y z : Set) → ((v : ℕ) → Within g.order v → y v ≡ z v) → Shelter g y → Shelter g z
shelter_same g y z same h = elim h [
  | inl r ↦ inl (record { set = r.set; barrier = r.barrier; two = r.two; contained = λ v w i. sym (same v w) ∙ r.contained v w i })
  | inr r ↦ inr (holds_same g y z same r)
]

module _ (g : Graph) (is : IsGraph g) (cov : IsCovered g) (below : (h : Graph) → IsGraph h → IsCovered h → h.order < g.order → Sheltered h) where
  module _ (p : Set) (tp : IsTight g p) where
    step : (w : Set) (b : ℕ) → Gate g p w b → Shelter g p ⊎ (Shelter g (complement p) ⊎ Lesser g p w)
    step w b gate = elim (cases_lt 1 (count g.order (minus w p))) [
      | inr one ↦ let o = odd_pos (count g.order (minus w p)) gate.odd in inl (inr (one_far g is cov p tp w b gate (omega arith)))
      | inl two ↦
          let three = odd_three (count g.order (minus w p)) gate.odd two in
          let k = shrink g w b is gate.within gate.out_set in
          let con : GateContraction = record { g = g; is = is; cov = cov; p = p; tp = tp; w = w; b = b; gate = gate; k = k; three = three } in
          elim (below k.h k.is (covers con) (fewer k) (image con) (image_tight con) (image_wide con)) [
            | inl s ↦ elim s [
              | inl r ↦ inr (inl (inl (far_barrier con r)))
              | inr r ↦ elim (far_pocket con r.set r.one r.other r.pocket r.contained r.first) [
                | inl q ↦ inr (inl (inr q))
                | inr q ↦ inr (inr q)
              ]
            ]
            | inr s ↦ elim s [
              | inl r ↦ inl (inl (near_barrier con r))
              | inr r ↦ elim (near_pocket con r.set r.one r.other r.pocket r.contained r.first) [
                | inl q ↦ inl (inr q)
                | inr t ↦ elim t [
                  | inl q ↦ inr (inl (inr q))
                  | inr q ↦ inr (inr q)
                ]
              ]
            ]
          ]
    ]
      where
        -- outside w are b and a vertex outside p
        fewer : (k : Shrunk g w) → k.h.order < g.order
        fewer k =
            let n = order_is g is w k in
            let q = count_member g.order (minus (complement p) w) gate.more in
            let s = split (p q.0) (w q.0) q.2 in
            let two = two_members g.order (complement w) b q.0 gate.within q.1 (λ e. both_ways (p b) (ap p e ∙ s.0) gate.out_shore) (ap not gate.out_set) (ap not s.1) in
            let o = count_complement g.order w in omega arith
          where
            split : (i j : Bool) → (not i && not j) ≡ true → (i ≡ false) × (j ≡ false)
            split i j h = grind arith

    -- by induction on the size of the gate
    gate_shelter : (n : ℕ) (w : Set) (b : ℕ) → Gate g p w b → count g.order w ≤ n → Shelter g p ⊎ Shelter g (complement p)
    gate_shelter zero w b gate le = let t = gate.tight in let o = odd_pos (count g.order w) t.odd in absurd (omega arith)
    gate_shelter (suc n) w b gate le = elim (step w b gate) [
      | inl s ↦ inl s
      | inr t ↦ elim t [
        | inl s ↦ inr s
        | inr s ↦ let l = s.less in gate_shelter n s.set s.exit s.gate (omega arith)
      ]
    ]

    -- half of a barrier
    from_half : (s : Set) → (IsBarrier g (meet s p) × (2 ≤ count g.order (meet s p))) ⊎ ((w : Set) × (b : ℕ) × Gate g p w b) → Shelter g p ⊎ Shelter g (complement p)
    from_half s h = elim h [
      | inl q ↦ inl (inl (record { set = meet s p; barrier = q.0; two = q.1; contained = λ v wv i. (and_parts (s v) (p v) i).1 }))
      | inr q ↦ gate_shelter (count g.order q.0) q.0 q.1 q.2 (le_refl (count g.order q.0))
    ]

  next : Sheltered g
  next x tx wide = elim (critical_or_pair g) [
    | inl bi ↦ elim (critical_shelter g is cov bi x tx wide) [
      | inl r ↦ inl (inr r)
      | inr r ↦ inr (inr r)
    ]
    | inr q ↦
        let m = covered_perfect g is cov in
        let s = equivalent_barrier g m.0 q.0 q.1 is m.1 q.2 q.3 q.4 q.5 in
        let two = two_members g.order s.0 q.0 q.1 q.2 q.3 q.4 s.2 s.3 in
        let back : (v : ℕ) → Within g.order v → complement (complement x) v ≡ x v = λ v w. not_not (x v) in
        elim (barrier_or_gate g is cov s.0 s.1 q.0 q.2 s.2 x tx wide two) [
          | inl h ↦ elim (from_half (complement x) (tight-turned g x tx) s.0 h) [
            | inl r ↦ inr r
            | inr r ↦ inl (shelter_same g (complement (complement x)) x back r)
          ]
          | inr h ↦ elim (from_half (complement (complement x)) (tight-turned g (complement x) (tight-turned g x tx)) s.0 h) [
            | inl r ↦ inl (shelter_same g (complement (complement x)) x back r)
            | inr r ↦ inr (shelter_same g (complement (complement (complement x))) (complement x) (λ v w. not_not (complement x v)) r)
          ]
        ]
  ]

up_to : (n : ℕ) (g : Graph) → IsGraph g → IsCovered g → g.order ≤ n → Sheltered g
up_to zero g is cov le x tx wide = let i = wide.inside in let j = count_le g.order x in absurd (omega arith)
up_to (suc n) g is cov le x tx wide = next g is cov (λ h ish covh less. up_to n h ish covh (omega arith)) x tx wide

-- each nontrivial tight cut of a covered graph has a shelter in one of its shores
pub sheltered : (g : Graph) → IsGraph g → IsCovered g → Sheltered g
sheltered g is cov = up_to g.order g is cov (le_refl g.order)
