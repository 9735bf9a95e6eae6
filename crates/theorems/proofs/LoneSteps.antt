-- Whether a perfect matching leads out of a stage at two vertices alone is decided.
-- Idea: for each two vertices the graph of the open edges has a perfect matching or none.
use Rattle.tree_check.proofs.from_counting.Common.{◌≡◌, ◌≢◌, ℕ, zero, suc, ◌⊎◌, arith, inl, inr, true, subst, both_ways, cases_Bool, cases_eq, rising_only, Within, mem, Set, none}
use Rattle.barrier_kit.proofs.Common.{perfect_or_not}
use Rattle.ear_text.proofs.from_ear_core.MarkedMatchings.{marked-listed, marked-perfect}
use Rattle.ear_text.proofs.from_ear_core.NextStages.{met-within}
use Rattle.ear_text.specs.from_ear_core.Common.{IsPerfectBy, LeadsAtTwo, is_open, by_rank, listed, is_met}
use Rattle.graph_core.proofs.Common.{Graph, IsGraph, size, with_ends}
use Rattle.match_core.proofs.MatchingEdges.{marked-edges, marked_matching}
use Rattle.match_core.specs.Common.{edges_of}
use Rattle.theorems.proofs.EarPaths.{perfect-rows}

-- where a property is decided at each number, so is whether it holds at one
within-or : (n : ℕ) (P : ℕ → Type 0) → ((k : ℕ) → Within n k → P k ⊎ (P k → ⊥)) → ((k : ℕ) × Within n k × P k) ⊎ ((k : ℕ) × Within n k × P k → ⊥)
within-or zero P each = inr (λ x. let w = x.1 in absurd (omega arith))
within-or (suc n) P each = elim (each (suc n) (omega arith, omega arith)) [
  | inl p ↦ inl (suc n, (omega arith, omega arith), p)
  | inr never ↦ elim (within-or n P (λ k w. each k (omega arith, omega arith))) [
    | inl found ↦ let w = found.1 in inl (found.0, (omega arith, omega arith), found.2)
    | inr none ↦ inr (λ x. elim (cases_eq x.0 (suc n)) [
      | inl e ↦ never (subst P e x.2)
      | inr d ↦ let w = x.1 in none (x.0, (omega arith, omega arith), x.2)
    ])
  ]
]

module _ (g : Graph) (is : IsGraph g) (f : Set) where
  -- a perfect matching leads out at u and v alone
  abbrev LeadsAt : ℕ → ℕ → Type 0
  LeadsAt u v = (u ≢ v) × (is_met g f u ≡ true) × (is_met g f v ≡ true) × ((m : Set) × IsPerfectBy g (is_open g f u v) m)

  leads-or : (u v : ℕ) → LeadsAt u v ⊎ (LeadsAt u v → ⊥)
  leads-or u v = elim (cases_eq u v) [
    | inl same ↦ inr (λ x. x.0 same)
    | inr differ ↦ elim (cases_Bool (is_met g f u)) [
      | inr off ↦ inr (λ x. both_ways (is_met g f u) off x.1)
      | inl first ↦ elim (cases_Bool (is_met g f v)) [
        | inr off ↦ inr (λ x. both_ways (is_met g f v) off x.2)
        | inl second ↦ elim (perfect_or_not (with_ends g (listed g (is_open g f u v) (size g))) none) [
          | inl p ↦ inl (differ, first, second, (by_rank (is_open g f u v) p.0, marked-perfect g (is_open g f u v) p.0 p.1))
          | inr never ↦ inr (λ x. let p = marked-listed g (is_open g f u v) x.3.0 x.3.1 in never p.0 p.1)
        ]
      ]
    ]
  ]

  pub lone-or : ((m : Set) × LeadsAtTwo g f m) ⊎ ((m : Set) → LeadsAtTwo g f m → ⊥)
  lone-or = elim (within-or g.order (λ u. (v : ℕ) × Within g.order v × LeadsAt u v) (λ u wu. within-or g.order (λ v. LeadsAt u v) (λ v wv. leads-or u v))) [
    | inl found ↦ let x = found.2.2 in inl (x.3.0, (found.0, found.2.0, x.0, x.1, x.2, x.3.1))
    | inr never ↦ inr (λ m x. never (x.0, met-within g is f x.0 x.3, (x.1, met-within g is f x.1 x.4, (x.2, x.3, x.4, (m, x.5)))))
  ]

  -- the rows of such a matching
  pub lone-rows : (m : Set) → LeadsAtTwo g f m → LeadsAtTwo g f (mem (edges_of (marked_matching g m)))
  lone-rows m x = (
    x.0,
    x.1,
    x.2,
    x.3,
    x.4,
    record {
      perfect = (perfect-rows g m x.5.perfect).perfect;
      part = λ e w t. x.5.part e w (rising_only (size g) m e (subst (λ xs. mem xs e ≡ true) (marked-edges g m) t)).1;
    },
  )
