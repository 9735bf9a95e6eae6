-- One step of the path up from an outer vertex: over its mate to its grandparent. Idea: the path of
-- the vertex is that of its grandparent with two more vertices, so writing these two leaves the
-- grandparent's path to be written.
use Rattle.graph_core.proofs.from_counting.Common.{◌≡◌, ◌≢◌, ℕ, suc, ◌+◌, ◌≤◌, ◌<◌, true, sym, ap, ◌∙◌, arith, inl, inr, subst, List, cases_eq, Within, Set, mem}
use Rattle.graph_core.proofs.Common.{Graph}
use Rattle.match_search.specs.Common.{HoldsAlternating, with_mate, numbers}
use Rattle.match_search.specs.declared.alternating.AlternatingForest.{AlternatingForest}
use Rattle.match_search.proofs.MatePairs.{with_here, with_there}

-- before the place nothing changes
pub unwritten : (row : ℕ → ℕ) (place u w j : ℕ) → j < place → with_mate (with_mate row (suc place) u) place w j ≡ row j
unwritten row place u w j l = with_there (with_mate row (suc place) u) place w j (λ s. absurd (omega arith)) ∙ with_there row (suc place) u j (λ s. absurd (omega arith))

module _ (g : Graph) (r f : Set) (mate : List ℕ) (t : AlternatingForest) (h : HoldsAlternating g r f mate t) (u : ℕ) (o : mem t.outer u ≡ true) (n : h.k u ≢ 0) where
  abbrev pub grandparent : ℕ
  grandparent = numbers t.parent.items (numbers mate u)

  pub up_parts : (mem t.outer grandparent ≡ true) × (h.k u ≡ suc (h.k grandparent)) × (h.v u (suc (h.k grandparent + h.k grandparent)) ≡ numbers mate u)
      × ((j : ℕ) → j ≤ h.k grandparent + h.k grandparent → h.v u j ≡ h.v grandparent j)
  up_parts =
      let p = h.up u o n in
      subst (λ (q : ℕ). (mem t.outer q ≡ true) × (h.k u ≡ suc (h.k q)) × (h.v u (suc (h.k q + h.k q)) ≡ numbers mate u) × ((j : ℕ) → j ≤ h.k q + h.k q → h.v u j ≡ h.v q j))
      (sym p.1.parent) (p.1.outer, p.1.pairs, p.1.inner, p.1.before)

  pub up_within : Within g.order (numbers mate u)
  up_within = let p = up_parts in let less = p.1 in subst (λ (x : ℕ). Within g.order x) p.2 ((h.forest.path u o).path.within (suc (h.k grandparent + h.k grandparent)) (omega arith))

  -- the row with the last two vertices of the path of u, which are those of the path of x, from
  -- place 2 k on
  pub path_written : (x : ℕ) (row new : List ℕ) (start : ℕ) → ((j : ℕ) → j ≤ h.k u + h.k u → h.v u j ≡ h.v x j) → ((j : ℕ) → h.k u + h.k u < j → j ≤ h.k x + h.k x → numbers row (start + j) ≡ h.v x j) →
      (place : ℕ) → suc place ≡ start + (h.k u + h.k u) → ((j : ℕ) → numbers new j ≡ with_mate (with_mate (numbers row) (suc place) u) place (numbers mate u) j) →
      (j : ℕ) → h.k grandparent + h.k grandparent < j → j ≤ h.k x + h.k x → numbers new (start + j) ≡ h.v x j
  path_written x row new start above old place at is j lo hi = elim (cases_eq (start + j) place) [
    | inl q ↦
        let p = up_parts in
        let k = p.1 in
        let s : j ≡ suc (h.k grandparent + h.k grandparent) = omega arith in
        is (start + j) ∙ with_here (with_mate (numbers row) (suc place) u) place (numbers mate u) (start + j) q ∙ sym p.2 ∙ ap (h.v u) (sym s) ∙ above j (omega arith)
    | inr q ↦ elim (cases_eq (start + j) (suc place)) [
      | inl z ↦
          let s : j ≡ h.k u + h.k u = omega arith in
          is (start + j) ∙ with_there (with_mate (numbers row) (suc place) u) place (numbers mate u) (start + j) q ∙ with_here (numbers row) (suc place) u (start + j) z ∙ sym (h.forest.last u o) ∙ ap (h.v u) (sym s) ∙ above j (omega arith)
      | inr z ↦ grind (arith, up_parts, with_there (with_mate (numbers row) (suc place) u) place (numbers mate u) (start + j) q, with_there (numbers row) (suc place) u (start + j) z)
    ]
  ]
    where
      over : (a j place k l : ℕ) → suc place ≡ a + (k + k) → k ≡ suc l → l + l < j → a + j ≢ place → a + j ≢ suc place → k + k < j
      over a j place k l s e lo q z = grind arith
