-- The search over pairs in lexicographic order finds the first pair that is separated. Idea: a pair
-- of which a vertex does not lead its piece is separated only if the earlier one of the leaders is.
use Rattle.graph_core.proofs.from_counting.Common.{◌≡◌, ℕ, ◌+◌, ◌<◌, Bool, true, false, ◌==◌, refl, ap, ap₂, ◌∙◌, arith, not, ◌&&◌, inl, inr, ◌⊎◌, List, Option, Some, None, eq-eqb, cases_eq, cases_lt, both_ways, Within, pair_set}
use Rattle.graph_core.proofs.Common.{IsCovered, Graph, size, IsWithinLimits}
use Rattle.tight_cuts.proofs.EdgeLoop.{first_pair, no_pair, ends_between}
use Rattle.tight_cuts.proofs.EdgeShores.{ends_apart, lesser_within, greater_within, least_leads}
use Rattle.tight_cuts.proofs.FirstPairs.{before_first, first_leads, no_first}
use Rattle.tight_cuts.proofs.LeastShores.{separated_says}
use Rattle.tight_cuts.specs.Common.{lesser_end, greater_end, is_separated, first_separated, AreLeaders, Leads, NoneBefore, at_place}

module _ (g : Graph) (lim : IsWithinLimits g) (cov : IsCovered g) (e : ℕ) (we : Within (size g) e) (leaders : List ℕ) (ld : AreLeaders g (lesser_end g e) (greater_end g e) e leaders) where
  abbrev separated : ℕ × ℕ → Bool
  separated k = is_separated g (lesser_end g e) (greater_end g e) k

  -- both vertices of the first pair lead their pieces
  both_lead : (k : ℕ × ℕ) → first_separated g e ≡ Some k → (separated k ≡ true) × Leads g (lesser_end g e) (greater_end g e) leaders k.0 × Leads g (lesser_end g e) (greater_end g e) leaders k.1
  both_lead k q =
      let f = first_pair g.order (is_separated g (lesser_end g e) (greater_end g e)) k q in
      let p = separated_says g (lesser_end g e) (greater_end g e) k f.0 in
      let l = first_leads g ld.beside lim.multigraph.ends (lesser_end g e) (greater_end g e) e (lesser_within g lim cov e we) (greater_within g lim cov e we) we (ends_between g e) ld.is k q in
      (f.0, least_leads g lim.multigraph.ends (lesser_end g e) (greater_end g e) e (lesser_within g lim cov e we) (greater_within g lim cov e we) (ends_apart g lim cov e we) we (ends_between g e) leaders ld k.0 f.1 p.0 l.0, least_leads g lim.multigraph.ends (lesser_end g e) (greater_end g e) e (lesser_within g lim cov e we) (greater_within g lim cov e we) (ends_apart g lim cov e we) we (ends_between g e) leaders ld k.1 f.2 p.1 l.1)

  -- if no pair of different leaders is separated from a pair on, none is
  abbrev pub LeadersBefore : ℕ → ℕ → Type 0
  LeadersBefore x y = (c d : ℕ) → Leads g (lesser_end g e) (greater_end g e) leaders c → Leads g (lesser_end g e) (greater_end g e) leaders d → (c < x) ⊎ ((c ≡ x) × (d < y)) → separated (c, d) ≡ false

  -- no leaders' pair before (x, y) is separated: then no pair before it is
  pub none_before : (x y : ℕ) → LeadersBefore x y → NoneBefore g e x y
  none_before x y h c d wc wd b = go (first_separated g e) refl
    where
      go : (o : Option (ℕ × ℕ)) → first_separated g e ≡ o → separated (c, d) ≡ false
      go None q = no_pair g.order (is_separated g (lesser_end g e) (greater_end g e)) q c d wc wd
      go (Some k) q =
          let l = both_lead k q in
          grind (arith, cases_lt c k.0, before_first g.order (is_separated g (lesser_end g e) (greater_end g e)) k q c d wc wd, cases_eq c k.0, cases_lt d k.1, both_ways (separated k))

  -- the pair that is separated with none before it is the first
  pub first_is : (x y : ℕ) → Within g.order x → Within g.order y → NoneBefore g e x y → separated (x, y) ≡ true → first_separated g e ≡ Some (x, y)
  first_is x y wx wy h t = go (first_separated g e) refl
    where
      go : (o : Option (ℕ × ℕ)) → first_separated g e ≡ o → o ≡ Some (x, y)
      go None q = absurd (both_ways (separated (x, y)) (no_pair g.order (is_separated g (lesser_end g e) (greater_end g e)) q x y wx wy) t)
      go (Some k) q =
          let f = first_pair g.order (is_separated g (lesser_end g e) (greater_end g e)) k q in
          elim (cases_lt k.0 x) [
            | inl s ↦ absurd (both_ways (separated k) (h k.0 k.1 f.1 f.2 (inl s)) f.0)
            | inr s ↦ elim (cases_lt x k.0) [
              | inl u ↦ absurd (both_ways (separated (x, y)) (before_first g.order (is_separated g (lesser_end g e) (greater_end g e)) k q x y wx wy (inl u)) t)
              | inr u ↦
                  let a : k.0 ≡ x = omega arith in
                  elim (cases_lt k.1 y) [
                    | inl v ↦ absurd (both_ways (separated k) (h k.0 k.1 f.1 f.2 (inr (a, v))) f.0)
                    | inr v ↦ grind (arith, cases_lt y k.1, both_ways (separated (x, y)), before_first g.order (is_separated g (lesser_end g e) (greater_end g e)) k q x y wx wy)
                  ]
            ]
          ]

  -- none before the end: there is no pair
  pub none_at_all : (x : ℕ) → g.order < x → NoneBefore g e x 1 → first_separated g e ≡ None
  none_at_all x l h = no_first g.order (is_separated g (lesser_end g e) (greater_end g e)) (λ c d wc wd. h c d wc wd (inl (let w = wc.1 in omega arith)))

  -- a vertex more as the first that does not lead a piece
  pub skip_first : (x : ℕ) → NoneBefore g e x 1 → (Leads g (lesser_end g e) (greater_end g e) leaders x → ⊥) → NoneBefore g e (x + 1) 1
  skip_first x h n = grind (arith, none_before (x + 1) 1, cases_lt)

-- what the test of a leader says
pub leads-test : (g : Graph) (e : ℕ) (leaders : List ℕ) (a b x : ℕ) → a ≡ lesser_end g e → b ≡ greater_end g e → Leads g (lesser_end g e) (greater_end g e) leaders x → (not (pair_set a b x) && (at_place leaders x == x)) ≡ true
leads-test g e leaders a b x qa qb l = ap (λ t. not t && (at_place leaders x == x)) (ap₂ (λ i j. pair_set i j x) qa qb ∙ l.outside) ∙ eq-eqb (at_place leaders x) x l.itself
