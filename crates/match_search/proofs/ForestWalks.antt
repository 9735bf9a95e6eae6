-- One step of a walk up a forest, as the loops take it: from an outer vertex over its mate to the
-- parent of the mate. Idea: a root is an outer vertex without a mate, so the walk knows where to
-- stop, and it takes as many steps as the path has pairs of edges.
use Rattle.graph_core.proofs.from_counting.Common.{◌≡◌, ◌≢◌, ℕ, zero, suc, ◌+◌, ◌≤◌, ◌<◌, true, false, cond, ◌==◌, sym, ap, ◌∙◌, arith, inl, inr, eq-eqb, ne_eqb, length, List, get_or, both_ways, cases_eq, cases_lt, get_or_default_zero, Within, Set, mem}
use Rattle.graph_core.proofs.Common.{Graph, degree}
use Rattle.match_search.specs.Common.{ClosesForest, HoldsForest, IsLastIn, MeetsSet, numbers}
use Rattle.match_search.specs.declared.alternating.AlternatingForest.{AlternatingForest}
use Rattle.match_search.specs.declared.growing.Adjacent.{Adjacent}
use Rattle.match_search.proofs.Forests.{met}
use Rattle.match_search.proofs.PathsUp.{up_parts, up_within}
use Rattle.match_search.proofs.Reaching.{pairs_few}

-- the forest that an edge closes
abbrev pub closed_forest : (g : Graph) (r f : Set) (mate : List ℕ) (t : AlternatingForest) (o : Adjacent) → ClosesForest g r f mate t o → HoldsForest mate t
closed_forest g r f mate t o is = record { g = g; r = r; f = f; holds = is.holds; mates = is.mates; long = is.long; few = is.few }

-- the mate of the vertex is a place of each row
pub record Climbs (mate : List ℕ) (t : AlternatingForest) (at : ℕ) : Type 0 where
  pub inner : Within 128 (numbers mate at)
  pub in_mates : numbers mate at < length mate
  pub in_parents : numbers mate at < length t.parent.items

-- the number of steps of the walk up from u, at most n
pub steps : (mate parent : ℕ → ℕ) → ℕ → ℕ → ℕ
steps mate parent zero u = 0
steps mate parent (suc n) u = cond (mate u == 0) 0 (suc (steps mate parent n (parent (mate u))))

-- the next vertex of the walk, from which there is less to go
pub record GoesOn (mate : List ℕ) (t : AlternatingForest) (at next : ℕ) : Type 0 where
  pub is : next ≡ numbers t.parent.items (numbers mate at)
  pub outer : mem t.outer next ≡ true
  pub within : Within 128 next
  pub in_mates : next < length mate
  pub less : steps (numbers mate) (numbers t.parent.items) 128 next < steps (numbers mate) (numbers t.parent.items) 128 at
  pub pairs : (h : HoldsForest mate t) → h.holds.k at ≡ suc (h.holds.k next)

module _ (mate : List ℕ) (t : AlternatingForest) (h : HoldsForest mate t) where
  module _ (u : ℕ) (outer : mem t.outer u ≡ true) where
    pub root_pairs : numbers mate u ≡ 0 → h.holds.k u ≡ 0
    root_pairs z = elim (cases_eq (h.holds.k u) 0) [
      | inl q ↦ q
      | inr n ↦ let w = up_within h.g h.r h.f mate t h.holds u outer n in absurd (omega arith)
    ]

    pub has_mate : h.holds.k u ≢ 0 → numbers mate u ≢ 0
    has_mate n z = n (root_pairs z)

    pub has_pairs : numbers mate u ≢ 0 → h.holds.k u ≢ 0
    has_pairs n z =
        let start : h.holds.v u 0 ≡ u = ap (h.holds.v u) (omega arith) ∙ h.holds.forest.last u outer in
        let free = (h.holds.forest.path u outer).free in
        let same = ap (degree h.g h.f) start in
        let d = h.mates.paired u (h.holds.forest.outer_in u outer).0 n in
        let a = (met h.g h.f d.0 u (numbers mate u) d.1 d.2 d.3).0 in omega arith

    pub climbs : numbers mate u ≢ 0 → Climbs mate t u
    climbs n =
        let w = up_within h.g h.r h.f mate t h.holds u outer (has_pairs n) in
        let long = h.long in
        let parents = h.holds.parents_long in
        let few = h.few in
        record { inner = (omega arith, omega arith); in_mates = omega arith; in_parents = omega arith }

    pub fewer : numbers mate u ≢ 0 → (next : ℕ) → next ≡ numbers t.parent.items (numbers mate u) → h.holds.k u ≡ suc (h.holds.k next)
    fewer n next is = (up_parts h.g h.r h.f mate t h.holds u outer (has_pairs n)).1 ∙ ap (λ (x : ℕ). suc (h.holds.k x)) (sym is)

  steps_are : (n u : ℕ) → mem t.outer u ≡ true → h.holds.k u ≤ n → steps (numbers mate) (numbers t.parent.items) n u ≡ h.holds.k u
  unfolding steps
  steps_are zero u o l = omega arith
  steps_are (suc n) u o l = elim (cases_eq (numbers mate u) 0) [
    | inl z ↦ ap (λ b. cond b 0 (suc (steps (numbers mate) (numbers t.parent.items) n (numbers t.parent.items (numbers mate u))))) (eq-eqb (numbers mate u) 0 z) ∙ sym (root_pairs u o z)
    | inr m ↦
        let next = numbers t.parent.items (numbers mate u) in
        let out = (up_parts h.g h.r h.f mate t h.holds u o (has_pairs u o m)).0 in
        let less = (up_parts h.g h.r h.f mate t h.holds u o (has_pairs u o m)).1 in
        ap (λ b. cond b 0 (suc (steps (numbers mate) (numbers t.parent.items) n (numbers t.parent.items (numbers mate u))))) (ne_eqb (numbers mate u) 0 m)
        ∙ ap suc (steps_are n (numbers t.parent.items (numbers mate u)) out (omega arith)) ∙ sym less
  ]

  pub goes_on : (u : ℕ) → mem t.outer u ≡ true → numbers mate u ≢ 0 → (next : ℕ) → next ≡ get_or t.parent.items (numbers mate u) next → GoesOn mate t u next
  goes_on u o n next read =
      let same : next ≡ numbers t.parent.items (numbers mate u) = read ∙ get_or_default_zero t.parent.items (numbers mate u) next (climbs u o n).in_parents in
      let out = ap (mem t.outer) same ∙ (up_parts h.g h.r h.f mate t h.holds u o (has_pairs u o n)).0 in
      let w = (h.holds.forest.outer_in next out).0 in
      let long = h.long in
      let few = h.few in
      let one = pairs_few h.g h.r h.f mate t h.holds u o in
      let two = pairs_few h.g h.r h.f mate t h.holds next out in
      let a = steps_are 128 u o (omega arith) in
      let b = steps_are 128 next out (omega arith) in
      let down = fewer u o n next same in
      record { is = same; outer = out; within = (omega arith, omega arith); in_mates = omega arith; less = omega arith; pairs = λ k. Rattle.match_search.proofs.ForestWalks.fewer mate t k u o n next same }

-- a walk that meets the set, and has not met it yet, is not at a root
pub not_root : (mate : List ℕ) (t : AlternatingForest) (set : List ℕ) (y at : ℕ) (way : List ℕ) (meets : MeetsSet mate t set y) → mem t.outer at ≡ true → IsLastIn meets.h.holds.k meets.h.holds.v set y at way → mem set at ≡ false → numbers mate at ≢ 0
not_root mate t set y at way meets outer last away z =
    let none = root_pairs mate t meets.h at outer z in
    elim (cases_lt (meets.h.holds.k at) meets.place) [
      | inl l ↦ both_ways (mem set (meets.h.holds.v y (meets.place + meets.place))) (last.later meets.place l meets.within) meets.member
      | inr l ↦
          let here : meets.h.holds.v y (meets.place + meets.place) ≡ at = ap (meets.h.holds.v y) (omega arith) ∙ sym (last.over (meets.h.holds.k at + meets.h.holds.k at) (omega arith)) ∙ meets.h.holds.forest.last at outer in
          both_ways (mem set at) away (sym (ap (mem set) here) ∙ meets.member)
    ]
