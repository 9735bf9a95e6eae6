-- Walks up a forest: what a walk has met is the end of the path. An outer vertex on a path has its
-- own path as the beginning of it.
use Rattle.graph_core.proofs.from_counting.Common.{◌≡◌, ◌≢◌, ◌↔◌, ℕ, zero, suc, ◌+◌, ◌≤◌, true, false, refl, sym, ap, ◌∙◌, arith, inl, inr, not, ◌||◌, ◌==◌, subst, List, both_ways, cases_eq, odd-double, is_odd, Set, mem}
use Rattle.graph_core.proofs.Common.{Graph}
use Rattle.match_search.specs.Common.{HoldsAlternating, HoldsForest, GoesOver, IsBeyond, IsLastIn, numbers}
use Rattle.match_search.specs.declared.alternating.AlternatingForest.{AlternatingForest}
use Rattle.match_search.proofs.ClosingEdges.{low}
use Rattle.match_search.proofs.ForestWalks.{fewer, has_pairs}
use Rattle.match_search.proofs.PathsUp.{grandparent, up_parts}

-- the outer vertices that a walk has met, with one more
pub outer_more : (p : ℕ → ℕ) (old new top at : ℕ) (path after : List ℕ) → old ≡ suc new → old ≤ top → p (new + new) ≡ at → ((v : ℕ) → mem after v ≡ (mem path v || at == v))
    → ((v : ℕ) → (mem path v ≡ true) ↔ ((s : ℕ) × (old ≤ s) × (s ≤ top) × (p (s + s) ≡ v))) → (v : ℕ) → (mem after v ≡ true) ↔ ((s : ℕ) × (new ≤ s) × (s ≤ top) × (p (s + s) ≡ v))
outer_more p old new top at path after low fits at_new after_is path_is v = grind arith

-- the vertices after the one that a walk has reached, with two more
pub way_more : (p : ℕ → ℕ) (old new top inner at : ℕ) (way after : List ℕ) → old ≡ suc (suc new) → old ≤ top + top → p old ≡ at → p (suc new) ≡ inner → ((v : ℕ) → mem after v ≡ ((mem way v || at == v) || inner == v))
    → ((v : ℕ) → (mem way v ≡ true) ↔ IsBeyond p old top v) → (v : ℕ) → (mem after v ≡ true) ↔ IsBeyond p new top v
way_more p old new top inner at way after low fits at_is inner_is after_is way_is v = grind arith

module _ (g : Graph) (r f : Set) (mate : List ℕ) (t : AlternatingForest) (h : HoldsAlternating g r f mate t) where
  abbrev pairs : ℕ → ℕ
  pairs = h.k

  -- one step up
  module _ (x u : ℕ) (o : mem t.outer u ≡ true) (n : pairs u ≢ 0) (over : GoesOver pairs h.v u x) where
    abbrev up : ℕ
    up = grandparent g r f mate t h u o n

    pub up_outer : mem t.outer up ≡ true
    up_outer = (up_parts g r f mate t h u o n).0

    pub up_pairs : pairs u ≡ suc (pairs up)
    up_pairs = (up_parts g r f mate t h u o n).1

    pub up_over : GoesOver pairs h.v up x
    up_over j l = let q = up_pairs in sym ((up_parts g r f mate t h u o n).3 j l) ∙ over j (omega arith)

    pub up_at : h.v x (pairs up + pairs up) ≡ up
    up_at = sym (up_over (pairs up + pairs up) (omega arith)) ∙ h.forest.last up up_outer

    pub up_inner : h.v x (suc (pairs up + pairs up)) ≡ numbers mate u
    up_inner = let q = up_pairs in sym (over (suc (pairs up + pairs up)) (omega arith)) ∙ (up_parts g r f mate t h u o n).2

  -- an outer vertex on a path: at its end, or on the path of the vertex two places before
  abbrev pub Passed : ℕ → ℕ → ℕ → Type 0
  Passed x b j = (j ≡ pairs b + pairs b) × GoesOver pairs h.v b x

  at_end : (x b j : ℕ) → mem t.outer x ≡ true → h.v x j ≡ b → j ≡ pairs x + pairs x → Passed x b j
  at_end x b j ox e q = let same : x ≡ b = sym (h.forest.last x ox) ∙ ap (h.v x) (sym q) ∙ e in (q ∙ ap (λ k. pairs k + pairs k) same, subst (λ k. GoesOver pairs h.v k x) same (λ i li. refl))

  deeper : (n x b j : ℕ) → pairs x ≤ suc n → mem t.outer x ≡ true → mem t.outer b ≡ true → j ≤ pairs x + pairs x → h.v x j ≡ b → j ≢ pairs x + pairs x → ((y : ℕ) → pairs y ≤ n → mem t.outer y ≡ true → j ≤ pairs y + pairs y → h.v y j ≡ b → Passed y b j) → Passed x b j
  deeper n x b j few ox ob l e q below =
      let some : pairs x ≢ 0 = λ z. q (omega arith) in
      let k = up_pairs x x ox some (λ i li. refl) in
      let not_inner : j ≢ suc (pairs (up x x ox some (λ i li. refl)) + pairs (up x x ox some (λ i li. refl))) = λ z.
      both_ways (mem t.outer b) (sym (ap (mem t.outer) e) ∙ (h.forest.sides x ox j l).0 ∙ ap (λ i. not (is_odd i)) z ∙ ap (λ b. not (not b)) (odd-double (pairs (up x x ox some (λ i li. refl))))) ob in
      let lower : j ≤ pairs (up x x ox some (λ i li. refl)) + pairs (up x x ox some (λ i li. refl)) = omega arith in
      let rest = below (up x x ox some (λ i li. refl)) (omega arith) (up_outer x x ox some (λ i li. refl)) lower (up_over x x ox some (λ i li. refl) j lower ∙ e) in (
        rest.0,
        (λ i li. rest.1 i li ∙ up_over x x ox some (λ i li. refl) i (let s = rest.0 in omega arith)),
      )

  pub passes : (n x b j : ℕ) → pairs x ≤ n → mem t.outer x ≡ true → mem t.outer b ≡ true → j ≤ pairs x + pairs x → h.v x j ≡ b → Passed x b j
  passes zero x b j few ox ob l e = at_end x b j ox e (omega arith)
  passes (suc n) x b j few ox ob l e = elim (cases_eq j (pairs x + pairs x)) [
    | inl q ↦ at_end x b j ox e q
    | inr q ↦ deeper n x b j few ox ob l e q (λ y fy oy ly ey. passes n y b j fy oy ob ly ey)
  ]

-- a walk that has not met the set goes on
pub last_more : (mate : List ℕ) (t : AlternatingForest) (h : HoldsForest mate t) (set : List ℕ) (y at next : ℕ) (way after : List ℕ) → mem t.outer at ≡ true → numbers mate at ≢ 0 → next ≡ numbers t.parent.items (numbers mate at) → mem set at ≡ false
    → ((v : ℕ) → mem after v ≡ ((mem way v || at == v) || numbers mate at == v)) → IsLastIn h.holds.k h.holds.v set y at way → IsLastIn h.holds.k h.holds.v set y next after
last_more mate t h set y at next way after outer some is away after_is before =
    let k = h.holds.k in
    let v = h.holds.v in
    let pairs = has_pairs mate t h at outer some in
    let less = fewer mate t h at outer some next is in
    let same = ap k is in
    let low = before.pairs in
    let here = sym (before.over (k at + k at) (omega arith)) ∙ h.holds.forest.last at outer in
    record {
      pairs = omega arith;
      over = λ j l. ap (λ u. v u j) is ∙ up_over h.g h.r h.f mate t h.holds y at outer pairs before.over j (omega arith);
      later = λ s lo hi. elim (cases_eq s (k at)) [
        | inl e ↦ ap (λ i. mem set (v y (i + i))) e ∙ ap (mem set) here ∙ away
        | inr n ↦ before.later s (omega arith) hi
      ];
      way_is = way_more (v y) (k at + k at) (k next + k next) (k y) (numbers mate at) at way after (omega arith) (omega arith) here
          (ap (λ u. v y (suc (k u + k u))) is ∙ up_inner h.g h.r h.f mate t h.holds y at outer pairs before.over) after_is before.way_is;
    }
