-- From a barrier or a 2-separation inside a shore to an ELP cut that does not cross the given one: the
-- other shore is connected, so it is in one component beside the barrier; and the shore of the
-- 2-separation cut is inside. If no other tight cut does not cross the given one, the two are equal.
use Rattle.tree_check.proofs.from_counting.Common.{◌≡◌, ℕ, ◌≤◌, ◌≢◌, ◌⊎◌, true, false, ◌==◌, not, refl, sym, ap, ◌∙◌, arith, eqb-true, inl, inr, cases_eq, or_cases, both_ways, false_from_ne_true, not-true, not-false, not_not, alike_not_apart, two_of, count_mono, count_member, Within, count, Set, pair_set, union, complement, singleton}
use Rattle.barrier_kit.proofs.Common.{part_nontrivial, part_step, part_tight, tight-turned, nontrivial-turned}
use Rattle.graph_core.proofs.Common.{joined_self, walk_joined, IsCovered, Graph, IsGraph, IsBarrier, IsTight, IsNontrivial, first_end, second_end, Joined, joined}
use Rattle.quick_kinds.proofs.from_brick_kit.PairSeparations.{stays_joined}
use Rattle.separation_kit.proofs.Separations.{separation_tight, separation_nontrivial}
use Rattle.theorems.proofs.AllShelters.{sheltered}
use Rattle.theorems.proofs.ConnectedShores.{tight_joined}
use Rattle.theorems.proofs.EvenPockets.{pocket_off, pocket_pair, pocket_part}
use Rattle.theorems.proofs.GateSteps.{Shelter}
use Rattle.theorems.proofs.Pockets.{Pocket, pocket_perfect}
use Rattle.theorems.specs.Bricks.{HoldsReason, IsElpCut}
use Rattle.theorems.specs.TightCuts.{Cross}

-- a pocket and its first vertex inside a nontrivial shore contain the shore of a 2-separation cut
pocket_reason : (g : Graph) (z m : Set) (a c : ℕ) → IsGraph g → IsCovered g → IsNontrivial g.order z → Pocket g m a c → ((v : ℕ) → Within g.order v → m v ≡ true → z v ≡ true) → z a ≡ true → HoldsReason g z
pocket_reason g z m a c is cov wide p held za =
    let u = count_member g.order m p.some in
    let off = pocket_off g m a c p u.0 u.2 in
    let cp = pocket_pair g m a c p is other.0 other.1 m_other off_other in
    let perfect = pocket_perfect g is m a c p cov other.0 other.1 m_other off_other in
    inr (
      a,
      c,
      record {
        pair = cp;
        perfect = perfect;
        vertex = u.0;
        within = u.1;
        outside = off;
        tight = separation_tight g is a c p.first p.second p.different perfect.0 perfect.1 u.0 u.1 off;
        nontrivial = separation_nontrivial g is a c p.first p.second p.different perfect.0 perfect.1 u.0 u.1 off cp;
      },
      λ v wv h. elim (or_cases (joined g (pair_set a c) u.0 v) (a == v) h) [
        | inl j ↦ held v wv (pocket_part g m a c p is u.0 v u.2 j)
        | inr e ↦ ap z (sym (eqb-true a v e)) ∙ za
      ],
    )
  where
    other : (r : ℕ) × Within g.order r × (complement z r ≡ true) × (r ≢ c)
    other =
        let outside = wide.outside in
        let q = two_of g.order (complement z) (omega arith) in
        elim (cases_eq q.0 c) [
          | inr n ↦ (q.0, q.2, q.5, n)
          | inl e ↦ (q.1, q.3, q.6, λ i. q.4 (e ∙ sym i))
        ]

    z_other : z other.0 ≡ false
    z_other = not-true (z other.0) other.2

    m_other : m other.0 ≡ false
    m_other = false_from_ne_true (m other.0) (λ t. both_ways (z other.0) z_other (held other.0 other.1 t))

    off_other : pair_set a c other.0 ≡ false
    off_other = false_from_ne_true (pair_set a c other.0) (λ t. elim (or_cases (a == other.0) (c == other.0) t) [
      | inl e ↦ both_ways (z other.0) z_other (ap z (sym (eqb-true a other.0 e)) ∙ za)
      | inr e ↦ other.3 (sym (eqb-true c other.0 e))
    ])

module _ (g : Graph) (z : Set) (is : IsGraph g) (cov : IsCovered g) (tz : IsTight g z) (wide : IsNontrivial g.order z) where
  -- the component beside a barrier that contains the other shore
  beside_barrier : (s : Set) → IsBarrier g s → 2 ≤ count g.order s → ((v : ℕ) → Within g.order v → s v ≡ true → z v ≡ true) → (y : Set) × IsElpCut g y × (Cross g.order z y → ⊥)
  beside_barrier s bar two held =
      let outside = wide.outside in
      let u = count_member g.order (complement z) (omega arith) in
      let a = count_member g.order s (omega arith) in
      let out = s_out u.0 u.1 u.2 in
      let own = walk_joined g s is u.0 u.0 u.1 (joined_self g s u.0) in
      let all : (v : ℕ) → Within g.order v → complement z v ≡ true → joined g s u.0 v ≡ true =
      λ v wv k. stays_joined g (complement (complement z)) (joined g s u.0) is (λ e we i j. alike_not_apart (joined g s u.0 (first_end g e)) (joined g s u.0 (second_end g e)) (part_step g s u.0 e is u.1 we (s_out (first_end g e) (is e we).0 (not-false (complement z (first_end g e)) i)) (s_out (second_end g e) (is e we).1 (not-false (complement z (second_end g e)) j))))
      u.0 v (other_joined u.0 v u.1 wv u.2 k) own in
      let more = count_mono g.order (complement z) (joined g s u.0) all in (
        joined g s u.0,
        (
          part_tight g s a.0 u.0 is cov bar a.1 a.2 u.1 out,
          (part_nontrivial g s a.0 u.0 is cov bar a.1 a.2 u.1 out).1 (two, λ e. omega arith),
          inl (s, record { barrier = bar; vertex = u.0; within = u.1; outside = out; same = inl (λ v w. refl) }),
        ),
        λ cross. let n = cross.neither in both_ways (joined g s u.0 n.0) n.3 (all n.0 n.1 (ap not n.2)),
      )
    where
      s_out : (v : ℕ) → Within g.order v → complement z v ≡ true → s v ≡ false
      s_out v wv k = false_from_ne_true (s v) (λ t. both_ways (z v) (not-true (z v) k) (held v wv t))

      other_joined : (u v : ℕ) → Within g.order u → Within g.order v → complement z u ≡ true → complement z v ≡ true → Joined g (complement (complement z)) u v
      other_joined u v wu wv k l = let t = tight-turned g z tz in tight_joined g (complement z) u v is cov t.cut wu wv k l

  beside_reason : HoldsReason g z → (y : Set) × IsElpCut g y × (Cross g.order z y → ⊥)
  beside_reason r = elim r [
    | inl b ↦ beside_barrier b.0 b.1 b.2 b.3
    | inr q ↦
        let c = q.2 in (
          union (joined g (pair_set q.0 q.1) c.vertex) (singleton q.0),
          (
            c.tight,
            c.nontrivial,
            inr (q.0, q.1, record { pair = c.pair; perfect = c.perfect; vertex = c.vertex; within = c.within; outside = c.outside; same = inl (λ v w. refl) }),
          ),
          λ cross. let n = cross.second in both_ways (z n.0) n.2 (q.3 n.0 n.1 n.3),
        )
  ]

cross_turned : (n : ℕ) (x y : Set) → Cross n x y → Cross n (complement x) y
cross_turned n x y c =
    let both = c.both in
    let first = c.first in
    let second = c.second in
    let neither = c.neither in
    record { both = (second.0, second.1, ap not second.2, second.3); first = (neither.0, neither.1, ap not neither.2, neither.3); second = (both.0, both.1, ap not both.2, both.3); neither = (first.0, first.1, ap not first.2, first.3) }

module _ (g : Graph) (x : Set) (is : IsGraph g) (cov : IsCovered g) (tx : IsTight g x) (wide : IsNontrivial g.order x) (held : HoldsReason g x ⊎ HoldsReason g (complement x)) where
  pub elp_beside : (y : Set) × IsElpCut g y × (Cross g.order x y → ⊥)
  elp_beside = elim held [
    | inl r ↦ beside_reason g x is cov tx wide r
    | inr r ↦ let b = beside_reason g (complement x) is cov (tight-turned g x tx) (nontrivial-turned g.order x wide) r in (b.0, b.1, λ c. b.2 (cross_turned g.order x b.0 c))
  ]

  -- a set with the cut of y
  abbrev SameCut : Set → Type 0
  SameCut y = ((v : ℕ) → Within g.order v → x v ≡ y v) ⊎ ((v : ℕ) → Within g.order v → x v ≡ not (y v))

  over : (k y : Set) → SameCut y → ((v : ℕ) → Within g.order v → k v ≡ y v) ⊎ ((v : ℕ) → Within g.order v → k v ≡ not (y v)) → ((v : ℕ) → Within g.order v → k v ≡ x v) ⊎ ((v : ℕ) → Within g.order v → k v ≡ not (x v))
  over k y s t = elim s [
    | inl e ↦ elim t [
      | inl i ↦ inl (λ v w. i v w ∙ sym (e v w))
      | inr i ↦ inr (λ v w. i v w ∙ ap not (sym (e v w)))
    ]
    | inr e ↦ elim t [
      | inl i ↦ inr (λ v w. i v w ∙ sym (not_not (y v)) ∙ ap not (sym (e v w)))
      | inr i ↦ inl (λ v w. i v w ∙ sym (e v w))
    ]
  ]

  pub elp_alone : ((y : Set) → IsTight g y → IsNontrivial g.order y → (Cross g.order x y → ⊥) → ((v : ℕ) → Within g.order v → x v ≡ y v) ⊎ ((v : ℕ) → Within g.order v → x v ≡ not (y v))) → IsElpCut g x
  elp_alone lone =
      let b = elp_beside in
      let y = b.0 in
      let cut = b.1 in
      let same = lone y cut.0 cut.1 b.2 in (
        tx,
        wide,
        elim cut.2 [
          | inl k ↦ let r = k.1 in inl (k.0, record { barrier = r.barrier; vertex = r.vertex; within = r.within; outside = r.outside; same = over (joined g k.0 r.vertex) y same r.same })
          | inr k ↦ let r = k.2 in inr (k.0, k.1, record { pair = r.pair; perfect = r.perfect; vertex = r.vertex; within = r.within; outside = r.outside; same = over (union (joined g (pair_set k.0 k.1) r.vertex) (singleton k.0)) y same r.same })
        ],
      )

-- a shelter contains a barrier, or the shore of a 2-separation cut
pub shore_reasons : (g : Graph) → IsGraph g → IsCovered g → (x : Set) → IsTight g x → IsNontrivial g.order x → HoldsReason g x ⊎ HoldsReason g (complement x)
shore_reasons g is cov x tx wide = elim (sheltered g is cov x tx wide) [
  | inl s ↦ inl (from_shelter x wide s)
  | inr s ↦ inr (from_shelter (complement x) (nontrivial-turned g.order x wide) s)
]
  where
    from_shelter : (z : Set) → IsNontrivial g.order z → Shelter g z → HoldsReason g z
    from_shelter z wide s = elim s [
      | inl r ↦ inl (r.set, r.barrier, r.two, r.contained)
      | inr r ↦ pocket_reason g z r.set r.one r.other is cov wide r.pocket r.contained r.first
    ]
