-- The blossom that two paths of a forest close can be shrunk to its base: the path of each outer
-- vertex of it is the beginning of one of the two, and an edge of the matching at a vertex after
-- the base leads one place on or back.
use Rattle.graph_core.proofs.from_counting.Common.{◌≡◌, ◌≢◌, ℕ, zero, suc, ◌+◌, ◌-◌, ◌≤◌, ◌<◌, ◌⊎◌, true, false, refl, sym, ap, ◌∙◌, arith, not, inl, inr, subst, both_ways, cases_Bool, cases_eq, false_from_ne_true, not-false, odd-double, Within, is_odd, Set}
use Rattle.graph_core.proofs.Common.{edge_at, Graph, HasEnds, IsGraph, first_end, second_end, size}
use Rattle.match_search.specs.Common.{HasMates, IsNearPerfect, IsOddCycle, every_other, flipped, listed, picked, IsContractible, IsFlower}
use Rattle.match_search.proofs.AlternatingPaths.{flipped_off}
use Rattle.match_search.proofs.Forests.{one_edge, turned}
use Rattle.match_search.proofs.LongerPaths.{end_within}
use Rattle.match_search.proofs.NearPerfectSets.{at_other, far_in, near_in}
use Rattle.match_search.proofs.OddCycles.{every_other-near_perfect}
use Rattle.match_search.proofs.ShrunkForests.{IsWalkedForest, edge_mate}

-- u comes after place i of a path of k pairs of edges
abbrev pub Later : (ℕ → ℕ) → ℕ → ℕ → ℕ → Type 0
Later p i k u = (j : ℕ) × (i < j) × (j ≤ k + k) × (p j ≡ u)

-- the paths to x and y are one up to the base z and have no vertex in common after it, and c is the
-- set of the base and of what comes after it on them
pub record AreClosingIn (outer : Set) (k : ℕ → ℕ) (v : ℕ → ℕ → ℕ) (c : Set) (z x y : ℕ) : Type 0 where
  pub base_outer : outer z ≡ true
  pub x_outer : outer x ≡ true
  pub y_outer : outer y ≡ true
  pub x_long : k z ≤ k x
  pub y_long : k z ≤ k y
  pub x_over : (j : ℕ) → j ≤ k z + k z → v z j ≡ v x j
  pub y_over : (j : ℕ) → j ≤ k z + k z → v z j ≡ v y j
  pub latest : (s t : ℕ) → k z + k z < s → s ≤ k x + k x → t ≤ k y + k y → v x s ≢ v y t
  pub members : (u : ℕ) → c u ≡ true → (z ≡ u) ⊎ (Later (v x) (k z + k z) (k x) u ⊎ Later (v y) (k z + k z) (k y) u)
  pub base : c z ≡ true
  pub x_in : (j : ℕ) → k z + k z < j → j ≤ k x + k x → c (v x j) ≡ true
  pub y_in : (j : ℕ) → k z + k z < j → j ≤ k y + k y → c (v y j) ≡ true

module _ (g : Graph) (is : IsGraph g) (r f : Set) (outer inner : Set) (parent mate : ℕ → ℕ) (has : HasMates g r f mate) (walked : IsWalkedForest g r f outer inner parent mate) where
  open walked use {k, v, e, forest}

  -- an outer vertex on a path has its own path as the beginning of it
  abbrev Passed : ℕ → ℕ → ℕ → Type 0
  Passed x b j = (j ≡ k b + k b) × ((i : ℕ) → i ≤ k b + k b → v b i ≡ v x i)

  at_end : (x b j : ℕ) → outer x ≡ true → v x j ≡ b → j ≡ k x + k x → Passed x b j
  at_end x b j ox s q = let same : x ≡ b = sym (forest.last x ox) ∙ ap (v x) (sym q) ∙ s in (q ∙ ap (λ y. k y + k y) same, subst (λ (y : ℕ). (i : ℕ) → i ≤ k y + k y → v y i ≡ v x i) same (λ i l. refl))

  pub begins : (n x b j : ℕ) → k x ≤ n → outer x ≡ true → outer b ≡ true → j ≤ k x + k x → v x j ≡ b → Passed x b j
  begins zero x b j few ox ob l s = at_end x b j ox s (omega arith)
  begins (suc n) x b j few ox ob l s = elim (cases_eq j (k x + k x)) [
    | inl q ↦ at_end x b j ox s q
    | inr q ↦
        let some : k x ≢ 0 = λ t. q (omega arith) in
        let p = walked.up x ox some in
        let a = p.1.pairs in
        let not_inner : j ≢ suc (k p.0 + k p.0) = λ t. both_ways (outer b) (sym (ap outer s) ∙ (forest.sides x ox j l).0 ∙ ap (λ i. not (is_odd i)) t ∙ ap (λ b. not (not b)) (odd-double (k p.0))) ob in
        let low : j ≤ k p.0 + k p.0 = omega arith in
        let rest = begins n p.0 b j (omega arith) p.1.outer_is ob low (sym (p.1.before j low) ∙ s) in (
          rest.0,
          λ i li. rest.1 i li ∙ sym (p.1.before i (let t = rest.0 in omega arith)),
        )
  ]

  -- the mate of a vertex after an even place of a path is on the path, not before this place
  mate_near : (x h j : ℕ) → outer x ≡ true → h + h < j → j ≤ k x + k x → (i : ℕ) × (h + h ≤ i) × (i ≤ k x + k x) × (mate (v x j) ≡ v x i)
  mate_near x h j ox lo hi = let old = forest.path x ox in elim (cases_Bool (is_odd j)) [
    | inl odd ↦
        let n : j ≢ k x + k x = λ t. both_ways (is_odd j) (ap is_odd t ∙ odd-double (k x)) odd in
        let l : j < k x + k x = omega arith in
        (suc j, omega arith, omega arith, edge_mate g is r f mate has (e x j) (v x j) (v x (suc j)) (old.path.real j l) (old.turns j l ∙ odd) (old.path.ends j l))
    | inr even ↦
        let at : j ≡ suc (j - 1) = omega arith in
        let l : j - 1 < k x + k x = omega arith in
        let odd : is_odd (j - 1) ≡ true = not-false (is_odd (j - 1)) (sym (ap is_odd at) ∙ even) in
        (j - 1, omega arith, omega arith, ap (λ i. mate (v x i)) at ∙ edge_mate g is r f mate has (e x (j - 1)) (v x (suc (j - 1))) (v x (j - 1)) (old.path.real (j - 1) l) (old.turns (j - 1) l ∙ odd) (turned g (e x (j - 1)) (v x (j - 1)) (v x (suc (j - 1))) (old.path.ends (j - 1) l)))
  ]

  module _ (c : Set) (z x y : ℕ) (closing : AreClosingIn outer k v c z x y) where
    abbrev base : ℕ
    base = k z + k z

    base_last : v z base ≡ z
    base_last = forest.last z closing.base_outer

    x_from : (j : ℕ) → base ≤ j → j ≤ k x + k x → c (v x j) ≡ true
    x_from j lo hi = elim (cases_eq j base) [
      | inl q ↦ ap (λ i. c (v x i)) q ∙ ap c (sym (closing.x_over base (omega arith)) ∙ base_last) ∙ closing.base
      | inr q ↦ closing.x_in j (omega arith) hi
    ]

    y_from : (j : ℕ) → base ≤ j → j ≤ k y + k y → c (v y j) ≡ true
    y_from j lo hi = elim (cases_eq j base) [
      | inl q ↦ ap (λ i. c (v y i)) q ∙ ap c (sym (closing.y_over base (omega arith)) ∙ base_last) ∙ closing.base
      | inr q ↦ closing.y_in j (omega arith) hi
    ]

    -- the path of an outer vertex after the base on the path to w
    over_on : (w u : ℕ) → outer w ≡ true → ((j : ℕ) → j ≤ base → v z j ≡ v w j) → outer u ≡ true → Later (v w) base (k w) u → (k z ≤ k u) × ((j : ℕ) → j ≤ base → v u j ≡ v z j)
    over_on w u ow same ou t =
        let b = begins (k w) w u t.0 (omega arith) ow ou t.2 t.3 in
        let q = b.0 in
        let lo = t.1 in
        (omega arith, λ j l. b.1 j (omega arith) ∙ sym (same j l))

    -- the path to the base comes to c there
    stem_out : (j : ℕ) → j < base → c (v z j) ≡ false
    stem_out j l = false_from_ne_true (c (v z j)) (λ t. elim (closing.members (v z j) t) [
      | inl q ↦ let a = (forest.path z closing.base_outer).path.apart base j (omega arith) (omega arith) (base_last ∙ q) in absurd (omega arith)
      | inr s ↦ elim s [
        | inl w ↦ closing.latest w.0 j w.1 w.2 (let a = closing.y_long in omega arith) (w.3 ∙ closing.y_over j (omega arith))
        | inr w ↦ let few = closing.y_long in let lo = w.1 in let a = (forest.path y closing.y_outer).path.apart w.0 j w.2 (omega arith) (w.3 ∙ closing.y_over j (omega arith)) in absurd (omega arith)
      ]
    ])

    -- c is an odd cycle from the base on, every other edge of which is in f with the path to the
    -- base exchanged
    module _ (n : ℕ) (round edge_round : ℕ → ℕ) (cycle : IsOddCycle g r n round edge_round) (first : round 1 ≡ z) (members_listed : (u : ℕ) → c u ≡ listed n round u)
        (holds : (d : ℕ) → Within (size g) d → picked n (every_other 1) edge_round d ≡ true → flipped f (e y) (k z) d ≡ true) where
      abbrev e1 : Set
      e1 = picked n (every_other 1) edge_round

      near : IsNearPerfect g (listed n round) (round 1) e1
      near = every_other-near_perfect g r n round edge_round cycle 1 (let a = cycle.three in (omega arith, omega arith))

      ends_in : (d : ℕ) → Within (size g) d → e1 d ≡ true → (c (first_end g d) ≡ true) × (c (second_end g d) ≡ true)
      ends_in d w t = (members_listed (first_end g d) ∙ near_in g is (listed n round) (round 1) e1 near d w t, members_listed (second_end g d) ∙ far_in g is (listed n round) (round 1) e1 near d w t)

      end_in : (d u w : ℕ) → Within (size g) d → HasEnds g d u w → e1 d ≡ true → c u ≡ true
      end_in d u w wd ends t = let b = ends_in d wd t in elim ends [
        | inl s ↦ ap c (sym s.0) ∙ b.0
        | inr s ↦ ap c (sym s.1) ∙ b.1
      ]

      -- the edges of the path to the base are not edges of c
      off_stem : (d : ℕ) → Within (size g) d → e1 d ≡ true → (s : ℕ) → s < base → d ≢ e y s
      off_stem d w t s l q =
          let few = closing.y_long in
          let ends = (forest.path y closing.y_outer).path.ends s (omega arith) in
          let here = subst (λ (b : ℕ). HasEnds g b (v y s) (v y (suc s))) (sym q) ends in
          both_ways (c (v y s)) (ap c (sym (closing.y_over s (omega arith))) ∙ stem_out s l) (end_in d (v y s) (v y (suc s)) w here t)

      in_chosen : (d : ℕ) → Within (size g) d → e1 d ≡ true → (f d ≡ true) × (c (first_end g d) ≡ true) × (c (second_end g d) ≡ true)
      in_chosen d w t = let b = ends_in d w t in
          (sym (flipped_off g r f has.matching (k y) (v y) (e y) (forest.path y closing.y_outer) (k z) d closing.y_long (off_stem d w t)) ∙ holds d w t, b.0, b.1)

      -- an edge of f at a member other than the base is one of the cycle
      taken_at : (d u w : ℕ) → Within (size g) d → f d ≡ true → HasEnds g d u w → c u ≡ true → u ≢ z → e1 d ≡ true
      taken_at d u w wd fd ends cu n' =
          let wu = end_within g is d u w wd ends in
          let deg = at_other g is (listed n round) (round 1) e1 near u wu (sym (members_listed u) ∙ cu) (λ q. n' (q ∙ first)) in
          let m = edge_at g e1 u (omega arith) in
          ap e1 (one_edge g r f has.matching d m.0 u w m.3.0 wu wd m.1 fd (in_chosen m.0 m.1 m.2).0 ends m.3.1) ∙ m.2

      pub flower_fits : IsContractible g r f outer k v mate c z e1
      flower_fits = record {
        base = closing.base;
        base_outer = closing.base_outer;
        left = λ u cu. elim (closing.members u cu) [
          | inl q ↦ ap r (sym q) ∙ (forest.outer_in z closing.base_outer).1
          | inr s ↦ elim s [
            | inl t ↦ ap r (sym t.3) ∙ (forest.path x closing.x_outer).path.outside t.0 t.2
            | inr t ↦ ap r (sym t.3) ∙ (forest.path y closing.y_outer).path.outside t.0 t.2
          ]
        ];
        over = λ u cu ou. elim (closing.members u cu) [
          | inl q ↦ ((let a = ap k q in omega arith), λ j l. ap (λ w. v w j) (sym q))
          | inr s ↦ elim s [
            | inl t ↦ over_on x u closing.x_outer closing.x_over ou t
            | inr t ↦ over_on y u closing.y_outer closing.y_over ou t
          ]
        ];
        stem = stem_out;
        pairs = λ u cu other. elim (closing.members u cu) [
          | inl q ↦ absurd (other (sym q))
          | inr s ↦ elim s [
            | inl t ↦ let m = mate_near x (k z) t.0 closing.x_outer t.1 t.2 in ap (λ w. c (mate w)) (sym t.3) ∙ ap c m.3 ∙ x_from m.0 m.1 m.2
            | inr t ↦ let m = mate_near y (k z) t.0 closing.y_outer t.1 t.2 in ap (λ w. c (mate w)) (sym t.3) ∙ ap c m.3 ∙ y_from m.0 m.1 m.2
          ]
        ];
        chosen = in_chosen;
        taken = λ d w fd c1 c2. elim (cases_eq (first_end g d) z) [
          | inr s ↦ taken_at d (first_end g d) (second_end g d) w fd (inl (refl, refl)) c1 s
          | inl q ↦ elim (cases_eq (second_end g d) z) [
            | inr s ↦ taken_at d (second_end g d) (first_end g d) w fd (inr (refl, refl)) c2 s
            | inl s ↦ absurd (both_ways (inner z) (forest.apart z closing.base_outer) (ap inner (sym s) ∙ sym (forest.mates d w fd).0 ∙ ap outer q ∙ closing.base_outer))
          ]
        ];
      }

      pub closed_flower : IsFlower g r f outer k v mate c z
      closed_flower = record {
        length_of = n;
        vertex = round;
        edge = edge_round;
        cycle = cycle;
        first = first;
        members = members_listed;
        fits = flower_fits;
      }
