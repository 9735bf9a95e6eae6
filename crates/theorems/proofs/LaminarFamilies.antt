-- A maximal family of tight shores of which no two cross is that of a derivation, and the shores
-- of a derivation are such a family. By induction: the members inside a cut are such a family of
-- its kept side, and those not inside it one of its merged side.
use Rattle.tree_check.proofs.from_counting.Common.{◌≡◌, ◌⊎◌, ◌↔◌, ℕ, zero, suc, ◌≤◌, Bool, true, false, not, ◌&&◌, List, [], ◌∷◌, filter, length, refl, sym, ap, arith, inl, inr, subst, and_parts, and_from, both_ways, cases_Bool, false_from_ne_true, all_in_true, true_all_in, Within, IsIn, is_subset, mem}
use Rattle.graph_core.proofs.Common.{Apart, Below, IsCovered, Graph, IsGraph, singles}
use Rattle.tree_core.proofs.Common.{kept-length, merged-length, cut-shore, shore-cut, IsDerivation, IsDerivationAt, IsLeafAt, IsTightShore, kept_at, merged_at, Shape, cut, leaf, shores}
use Rattle.tree_check.proofs.from_move_laws.BigShores.{Stage, big_cut, big_some}
use Rattle.tree_check.proofs.from_move_laws.Rising.{bounds}
use Rattle.tree_check.proofs.from_move_laws.SingleVertices.{singles_stage}
use Rattle.theorems.proofs.ListMembers.{filter_in, in_filter, in_left, in_parts, in_right}
use Rattle.theorems.proofs.NestedCuts.{CutAt, Nested, apart_turned, apart_up, cut_of_set, kept_down, kept_stage, kept_up, merged_down, merged_stage, nested-uncrossed, over_or_below, over_up, same_shores, uncrossed-nested}
use Rattle.theorems.proofs.NestedFamilies.{FamilyAt, cut_at, family_at}
use Rattle.theorems.specs.TightCuts.{AreDistinct, Cross, IsMaximalLaminar}

-- lists of numbers, one inside the other by the test
below_subset : (g : Graph) (p : List (List ℕ)) (x y : List ℕ) → CutAt g p x → Below g.order (mem x) (mem y) → is_subset x y ≡ true
below_subset g p x y cx b = true_all_in x (mem y) (λ v m. b v (bounds cx.big.shore v m) m)

subset_below : (n : ℕ) (x y : List ℕ) → is_subset x y ≡ true → Below n (mem x) (mem y)
subset_below n x y h v w t = all_in_true x (mem y) h v t

-- a family at p that holds the cut x: its members inside x, and those not inside it
module _ (g : Graph) (p f : List (List ℕ)) (st : Stage g p) (ff : FamilyAt g p f) (x : List ℕ) (hx : IsIn x f) where
  cx : CutAt g p x
  cx = ff.cuts x hx

  abbrev is_inner : List ℕ → Bool
  is_inner z = is_subset z x && not (is_subset x z)

  abbrev is_outer : List ℕ → Bool
  is_outer z = not (is_subset z x)

  abbrev pub inner : List (List ℕ)
  inner = filter is_inner f

  abbrev pub outer : List (List ℕ)
  outer = filter is_outer f

  -- each member is x, or inner, or outer
  parts : (z : List ℕ) → IsIn z f → (z ≡ x) ⊎ (IsIn z inner ⊎ IsIn z outer)
  parts z h = elim (cases_Bool (is_subset z x)) [
    | inr o ↦ inr (inr (in_filter is_outer z f h (ap not o)))
    | inl i ↦ elim (cases_Bool (is_subset x z)) [
      | inl j ↦ inl (same_shores g p z x (ff.cuts z h) cx (subset_below g.order z x i) (subset_below g.order x z j))
      | inr j ↦ inr (inl (in_filter is_inner z f h (and_from (is_subset z x) (not (is_subset x z)) i (ap not j))))
    ]
  ]

  inner_below : (z : List ℕ) → IsIn z inner → IsIn z f × Below g.order (mem z) (mem x) × ((v : ℕ) × Within g.order v × (mem x v ≡ true) × (mem z v ≡ false))
  inner_below z h =
      let r = filter_in is_inner z f h in
      let q = and_parts (is_subset z x) (not (is_subset x z)) r.1 in
      (r.0, subset_below g.order z x q.0, elim (over_or_below g.order (mem x) (mem z)) [ inl o ↦ o | inr b ↦ absurd (both_ways (not (is_subset x z)) (ap not (below_subset g p x z cx b)) q.1) ])

  outer_side : (z : List ℕ) → IsIn z outer → IsIn z f × (Below g.order (mem x) (mem z) ⊎ Apart g.order (mem x) (mem z)) × ((v : ℕ) × Within g.order v × (mem z v ≡ true) × (mem x v ≡ false))
  outer_side z h =
      let r = filter_in is_outer z f h in
      let no : Below g.order (mem z) (mem x) → ⊥ = λ b. both_ways (not (is_subset z x)) (ap not (below_subset g p z x (ff.cuts z r.0) b)) r.1 in (
        r.0,
        elim (ff.nested x z hx r.0) [ inl b ↦ inl b | inr k ↦ elim k [ inl b ↦ absurd (no b) | inr a ↦ inr a ] ],
        elim (over_or_below g.order (mem z) (mem x)) [ inl o ↦ o | inr b ↦ absurd (no b) ],
      )

  pub inner_family : FamilyAt g (kept_at g.order p x) inner
  inner_family = record {
    cuts = λ z h. let r = inner_below z h in kept_up g p st x cx z (ff.cuts z r.0) r.1 r.2;
    nested = λ z w hz hw. ff.nested z w (inner_below z hz).0 (inner_below w hw).0;
    maximal = λ y cy h.
        let d = kept_down g p st x cx y cy in
        let o = d.2 in
        in_filter is_inner y f
        (ff.maximal y d.0 (λ z hz. elim (parts z hz) [
          | inl e ↦ subst (λ k. Nested g.order (mem k) (mem y)) (sym e) (inr (inl d.1))
          | inr k ↦ elim k [
            | inl i ↦ h z i
            | inr i ↦ elim (outer_side z i).1 [
              | inl b ↦ inr (inl (λ v w t. b v w (d.1 v w t)))
              | inr a ↦ inr (inr (apart_turned g.order (mem y) (mem z) (λ v w t. a v w (d.1 v w t))))
            ]
          ]
        ]))
        (and_from (is_subset y x) (not (is_subset x y)) (below_subset g p y x d.0 d.1) (ap not (false_from_ne_true (is_subset x y) (λ t. both_ways (mem y o.0) o.3 (subset_below g.order x y t o.0 o.1 o.2)))));
  }

  pub outer_family : FamilyAt g (merged_at g.order p x) outer
  outer_family = record {
    cuts = λ z h. let r = outer_side z h in elim r.1 [ inl b ↦ over_up g p st x cx z (ff.cuts z r.0) b r.2 | inr a ↦ apart_up g p st x cx z (ff.cuts z r.0) a ];
    nested = λ z w hz hw. ff.nested z w (outer_side z hz).0 (outer_side w hw).0;
    maximal = λ y cy h.
        let d = merged_down g p st x cx y cy in
        let o = d.2 in
        in_filter is_outer y f
        (ff.maximal y d.0 (λ z hz. elim (parts z hz) [
          | inl e ↦ subst (λ k. Nested g.order (mem k) (mem y)) (sym e) (elim d.1 [ inl b ↦ inl b | inr a ↦ inr (inr a) ])
          | inr k ↦ elim k [
            | inl i ↦ elim d.1 [
              | inl b ↦ inl (λ v w t. b v w ((inner_below z i).1 v w t))
              | inr a ↦ inr (inr (λ v w t. a v w ((inner_below z i).1 v w t)))
            ]
            | inr i ↦ h z i
          ]
        ]))
        (ap not (false_from_ne_true (is_subset y x) (λ t. both_ways (mem x o.0) o.3 (subset_below g.order y x t o.0 o.1 o.2))));
  }

-- the tree of a family: a leaf if it is empty, else any of its cuts first
abbrev TreeAt : Graph → (p f : List (List ℕ)) → Shape → Type 0
TreeAt g p f t = IsDerivationAt g p t × ((z : List ℕ) → IsIn z (shores t) ↔ IsIn z f)

abbrev Grows : Graph → ℕ → Type 0
Grows g k = (p f : List (List ℕ)) → Stage g p → length p ≤ k → FamilyAt g p f → (t : Shape) × TreeAt g p f t

node_at : (g : Graph) (k : ℕ) → Grows g k → (p f : List (List ℕ)) → Stage g p → length p ≤ suc k → FamilyAt g p f → (x : List ℕ) → IsIn x f → (a b : Shape) × TreeAt g p f (cut x a b)
node_at g k ih p f st l ff x hx =
    let c = ff.cuts x hx in
    let is = big_cut g p st x c.big c.canonical in
    let i = is.nontrivial.inside in
    let o = is.nontrivial.outside in
    let lk = kept-length g p x st.graph st.list is in
    let lm = merged-length g p x st.graph st.list is in
    let ta = ih (kept_at g.order p x) (inner g p f st ff x hx) (kept_stage g p st x c) (omega arith) (inner_family g p f st ff x hx) in
    let tb = ih (merged_at g.order p x) (outer g p f st ff x hx) (merged_stage g p st x c) (omega arith) (outer_family g p f st ff x hx) in (
      ta.0,
      tb.0,
      (
        (is, ta.1.0, tb.1.0),
        λ z. (
          (λ h. elim h [
            | inl e ↦ subst (λ y. IsIn y f) (sym e) hx
            | inr q ↦ elim (in_parts z (shores ta.0) (shores tb.0) q) [
              | inl r ↦ (inner_below g p f st ff x hx z ((ta.1.1 z).0 r)).0
              | inr r ↦ (outer_side g p f st ff x hx z ((tb.1.1 z).0 r)).0
            ]
          ]),
          (λ h. elim (parts g p f st ff x hx z h) [
            | inl e ↦ inl e
            | inr q ↦ inr (elim q [
              | inl r ↦ in_left z (shores ta.0) (shores tb.0) ((ta.1.1 z).1 r)
              | inr r ↦ in_right z (shores ta.0) (shores tb.0) ((tb.1.1 z).1 r)
            ])
          ]),
        ),
      ),
    )

tree_at : (g : Graph) (k : ℕ) → Grows g k
unfolding IsLeafAt
tree_at g zero p f st l ff = grind arith
tree_at g (suc k) p [] st l ff = (leaf, ((λ x t h. let c = cut_of_set g p st x t h in ff.maximal c.0 c.1 (λ z k. absurd k)), λ z. ((λ h. h), (λ h. h))))
tree_at g (suc k) p (x ∷ f) st l ff = let n = node_at g k (tree_at g k) p (x ∷ f) st l ff x (inl refl) in (cut x n.0 n.1, n.2)

-- at the graph itself
module _ (g : Graph) (is : IsGraph g) (cov : IsCovered g) where
  root : Stage g (singles g.order)
  root = singles_stage g is cov

  to_cut : (x : List ℕ) → IsTightShore g x → CutAt g (singles g.order) x
  to_cut x h = cut_at g (singles g.order) x root (shore-cut g x is h)

  to_shore : (x : List ℕ) → CutAt g (singles g.order) x → IsTightShore g x
  to_shore x c = cut-shore g x is (big_cut g (singles g.order) root x c.big c.canonical)

  nested : (x y : List ℕ) → CutAt g (singles g.order) x → CutAt g (singles g.order) y → (Cross g.order (mem x) (mem y) → ⊥) → Nested g.order (mem x) (mem y)
  nested x y cx cy h = let s = big_some g (singles g.order) root x cx.big in let w = s.1 in uncrossed-nested g.order (mem x) (mem y) (omega arith, omega arith) cx.canonical cy.canonical h

  pub family-laminar : (f : List (List ℕ)) → FamilyAt g (singles g.order) f → IsMaximalLaminar g f
  family-laminar f ff = record {
    cuts = λ x h. to_shore x (ff.cuts x h);
    laminar = λ x y hx hy. nested-uncrossed g.order (mem x) (mem y) (ff.nested x y hx hy);
    maximal = λ y t h. ff.maximal y (to_cut y t) (λ z hz. nested z y (ff.cuts z hz) (to_cut y t) (h z hz));
  }

  pub laminar-family : (f : List (List ℕ)) → IsMaximalLaminar g f → FamilyAt g (singles g.order) f
  laminar-family f m = record {
    cuts = λ x h. to_cut x (m.cuts x h);
    nested = λ x y hx hy. nested x y (to_cut x (m.cuts x hx)) (to_cut y (m.cuts y hy)) (m.laminar x y hx hy);
    maximal = λ y c h. m.maximal y (to_shore y c) (λ z hz. nested-uncrossed g.order (mem z) (mem y) (h z hz));
  }

pub laminar-shores : (g : Graph) (t : Shape) → IsGraph g → IsDerivation g t → IsMaximalLaminar g (shores t)
laminar-shores g t is d = family-laminar g is d.covered (shores t) (family_at g (singles g.order) t (root g is d.covered) d.derives).0

pub distinct-shores : (g : Graph) (t : Shape) → IsGraph g → IsDerivation g t → AreDistinct (shores t)
distinct-shores g t is d = (family_at g (singles g.order) t (root g is d.covered) d.derives).1

pub laminar-tree : (g : Graph) (f : List (List ℕ)) → IsGraph g → IsCovered g → IsMaximalLaminar g f → (t : Shape) × IsDerivation g t × ((x : List ℕ) → IsIn x (shores t) ↔ IsIn x f)
laminar-tree g f is cov m =
    let t = tree_at g (length (singles g.order)) (singles g.order) f (root g is cov) (omega arith) (laminar-family g is cov f m) in
    (t.0, record { covered = cov; derives = t.1.0 }, t.1.1)

pub laminar-first : (g : Graph) (f : List (List ℕ)) (y : List ℕ) → IsGraph g → IsCovered g → IsMaximalLaminar g f → IsIn y f → (a b : Shape) × IsDerivation g (cut y a b) × ((x : List ℕ) → IsIn x (shores (cut y a b)) ↔ IsIn x f)
laminar-first g f y is cov m h =
    let k = length (singles g.order) in
    let n = node_at g k (tree_at g k) (singles g.order) f (root g is cov) (omega arith) (laminar-family g is cov f m) y h in
    (n.0, n.1, record { covered = cov; derives = n.2.0 }, n.2.1)
