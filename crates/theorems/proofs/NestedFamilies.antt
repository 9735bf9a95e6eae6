-- The shores of a derivation are a maximal family of nested cuts. By induction: where the two
-- sides of a cut have such families, these and the cut are one.
use Rattle.tree_check.proofs.from_counting.Common.{ℕ, List, ◌∷◌, ◌++◌, refl, sym, inl, inr, subst, both_ways, IsIn, mem}
use Rattle.graph_core.proofs.Common.{Graph}
use Rattle.tree_core.proofs.Common.{IsCutAt, IsDerivationAt, IsLeafAt, kept_at, merged_at, Shape, cut, leaf, shores}
use Rattle.tree_check.proofs.from_move_laws.BigShores.{Stage, big_cut, cut_big}
use Rattle.theorems.proofs.ListMembers.{distinct_join, in_left, in_parts, in_right}
use Rattle.theorems.proofs.NestedCuts.{CutAt, Nested, apart_up, kept_down, kept_stage, kept_up, merged_down, merged_stage, nested_self, nested_turned, over_or_below, over_up, same_shores}
use Rattle.theorems.specs.TightCuts.{AreDistinct}

-- a maximal nested family of cuts at p
pub record FamilyAt (g : Graph) (p f : List (List ℕ)) : Type 0 where
  pub cuts : (z : List ℕ) → IsIn z f → CutAt g p z
  pub nested : (z w : List ℕ) → IsIn z f → IsIn w f → Nested g.order (mem z) (mem w)
  pub maximal : (y : List ℕ) → CutAt g p y → ((z : List ℕ) → IsIn z f → Nested g.order (mem z) (mem y)) → IsIn y f

-- a cut of a stage
pub cut_at : (g : Graph) (p : List (List ℕ)) (x : List ℕ) → Stage g p → IsCutAt g p x → CutAt g p x
cut_at g p x st c = record { big = cut_big g p st x c.set c; canonical = c.canonical }

-- a cut with its two sides: a family at each side, and the cut, are a family at p
module _ (g : Graph) (p : List (List ℕ)) (st : Stage g p) (x : List ℕ) (cx : CutAt g p x) (ka mb : List (List ℕ)) (fa : FamilyAt g (kept_at g.order p x) ka) (fb : FamilyAt g (merged_at g.order p x) mb) where
  -- a member of the kept side is inside each member of the merged side that holds x, and apart
  -- from each other
  inner_outer : (z w : List ℕ) → IsIn z ka → IsIn w mb → Nested g.order (mem z) (mem w)
  inner_outer z w hz hw =
      let b = (kept_down g p st x cx z (fa.cuts z hz)).1 in
      elim (merged_down g p st x cx w (fb.cuts w hw)).1 [
        | inl o ↦ inl (λ v wv t. o v wv (b v wv t))
        | inr a ↦ inr (inr (λ v wv t. a v wv (b v wv t)))
      ]

  root_outer : (w : List ℕ) → IsIn w mb → Nested g.order (mem x) (mem w)
  root_outer w hw = elim (merged_down g p st x cx w (fb.cuts w hw)).1 [ inl o ↦ inl o | inr a ↦ inr (inr a) ]

  root_inner : (z : List ℕ) → IsIn z ka → Nested g.order (mem x) (mem z)
  root_inner z hz = inr (inl (kept_down g p st x cx z (fa.cuts z hz)).1)

  -- what is nested with the root and with each member of its side is a member
  member : (y : List ℕ) → CutAt g p y → ((z : List ℕ) → IsIn z (x ∷ (ka ++ mb)) → Nested g.order (mem z) (mem y)) → IsIn y (x ∷ (ka ++ mb))
  member y cy h = elim (h x (inl refl)) [
    | inl b ↦ elim (over_or_below g.order (mem y) (mem x)) [
      | inr c ↦ inl (sym (same_shores g p x y cx cy b c))
      | inl o ↦ inr (in_right y ka mb (fb.maximal y (over_up g p st x cx y cy b o) (λ z hz. h z (inr (in_right z ka mb hz)))))
    ]
    | inr k ↦ elim k [
      | inl b ↦ elim (over_or_below g.order (mem x) (mem y)) [
        | inr c ↦ inl (sym (same_shores g p x y cx cy c b))
        | inl o ↦ inr (in_left y ka mb (fa.maximal y (kept_up g p st x cx y cy b o) (λ z hz. h z (inr (in_left z ka mb hz)))))
      ]
      | inr a ↦ inr (in_right y ka mb (fb.maximal y (apart_up g p st x cx y cy a) (λ z hz. h z (inr (in_right z ka mb hz)))))
    ]
  ]

  pub family_up : FamilyAt g p (x ∷ (ka ++ mb))
  family_up = record {
    cuts = λ z h. elim h [
      | inl e ↦ subst (CutAt g p) (sym e) cx
      | inr k ↦ elim (in_parts z ka mb k) [ inl l ↦ (kept_down g p st x cx z (fa.cuts z l)).0 | inr r ↦ (merged_down g p st x cx z (fb.cuts z r)).0 ]
    ];
    nested = λ z w hz hw. elim hz [
      | inl e ↦ subst (λ k. Nested g.order (mem k) (mem w)) (sym e) (elim hw [
        | inl q ↦ subst (λ k. Nested g.order (mem x) (mem k)) (sym q) (nested_self g.order (mem x))
        | inr k ↦ elim (in_parts w ka mb k) [ inl l ↦ root_inner w l | inr r ↦ root_outer w r ]
      ])
      | inr kz ↦ elim hw [
        | inl q ↦ subst (λ k. Nested g.order (mem z) (mem k)) (sym q) (nested_turned g.order (mem x) (mem z) (elim (in_parts z ka mb kz) [ inl l ↦ root_inner z l | inr r ↦ root_outer z r ]))
        | inr kw ↦ elim (in_parts z ka mb kz) [
          | inl lz ↦ elim (in_parts w ka mb kw) [ inl lw ↦ fa.nested z w lz lw | inr rw ↦ inner_outer z w lz rw ]
          | inr rz ↦ elim (in_parts w ka mb kw) [ inl lw ↦ nested_turned g.order (mem w) (mem z) (inner_outer w z lw rz) | inr rw ↦ fb.nested z w rz rw ]
        ]
      ]
    ];
    maximal = member;
  }

  -- no cut comes twice
  pub distinct_up : AreDistinct ka → AreDistinct mb → AreDistinct (x ∷ (ka ++ mb))
  distinct_up da db = (
    (λ k. elim (in_parts x ka mb k) [
      | inl l ↦ let o = (kept_down g p st x cx x (fa.cuts x l)).2 in both_ways (mem x o.0) o.3 o.2
      | inr r ↦ let o = (merged_down g p st x cx x (fb.cuts x r)).2 in both_ways (mem x o.0) o.3 o.2
    ]),
    distinct_join ka mb da db (λ z l r.
        let a = kept_down g p st x cx z (fa.cuts z l) in
        let b = merged_down g p st x cx z (fb.cuts z r) in
        let o = b.2 in both_ways (mem x o.0) o.3 (a.1 o.0 o.1 o.2)),
  )

-- the shores of a derivation at p are such a family, and no cut comes twice
pub family_at : (g : Graph) (p : List (List ℕ)) (t : Shape) → Stage g p → IsDerivationAt g p t → FamilyAt g p (shores t) × AreDistinct (shores t)
unfolding IsLeafAt
family_at g p leaf st d = (
  record {
    cuts = λ z h. absurd h;
    nested = λ z w h. absurd h;
    maximal = λ y cy h. let c = big_cut g p st y cy.big cy.canonical in d (mem y) c.tight c.nontrivial;
  },
  tt,
)
family_at g p (cut x a b) st d =
    let cx = cut_at g p x st d.0 in
    let fa = family_at g (kept_at g.order p x) a (kept_stage g p st x cx) d.1 in
    let fb = family_at g (merged_at g.order p x) b (merged_stage g p st x cx) d.2 in
    (family_up g p st x cx (shores a) (shores b) fa.0 fb.0, distinct_up g p st x cx (shores a) (shores b) fa.0 fb.0 fa.1 fb.1)
