-- A bipartite covered graph has no nontrivial tight cut if and only if any two edges without a
-- common end lie in a perfect matching. The cut of a nontrivial tight shore has two edges without
-- a common end, by the neighbours of the vertices at which it is left.
use Rattle.tree_check.proofs.from_counting.Common.{◌≡◌, ◌≢◌, ℕ, ◌≤◌, ◌<◌, Bool, true, false, ◌==◌, ◌&&◌, ◌||◌, not, refl, sym, ap, ◌∙◌, arith, eq-eqb, eqb-true, subst, ◌↔◌, ◌⊎◌, inl, inr, and_from, and_parts, both_ways, cases_Bool, cases_eq, not-false, not-true, or_left, or_right, and_comm, but_fails_second, but_from, but_not, or_false_back, count_congr, count_member, count_minus, two_members, count_mono, count_split, Within, count, Set, complement, meet, minus, none, singleton, union}
use Rattle.barrier_kit.proofs.Common.{cut_edge, perfect_congr}
use Rattle.graph_core.proofs.Common.{IsSide, IsCovered, Graph, IsMultigraph, first_end, has_ends, in_cut, second_end, size, HasPerfect, IsEnd, Together, HasOnlyTrivialTightCuts, IsTight, has_ends-back}
use Rattle.quick_kinds.proofs.from_matching_digraph.Balance.{equal_sides, other_side}
use Rattle.quick_kinds.proofs.from_matching_digraph.TightShores.{ends_within}
use Rattle.quick_kinds.proofs.Braces.{braces}
use Rattle.quick_kinds.specs.Braces.{AreFoursMatched, four_set}
use Rattle.theorems.proofs.AddedEdges.{add_edge, ends_set}
use Rattle.theorems.proofs.Neighbourhoods.{Leaning, ends_cross, leaning, near_side, neighbour_edge, surplus}
use Rattle.theorems.specs.Braces.{IsTwoExtendable, neighbourhood}

-- two edges have no common end
abbrev pub AreApart : Graph → ℕ → ℕ → Type 0
AreApart g e f = (v : ℕ) → Within g.order v → IsEnd g e v → IsEnd g f v → ⊥

-- an end of an edge between u and v is one of them
end_is : (g : Graph) (u v e w : ℕ) → has_ends g u v e ≡ true → IsEnd g e w → (u ≡ w) ⊎ (v ≡ w)
end_is g u v e w h i = grind arith

-- an edge of which one end is in z is in its cut if the other is not
pub cut_from_ends : (g : Graph) (z : Set) (u v e : ℕ) → has_ends g u v e ≡ true → z u ≡ true → z v ≡ false → in_cut g z e ≡ true
cut_from_ends g z u v e h zu zv = grind arith

-- an edge of a cut has one end in the set
pub cut_ends : (g : Graph) (z : Set) (e : ℕ) → in_cut g z e ≡ true → (u v : ℕ) × (has_ends g u v e ≡ true) × (z u ≡ true) × (z v ≡ false)
cut_ends g z e h = grind arith

-- two edges of a tight cut have a common end in a 2-extendable graph
pub no_two_apart : (g : Graph) (z : Set) (u v s t e f : ℕ) → IsTwoExtendable g → IsTight g z → Within (size g) e → Within (size g) f → has_ends g u v e ≡ true → has_ends g s t f ≡ true →
    z u ≡ true → z v ≡ false → z s ≡ true → z t ≡ false → u ≢ s → v ≢ t → ⊥
no_two_apart g z u v s t e f two tight we wf he hf zu zv zs zt us vt =
    let m = two e f we wf apart in
    let k = two_members (size g) (λ i. m.0 i && in_cut g z i) e f we wf differ (and_from (m.0 e) (in_cut g z e) m.2 (cut_from_ends g z u v e he zu zv)) (and_from (m.0 f) (in_cut g z f) m.3 (cut_from_ends g z s t f hf zs zt)) in
    let c = tight.cut m.0 m.1 in omega arith
  where
    meets : (w : ℕ) → (u ≡ w) ⊎ (v ≡ w) → (s ≡ w) ⊎ (t ≡ w) → ⊥
    meets w (inl i) (inl j) = us (i ∙ sym j)
    meets w (inl i) (inr j) = both_ways (z t) zt (ap z (j ∙ sym i) ∙ zu)
    meets w (inr i) (inl j) = both_ways (z v) zv (ap z (i ∙ sym j) ∙ zs)
    meets w (inr i) (inr j) = vt (i ∙ sym j)

    apart : AreApart g e f
    apart w ww i j = meets w (end_is g u v e w he i) (end_is g s t f w hf j)

    differ : e ≢ f
    differ q = meets (first_end g e) (end_is g u v e (first_end g e) he (inl refl)) (end_is g s t f (first_end g e) hf (inl (ap (first_end g) (sym q))))

module _ (g : Graph) (is : IsMultigraph g) (cov : IsCovered g) (a : Set) (two : IsSide g a) where
  -- without the ends of two edges there is a perfect matching, so one has both
  module _ (fours : AreFoursMatched g a) (e f : ℕ) (we : Within (size g) e) (wf : Within (size g) f) (apart : AreApart g e f) where
    abbrev r : Set
    r = union (ends_set g e) (ends_set g f)

    beside : HasPerfect g r
    beside = go (a (first_end g e)) (a (first_end g f)) refl refl
      where
        over : (i : ℕ) → Within (size g) i → (b : Bool) → a (first_end g i) ≡ b → a (second_end g i) ≡ not b
        over i w b h = turn (a (first_end g i)) (a (second_end g i)) b (two i w (is.no_loop i w)) h
          where
            turn : (p q b : Bool) → ((p && not q) || (not p && q)) ≡ true → p ≡ b → q ≡ not b
            turn p q b h k = grind arith

        wide : (s t u v : ℕ) → Within g.order s → Within g.order t → Within g.order u → Within g.order v → IsEnd g e s → IsEnd g f t → IsEnd g e u → IsEnd g f v → a s ≡ true → a t ≡ true → a u ≡ false → a v ≡ false →
            ((w : ℕ) → four_set s t u v w ≡ r w) → HasPerfect g r
        wide s t u v ws wt wu wv es ft eu fv xs xt xu xv same =
            let m = fours s t u v ws wt wu wv (λ q. apart s ws es (subst (IsEnd g f) (sym q) ft)) (λ q. apart u wu eu (subst (IsEnd g f) (sym q) fv)) xs xt xu xv in
            (m.0, perfect_congr g (four_set s t u v) r m.0 (λ w ww. same w) m.1)

        go : (p q : Bool) → a (first_end g e) ≡ p → a (first_end g f) ≡ q → HasPerfect g r
        go true true p q = wide (first_end g e) (first_end g f) (second_end g e) (second_end g f) (is.ends e we).0 (is.ends f wf).0 (is.ends e we).1 (is.ends f wf).1 (inl refl) (inl refl) (inr refl) (inr refl) p q (over e we true p) (over f wf true q)
            (λ w. perm (first_end g e == w) (first_end g f == w) (second_end g e == w) (second_end g f == w))
          where
            perm : (i j k l : Bool) → ((i || j) || (k || l)) ≡ ((i || k) || (j || l))
            perm i j k l = grind arith
        go true false p q = wide (first_end g e) (second_end g f) (second_end g e) (first_end g f) (is.ends e we).0 (is.ends f wf).1 (is.ends e we).1 (is.ends f wf).0 (inl refl) (inr refl) (inr refl) (inl refl) p (over f wf false q) (over e we true p) q
            (λ w. perm (first_end g e == w) (second_end g f == w) (second_end g e == w) (first_end g f == w))
          where
            perm : (i j k l : Bool) → ((i || j) || (k || l)) ≡ ((i || k) || (l || j))
            perm i j k l = grind arith
        go false true p q = wide (second_end g e) (first_end g f) (first_end g e) (second_end g f) (is.ends e we).1 (is.ends f wf).0 (is.ends e we).0 (is.ends f wf).1 (inr refl) (inl refl) (inl refl) (inr refl) (over e we false p) q p (over f wf true q)
            (λ w. perm (second_end g e == w) (first_end g f == w) (first_end g e == w) (second_end g f == w))
          where
            perm : (i j k l : Bool) → ((i || j) || (k || l)) ≡ ((k || i) || (j || l))
            perm i j k l = grind arith
        go false false p q = wide (second_end g e) (second_end g f) (first_end g e) (first_end g f) (is.ends e we).1 (is.ends f wf).1 (is.ends e we).0 (is.ends f wf).0 (inr refl) (inr refl) (inl refl) (inl refl) (over e we false p) (over f wf false q) p q
            (λ w. perm (second_end g e == w) (second_end g f == w) (first_end g e == w) (first_end g f == w))
          where
            perm : (i j k l : Bool) → ((i || j) || (k || l)) ≡ ((k || i) || (l || j))
            perm i j k l = grind arith

    -- no end of f is an end of e
    off : (i : ℕ) → Within g.order i → IsEnd g e i → ends_set g f i ≡ false
    off i w h = out (first_end g f == i) (second_end g f == i) (λ t. apart i w h (inl (eqb-true (first_end g f) i t))) (λ t. apart i w h (inr (eqb-true (second_end g f) i t)))
      where
        out : (p q : Bool) → (p ≡ true → ⊥) → (q ≡ true → ⊥) → (p || q) ≡ false
        out p q h i = grind arith

    both : Together g e f
    both =
        let m = beside in
        let k = add_edge g (ends_set g f) m.0 e is.ends we (is.no_loop e we) (off (first_end g e) (is.ends e we).0 (inl refl)) (off (second_end g e) (is.ends e we).1 (inr refl)) m.1 in
        let j = add_edge g none (λ i. m.0 i || singleton e i) f is.ends wf (is.no_loop f wf) refl refl (perfect_congr g (ends_set g f) (union (ends_set g f) none) (λ i. m.0 i || singleton e i) (λ v wv. or_false_back (ends_set g f v)) k) in (
          (λ i. (m.0 i || singleton e i) || singleton f i),
          j,
          or_left (m.0 e || singleton e e) (singleton f e) (or_right (m.0 e) (e == e) (eq-eqb e e refl)),
          or_right (m.0 f || singleton e f) (f == f) (eq-eqb f f refl),
        )

  pub extendable : HasOnlyTrivialTightCuts g → IsTwoExtendable g
  extendable none_tight e f we wf apart = both ((braces g is.ends cov a two).0 none_tight) e f we wf apart

  -- a nontrivial tight cut has two edges without a common end
  module _ (z : Set) (l : Leaning g a z) (ext : IsTwoExtendable g) where
    abbrev near : Set
    near = minus z a

    abbrev far : Set
    far = minus a z

    far_two : 2 ≤ count g.order far
    far_two =
        let c = count_split g.order a z in
        let d : count g.order (meet a z) ≡ count g.order (meet z a) = count_congr g.order _ _ (λ v w. and_comm (a v) (z v)) in
        let o = l.some_out in omega arith

    -- more than k members: one outside a set of k
    beyond : (x y : Set) → count g.order y < count g.order x → (v : ℕ) × Within g.order v × (x v ≡ true) × (y v ≡ false)
    beyond x y h =
        let c = count_split g.order x y in
        let d = count_mono g.order (meet x y) y (λ v w k. (and_parts (x v) (y v) k).1) in
        let v = count_member g.order (minus x y) (omega arith) in
        let p = and_parts (x v.0) (not (y v.0)) v.2 in (v.0, v.1, p.0, not-true (y v.0) p.1)

    -- an edge of the cut: its end in z is off the side
    one : (u v e : ℕ) × Within (size g) e × (has_ends g u v e ≡ true) × (z u ≡ true) × (z v ≡ false) × (a u ≡ false) × (a v ≡ true)
    one =
        let n = l.nontrivial in
        let i = count_member g.order z (let k = n.inside in omega arith) in
        let o = count_member g.order (complement z) (let k = n.outside in omega arith) in
        let e = cut_edge g z i.0 o.0 is.ends cov i.1 o.1 i.2 (not-true (z o.0) o.2) in
        let c = cut_ends g z e.0 e.2 in
        let off : a c.0 ≡ false = elim (cases_Bool (a c.0)) [
          | inl t ↦ absurd (both_ways (z c.1) c.4 (l.closed c.0 c.1 e.0 e.1 c.2 c.3 t))
          | inr f ↦ f
        ] in
        (c.0, c.1, e.0, e.1, c.2, c.3, c.4, off, turn (a c.0) (a c.1) (ends_cross g is a two c.0 c.1 e.0 e.1 c.2) off)
      where
        turn : (p q : Bool) → p ≡ not q → p ≡ false → q ≡ true
        turn p q h k = grind arith

    ends_in : Within g.order one.0 × Within g.order one.1
    ends_in = ends_within g is.ends one.0 one.1 one.2 one.3 one.4

    -- one from another vertex of z
    second : (s t e : ℕ) × Within (size g) e × (has_ends g s t e ≡ true) × (z s ≡ true) × (z t ≡ false) × (one.0 ≢ s)
    second =
        let x : Set = minus near (singleton one.0) in
        let c = count_minus g.order near one.0 ends_in.0 (but_from (z one.0) (a one.0) one.5 one.7) in
        let m = l.more in
        let i = l.some_in in
        let w = count_member g.order x (omega arith) in
        let sub : (k : ℕ) → x k ≡ true → complement a k ≡ true = λ k h. (and_parts (z k) (not (a k)) (and_parts (near k) (not (one.0 == k)) h).0).1 in
        let k = surplus g is (complement a) (other_side g is.ends a two) x sub cov w.0 one.0 w.1 ends_in.0 w.2 (ap not one.7) (but_not (near one.0) (one.0 == one.0) (eq-eqb one.0 one.0 refl)) in
        let t = beyond (neighbourhood g x) (meet z a) (omega arith) in
        let e = neighbour_edge g x t.0 t.2 in
        let q = and_parts (near e.0) (not (one.0 == e.0)) e.3 in
        let side = not-false (a t.0) (not-true (not (a t.0)) (near_side g is (complement a) (other_side g is.ends a two) x sub t.0 t.2)) in
        (e.0, t.0, e.1, e.4, e.5, (and_parts (z e.0) (not (a e.0)) q.0).0, out (z t.0) (a t.0) t.3 side, (λ r. both_ways (one.0 == e.0) (not-true (one.0 == e.0) q.1) (eq-eqb one.0 e.0 r)))
      where
        out : (p q : Bool) → (p && q) ≡ false → q ≡ true → p ≡ false
        out p q h k = grind arith

    -- one to another vertex outside
    third : (s t e : ℕ) × Within (size g) e × (has_ends g s t e ≡ true) × (z s ≡ true) × (z t ≡ false) × (one.1 ≢ t)
    third =
        let x : Set = minus far (singleton one.1) in
        let c = count_minus g.order far one.1 ends_in.1 (but_from (a one.1) (z one.1) one.8 one.6) in
        let m = l.more in
        let f = far_two in
        let w = count_member g.order x (omega arith) in
        let sub : (k : ℕ) → x k ≡ true → a k ≡ true = λ k h. (and_parts (a k) (not (z k)) (and_parts (far k) (not (one.1 == k)) h).0).0 in
        let k = surplus g is a two x sub cov w.0 one.1 w.1 ends_in.1 w.2 one.8 (but_not (far one.1) (one.1 == one.1) (eq-eqb one.1 one.1 refl)) in
        let half = equal_sides g is.ends a two cov in
        let i = count_split g.order a z in
        let j = count_split g.order (complement a) z in
        let p : count g.order (meet a z) ≡ count g.order (meet z a) = count_congr g.order _ _ (λ v w. and_comm (a v) (z v)) in
        let r : count g.order (meet (complement a) z) ≡ count g.order near = count_congr g.order _ _ (λ v w. and_comm (not (a v)) (z v)) in
        let t = beyond (neighbourhood g x) (minus (complement a) z) (omega arith) in
        let e = neighbour_edge g x t.0 t.2 in
        let q = and_parts (far e.0) (not (one.1 == e.0)) e.3 in
        let side = near_side g is a two x sub t.0 t.2 in
        (t.0, e.0, e.1, e.4, has_ends-back g e.0 t.0 e.1 e.5, but_fails_second (not (a t.0)) (z t.0) side t.3, not-true (z e.0) (and_parts (a e.0) (not (z e.0)) q.0).1, (λ r. both_ways (one.1 == e.0) (not-true (one.1 == e.0) q.1) (eq-eqb one.1 e.0 r)))

    none_leans : ⊥
    none_leans = grind (arith, second, third, cases_eq, one, no_two_apart)

  pub not_extendable : IsTwoExtendable g → HasOnlyTrivialTightCuts g
  not_extendable ext x t wide = let z = leaning g is a two cov x t wide in none_leans z.0 z.1 ext

  pub extendable_or_tight : HasOnlyTrivialTightCuts g ↔ IsTwoExtendable g
  extendable_or_tight = (extendable, not_extendable)
