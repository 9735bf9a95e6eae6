-- A set with at least three vertices on both sides has two edges in its cut without a common end,
-- or the ends of one edge of its cut separate the graph. If each edge of the cut has an end of the
-- first one, no other edge leaves the set.
use Rattle.graph_core.proofs.from_counting.Common.{◌≡◌, ℕ, true, false, ◌==◌, ◌&&◌, ◌||◌, not, sym, ap, ◌∙◌, arith, inl, inr, ◌⊎◌, ne_eqb, eqb-false, and_parts, both_ways, cases_Bool, not-true, or_from, or_parts, count_member, count_minus, some_none, some_true, Within, Set, complement, minus, pair_set, singleton, some}
use Rattle.graph_core.proofs.Common.{IsCovered, Graph, HasEnds, IsGraph, first_end, in_cut, second_end, size, IsCutPair, IsNontrivial}
use Rattle.separation_kit.proofs.from_barrier_kit.Common.{cut_edge}
use Rattle.brick_kit.proofs.CutEnds.{cut_ends, ends_within}
use Rattle.brick_kit.proofs.PairSeparations.{beside_ends, separates}
use Rattle.brick_kit.proofs.PartingShores.{ApartEdges}

-- an edge of the cut of x with no end in u and v
abbrev pub beside : Graph → Set → ℕ → ℕ → Set
beside g x u v f = in_cut g x f && not (pair_set u v (first_end g f) || pair_set u v (second_end g f))

module _ (g : Graph) (x : Set) (is : IsGraph g) (wide : IsNontrivial g.order x) (e : ℕ) (we : Within (size g) e) (u v : ℕ) (ends : HasEnds g e u v) (xu : x u ≡ true) (xv : x v ≡ false) where
  second_edge : (f : ℕ) → Within (size g) f → beside g x u v f ≡ true → ApartEdges g x
  second_edge f wf t =
      let h = and_parts (in_cut g x f) (not (pair_set u v (first_end g f) || pair_set u v (second_end g f))) t in
      let o = or_parts (pair_set u v (first_end g f)) (pair_set u v (second_end g f)) (not-true (pair_set u v (first_end g f) || pair_set u v (second_end g f)) h.1) in
      let m = cut_ends g x f h.0 in
      let k = beside_ends g (pair_set u v) f m.0 m.1 m.2 o.0 o.1 in
      record {
        e = e;
        f = f;
        u = u;
        v = v;
        u' = m.0;
        v' = m.1;
        e_real = we;
        f_real = wf;
        e_ends = ends;
        f_ends = m.2;
        ins = (xu, m.3);
        outs = (xv, m.4);
        differ = (eqb-false u m.0 (or_parts (u == m.0) (v == m.0) k.0).0, eqb-false v m.1 (or_parts (u == m.1) (v == m.1) k.1).1);
      }

  ends_separate : ((f : ℕ) → Within (size g) f → beside g x u v f ≡ false) → IsCutPair g u v
  ends_separate none_beside =
      separates g u v x c.0 d.0 is wu wv (λ q. both_ways (x v) xv (ap x (sym q) ∙ xu)) c.1 d.1
      (or_from (u == c.0) (v == c.0) (not-true (u == c.0) cc.1) (ne_eqb v c.0 (λ q. both_ways (x v) xv (ap x q ∙ cc.0))))
      (or_from (u == d.0) (v == d.0) (ne_eqb u d.0 (λ q. both_ways (x d.0) (not-true (x d.0) dd.0) (ap x (sym q) ∙ xu))) (not-true (v == d.0) dd.1))
      cc.0 (not-true (x d.0) dd.0)
      (λ f wf p q. grind arith)
    where
      wu : Within g.order u
      wu = (ends_within g is e u v we ends).0

      wv : Within g.order v
      wv = (ends_within g is e u v we ends).1

      c : (w : ℕ) × Within g.order w × (minus x (singleton u) w ≡ true)
      c = let k = count_minus g.order x u wu xu in let i = wide.inside in count_member g.order (minus x (singleton u)) (omega arith)

      d : (w : ℕ) × Within g.order w × (minus (complement x) (singleton v) w ≡ true)
      d = let k = count_minus g.order (complement x) v wv (ap not xv) in let i = wide.outside in count_member g.order (minus (complement x) (singleton v)) (omega arith)

      cc : (x c.0 ≡ true) × (not (u == c.0) ≡ true)
      cc = and_parts (x c.0) (not (u == c.0)) c.2

      dd : (not (x d.0) ≡ true) × (not (v == d.0) ≡ true)
      dd = and_parts (not (x d.0)) (not (v == d.0)) d.2

pub apart_or_pair : (g : Graph) (x : Set) → IsGraph g → IsCovered g → IsNontrivial g.order x → ApartEdges g x ⊎ ((a : ℕ) × (b : ℕ) × IsCutPair g a b)
apart_or_pair g x is cov wide = elim (cases_Bool (some (size g) (beside g x n.0 n.1))) [
  | inl t ↦ let f = some_true (size g) (beside g x n.0 n.1) t in inl (second_edge g x is wide k.0 k.1 n.0 n.1 n.2 n.3 n.4 f.0 f.1 f.2)
  | inr f ↦ inr (n.0, n.1, ends_separate g x is wide k.0 k.1 n.0 n.1 n.2 n.3 n.4 (some_none (size g) (beside g x n.0 n.1) f))
]
  where
    p : (w : ℕ) × Within g.order w × (x w ≡ true)
    p = count_member g.order x (let i = wide.inside in omega arith)

    r : (w : ℕ) × Within g.order w × (complement x w ≡ true)
    r = count_member g.order (complement x) (let i = wide.outside in omega arith)

    k : (e : ℕ) × Within (size g) e × (in_cut g x e ≡ true)
    k = cut_edge g x p.0 r.0 is cov p.1 r.1 p.2 (not-true (x r.0) r.2)

    n : (u : ℕ) × (v : ℕ) × HasEnds g k.0 u v × (x u ≡ true) × (x v ≡ false)
    n = cut_ends g x k.0 k.2
