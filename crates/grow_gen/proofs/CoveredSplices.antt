-- A splice of two covered cubic graphs is covered. Idea: its edges are allowed, and it is
-- connected since a set that no edge leaves holds the new ends of all joined edges or of none.
use Rattle.graph_core.proofs.from_counting.Common.{◌≡◌, ℕ, ◌+◌, ◌-◌, ◌*◌, ◌≤◌, ◌<◌, ◌≢◌, Bool, true, ◌&&◌, inl, inr, List, [], ◌∷◌, map, refl, sym, ap, ap₂, ◌∙◌, arith, subst, slice_index_or, Within, bit, count, is_odd, Set, mem, odd-add, odd-double}
use Rattle.graph_core.proofs.Common.{Graph, size, IsMultigraph, in_cut, inside, IsCovered, parity}
use Rattle.grow_gen.specs.Common.{IsCubic, is_at, new_number, permutation, renumbered_edge, rehung_edges, splice}
use Rattle.grow_gen.proofs.EdgeSums.{Each, each-split, total-edges, length-marks_where, marked}
use Rattle.grow_gen.proofs.Rehanging.{caught}
use Rattle.grow_gen.proofs.Renumbering.{kept_edges, ends_beside, old_or_new}
use Rattle.grow_gen.proofs.ThreeEdges.{unit, three-items, each-edge_of, edges-at, marks-through}
use Rattle.grow_gen.proofs.PermutedLists.{mem-three, permuted-mem, permuted_values}
use Rattle.grow_gen.proofs.Splicing.{beside, targets, targets-permuted, targets-three, splice-multigraph, splice-allowed}
use Rattle.grow_gen.proofs.Connecting.{Stays, without, with_answer, answer-own, answer-other, steady-connected, connected-steady, sum_edges-crossing, each-stays_old, each-stays_new, crosses}

-- twice a number does not change the parity
odd-even : (c k : ℕ) → is_odd (c + 2 * k) ≡ is_odd c
odd-even c k = grind (arith, odd-add c (k + k), odd-double k)

odd-bit : (b : Bool) → is_odd (bit b) ≡ b
odd-bit b = grind arith

-- of three targets the one whose flag is true is caught
caught-unit : (x : Set) (p q r : ℕ) (a : ℕ) → a < 3 → caught x (unit a) (p ∷ q ∷ r ∷ []) ≡ bit (x (slice_index_or (p ∷ q ∷ r ∷ []) a 0))
caught-unit x p q r a l = grind arith

module _ (g h : Graph) (w i : ℕ) (mg : IsMultigraph g) (mh : IsMultigraph h) (cg : IsCubic g) (ch : IsCubic h) (vg : IsCovered g) (vh : IsCovered h) (ww : Within g.order w) (li : i < 6) where
  -- the new ends
  abbrev ends : List ℕ
  ends = targets g h w i mg mh cg ch vh.two ww li

  ends-three : (p : ℕ) × (q : ℕ) × (r : ℕ) × (ends ≡ p ∷ q ∷ r ∷ [])
  ends-three = three-items ends (targets-three g h w i mg mh cg ch vh.two ww li)

  module _ (x : Set) (s : Each (Stays x) (splice g w h (permutation i)).ends) where
    parts : Each (Stays x) (rehung_edges w ends g.ends) × Each (Stays x) (map (renumbered_edge g.order w) (kept_edges h.ends))
    unfolding splice
    parts = each-split (Stays x) (rehung_edges w ends g.ends) (map (renumbered_edge g.order w) (kept_edges h.ends)) s

    -- whether x has an odd number of old vertices
    odd_old : Bool
    odd_old = is_odd (count g.order (without w x))

    -- then the new end of each joined edge is in x, and else none is
    end-odd : (a : ℕ) → a < 3 → x (slice_index_or (ends-three.0 ∷ ends-three.1 ∷ ends-three.2 ∷ []) a 0) ≡ odd_old
    unfolding odd_old
    end-odd a l =
        let b = marks-through g mg cg w ww vg a l in
        let crossing : count (size g) (λ e. marked b.0.marks e && in_cut g (without w x) e) ≡ bit (x (slice_index_or (ends-three.0 ∷ ends-three.1 ∷ ends-three.2 ∷ []) a 0)) =
        total-edges (λ k e. bit (k && crosses (without w x) e)) b.0.marks g.ends b.0.whole
        ∙ sum_edges-crossing g.order w x ends b.0.marks g.ends (each-edge_of g mg) parts.0 b.0.whole (let p = length-marks_where (is_at w) b.0.marks g.ends b.0.whole in let q = edges-at g mg cg w ww in let r = targets-three g h w i mg mh cg ch vh.two ww li in omega arith)
        ∙ ap₂ (caught x) b.1 ends-three.3
        ∙ caught-unit x ends-three.0 ends-three.1 ends-three.2 a l in
        sym (odd-bit (x (slice_index_or (ends-three.0 ∷ ends-three.1 ∷ ends-three.2 ∷ []) a 0)))
        ∙ ap is_odd (sym crossing)
        ∙ sym (odd-even _ (count (size g) (λ e. marked b.0.marks e && inside g (without w x) e)))
        ∙ ap is_odd (sym (parity g mg.ends (marked b.0.marks) (without w x) b.0.perfect))

    all_ends : (t : ℕ) → mem ends t ≡ true → x t ≡ odd_old
    all_ends t m = elim (mem-three t ends-three.0 ends-three.1 ends-three.2 (ap (λ ts. mem ts t) (sym ends-three.3) ∙ m)) [
      | inl e ↦ ap x e ∙ end-odd 0 (omega arith)
      | inr e ↦ elim e [ inl d ↦ ap x d ∙ end-odd 1 (omega arith) | inr d ↦ ap x d ∙ end-odd 2 (omega arith) ]
    ]

    -- so the new numbers of the neighbours of 1 are all on that side
    all_beside : Each (λ v. x (new_number g.order w v) ≡ odd_old) (ends_beside 1 h.ends)
    all_beside =
        let n = beside g h w i mg mh cg ch vh.two ww li in
        let p = permuted-mem (new_number g.order w) n.0 n.1 n.2 i li in
        let to : (t : ℕ) → mem (permuted_values i (new_number g.order w) (n.0 ∷ n.1 ∷ n.2 ∷ [])) t ≡ true → x t ≡ odd_old = λ t m. all_ends t (ap (λ ts. mem ts t) (targets-permuted g h w i mg mh cg ch vh.two ww li) ∙ m) in
        subst (Each (λ v. x (new_number g.order w v) ≡ odd_old)) (sym n.3) (to _ p.0, (to _ p.1, (to _ p.2, tt)))

    old-odd : (v : ℕ) → Within g.order v → v ≢ w → x v ≡ odd_old
    old-odd v u d =
        let c = each-stays_old g.order w x odd_old ends g.ends (each-edge_of g mg) parts.0 (let q = edges-at g mg cg w ww in let r = targets-three g h w i mg mh cg ch vh.two ww li in omega arith) all_ends in
        sym (answer-other w v odd_old x d) ∙ steady-connected g vg.connected (with_answer w odd_old x) c v w u ww ∙ answer-own w w odd_old x refl

    new-odd : (v : ℕ) → 2 ≤ v → v ≤ h.order → x (new_number g.order w v) ≡ odd_old
    new-odd v a b =
        let y : Set = λ z. x (new_number g.order w z) in
        let c = each-stays_new h.order g.order w x odd_old h.ends (each-edge_of h mh) parts.1 all_beside in
        let t = vh.two in
        sym (answer-other 1 v odd_old y (λ q. absurd (omega (arith, q, a)))) ∙ steady-connected h vh.connected (with_answer 1 odd_old y) c v 1 (omega arith, b) (omega arith, omega arith) ∙ answer-own 1 1 odd_old y refl

    each-odd : (v : ℕ) → Within (g.order + h.order - 2) v → x v ≡ odd_old
    each-odd v u = grind (arith, old_or_new g.order w ww h.order v vh.two u, old-odd v, new-odd)

  pub splice-covered : IsCovered (splice g w h (permutation i))
  unfolding splice
  splice-covered = record {
    two = let a = vg.two in let b = vh.two in omega arith;
    connected = connected-steady (splice g w h (permutation i)) (splice-multigraph g h w i mg mh cg ch vh.two ww li).ends (λ x s u v wu wv. each-odd x s u wu ∙ sym (each-odd x s v wv));
    allowed = λ e u d. splice-allowed g h w i mg mh cg ch vh.two ww li vg vh e u;
  }
