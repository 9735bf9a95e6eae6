-- Barriers and pockets of the contraction of all that is outside a tight shore to one vertex c, as
-- barriers and pockets of the graph. A barrier T leaves as many components as it has vertices; so its
-- vertices are a barrier of the graph if all but one of these components are sets that no edge leaves
-- beside T. Without c in T these are all but the component of c. If c is in T, b takes its place, if
-- edges lead to other vertices outside the shore from one component alone. A pocket without c is one
-- of the graph if c is not one of its two vertices, or if b can take the place of c there.
-- Used by: GateSteps, GatePockets, NearPockets.
use Rattle.tree_check.proofs.from_counting.Common.{◌≡◌, ◌≢◌, ℕ, ◌≤◌, Bool, true, false, ◌==◌, ◌&&◌, ◌||◌, not, refl, sym, ap, ◌∙◌, arith, cond, inl, inr, eq-eqb, eqb-true, ne_eqb, cases_Bool, cases_eq, and_parts, or_cases, or_left, or_parts, or_right, both_ways, false_from_ne_true, true_from_ne_false, count_minus, count_member, count_plus, Within, count, is_odd, Set, minus, pair_set, singleton, union}
use Rattle.barrier_kit.proofs.Common.{cuts_met, leader_of, leader_same, leads_out, many_parts, odd_part, part_out, part_step}
use Rattle.graph_core.proofs.Common.{covered_perfect, joined_back, joined_on, joined_outside, joined_walk, walk_joined, adjacent-edge, has_ends-cases, is_least, Graph, HasEnds, IsBarrier, IsCovered, IsGraph, IsTight, in_cut, size, joined}
use Rattle.quick_kinds.proofs.from_brick_kit.CutEnds.{cut_ends, ends_within, same_side}
use Rattle.quick_kinds.proofs.from_brick_kit.PairSeparations.{beside_ends, ends_beside}
use Rattle.theorems.proofs.ContractedShores.{Shrunk, count_back, covered_h, edge_in, ends_over, f_in, f_out, f_within, in_shore, up, up_is, up_of}
use Rattle.theorems.proofs.EvenPockets.{pocket_off}
use Rattle.theorems.proofs.OddFamilies.{family_barrier}
use Rattle.theorems.proofs.Pockets.{Pocket}

-- no edge leaves a set if none has one end in it and the other outside
pub no_cut : (g : Graph) (m : Set) (e : ℕ) → ((u v : ℕ) → HasEnds g e u v → m u ≡ true → m v ≡ false → ⊥) → in_cut g m e ≡ false
no_cut g m e h = false_from_ne_true (in_cut g m e) (λ t. let q = cut_ends g m e t in h q.0 q.1 q.2 q.3 q.4)

-- the ends of an edge in the other order
pub turned_ends : (g : Graph) (e u v : ℕ) → HasEnds g e u v → HasEnds g e v u
turned_ends g e u v ends = elim ends [ inl i ↦ inr (i.0, i.1) | inr i ↦ inl (i.0, i.1) ]

-- not in one of two sets, if in neither
pub neither : (i j : Bool) → i ≡ false → j ≡ false → (i || j) ≡ false
neither i j q r = grind arith

-- an edge that leaves a pocket leads to one of its two vertices
pub pocket_edge : (g : Graph) (m : Set) (a d : ℕ) → Pocket g m a d → (e u v : ℕ) → Within (size g) e → HasEnds g e u v → m u ≡ true → m v ≡ false → pair_set a d v ≡ true
pocket_edge g m a d p e u v we ends mu mv = true_from_ne_false (pair_set a d v) (λ o.
    let q = ends_beside g (pair_set a d) e u v ends (pocket_off g m a d p u mu) o in both_ways (m v) mv (sym (same_side g m e u v ends (p.closed e we q.0 q.1)) ∙ mu))

-- an edge beside s keeps in each component
part_ends : (g : Graph) (s : Set) (l e u v : ℕ) → IsGraph g → Within g.order l → Within (size g) e → HasEnds g e u v → s u ≡ false → s v ≡ false → joined g s l u ≡ joined g s l v
part_ends g s l e u v is wl we ends su sv = elim ends [
  | inl q ↦ ap (joined g s l) (sym q.0) ∙ part_step g s l e is wl we (ap s q.0 ∙ su) (ap s q.1 ∙ sv) ∙ ap (joined g s l) q.1
  | inr q ↦ ap (joined g s l) (sym q.1) ∙ sym (part_step g s l e is wl we (ap s q.0 ∙ sv) (ap s q.1 ∙ su)) ∙ ap (joined g s l) q.0
]

module _ (g : Graph) (is : IsGraph g) (cov : IsCovered g) (w : Set) (tw : IsTight g w) (k : Shrunk g w) where
  open k use {h, f, c, is as ish, merge}

  -- a barrier t of the contraction, one of its vertices, and a vertex x outside; s in its place
  module _ (t : Set) (bar : IsBarrier h t) (a : ℕ) (wa : Within h.order a) (ta : t a ≡ true) (x : ℕ) (wx : Within h.order x) (tx : t x ≡ false)
      (no_new : (l : ℕ) → t l ≡ false → joined h t l x ≡ false → joined h t l c ≡ false)
      (s : Set) (few : count g.order s ≤ count h.order t)
      (off : (v : ℕ) → Within g.order v → s v ≡ true → (l : ℕ) → t l ≡ false → joined h t l (f v) ≡ false)
      (closed : (l e u v : ℕ) → Within h.order l → t l ≡ false → joined h t l x ≡ false → Within (size g) e → HasEnds g e u v → joined h t l (f u) ≡ true → s v ≡ false → joined h t l (f v) ≡ true) where
    met_h : IsCovered h
    met_h = covered_h g is w k cov tw

    lead : (l : ℕ) × Within h.order l × (is_least h t l ≡ true) × (joined h t l x ≡ true)
    lead = leader_of h t ish x wx tx

    -- the components but that of x
    abbrev others : Set
    others = minus (is_least h t) (singleton lead.0)

    parts : (l : ℕ) → Within h.order l → others l ≡ true → (is_least h t l ≡ true) × (t l ≡ false) × (joined h t l x ≡ false)
    parts l wl o =
        let q = split (is_least h t l) (lead.0 == l) o in
        (q.0, leads_out h t l q.0, false_from_ne_true (joined h t l x) (λ j. both_ways (lead.0 == l) q.1 (eq-eqb lead.0 l (leader_same h t ish lead.0 x l lead.1 wx wl lead.2 lead.3 q.0 j))))
      where
        split : (b k : Bool) → (b && not k) ≡ true → (b ≡ true) × (k ≡ false)
        split b k h = grind arith

    lifted : IsBarrier g s
    lifted =
        let m = covered_perfect g is cov in
        let n = many_parts h ish (cuts_met h ish met_h) t bar a wa ta in
        let o = count_minus h.order (is_least h t) lead.0 lead.1 lead.2 in
        family_barrier g s is h.order others (λ l v. joined h t l (f v))
        (λ l wl i. let q = parts l wl i in ap is_odd (count_back g is w k (joined h t l) (no_new l q.1 q.2)) ∙ odd_part h ish (cuts_met h ish met_h) t bar l a wl q.0 wa ta)
        (λ l v wl i wv j. let q = parts l wl i in false_from_ne_true (s v) (λ sv. both_ways (joined h t l (f v)) (off v wv sv l q.1) j))
        (λ l u v wl i j adj. let q = parts l wl i in let r = adjacent-edge g s u v adj in closed l r.2.0 u v wl q.1 q.2 r.2.1 (has_ends-cases g u v r.2.0 r.2.2) j r.1)
        (λ i j v wi wj oi oj wv ji jj. leader_same h t ish i (f v) j wi (f_within g is w k v wv) wj (parts i wi oi).0 ji (parts j wj oj).0 jj)
        m.0 m.1 (omega (arith, few))

  -- a barrier without c
  pub without_new : (t : Set) → IsBarrier h t → 2 ≤ count h.order t → t c ≡ false → IsBarrier g (λ v. t (f v))
  without_new t bar two tc =
      let a = count_member h.order t (omega arith) in
      let n = count_back g is w k t tc in
      lifted t bar a.0 a.1 a.2 c merge.new tc (λ l tl j. j) (λ v. t (f v)) (omega arith) (λ v wv sv l tl. part_out h t l (f v) ish tl sv)
      (λ l e u v wl tl j we ends ju sv. sym (part_ends h t l e (f u) (f v) ish wl (edge_in g is w k e we) (ends_over g is w k e u v we ends) (joined_outside h t ish l (f u) tl ju) sv) ∙ ju)

  -- a barrier with c, a vertex o of the shore outside the barrier, and b outside the shore
  module _ (t : Set) (bar : IsBarrier h t) (two : 2 ≤ count h.order t) (tc : t c ≡ true) (o : ℕ) (wo : Within g.order o) (out_o : t (f o) ≡ false) (b : ℕ) (wb : Within g.order b) (bw : w b ≡ false)
      (leave : (e u v : ℕ) → Within (size g) e → HasEnds g e u v → w u ≡ true → joined h t (f o) (f u) ≡ false → w v ≡ false → v ≡ b) where
    -- the vertices of the barrier but c
    abbrev old : Set
    old v = minus t (singleton c) (f v)

    at_b : f b ≡ c
    at_b = f_out g is w k b wb bw

    pub new_count : count g.order (union old (singleton b)) ≡ count h.order t
    new_count =
        let n = count_minus h.order t c merge.new tc in
        let i = count_back g is w k (minus t (singleton c)) but in
        let j = count_plus g.order old b wb (ap (minus t (singleton c)) at_b ∙ but) in omega arith
      where
        but : minus t (singleton c) c ≡ false
        but = bits (t c) (c == c) (eq-eqb c c refl)
          where
            bits : (i j : Bool) → j ≡ true → (i && not j) ≡ false
            bits i j q = grind arith

    pub with_new : IsBarrier g (union old (singleton b))
    with_new =
        let n = new_count in
        lifted t bar c merge.new tc (f o) (f_within g is w k o wo) out_o (λ l tl q. part_out h t l c ish tl tc) (union old (singleton b)) (omega arith)
        (λ v wv sv l tl. elim (or_cases (old v) (b == v) sv) [
          | inl q ↦ part_out h t l (f v) ish tl (and_parts (t (f v)) (not (c == f v)) q).0
          | inr q ↦ ap (joined h t l) (ap f (sym (eqb-true b v q)) ∙ at_b) ∙ part_out h t l c ish tl tc
        ]) closed
      where
        closed : (l e u v : ℕ) → Within h.order l → t l ≡ false → joined h t l (f o) ≡ false → Within (size g) e → HasEnds g e u v → joined h t l (f u) ≡ true → union old (singleton b) v ≡ false → joined h t l (f v) ≡ true
        closed l e u v wl tl j we ends ju sv =
            let wu = (ends_within g is e u v we ends).0 in
            let wv = (ends_within g is e u v we ends).1 in
            let tu = joined_outside h t ish l (f u) tl ju in
            let q = or_parts (old v) (b == v) sv in
            elim (cases_Bool (w v)) [
              | inl i ↦ sym (part_ends h t l e (f u) (f v) ish wl (edge_in g is w k e we) (ends_over g is w k e u v we ends) tu (rest (t (f v)) (c == f v) (ne_eqb c (f v) (λ z. (f_in g is w k v wv i).1 (sym z))) q.0)) ∙ ju
              | inr i ↦ absurd (both_ways (b == v) q.1 (eq-eqb b v (sym (leave e u v we ends (in_shore g is w k u wu (λ z. both_ways (t (f u)) tu (ap t z ∙ tc))) (apart l (f u) wl ju j) i))))
            ]
          where
            rest : (i j : Bool) → j ≡ false → (i && not j) ≡ false → i ≡ false
            rest i j q r = grind arith

            apart : (l u : ℕ) → Within h.order l → joined h t l u ≡ true → joined h t l (f o) ≡ false → joined h t (f o) u ≡ false
            apart l u wl ju j = false_from_ne_true (joined h t (f o) u) (λ z. both_ways (joined h t l (f o)) j (walk_joined h t ish l (f o) wl (joined_on h t l u (f o) (joined_walk h t l u ju) (joined_back h t (f o) u (joined_walk h t (f o) u z)))))

  -- a pocket without c; b takes the place of c if that is one of the two vertices
  module _ (m : Set) (a d : ℕ) (p : Pocket h m a d) (mc : m c ≡ false) (b : ℕ) (wb : Within g.order b) (bw : w b ≡ false)
      (leave : pair_set a d c ≡ true → (e u v : ℕ) → Within (size g) e → HasEnds g e u v → m (f u) ≡ true → w v ≡ false → v ≡ b) where
    unfoldable pub to : ℕ → ℕ
    to t = cond (t == c) b (up g is w k t)

    to_new : to c ≡ b
    unfolding to
    to_new = rw (eq-eqb c c refl) refl

    to_old : (t : ℕ) → t ≢ c → to t ≡ up g is w k t
    unfolding to
    to_old t n = rw (ne_eqb t c n) refl

    pub to_is : (t : ℕ) → Within h.order t → Within g.order (to t) × (f (to t) ≡ t)
    to_is t wt = elim (cases_eq t c) [
      | inl e ↦ let q = ap to e ∙ to_new in (rw q wb, rw q (f_out g is w k b wb bw ∙ sym e))
      | inr n ↦ let u = up_is g is w k t wt n in let q = to_old t n in (rw q u.0, rw q u.2)
    ]

    pub to_kept : (t : ℕ) → Within h.order t → w (to t) ≡ false → to t ≡ b
    to_kept t wt o = elim (cases_eq t c) [
      | inl e ↦ ap to e ∙ to_new
      | inr n ↦ absurd (both_ways (w (to t)) o (ap w (to_old t n) ∙ (up_is g is w k t wt n).1))
    ]

    to_back : (v : ℕ) → Within g.order v → (w v ≡ false → v ≡ b) → to (f v) ≡ v
    to_back v wv kept = elim (cases_Bool (w v)) [
      | inl i ↦ to_old (f v) (f_in g is w k v wv i).1 ∙ up_of g is w k v wv i
      | inr o ↦ ap to (f_out g is w k v wv o) ∙ to_new ∙ sym (kept o)
    ]

    pub lifted_pocket : Pocket g (λ v. m (f v)) (to a) (to d)
    lifted_pocket = record {
      first = (to_is a p.first).0;
      second = (to_is d p.second).0;
      different = λ e. p.different (sym (to_is a p.first).1 ∙ ap f e ∙ (to_is d p.second).1);
      first_out = ap m (to_is a p.first).1 ∙ p.first_out;
      second_out = ap m (to_is d p.second).1 ∙ p.second_out;
      even = ap is_odd (count_back g is w k m mc) ∙ p.even;
      some = let n = count_back g is w k m mc in let o = p.some in omega arith;
      closed = λ e we s t. no_cut g (λ v. m (f v)) e (λ u v ends mu mv.
          let q = pocket_edge h m a d p e (f u) (f v) (edge_in g is w k e we) (ends_over g is w k e u v we ends) mu mv in
          let wv = (ends_within g is e u v we ends).1 in
          let back = to_back v wv (λ o. leave (ap (pair_set a d) (sym (f_out g is w k v wv o)) ∙ q) e u v we ends mu o) in
          both_ways (pair_set (to a) (to d) v) (beside_ends g (pair_set (to a) (to d)) e u v ends s t).1 (elim (or_cases (a == f v) (d == f v) q) [
            | inl i ↦ or_left (to a == v) (to d == v) (eq-eqb (to a) v (ap to (eqb-true a (f v) i) ∙ back))
            | inr i ↦ or_right (to a == v) (to d == v) (eq-eqb (to d) v (ap to (eqb-true d (f v) i) ∙ back))
          ]));
    }
