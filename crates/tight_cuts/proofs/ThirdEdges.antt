-- A perfect matching with two edges in the cut of an odd set has a third there, by parity. So if
-- each vertex at which edges leave the set is alone, or has at most one such vertex after it, then
-- no perfect matching has two edges in the cut.
use Rattle.graph_core.proofs.from_counting.Common.{◌≡◌, ◌≢◌, ◌⊎◌, ℕ, suc, List, [], ◌∷◌, length, ◌<◌, ◌≤◌, ◌+◌, ◌%◌, ◌==◌, ◌&&◌, ◌↔◌, Bool, true, sym, ap, ◌∙◌, subst, arith, inl, inr, and_from, and_parts, cases_order, count, count_congr, count_member, count_minus, is_odd, mem, minus, odd-double, singleton, Within, IsRisingIn, Set, none, count_mem_length, odd_remainder}
use Rattle.graph_core.proofs.Common.{Graph, IsGraph, in_cut, inside, parity, size, IsEnd, IsPerfect, edges_in_cut}
use Rattle.barrier_kit.proofs.from_allowed_edges.PairSteps.{apart_shared}
use Rattle.tight_cuts.proofs.PairsOfEdges.{two_in_cut}
use Rattle.tight_cuts.proofs.TurnedEdges.{end_within, leaves_at}
use Rattle.tight_cuts.specs.Common.{HasFewLater, Leaves, LeavesAlone, NoTwoTogether}

-- a list with one item at most has one member at most
pub one_member : (xs : List ℕ) (v w : ℕ) → length xs ≤ 1 → mem xs v ≡ true → mem xs w ≡ true → v ≡ w
one_member [] v w few hv hw = grind arith
one_member (x ∷ []) v w few hv hw = grind arith
one_member (x ∷ y ∷ xs) v w few hv hw = absurd (omega arith)

-- a vertex at which an edge leaves a set
pub vertex_of : (g : Graph) (x : Set) (v e : ℕ) → IsGraph g → Within (size g) e → Leaves g x v e → Within g.order v
vertex_of g x v e is we leaves = end_within g e v is we leaves.end

-- the number of vertices of a set, from its members in the graph
pub odd_inside : (n : ℕ) (full set inside : List ℕ) → IsRisingIn 128 inside → ((v : ℕ) → (mem full v ≡ true) ↔ Within n v) → ((v : ℕ) → mem inside v ≡ (mem full v && mem set v)) → (k : ℕ) → k ≡ length inside →
    (k % 2 == 1) ≡ is_odd (count n (mem set))
odd_inside n full set inside rises full_is inside_is k k_is =
    let in_n : IsRisingIn n inside = Rattle.graph_core.proofs.from_counting.Common.set-narrower 128 n inside rises (λ v h. ((full_is v).0 (and_parts (mem full v) (mem set v) (sym (inside_is v) ∙ h)).0).1) in
    let same : count n (mem inside) ≡ count n (mem set) = count_congr n (mem inside) (mem set) (λ v w. inside_is v ∙ ap (λ b. b && mem set v) ((full_is v).1 w)) in
    odd_remainder k ∙ ap is_odd (k_is ∙ sym (count_mem_length n inside in_n) ∙ same)

module _ (g : Graph) (x : Set) (is : IsGraph g) (m : Set) (p : IsPerfect g none m) where
  -- a third edge in the cut of an odd set
  third : (e f : ℕ) → is_odd (count g.order x) ≡ true → Within (size g) e → Within (size g) f → e ≢ f → m e ≡ true → m f ≡ true → in_cut g x e ≡ true → in_cut g x f ≡ true →
      (d : ℕ) × Within (size g) d × (d ≢ e) × (d ≢ f) × (m d ≡ true) × (in_cut g x d ≡ true)
  third e f o we wf differ me mf ce cf =
      let two = two_in_cut g m x e f we wf differ me mf ce cf in
      let k = count (size g) (λ e. m e && inside g x e) in
      let all : count g.order x ≡ edges_in_cut g m x + (k + k) = omega (arith, parity g is m x p) in
      let more : 3 ≤ edges_in_cut g m x = three (edges_in_cut g m x) k (count g.order x) two all o in
      let first = count_minus (size g) y e we (and_from (m e) (in_cut g x e) me ce) in
      let second = count_minus (size g) (minus y (singleton e)) f wf (grind arith) in
      let d = count_member (size g) (minus (minus y (singleton e)) (singleton f)) (omega arith) in
      (d.0, d.1, grind (arith, d.2), grind (arith, d.2), grind (arith, d.2), grind (arith, d.2))
    where
      y : Set
      y d = m d && in_cut g x d

      three : (n k c : ℕ) → 2 ≤ n → c ≡ n + (k + k) → is_odd c ≡ true → 3 ≤ n
      three n k c two q o = elim (Rattle.graph_core.proofs.from_counting.Common.cases_eq n 2) [
        | inl e ↦ let twice : c ≡ suc (suc (k + k)) = omega arith in grind (arith, odd-double k, ap is_odd twice)
        | inr e ↦ omega arith
      ]

  -- two edges of the matching do not leave the set at one vertex
  apart : (e f u v : ℕ) → Within (size g) e → Within (size g) f → e ≢ f → m e ≡ true → m f ≡ true → Leaves g x u e → Leaves g x v f → u ≢ v
  apart e f u v we wf differ me mf lu lv q =
      apart_shared g e f u differ we wf (vertex_of g x u e is we lu) lu.end (subst (IsEnd g f) (sym q) lv.end) (m, p, me, mf)

  module _ (odd : Bool) (o : odd ≡ true → is_odd (count g.order x) ≡ true) (alone : (u : ℕ) → Within g.order u → LeavesAlone g x u ⊎ ((odd ≡ true) × HasFewLater g x u)) where
    -- no two of its edges leave the set, one at a first and one at a later vertex
    later : (e f u v : ℕ) → e ≢ f → Within (size g) e → Within (size g) f → m e ≡ true → m f ≡ true → Leaves g x u e → Leaves g x v f → u < v → ⊥
    later e f u v differ we wf me mf lu lv less = elim (alone u (vertex_of g x u e is we lu)) [
      | inl a ↦ a m e f v p we wf me mf lu lv less
      | inr few ↦
          let d = third e f (o few.0) we wf differ me mf lu.cut lv.cut in
          let w = leaves_at g x d.0 is d.1 d.5 in
          let off_u = apart d.0 e w.0 u d.1 we d.2 d.4 me w.2 lu in
          let off_v = apart d.0 f w.0 v d.1 wf d.3 d.4 mf w.2 lv in
          elim (cases_order w.0 u) [
            | inl q ↦ off_u q
            | inr n ↦ elim n [
              | inl before ↦ elim (alone w.0 w.1) [
                | inl a ↦ a m d.0 e u p d.1 we d.4 me w.2 lu before
                | inr rest ↦ let same = rest.1 e f u v we wf before (omega arith) lu lv in omega arith
              ]
              | inr after ↦ off_v (few.1 d.0 f w.0 v d.1 wf after less w.2 lv)
            ]
          ]
    ]

-- so no perfect matching has two edges in the cut
pub odd_apart : (g : Graph) (x : Set) → IsGraph g → (odd : Bool) → (odd ≡ true → is_odd (count g.order x) ≡ true) → ((u : ℕ) → Within g.order u → LeavesAlone g x u ⊎ ((odd ≡ true) × HasFewLater g x u)) → NoTwoTogether g x
odd_apart g x is odd o alone e f we wf differ ce cf t =
    let u = leaves_at g x e is we ce in
    let v = leaves_at g x f is wf cf in
    elim (cases_order u.0 v.0) [
      | inl q ↦ apart g x is t.0 t.1 e f u.0 v.0 we wf differ t.2 t.3 u.2 v.2 q
      | inr n ↦ elim n [
        | inl l ↦ later g x is t.0 t.1 odd o alone e f u.0 v.0 differ we wf t.2 t.3 u.2 v.2 l
        | inr l ↦ later g x is t.0 t.1 odd o alone f e v.0 u.0 (λ q. differ (sym q)) wf we t.3 t.2 v.2 u.2 l
      ]
    ]
