-- What the search for two edges of a cut in one perfect matching shows: the matching that it
-- finds is not a witness of tightness, and if it finds none, no two edges of the cut lie
-- together, which makes an odd cut tight.
use Rattle.graph_core.proofs.from_counting.Common.{◌≡◌, ℕ, ◌<◌, ◌&&◌, List, length, true, false, ap, ◌∙◌, arith, subst, All, Any-from_list_any, and_parts, cases_order, count_mem_length, complement_odd, false_from_ne_true, two_of, Within, count, is_odd, IsRisingIn, complement, mem, Set, none}
use Rattle.barrier_kit.proofs.Common.{even_order}
use Rattle.graph_core.proofs.Common.{covered_perfect, IsCovered, Graph, IsGraph, edges_in_cut, in_cut, size, IsPerfect, IsTight}
use Rattle.barrier_kit.specs.from_allowed_edges.PairTables.{IsNew, PairsValue, edge_lists, holds_both}
use Rattle.barrier_kit.specs.from_match_core.Common.{IsOf, MatchingValue, edges_of}
use Rattle.tight_cuts.proofs.PairsOfEdges.{alone_tight, two_in_cut}
use Rattle.tight_cuts.specs.Common.{CrossesTwice, NoLaterWith}

-- a perfect matching with two edges of the cut crosses it twice
pub crosses_by_two : (g : Graph) (x : Set) (m : MatchingValue) (e f : ℕ) → Within (size g) e → Within (size g) f → e < f → IsOf g m → IsPerfect g none (mem (edges_of m)) →
    mem (edges_of m) e ≡ true → mem (edges_of m) f ≡ true → in_cut g x e ≡ true → in_cut g x f ≡ true → CrossesTwice g x m
crosses_by_two g x m e f we wf l of perfect me mf ce cf = grind (arith, two_in_cut g (mem (edges_of m)) x e f we wf)

-- then the cut is not tight
pub crossed_not_tight : (g : Graph) (x : Set) (m : MatchingValue) → CrossesTwice g x m → IsTight g x → ⊥
crossed_not_tight g x m crosses tight = let a = tight.cut (mem (edges_of m)) crosses.perfect in let b = crosses.twice in absurd (omega arith)

-- an odd cut of which no edge lies together with a later one is tight
pub later_tight : (g : Graph) (x : Set) → IsGraph g → is_odd (count g.order x) ≡ true → is_odd (count g.order (complement x)) ≡ true → ((e : ℕ) → Within (size g) e → in_cut g x e ≡ true → NoLaterWith g x e) → IsTight g x
later_tight g x is odd odd_complement alone = grind (arith, alone_tight g x is odd odd_complement, cases_order)

-- the same for a set in a covered graph as a rising list
pub uncrossed_tight : (g : Graph) (shore : List ℕ) → IsGraph g → IsCovered g → IsRisingIn g.order shore → is_odd (length shore) ≡ true →
    ((e : ℕ) → Within (size g) e → in_cut g (mem shore) e ≡ true → NoLaterWith g (mem shore) e) → IsTight g (mem shore)
uncrossed_tight g shore is covered rises odd alone = later_tight g (mem shore) is inside (complement_odd g.order (mem shore) even inside) alone
  where
    inside : is_odd (count g.order (mem shore)) ≡ true
    inside = ap is_odd (count_mem_length g.order shore rises) ∙ odd

    even : is_odd g.order ≡ false
    even = let m = covered_perfect g is covered in even_order g m.0 is m.1

-- a matching that crosses a cut twice holds two edges that no matching holds which crosses it once
pub crosses_new : (g : Graph) (x : Set) (p : PairsValue) (m : MatchingValue) → All (λ (es : List ℕ). edges_in_cut g (mem es) x ≡ 1) (edge_lists p) → CrossesTwice g x m → IsNew g p m
crosses_new g x p m once crosses =
    let q = two_of (size g) (λ e. mem (edges_of m) e && in_cut g x e) crosses.twice in
    let e = and_parts (mem (edges_of m) q.0) (in_cut g x q.0) q.5 in
    let f = and_parts (mem (edges_of m) q.1) (in_cut g x q.1) q.6 in
    record {
      one = q.0;
      other = q.1;
      with = record { of = crosses.of; perfect = crosses.perfect; held = e.0 };
      held = f.0;
      new = false_from_ne_true (holds_both (edge_lists p) q.0 q.1) (λ t.
          let a = Any-from_list_any (λ m. mem m q.0 && mem m q.1) (edge_lists p) t in
          let h = and_parts (mem a.1 q.0) (mem a.1 q.1) a.4 in
          let two = two_in_cut g (mem a.1) x q.0 q.1 q.2 q.3 q.4 h.0 h.1 e.1 f.1 in
          let one = subst (λ (es : List ℕ). edges_in_cut g (mem es) x ≡ 1) a.3 (once a.0 a.1 a.2) in omega arith);
    }
