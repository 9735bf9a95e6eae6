-- A set with one vertex more of one side of a bipartite graph, which no edge leaves from the other
-- side, has a tight cut. Idea: what leaves the set from the side outnumbers what leaves it from the
-- other by the surplus of vertices.
use Rattle.graph_core.proofs.from_counting.Common.{◌≡◌, ℕ, ◌+◌, ◌&&◌, not, false, List, length, sym, arith, count_congr, count_mem_length, total_none, bit, count, Within, complement, mem, meet, minus, Set, IsRisingIn}
use Rattle.graph_core.proofs.Common.{Graph, IsGraph, IsSide, connects, size, CutIsTight}
use Rattle.quick_kinds.proofs.from_matching_digraph.Balance.{balance, leaves_right}

module _ (g : Graph) (is : IsGraph g) (x : Set) (two : IsSide g x) (y : Set) where
  -- by the numbers of vertices on both sides
  pub surplus_tight : count g.order (meet y x) ≡ count g.order (minus y x) + 1 → ((e : ℕ) → Within (size g) e → connects g (minus y x) (complement y) e ≡ false) → CutIsTight g y
  surplus_tight more stays m perfect =
      let b = balance g is x two y m perfect in
      let z : count (size g) (λ e. m e && leaves_right g is x two y e) ≡ 0 = total_none (size g) (λ e. bit (m e && leaves_right g is x two y e)) (λ e w. grind (arith, stays e w)) in
      let p = b.0 in let q = b.1 in omega arith

  -- by lists of them
  pub lists_tight : (near far : List ℕ) → IsRisingIn g.order near → IsRisingIn g.order far → ((v : ℕ) → mem near v ≡ (y v && x v)) → ((v : ℕ) → mem far v ≡ (y v && not (x v))) → length near ≡ length far + 1 →
      ((e : ℕ) → Within (size g) e → connects g (mem far) (complement y) e ≡ false) → CutIsTight g y
  lists_tight near far rn rf hn hf more stays = surplus_tight
      (let a = sym (count_mem_length g.order near rn) in let b = count_mem_length g.order far rf in
      let c = count_congr g.order (mem near) (meet y x) (λ v w. hn v) in let d = count_congr g.order (mem far) (minus y x) (λ v w. hf v) in omega arith)
      (λ e w. grind (arith, stays e w, hf))
