-- Two lines on maximum matchings of one graph have the number of edges and the three sets in common:
-- a maximum matching has as many edges as any other, and the graph determines the sets.
use Rattle.allowed_edges.proofs.from_counting.Common.{◌≡◌, ◌∙◌, ℕ, List, sym, arith, count, same_rising_list, same_tests, none, Lists, Set}
use Rattle.graph_core.proofs.Common.{Graph, InA, InC, InD, IsMaximum, size}
use Rattle.mcg6_lines.specs.MatchingLines.{DifferInEdges, IsMatchingLine, matched_line}

-- an increasing list is determined by what it lists
pub lists-once : (n : ℕ) (xs ys : List ℕ) (P : ℕ → Type 0) → Lists n xs P → Lists n ys P → xs ≡ ys
lists-once n xs ys P one two = grind (arith, same_rising_list n xs ys one.rising two.rising, same_tests)

-- maximum matchings have as many edges
pub maximum-once : (g : Graph) (m k : Set) → IsMaximum g none m → IsMaximum g none k → count (size g) m ≡ count (size g) k
maximum-once g m k one two = let a = one.most k two.is in let b = two.most m one.is in omega arith

pub matchings-alike : (g : Graph) (a b : List ℕ) → IsMatchingLine g a → IsMatchingLine g b → DifferInEdges a b
matchings-alike g a b one two =
    let edges : two.edges ≡ one.edges = sym two.right.size_is ∙ maximum-once g two.right.matching one.right.matching two.right.maximum one.right.maximum ∙ one.right.size_is in
    let in_d : two.d ≡ one.d = lists-once g.order two.d one.d (InD g) two.right.lists_d one.right.lists_d in
    let in_a : two.a ≡ one.a = lists-once g.order two.a one.a (InA g) two.right.lists_a one.right.lists_a in
    let in_c : two.c ≡ one.c = lists-once g.order two.c one.c (InC g) two.right.lists_c one.right.lists_c in
    record {
      graph = g;
      edges = one.edges;
      d = one.d;
      a = one.a;
      c = one.c;
      mate = one.mate;
      other = two.mate;
      one = one.line;
      two = two.line ∙ (λ i. matched_line g (edges i) two.mate (in_d i) (in_a i) (in_c i));
    }
