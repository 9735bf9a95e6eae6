-- The sides of a quotient: a set of blocks has each edge of the quotient in its cut exactly when it
-- separates each two adjacent blocks. So the quotient at the single vertices is bipartite exactly
-- when the graph is.
use Rattle.graph_core.proofs.from_counting.Common.{Bool, List, ap, arith, length, ne_eqb, not, subst, sym, true, ℕ, ◌&&◌, ◌<◌, ◌==◌, ◌||◌, ◌≡◌, ◌↔◌, and_from, and_parts, cases_order, nat_tests, some_true, true_some, Within, Set, some}
use Rattle.graph_core.proofs.Common.{edge_of_pair, quotient_edge, contracted-singles, length-singles, has_ends-cases, has_ends-own, Graph, IsBipartite, IsMultigraph, IsPartition, first_end, has_ends, in_cut, second_end, size, contracted, singles, blocks_adjacent, quotient}
use Rattle.tree_core.proofs.SingleVertices.{as_many-singles}

-- exactly one of the two holds
abbrev pub differ : Bool → Bool → Bool
differ a b = (a && not b) || (not a && b)

pub differ-back : (a b : Bool) → differ a b ≡ true → differ b a ≡ true
differ-back a b h = grind arith

-- x separates each two adjacent blocks, of which the first is named
abbrev pub Parts : Graph → List (List ℕ) → Set → Type 0
Parts g p x = (i j : ℕ) → Within (length p) i → Within (length p) j → i < j → blocks_adjacent g p i j ≡ true → differ (x i) (x j) ≡ true

pub parts_from_sides : (g : Graph) (p : List (List ℕ)) (x : Set) → ((e : ℕ) → Within (size (quotient g p)) e → in_cut (quotient g p) x e ≡ true) → Parts g p x
parts_from_sides g p x sides i j wi wj l adj = grind (arith, edge_of_pair g p i j wi wj l adj)

pub sides_from_parts : (g : Graph) (p : List (List ℕ)) (x : Set) → Parts g p x → (e : ℕ) → Within (size (quotient g p)) e → in_cut (quotient g p) x e ≡ true
sides_from_parts g p x parts e w = grind (arith, quotient_edge g p e w)

-- adjacency goes both ways, and no block is adjacent to itself
pub adjacent_back : (g : Graph) (p : List (List ℕ)) (i j : ℕ) → blocks_adjacent g p i j ≡ true → blocks_adjacent g p j i ≡ true
adjacent_back g p i j h = grind arith

-- and so of any two adjacent blocks
pub parted : (g : Graph) (p : List (List ℕ)) (x : Set) → Parts g p x → (i j : ℕ) → Within (length p) i → Within (length p) j → blocks_adjacent g p i j ≡ true → differ (x i) (x j) ≡ true
parted g p x parts i j wi wj h = grind (arith, cases_order i j, and_parts (not (i == j)) (some (size g) (has_ends (contracted g p) i j)) h, differ-back (x j) (x i), adjacent_back g p i j h, nat_tests)

-- at single vertices the quotient is bipartite exactly when the graph is
module _ (g : Graph) (is : IsMultigraph g) where
  single : (v : ℕ) → Within g.order v → Within (length (singles g.order)) v
  single v w = let n = length-singles g.order in let b = w in (omega arith, omega arith)

  joined : (e : ℕ) → Within (size g) e → blocks_adjacent g (singles g.order) (first_end g e) (second_end g e) ≡ true
  joined e w =
      and_from (not (first_end g e == second_end g e)) (some (size g) (has_ends (contracted g (singles g.order)) (first_end g e) (second_end g e)))
      (ap not (ne_eqb (first_end g e) (second_end g e) (is.no_loop e w)))
      (true_some (size g) (has_ends (contracted g (singles g.order)) (first_end g e) (second_end g e)) e w
      (subst (λ (h : Graph). has_ends h (first_end g e) (second_end g e) e ≡ true) (sym (contracted-singles g is.ends)) (has_ends-own g e)))

  pub bipartite_from_singles : IsBipartite (quotient g (singles g.order)) → IsBipartite g
  bipartite_from_singles b = (
    b.0,
    λ e w.
        parted g (singles g.order) b.0 (parts_from_sides g (singles g.order) b.0 b.1) (first_end g e) (second_end g e) (single (first_end g e) (is.ends e w).0) (single (second_end g e) (is.ends e w).1) (joined e w),
  )

  pub singles_from_bipartite : IsBipartite g → IsBipartite (quotient g (singles g.order))
  singles_from_bipartite b = grind (arith, sides_from_parts g (singles g.order) b.0, some_true (size g), and_parts, contracted-singles g is.ends, has_ends-cases g, differ-back)

  -- at a partition with as many blocks as vertices
  pub sides-at_vertices : (p : List (List ℕ)) → IsPartition g.order p → length p ≡ g.order → IsBipartite g ↔ IsBipartite (quotient g p)
  sides-at_vertices p pp many = subst (λ (q : List (List ℕ)). IsBipartite g ↔ IsBipartite (quotient g q)) (sym (as_many-singles g.order p pp many)) (singles_from_bipartite, bipartite_from_singles)
