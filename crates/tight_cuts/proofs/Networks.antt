-- The contracted network.
-- Idea: the value of a set of nodes is the sum over the listed matchings of the cut of its
-- vertices.
use Rattle.graph_core.proofs.from_counting.Common.{◌≡◌, ℕ, suc, zero, ◌+◌, ◌*◌, ◌≤◌, Bool, true, false, cond, ◌==◌, refl, sym, ap, ◌∙◌, arith, ◌&&◌, eq-eqb, eqb-true, List, [], ◌∷◌, length, sum_by, All, sum_by-append, same_tests, and_parts, and_from, or_cases, or_left, or_right, sum_by-cons, some_true, true_some, total_congr, total_add, total_none, bit, total, count, Within, is_odd, mem, none, Set, complement, pair_set, some}
use Rattle.flow_core.specs.Common.{leaves_set, cut_value, Separates, IsLeastCut}
use Rattle.graph_core.proofs.Common.{walk_joined, tight-same, joined_self, Graph, size, IsGraph, in_cut, edges_in_cut, has_ends, IsPerfect, IsTight, joined}
use Rattle.tight_cuts.proofs.LeastShores.{common_in, common_from}
use Rattle.tight_cuts.proofs.PairsOfEdges.{met_bound, met_once, tight_met, cut_between}
use Rattle.tight_cuts.proofs.PiecesOfEdges.{pieces_odd, tight_piece, beside_graph}
use Rattle.tight_cuts.specs.Common.{common_shore, weight, cut_sum, SeparatesTightly, IsBeside, arcs_of, contracted_net, in_piece, IsGrouping}

-- the weights in a cut are its edges in all the matchings
pub weights_cut : (g : Graph) (ms : List (List ℕ)) (x : Set) → total (size g) (λ e. weight ms e * bit (in_cut g x e)) ≡ cut_sum g ms x
unfolding cut_sum
weights_cut g [] x = total_none (size g) (λ e. weight [] e * bit (in_cut g x e)) (λ e w. omega arith)
weights_cut g (m ∷ ms) x =
    total_congr (size g) (λ e. weight (m ∷ ms) e * bit (in_cut g x e)) (λ e. bit (mem m e && in_cut g x e) + weight ms e * bit (in_cut g x e)) (λ e w. split (mem m e) (in_cut g x e) (weight (m ∷ ms) e) (weight ms e) (sum_by-cons (λ m. bit (mem m e)) m ms))
    ∙ total_add (size g) (λ e. bit (mem m e && in_cut g x e)) (λ e. weight ms e * bit (in_cut g x e))
    ∙ ap (λ k. count (size g) (λ e. mem m e && in_cut g x e) + k) (weights_cut g ms x)
    ∙ sym (sum_by-cons (λ m. count (size g) (λ e. mem m e && in_cut g x e)) m ms)
  where
    split : (s t : Bool) (p q : ℕ) → p ≡ bit s + q → p * bit t ≡ bit (s && t) + q * bit t
    split s t p q h = grind arith

-- the value of a set of nodes, arc by arc
arcs_value : (g : Graph) (ms : List (List ℕ)) (group : ℕ → ℕ) (u : Set) (e : ℕ) → sum_by (λ c. cond (leaves_set u c) c.capacity 0) (arcs_of g ms group e) ≡ total e (λ i. weight ms i * bit (in_cut g (λ v. u (group v)) i))
arcs_value g ms group u zero = refl
arcs_value g ms group u (suc e) = grind (arith, sum_by-append, arcs_value g ms group u e)

pub value_cut : (g : Graph) (ms : List (List ℕ)) (group : ℕ → ℕ) (r : ℕ) (u : Set) → cut_value (contracted_net g ms group r) u ≡ cut_sum g ms (λ v. u (group v))
value_cut g ms group r u = arcs_value g ms group u (size g) ∙ weights_cut g ms (λ v. u (group v))

module _ (g h : Graph) (is : IsGraph g) (a b e : ℕ) (wa : Within g.order a) (wb : Within g.order b) (we : Within (size g) e) (ends : has_ends g a b e ≡ true) (beside : IsBeside g e h) (ms : List (List ℕ)) (perfect : All (λ m. IsPerfect g none (mem m)) ms)
    (k : ℕ × ℕ) (wx : Within g.order k.0) (wy : Within g.order k.1) (r : ℕ) (group : ℕ → ℕ) (groups : IsGrouping g h a b k r group) where
  -- the vertices of a set of nodes
  abbrev pub back : Set → Set
  back u v = u (group v)

  at_a : group a ≡ a
  at_a = groups.source a wa (or_left (a == a) (joined h (pair_set a b) k.0 a) (eq-eqb a a refl))

  at_b : group b ≡ b
  at_b = groups.sink b wb (or_left (b == b) (joined h (pair_set a b) k.1 b) (eq-eqb b b refl))

  pub back_odd : (u : Set) → Separates a b u → (is_odd (count g.order (back u)) ≡ true) × (is_odd (count g.order (complement (back u))) ≡ true)
  back_odd u s = pieces_odd g h is a b e wa wb we ends beside (back u) (ap u at_a ∙ s.holds) (ap u at_b ∙ s.lacks) (λ p q wp wq j. ap u (groups.kept p q wp wq j))

  -- the value is at least the list's length
  pub value_bound : (u : Set) → Separates a b u → length ms ≤ cut_value (contracted_net g ms group r) u
  value_bound u s = let c = value_cut g ms group r u in let l = met_bound g ms is perfect (back u) (back_odd u s).0 in omega arith

  -- and is the length if the vertices are tight
  tight_value : (u : Set) → Separates a b u → IsTight g (back u) → cut_value (contracted_net g ms group r) u ≡ length ms
  tight_value u s t = value_cut g ms group r u ∙ tight_met g ms is perfect (back u) (back_odd u s).0 t

  own_piece : (v : ℕ) → Within g.order v → joined h (pair_set a b) v v ≡ true
  own_piece v w = let o = beside.order in walk_joined h (pair_set a b) (beside_graph g h is a b e wa wb we ends beside) v v (omega arith) (joined_self h (pair_set a b) v)

  -- if they are tight they separate the pairs
  tight_parts : (u : Set) → Separates a b u → IsTight g (back u) → SeparatesTightly g a b k (back u)
  tight_parts u s t = grind (arith, or_right, own_piece)

  piece_of : (x : Set) → SeparatesTightly g a b k x → (u v : ℕ) → joined h (pair_set a b) u v ≡ true → x u ≡ x v
  piece_of x p u v j = tight_piece g h is a b e wa wb we ends beside x p.tight (cut_between g x a b e ends p.has_a p.lacks_b) u v j

  source_all : (x : Set) → SeparatesTightly g a b k x → (v : ℕ) → in_piece h a b a k.0 v ≡ true → x v ≡ true
  source_all x p v t = grind (arith, or_cases (a == v) (joined h (pair_set a b) k.0 v) t, eqb-true a v, piece_of x p k.0 v)

  sink_none : (x : Set) → SeparatesTightly g a b k x → (v : ℕ) → in_piece h a b b k.1 v ≡ true → x v ≡ false
  sink_none x p v t = grind (arith, or_cases (b == v) (joined h (pair_set a b) k.1 v) t, eqb-true b v, piece_of x p k.1 v)

  -- a set that separates the pairs is a union of groups
  pub parts_group : (x : Set) → SeparatesTightly g a b k x → (u v : ℕ) → Within g.order u → Within g.order v → group u ≡ group v → x u ≡ x v
  parts_group x p u v wu wv q = grind (arith, piece_of x p u v, source_all x p u, source_all x p v, sink_none x p u, sink_none x p v)

  abbrev nodes_of : Set → Set
  nodes_of x w = some g.order (λ v. (group v == w) && x v)

  nodes_back : (x : Set) → SeparatesTightly g a b k x → (v : ℕ) → Within g.order v → nodes_of x (group v) ≡ x v
  nodes_back x p v w = same_tests (nodes_of x (group v)) (x v)
      (λ t. let q = some_true g.order (λ i. (group i == group v) && x i) t in
      let s = and_parts (group q.0 == group v) (x q.0) q.2 in
      sym (parts_group x p q.0 v q.1 w (eqb-true (group q.0) (group v) s.0)) ∙ s.1)
      (λ t. true_some g.order (λ i. (group i == group v) && x i) v w (and_from (group v == group v) (x v) (eq-eqb (group v) (group v) refl) t))

  -- so it comes from a set of nodes, whose value is the list's length
  pub parts_nodes : (x : Set) → SeparatesTightly g a b k x → (u : Set) × Separates a b u × ((v : ℕ) → Within g.order v → u (group v) ≡ x v) × (cut_value (contracted_net g ms group r) u ≡ length ms)
  parts_nodes x p =
      let s : Separates a b (nodes_of x) = record { holds = ap (nodes_of x) (sym at_a) ∙ nodes_back x p a wa ∙ p.has_a; lacks = ap (nodes_of x) (sym at_b) ∙ nodes_back x p b wb ∙ p.lacks_b } in
      (nodes_of x, s, nodes_back x p, tight_value (nodes_of x) s (tight-same g x (back (nodes_of x)) is (λ v w. sym (nodes_back x p v w)) p.tight))

  module _ (set : List ℕ) (value : ℕ) (cut : IsLeastCut (contracted_net g ms group r) a b set value) where
    -- a least cut of at most the list's length has that length
    pub least_value : value ≤ length ms → value ≡ length ms
    least_value l = let v = value_bound (mem set) cut.separates in let e = cut.is in omega arith

    -- so each matching has one edge in the cut of its vertices
    pub least_once : value ≤ length ms → All (λ m. edges_in_cut g (mem m) (back (mem set)) ≡ 1) ms
    least_once l = let v = least_value l in let e = cut.is in let c = value_cut g ms group r (mem set) in met_once g ms is perfect (back (mem set)) (back_odd (mem set) cut.separates).0 (omega arith)

    -- they lie in each set that separates the pairs
    pub least_inside : value ≤ length ms → (x : Set) → SeparatesTightly g a b k x → (v : ℕ) → Within g.order v → mem set (group v) ≡ true → x v ≡ true
    least_inside l x p v w t = let q = parts_nodes x p in let c = least_value l in let d = q.3 in sym (q.2 v w) ∙ cut.inside q.0 q.1 (omega arith) (group v) t

    -- so they are the common shore, if they are tight
    pub least_back : IsTight g (back (mem set)) → SeparatesTightly g a b k (back (mem set))
    least_back t = tight_parts (mem set) cut.separates t

    pub least_common : value ≤ length ms → IsTight g (back (mem set)) → (v : ℕ) → Within g.order v → mem set (group v) ≡ common_shore g a b k v
    least_common l tight v w = grind (arith, same_tests, common_from, least_inside, common_in, least_back)
