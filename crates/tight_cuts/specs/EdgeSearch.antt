-- What the search at one edge keeps in rows, and what it answers.
-- Stated by: tight_cuts.
use Rattle.std.specs.Prelude.{◌≡◌, ◌≢◌, ℕ, zero, suc, ◌+◌, ◌<◌, ◌≤◌, ◌^◌, ◌⊎◌, false, true, List, [], ◌∷◌, ◌++◌, ◌==◌, Option, Some, None, cond, length, slice_index_or}
use Rattle.barrier_kit.specs.from_allowed_edges.PairTables.{AreGrown, SettlesEdges}
use Rattle.barrier_kit.specs.from_match_core.Common.{IsOf, edges_of}
use Rattle.tight_cuts.specs.declared.matchings.Matchings.{Matchings}
use Rattle.graph_core.specs.from_counting.Common.{Within, total, Set, none, pair_set, mem}
use Rattle.graph_core.specs.Common.{components, IsCovered, Graph, size, first_end, second_end, has_ends, IsPerfect}
use Rattle.flow_core.specs.Common.{Arc, Net, HasCutWithin, IsLeastCut}
use Rattle.tight_cuts.specs.Candidates.{lesser_end, greater_end, is_separated, common_shore, first_separated}
use Rattle.tight_cuts.specs.PairSums.{weight}
use Rattle.tight_cuts.specs.Pieces.{IsBeside, SeparatesTightly, leader, group_of}

-- the number at place i of a row
abbrev pub at_place : List ℕ → ℕ → ℕ
at_place row i = slice_index_or row i 0

-- the row has the weight of each edge in a lean list of perfect matchings, and the number is the
-- list's length
pub record AreWeights (g : Graph) (list : List (List ℕ)) (weights : List ℕ) (bound : ℕ) : Type 0 where
  pub grown : AreGrown g list
  pub long : length weights ≡ size g + 1
  pub each : (e : ℕ) → Within (size g) e → at_place weights e ≡ weight list e
  pub is : bound ≡ length list

-- a perfect matching of g, a table in which perfect matchings are listed, and what is known of
-- pairs of edges of g
pub record AreMatchings (g : Graph) (m : Matchings) : Type 0 where
  pub of : IsOf g m.kept
  pub perfect : IsPerfect g none (mem (edges_of m.kept))
  pub listed : SettlesEdges g 1 m.pairs
  pub apart : m.apart ≡ g
  pub rows : m.rows ≡ g

-- the row has for each vertex the least vertex of its piece at edge e with the ends a and b; these
-- stand for themselves
pub record AreLeaders (g : Graph) (a b e : ℕ) (leaders : List ℕ) : Type 0 where
  pub beside : Graph
  pub is : IsBeside g e beside
  pub long : length leaders ≡ g.order + 1
  pub each : (v : ℕ) → Within g.order v → at_place leaders v ≡ leader (components beside (pair_set a b)) v

-- the row has the leaders at edge e of a covered graph, which has the ends a and b
pub record AreLeadersAt (g : Graph) (a b e : ℕ) (leaders : List ℕ) : Type 0 where
  pub covered : IsCovered g
  pub edge : Within (size g) e
  pub ends : has_ends g a b e ≡ true
  pub led : AreLeaders g a b e leaders

-- an arc between two nodes, and none if they are one
abbrev pub arc_between : ℕ → ℕ → ℕ → List Arc
arc_between a b capacity = cond (a == b) [] (record { a = a; b = b; capacity = capacity } ∷ [])

-- the arcs of the edges 1 to e that join different groups, with the numbers of the row as
-- capacities
abbrev pub arcs_by : Graph → List ℕ → (ℕ → ℕ) → ℕ → List Arc
arcs_by g weights group zero = []
arcs_by g weights group (suc e) = arcs_by g weights group e ++ arc_between (group (first_end g (suc e))) (group (second_end g (suc e))) (at_place weights (suc e))

-- the group of a vertex, by the row of leaders
abbrev pub row_group : (a b x y : ℕ) → List ℕ → ℕ → ℕ
row_group a b x y leaders v = group_of a b x y (at_place leaders v)

-- the network of the groups for the pieces that x and y lead
abbrev pub group_net : Graph → List ℕ → List ℕ → (a b x y : ℕ) → Net
group_net g weights leaders a b x y = record { nodes = g.order; arcs = arcs_by g weights (row_group a b x y leaders) (size g) }

-- the weights are small, each group is a node, and a and b are two of the nodes
pub record AreGroups (g : Graph) (leaders weights : List ℕ) (a b x y : ℕ) : Type 0 where
  pub small : total (size g) (at_place weights) < 2 ^ 63
  pub within : (v : ℕ) → Within g.order v → Within g.order (row_group a b x y leaders v)
  pub source : Within g.order a
  pub sink : Within g.order b
  pub differ : a ≢ b

-- x leads a piece of the edge with the ends a and b
pub record Leads (g : Graph) (a b : ℕ) (leaders : List ℕ) (x : ℕ) : Type 0 where
  pub within : Within g.order x
  pub outside : pair_set a b x ≡ false
  pub itself : at_place leaders x ≡ x

-- y leads another piece than x, or is b
abbrev pub LeadsBeyond : Graph → (a b : ℕ) → List ℕ → ℕ → ℕ → Type 0
LeadsBeyond g a b leaders x y = (Leads g a b leaders y × (x ≢ y)) ⊎ (y ≡ b)

-- the vertices of the least cut of the groups' network, if some cut is within the bound
pub record IsCutOfGroups (g : Graph) (weights leaders : List ℕ) (bound a b x y : ℕ) (answer : Option (List ℕ)) : Type 0 where
  pub some : (s : List ℕ) → answer ≡ Some s → (set : List ℕ) × (value : ℕ) × IsLeastCut (group_net g weights leaders a b x y) a b set value × (value ≤ bound) × ((v : ℕ) → Within g.order v → mem s v ≡ mem set (row_group a b x y leaders v))
  pub none : answer ≡ None → HasCutWithin (group_net g weights leaders a b x y) a b bound → ⊥

-- the intersection of all tight sets with a and the first vertex of the pair and with neither b
-- nor the second, if there is one
pub record IsCommonShore (g : Graph) (a b : ℕ) (k : ℕ × ℕ) (answer : Option (List ℕ)) : Type 0 where
  pub some : (s : List ℕ) → answer ≡ Some s → ((z : Set) × SeparatesTightly g a b k z) × ((v : ℕ) → Within g.order v → mem s v ≡ common_shore g a b k v)
  pub none : answer ≡ None → (z : Set) → SeparatesTightly g a b k z → ⊥

-- each tight set with a and x and without b is everything but b
abbrev pub AreWhole : Graph → (a b : ℕ) → ℕ → Type 0
AreWhole g a b x = (z : Set) → SeparatesTightly g a b (x, b) z → (v : ℕ) → Within g.order v → v ≢ b → z v ≡ true

-- what edge e gives: the common shore of the first pair that is separated, and nothing if there is
-- none
pub record IsShoreOfEdge (g : Graph) (e : ℕ) (answer : Option (List ℕ)) : Type 0 where
  pub some : (s : List ℕ) → answer ≡ Some s → (k : ℕ × ℕ) × (first_separated g e ≡ Some k) × ((v : ℕ) → Within g.order v → mem s v ≡ common_shore g (lesser_end g e) (greater_end g e) k v)
  pub none : answer ≡ None → first_separated g e ≡ None

-- no pair before (x, y), in lexicographic order, is separated at edge e
abbrev pub NoneBefore : Graph → ℕ → ℕ → ℕ → Type 0
NoneBefore g e x y = (c d : ℕ) → Within g.order c → Within g.order d → (c < x) ⊎ ((c ≡ x) × (d < y)) → is_separated g (lesser_end g e) (greater_end g e) (c, d) ≡ false
