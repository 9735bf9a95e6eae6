-- Networks with undirected arcs, the value of a set of nodes, and least minimum cuts (Ford and
-- Fulkerson, "Flows in Networks").
-- Stated by: flow_core, tight_cuts.
use Rattle.std.specs.Prelude.{◌≡◌, ℕ, ◌≤◌, ◌<◌, ◌^◌, ◌≢◌, Bool, true, false, List, [], ◌∷◌, ◌++◌, ◌&&◌, ◌||◌, not, cond, sum_by, All}
use Rattle.vset_core.specs.from_counting.Common.{Within, Set, mem, IsRisingIn}

-- an arc between a and b, which can be used in both directions
pub record Arc : Type 0 where
  pub a : ℕ
  pub b : ℕ
  pub capacity : ℕ

-- nodes 1 to k, and arcs
pub record Net : Type 0 where
  pub nodes : ℕ
  pub arcs : List Arc

-- the ends of the arc are nodes and differ
pub record IsArc (k : ℕ) (arc : Arc) : Type 0 where
  pub from_a : Within k arc.a
  pub to_b : Within k arc.b
  pub differ : arc.a ≢ arc.b

-- a valid net: the ends of each arc are nodes and differ
abbrev pub IsNet : Net → Type 0
IsNet net = All (IsArc net.nodes) net.arcs

-- the net with one more arc, which comes last
abbrev pub with_arc : Net → ℕ → ℕ → ℕ → Net
with_arc net a b capacity = record net { arcs = net.arcs ++ record { a = a; b = b; capacity = capacity } ∷ [] }

-- the sum of the capacities
abbrev pub total_capacity : Net → ℕ
total_capacity net = sum_by (λ (arc : Arc). arc.capacity) net.arcs

-- a valid net within the limits: at most 128 nodes, and a total capacity below 2^63
pub record IsBounded (net : Net) : Type 0 where
  pub nodes : net.nodes ≤ 128
  pub arcs : IsNet net
  pub total : total_capacity net < 2 ^ 63

-- exactly one end of the arc is in x
abbrev pub leaves_set : Set → Arc → Bool
leaves_set x arc = (x arc.a && not (x arc.b)) || (not (x arc.a) && x arc.b)

-- the value of x: the sum of the capacities of the arcs with exactly one node in x
abbrev pub cut_value : Net → Set → ℕ
cut_value net x = sum_by (λ (arc : Arc). cond (leaves_set x arc) arc.capacity 0) net.arcs

-- x contains the source but not the sink
pub record Separates (source sink : ℕ) (x : Set) : Type 0 where
  pub holds : x source ≡ true
  pub lacks : x sink ≡ false

-- some set with the source but not the sink has a value of at most `above`
pub record HasCutWithin (net : Net) (source sink above : ℕ) : Type 0 where
  pub set : Set
  pub separates : Separates source sink set
  pub within : cut_value net set ≤ above

-- the least minimum cut: its value is minimum among all sets with the source but not the sink, and
-- it lies inside each other such set of that value
pub record IsLeastCut (net : Net) (source sink : ℕ) (set : List ℕ) (value : ℕ) : Type 0 where
  pub nodes : IsRisingIn net.nodes set
  pub separates : Separates source sink (mem set)
  pub is : cut_value net (mem set) ≡ value
  pub least : (x : Set) → Separates source sink x → value ≤ cut_value net x
  pub inside : (x : Set) → Separates source sink x → cut_value net x ≡ value → (v : ℕ) → mem set v ≡ true → x v ≡ true
