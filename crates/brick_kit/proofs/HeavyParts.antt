-- The vertices that walks over edges of positive weight reach from a vertex. Walks are defined for
-- any test of adjacency, so no new graph is needed.
use Rattle.graph_core.proofs.from_counting.Common.{◌≡◌, ℕ, ◌<◌, Bool, true, false, ◌&&◌, ◌||◌, not, List, nat_lt, lt-ltb, ◌++◌, ltb-true, arith, and_from, and_parts, some_true, true_some, Within, Set, some}
use Rattle.graph_core.proofs.Common.{IsClosed, Walk-back, Walk-join, flood_closed, flood_own, flood_walk, has_ends-cases, has_ends-own, Graph, HasEnds, IsGraph, first_end, has_ends, in_cut, second_end, size, Walk, reaches}
use Rattle.brick_kit.proofs.CutEnds.{ends_within}

-- some edge of weight 1 or more joins u and v
abbrev pub heavy : Graph → (ℕ → ℕ) → ℕ → ℕ → Bool
heavy g w u v = some (size g) (λ e. has_ends g u v e && nat_lt 0 (w e))

-- what such edges reach from a
abbrev pub part_of : Graph → (ℕ → ℕ) → ℕ → Set
part_of g w a = reaches g.order (heavy g w) a g.order

pub heavy_edge : (g : Graph) (w : ℕ → ℕ) (u v : ℕ) → heavy g w u v ≡ true → (e : ℕ) × Within (size g) e × HasEnds g e u v × (0 < w e)
heavy_edge g w u v h = grind (arith, some_true (size g), nat_lt 0, and_parts, has_ends-cases g u v, ltb-true 0)

pub edge_heavy : (g : Graph) (w : ℕ → ℕ) (e u v : ℕ) → Within (size g) e → has_ends g u v e ≡ true → 0 < w e → heavy g w u v ≡ true
edge_heavy g w e u v we h l = true_some (size g) (λ e. has_ends g u v e && nat_lt 0 (w e)) e we (and_from (has_ends g u v e) (nat_lt 0 (w e)) h (lt-ltb 0 (w e) l))

pub heavy_within : (g : Graph) (w : ℕ → ℕ) → IsGraph g → (u v : ℕ) → heavy g w u v ≡ true → Within g.order u × Within g.order v
heavy_within g w is u v h = let r = heavy_edge g w u v h in ends_within g is r.0 u v r.1 r.2

pub heavy_back : (g : Graph) (w : ℕ → ℕ) (u v : ℕ) → heavy g w u v ≡ true → heavy g w v u ≡ true
heavy_back g w u v h = grind arith

pub part_own : (g : Graph) (w : ℕ → ℕ) (a : ℕ) → part_of g w a a ≡ true
part_own g w a = flood_own g.order (heavy g w) a g.order

pub part_closed : (g : Graph) (w : ℕ → ℕ) (a : ℕ) → IsGraph g → Within g.order a → (e : ℕ) → Within (size g) e → 0 < w e → in_cut g (part_of g w a) e ≡ false
unfolding IsClosed
part_closed g w a is wa e we l = there (part_of g w a (first_end g e)) (part_of g w a (second_end g e))
    (λ t. flood_closed g.order (heavy g w) a wa (first_end g e) (second_end g e) (is e we).0 (is e we).1 t on)
    (λ t. flood_closed g.order (heavy g w) a wa (second_end g e) (first_end g e) (is e we).1 (is e we).0 t (heavy_back g w (first_end g e) (second_end g e) on))
  where
    on : heavy g w (first_end g e) (second_end g e) ≡ true
    on = edge_heavy g w e (first_end g e) (second_end g e) we (has_ends-own g e) l

    there : (s t : Bool) → (s ≡ true → t ≡ true) → (t ≡ true → s ≡ true) → ((s && not t) || (not s && t)) ≡ false
    there s t f h = grind arith

pub part_walk : (g : Graph) (w : ℕ → ℕ) (a : ℕ) → IsGraph g → (u v : ℕ) → part_of g w a u ≡ true → part_of g w a v ≡ true → (ws : List ℕ) × Walk (heavy g w) u ws v
part_walk g w a is u v pu pv =
    let p = flood_walk g.order (heavy g w) a g.order u pu in
    let r = flood_walk g.order (heavy g w) a g.order v pv in
    let b = Walk-back g.order (heavy g w) (heavy_back g w) a u p.0 p.1 in
    (b.0 ++ r.0, Walk-join (heavy g w) u a v b.0 r.0 b.1 r.1)
