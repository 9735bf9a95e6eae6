-- The mates of a perfect matching: each vertex has one edge of it, and the other end of that edge
-- has the same one. So a vertex is the mate of its mate.
use Rattle.graph_core.proofs.from_counting.Common.{◌≡◌, ℕ, suc, ◌≢◌, Bool, true, cond, ◌==◌, refl, sym, ap, ◌∙◌, arith, ◌||◌, eq-eqb, eqb-true, List, [], ◌∷◌, map, All, cases_eq, or_left, or_right, or_cases, true≢false, Within, mem, Set, none}
use Rattle.two_ears.proofs.from_barrier_kit.Common.{loop_free}
use Rattle.graph_core.proofs.Common.{edge_at, two_ends_le_degree, Graph, size, first_end, IsGraph, IsPerfect}
use Rattle.two_ears.specs.from_match_core.Common.{MatchingValue, IsRowOf, edges_of}
use Rattle.two_ears.specs.from_match_core.declared.matching.MatchRow.{MatchRow}
use Rattle.ear_core.specs.Common.{IsPerfectRows, row_edge, mate, other_end}
use Rattle.ear_core.proofs.TraceEdges.{ends_of-other_end}
use Rattle.ear_core.proofs.Walking.{joins}

pub joins-other_end : (g : Graph) (e v : ℕ) → joins g e (other_end g e v) ≡ true
joins-other_end g e v = grind arith

other_end-back : (g : Graph) (e v : ℕ) → joins g e v ≡ true → other_end g e (other_end g e v) ≡ v
other_end-back g e v h = grind arith

pub other_end-within : (g : Graph) → IsGraph g → (e v : ℕ) → Within (size g) e → Within g.order (other_end g e v)
other_end-within g is e v w = grind arith

-- what is used of the edges of a perfect matching: each vertex has one, which is that of its
-- other end too
pub record AreMates (g : Graph) (m : ℕ → ℕ) : Type 0 where
  pub within : (v : ℕ) → Within g.order v → Within (size g) (m v)
  pub at : (v : ℕ) → Within g.order v → joins g (m v) v ≡ true
  pub same : (v : ℕ) → Within g.order v → m (mate g m v) ≡ m v
  pub other : (v : ℕ) → Within g.order v → mate g m v ≢ v

pub mate_within : (g : Graph) → IsGraph g → (m : ℕ → ℕ) → AreMates g m → (v : ℕ) → Within g.order v → Within g.order (mate g m v)
mate_within g is m mates v w = other_end-within g is (m v) v (mates.within v w)

pub mate_back : (g : Graph) → IsGraph g → (m : ℕ → ℕ) → AreMates g m → (v : ℕ) → Within g.order v → mate g m (mate g m v) ≡ v
mate_back g is m mates v w = ap (λ e. other_end g e (mate g m v)) (mates.same v w) ∙ other_end-back g (m v) v (mates.at v w)

-- the edge at v is one alone
pub one-at : (g : Graph) (m : Set) → IsPerfect g none m → (v d e : ℕ) → Within g.order v → Within (size g) d → Within (size g) e → m d ≡ true → m e ≡ true → joins g d v ≡ true → joins g e v ≡ true → d ≡ e
one-at g m perfect v d e w wd we md me jd je = grind (arith, cases_eq d e, two_ends_le_degree g m d e v wd we, ends_of-other_end g d v v jd, ends_of-other_end g e v v je, eq-eqb v v refl)

-- the rows give an edge at v if one of their edges is at v
found-in : (g : Graph) (rows : List MatchRow) (v e : ℕ) → All (IsRowOf g) rows → mem (map (λ (row : MatchRow). row.edge) rows) e ≡ true → joins g e v ≡ true →
    Within (size g) (row_edge rows v) × (mem (map (λ (row : MatchRow). row.edge) rows) (row_edge rows v) ≡ true) × (joins g (row_edge rows v) v ≡ true)
found-in g [] v e all m h = absurd (true≢false (sym m))
found-in g (row ∷ rows) v e all m h = go (row.a == v || row.b == v) refl (λ i. found-in g rows v e (λ k d less. all (suc k) d (omega arith)) i h)
  where
    first : IsRowOf g row
    first = all 0 row (omega arith)

    at_row : (row.a == v || row.b == v) ≡ joins g row.edge v
    at_row = ap (λ a. a == v || row.b == v) first.first ∙ ap (λ b. first_end g row.edge == v || b == v) first.second

    go : (b : Bool) → (row.a == v || row.b == v) ≡ b →
        (mem (map (λ (row : MatchRow). row.edge) rows) e ≡ true → Within (size g) (row_edge rows v) × (mem (map (λ (row : MatchRow). row.edge) rows) (row_edge rows v) ≡ true) × (joins g (row_edge rows v) v ≡ true)) →
        Within (size g) (cond b row.edge (row_edge rows v)) × (mem (map (λ (row : MatchRow). row.edge) (row ∷ rows)) (cond b row.edge (row_edge rows v)) ≡ true) × (joins g (cond b row.edge (row_edge rows v)) v ≡ true)
    go b q later = grind (arith, or_left, eq-eqb, at_row, or_cases, true≢false, eqb-true, or_right)

module _ (g : Graph) (is : IsGraph g) (m : MatchingValue) (rows : IsPerfectRows g m) where
  -- the edge of the rows at v
  pub row-found : (v : ℕ) → Within g.order v → Within (size g) (row_edge m.rows v) × (mem (edges_of m) (row_edge m.rows v) ≡ true) × (joins g (row_edge m.rows v) v ≡ true)
  row-found v w = grind (arith, edge_at g (mem (edges_of m)) v, found-in g m.rows v, or_left, eq-eqb, or_right)

  -- and it is the edge of the matching at v
  pub row-is : (v e : ℕ) → Within g.order v → Within (size g) e → mem (edges_of m) e ≡ true → joins g e v ≡ true → e ≡ row_edge m.rows v
  row-is v e w we me h = let r = row-found v w in one-at g (mem (edges_of m)) rows.perfect v e (row_edge m.rows v) w we r.0 me r.1 h r.2

  pub rows-mates : AreMates g (row_edge m.rows)
  rows-mates = grind (arith, row-found, row-is, other_end-within g is, joins-other_end g, loop_free g none (mem (edges_of m)) is rows.perfect, loop)
    where
      loop : (a b v : ℕ) → cond (a == v) b a ≡ v → a ≡ b
      loop a b v h = grind arith
