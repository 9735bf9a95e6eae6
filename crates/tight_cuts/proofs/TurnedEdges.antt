-- What turned graphs show. Idea: of the edges at u a matching that leaves a set at u has only the
-- one in the cut, so all its edges keep their ends in the turned graph, and it is perfect there.
use Rattle.graph_core.proofs.from_counting.Common.{◌≡◌, ℕ, zero, suc, List, [], ◌∷◌, length, map, slice_index_or, eq-eqb, ◌<◌, ◌+◌, ◌==◌, ◌&&◌, false, true, refl, sym, ap, ap₂, ◌∙◌, subst, arith, inl, inr, all_in, all_in_true, and_from, both_ways, cases_Bool, cases_eq, cases_lt, count, count_congr, mem, or_left, or_right, Within, Set, none}
use Rattle.graph_core.proofs.Common.{Graph, IsGraph, IsMultigraph, degree, first_end, second_end, in_cut, size, Allowed, HasEnds, IsEnd, IsPerfect, adjacent, adjacent_from, adjacent_within, has_ends-from, has_perfect_found, with_edge}
use Rattle.barrier_kit.proofs.from_allowed_edges.PairSteps.{apart_shared}
use Rattle.barrier_kit.specs.from_allowed_edges.PairTables.{IsPerfectWith}
use Rattle.barrier_kit.proofs.from_match_core.MatchingEdges.{edge_of}
use Rattle.barrier_kit.specs.from_match_core.Common.{IsOf, MatchingValue, are_partners, edges_of}
use Rattle.barrier_kit.specs.from_match_core.declared.matching.MatchRow.{MatchRow}
use Rattle.barrier_kit.proofs.from_allowed_edges.ThroughEdges.{one_cut}
use Rattle.tight_cuts.proofs.BesideGraphs.{ends-new, ends-old}
use Rattle.tight_cuts.specs.Common.{AreEndsPartners, IsTurned, Leaves, LeavesAlone}

-- the end of an edge is a vertex
pub end_within : (g : Graph) (e u : ℕ) → IsGraph g → Within (size g) e → IsEnd g e u → Within g.order u
end_within g e u is we end = grind (arith, is e we)

module _ (g h : Graph) (x : Set) (u : ℕ) (is : IsGraph g) (t : IsTurned g x u h) (m : Set) (perfect : IsPerfect g none m) (e : ℕ) (we : Within (size g) e) (me : m e ≡ true) (leaves : Leaves g x u e) where
  -- the edges of the matching keep their ends
  pub kept_ends : (d : ℕ) → Within (size g) d → m d ≡ true → (first_end h d ≡ first_end g d) × (second_end h d ≡ second_end g d)
  kept_ends d wd md = t.same d wd (λ end. elim (cases_eq d e) [
    | inl q ↦ subst (λ i. in_cut g x i ≡ true) (sym q) leaves.cut
    | inr n ↦ absurd (apart_shared g d e u n wd we (end_within g e u is we leaves.end) end leaves.end (m, perfect, md, me))
  ])

  -- so each vertex keeps its degree
  degrees : (v : ℕ) → degree h m v ≡ degree g m v
  degrees v = ap₂ ◌+◌
      (ap (λ k. count k (λ d. m d && (first_end h d == v))) t.long ∙ count_congr (size g) (λ d. m d && (first_end h d == v)) (λ d. m d && (first_end g d == v)) (λ d w. grind (arith, kept_ends d w, cases_Bool)))
      (ap (λ k. count k (λ d. m d && (second_end h d == v))) t.long ∙ count_congr (size g) (λ d. m d && (second_end h d == v)) (λ d. m d && (second_end g d == v)) (λ d w. grind (arith, kept_ends d w, cases_Bool)))

  -- and the matching is perfect in the turned graph
  pub perfect_turned : IsPerfect h none m
  perfect_turned = grind (arith, degrees)

-- each row of a matching has an edge of it
row_held : (rows : List MatchRow) (k : ℕ) (d : MatchRow) → k < length rows → mem (map edge_of rows) (slice_index_or rows k d).edge ≡ true
row_held [] k d l = absurd (omega arith)
row_held (r ∷ rows) zero d l = or_left (r.edge == r.edge) (mem (map edge_of rows) r.edge) (eq-eqb r.edge r.edge refl)
row_held (r ∷ rows) (suc k) d l = or_right (r.edge == (slice_index_or rows k d).edge) (mem (map edge_of rows) (slice_index_or rows k d).edge) (row_held rows k d (omega arith))

-- a perfect matching of g that leaves the set at u is one of the turned graph
pub turned_of : (g h : Graph) (x : Set) (u e : ℕ) (m : MatchingValue) → IsGraph g → IsTurned g x u h → Within (size g) e → Leaves g x u e → IsPerfectWith g e m → IsOf h m
turned_of g h x u e m is t we leaves w = record {
  order = w.of.order ∙ sym t.order;
  rows = λ k d l.
      let row = w.of.rows k d l in
      let ends = kept_ends g h x u is t (mem (edges_of m)) w.perfect e we w.held leaves (slice_index_or m.rows k d).edge row.edge (row_held m.rows k d l) in
      record { edge = (row.edge.0, let s = t.long in let b = row.edge.1 in omega arith); first = row.first ∙ sym ends.0; second = row.second ∙ sym ends.1 };
}

-- the ends of an allowed edge are partners
ends_partners : (h : Graph) (f : ℕ) → IsMultigraph h → Within (size h) f → Allowed h f → AreEndsPartners h none f
ends_partners h f is wf a = grind (arith, one_cut h is f wf none, has_perfect_found, is.no_loop f wf)

-- if no later edge has partners as ends in the turned graph, no perfect matching has both
pub turned_alone : (g h : Graph) (x : Set) (u : ℕ) → IsGraph g → IsMultigraph h → IsTurned g x u h → ((f v : ℕ) → Within (size g) f → u < v → Leaves g x v f → ¬ (AreEndsPartners h none f)) → LeavesAlone g x u
turned_alone g h x u is multi t apart m e f v perfect we wf me mf le lf l = apart f v wf l lf (ends_partners h f multi
    (wf.0, let s = t.long in let b = wf.1 in omega arith)
    (m, perfect_turned g h x u is t m perfect e we me le, mf))

-- each edge of the cut leaves the set at a vertex
pub leaves_at : (g : Graph) (x : Set) (e : ℕ) → IsGraph g → Within (size g) e → in_cut g x e ≡ true → (u : ℕ) × Within g.order u × Leaves g x u e
leaves_at g x e is we cut = grind (arith, cases_Bool, first_end, second_end)

-- one edge more of the turned graph
pub turned_more : (g h : Graph) (x : Set) (u k a b : ℕ) → size h ≡ k →
    ((d : ℕ) → Within k d → (IsEnd g d u → in_cut g x d ≡ true) → (first_end h d ≡ first_end g d) × (second_end h d ≡ second_end g d)) →
    ((IsEnd g (k + 1) u → in_cut g x (k + 1) ≡ true) → (a ≡ first_end g (k + 1)) × (b ≡ second_end g (k + 1))) →
    (d : ℕ) → Within (k + 1) d → (IsEnd g d u → in_cut g x d ≡ true) → (first_end (with_edge h a b) d ≡ first_end g d) × (second_end (with_edge h a b) d ≡ second_end g d)
turned_more g h x u k a b long same new d w cut = grind (arith, cases_lt, ends-new, size, ends-old)

-- an edge that leaves the set at v joins v to a vertex outside
leaves_to : (g : Graph) (x : Set) (v e : ℕ) → Within (size g) e → Leaves g x v e →
    (w : ℕ) × HasEnds g e v w × (adjacent g none v w ≡ true) × (x w ≡ false)
leaves_to g x v e we leaves = elim leaves.end [
  | inl q ↦ to (second_end g e) (inl (q, refl)) (grind (arith, leaves.inside, leaves.cut))
  | inr q ↦ to (first_end g e) (inr (refl, q)) (grind (arith, leaves.inside, leaves.cut))
] where
  to : (w : ℕ) → HasEnds g e v w → x w ≡ false →
      (w : ℕ) × HasEnds g e v w × (adjacent g none v w ≡ true) × (x w ≡ false)
  to w ends out =
      (w, ends, adjacent_from g none v w e refl refl we (has_ends-from g v w e ends), out)

-- if the neighbours of v are in the set, no edge leaves it at v
pub none_out : (g : Graph) (x : Set) (row : List ℕ) (v f : ℕ) →
    ((w : ℕ) → mem row w ≡ adjacent g none v w) → all_in row x ≡ true →
    Within (size g) f → Leaves g x v f → ⊥
none_out g x row v f are inside wf leaves =
    let w = leaves_to g x v f wf leaves in
    both_ways (x w.0) w.3 (all_in_true row x inside w.0 (are w.0 ∙ w.2))

-- if the neighbours of v that are partners of it in the turned graph are in the set, no edge that
-- leaves the set at v has partners as ends there
pub none_joined : (g h : Graph) (x : Set) (u v f : ℕ) (row near : List ℕ) →
    IsGraph g → IsTurned g x u h →
    ((w : ℕ) → Within h.order w → mem row w ≡ are_partners h none v w) →
    ((w : ℕ) → mem near w ≡ (adjacent g none v w && mem row w)) → all_in near x ≡ true →
    Within (size g) f → Leaves g x v f → ¬ (AreEndsPartners h none f)
none_joined g h x u v f row near is t partners meets inside wf leaves ends =
    let w = leaves_to g x v f wf leaves in
    let same = t.same f wf (λ _. leaves.cut) in
    let r = t.order in
    let a = adjacent_within g none is v w.0 w.2 in
    let ww : Within h.order w.0 = (a.1.0, let l = a.1.1 in omega arith) in
    let are : are_partners h none v w.0 ≡ true = elim w.1 [
      | inl q ↦ grind (arith, same, q, ends.0)
      | inr q ↦ grind (arith, same, q, ends.1)
    ] in
    let in_near = and_from (adjacent g none v w.0) (mem row w.0) w.2 (partners w.0 ww ∙ are) in
    both_ways (x w.0) w.3 (all_in_true near x inside w.0 (meets w.0 ∙ in_near))
