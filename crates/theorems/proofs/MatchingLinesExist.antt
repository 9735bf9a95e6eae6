-- There is a line of `matching` for every multigraph: some matching is maximum, each vertex that it
-- meets has the other end of its edge as its mate, and the three sets are there. The matching
-- attains the bound of Berge at A.
use Rattle.tree_check.proofs.from_counting.Common.{◌≡◌, ◌≢◌, ◌∙◌, ℕ, ◌≤◌, List, true, refl, sym, inl, inr, arith, cases_eq, count, mem, mem-rising_list, none, rising_list, Set, Within}
use Rattle.graph_core.proofs.Common.{edge_at, maximum_exists, Graph, HasEnds, InA, InC, InD, IsGraph, IsMatching, IsMultigraph, degree, size}
use Rattle.match_search.specs.Common.{HasMates}
use Rattle.bench_top.specs.from_mcg6_lines.MatchingLines.{IsMatchingLine, matched_line}
use Rattle.theorems.specs.Matchings.{AreThreeSets}
use Rattle.theorems.proofs.AnalysesExist.{listed_by}
use Rattle.theorems.proofs.ThreeSets.{attains, three_sets}

-- a vertex is missed, with the mate 0, or it has a mate, which is a vertex
module _ (g : Graph) (is : IsGraph g) (m : Set) where
  abbrev IsMate : (v w : ℕ) → Type 0
  IsMate v w = (w ≡ 0 → degree g m v ≡ 0) × (w ≢ 0 → (e : ℕ) × Within (size g) e × (m e ≡ true) × HasEnds g e v w)

  some_end : (e v w : ℕ) → Within (size g) e → HasEnds g e v w → 1 ≤ w
  some_end e v w we (inl ends) = let within = (is e we).1.0 in let same = ends.1 in omega arith
  some_end e v w we (inr ends) = let within = (is e we).0.0 in let same = ends.0 in omega arith

  mate_at : (v : ℕ) → (w : ℕ) × IsMate v w
  mate_at v = elim (cases_eq (degree g m v) 0) [
    | inl missed ↦ (0, (λ zero. missed, λ some. absurd (some refl)))
    | inr met ↦
        let e = edge_at g m v (omega (arith, met)) in
        let some = some_end e.0 v e.3.0 e.1 e.3.1 in
        (e.3.0, (λ zero. absurd (omega (arith, zero, some)), λ other. (e.0, e.1, e.2, e.3.1)))
  ]

  mates_exist : IsMatching g none m → (mate : ℕ → ℕ) × HasMates g none m mate
  mates_exist matching = (
    (λ v. (mate_at v).0),
    record { matching = matching; exposed = λ v w zero. (mate_at v).1.0 zero; paired = λ v w some. (mate_at v).1.1 some },
  )

pub matching_line-exists : (g : Graph) → IsMultigraph g → (bytes : List ℕ) × IsMatchingLine g bytes
matching_line-exists g is =
    let m = maximum_exists g none in
    let mates = mates_exist g is.ends m.0 m.1.is in
    let t = three_sets g is.ends in
    let a = rising_list g.order t.1 in
    let sets : AreThreeSets g t.0 (mem a) t.2 = record {
      in_d = t.3.in_d;
      in_a = λ v w. (λ listed. (t.3.in_a v w).0 (sym (mem-rising_list g.order t.1 v w) ∙ listed), λ next. mem-rising_list g.order t.1 v w ∙ (t.3.in_a v w).1 next);
      in_c = t.3.in_c;
    } in (
      matched_line g (count (size g) m.0) mates.0 (rising_list g.order t.0) a (rising_list g.order t.2),
      record {
        edges = count (size g) m.0;
        mate = mates.0;
        d = rising_list g.order t.0;
        a = a;
        c = rising_list g.order t.2;
        right = record {
          matching = m.0;
          mates = mates.1;
          maximum = m.1;
          size_is = refl;
          attains = attains g is.ends t.0 (mem a) t.2 sets m.0 m.1;
          lists_d = listed_by g.order t.0 (InD g) t.3.in_d;
          lists_a = listed_by g.order t.1 (InA g) t.3.in_a;
          lists_c = listed_by g.order t.2 (InC g) t.3.in_c;
        };
        line = refl;
      },
    )
