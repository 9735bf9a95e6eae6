-- A pass over the edges that names for each vertex the least edge that joins it to its mate. The
-- edges that it names are those that marks on the least edges of the pairs would mark.
use Rattle.graph_core.proofs.from_counting.Common.{◌≡◌, ◌≢◌, ℕ, suc, ◌<◌, ◌+◌, ◌-◌, ◌==◌, ◌||◌, ◌⊎◌, not, true, refl, sym, ap, ap₂, ◌∙◌, arith, subst, List, length, eq-eqb, ne_eqb, cases_eq, Within, Set, none, put}
use Rattle.graph_core.proofs.Common.{Graph, graph_of, first_end, second_end, size}
use Rattle.graph_core.specs.declared.ends.Ends.{Ends}
use Rattle.match_search.specs.Common.{AreEnds, HasMates, NamesEdges, end_a, end_b, numbers, with_mate}
use Rattle.match_search.proofs.AlternatingPaths.{put_at, put_off}
use Rattle.match_search.proofs.GraphRows.{ends_here, row_graph, size_is}
use Rattle.match_search.proofs.MarkedMates.{marked_mates, marks_more, marks_none}
use Rattle.match_core.specs.RepairWalks.{NamesPairs}

-- before the first edge none is named
pub names_none : (n : ℕ) (ends : List Ends) (mate at : List ℕ) → ((v : ℕ) → numbers at v ≡ 0) → NamesPairs n ends mate at 0
names_none n ends mate at zeros = record {
  m = none;
  marking = marks_none (graph_of n ends) (numbers mate) none (λ v. not (numbers at v == 0)) (λ e. refl) (λ v. ap (λ i. not (i == 0)) (zeros v));
  named = record { met = λ v q. absurd (q (zeros v)); missed = λ v z j l. absurd (omega arith) };
  later = λ i l. refl;
}

module _ (n : ℕ) (ends : List Ends) (mate at : List ℕ) (k : ℕ) (below : k < length ends) (before : NamesPairs n ends mate at k) where
  abbrev a : ℕ
  a = end_a ends k

  abbrev b : ℕ
  b = end_b ends k

  abbrev g : Graph
  g = graph_of n ends

  here : (a ≡ first_end g (suc k)) × (b ≡ second_end g (suc k))
  here = ends_here n ends k below

  -- an edge that joins two mates for which none is named
  pub names_pair : (after : List ℕ) → AreEnds n ends → numbers mate a ≡ b → a ≢ b → numbers at a ≡ 0 → numbers at b ≡ 0 →
      ((v : ℕ) → numbers after v ≡ with_mate (with_mate (numbers at) a (suc k)) b (suc k) v) → NamesPairs n ends mate after (suc k)
  names_pair after row pair different za zb after_is = record {
    m = put before.m (suc k) true;
    marking = marks_more g (numbers mate) before.m (λ v. not (numbers at v == 0)) k before.marking (λ v. not (numbers after v == 0)) real
        (subst (Within n) here.0 (row.a k below)) (subst (Within n) here.1 (row.b k below))
        (λ q. different (here.0 ∙ q ∙ sym here.1))
        (ap (numbers mate) (sym here.0) ∙ pair ∙ here.1)
        (ap (λ v. not (numbers at v == 0)) (sym here.0) ∙ ap (λ i. not (i == 0)) za)
        (ap (λ v. not (numbers at v == 0)) (sym here.1) ∙ ap (λ i. not (i == 0)) zb)
        (λ v. seen v ∙ ap₂ (λ x y. (not (numbers at v == 0) || (x == v)) || (y == v)) here.0 here.1);
    named = record { met = met; missed = missed };
    later = λ i l. put_off before.m (suc k) true i (λ q. absurd (omega arith)) ∙ before.later i (omega arith);
  }
    where
      real : Within (size g) (suc k)
      real = let s = size_is n ends in omega arith

      at_ends : (v : ℕ) → (v ≡ a) ⊎ (v ≡ b) → numbers after v ≡ suc k
      at_ends v q = after_is v ∙ grind (arith, cases_eq v b, cases_eq v a, eq-eqb, ne_eqb)

      off_ends : (v : ℕ) → v ≢ a → v ≢ b → numbers after v ≡ numbers at v
      off_ends v p q = after_is v ∙ grind (arith, ne_eqb v b q, ne_eqb v a p)

      seen : (v : ℕ) → not (numbers after v == 0) ≡ ((not (numbers at v == 0) || (a == v)) || (b == v))
      seen v = grind (arith, cases_eq v b, cases_eq v a, at_ends v, off_ends v, eq-eqb, ne_eqb)

      met : (v : ℕ) → numbers after v ≢ 0 → Within (length ends) (numbers after v) × (put before.m (suc k) true (numbers after v) ≡ true) × ((end_a ends (numbers after v - 1) ≡ v) ⊎ (end_b ends (numbers after v - 1) ≡ v))
      met v q = grind (arith, cases_eq v b, cases_eq v a, at_ends v, off_ends v, before.named.met v, put_at before.m (suc k) true, put_off before.m (suc k) true (numbers at v), cases_eq (numbers at v) (suc k))

      missed : (v : ℕ) → numbers after v ≡ 0 → (j : ℕ) → j < suc k → put before.m (suc k) true (j + 1) ≡ true → (end_a ends j ≢ v) × (end_b ends j ≢ v)
      missed v z j l t = grind (arith, cases_eq v b, cases_eq v a, at_ends v, off_ends v, before.named.missed v, put_off before.m (suc k) true (j + 1), cases_eq j k)

  -- any other edge
  pub names_rest : (numbers mate a ≡ b → a ≢ b → (numbers at a ≢ 0) ⊎ (numbers at b ≢ 0)) → NamesPairs n ends mate at (suc k)
  names_rest other = record {
    m = before.m;
    marking = record {
      matching = before.marking.matching;
      free = before.marking.free;
      marked = before.marking.marked;
      covered = covered;
    };
    named = record { met = before.named.met; missed = missed };
    later = λ i l. before.later i (omega arith);
  }
    where
      covered : (e : ℕ) → Within (suc k) e → numbers mate (first_end g e) ≡ second_end g e → first_end g e ≢ second_end g e → (not (numbers at (first_end g e) == 0) ≡ true) ⊎ (not (numbers at (second_end g e) == 0) ≡ true)
      covered e w p d = grind (arith, cases_eq e (suc k), before.marking.covered e, here, other, ne_eqb)

      missed : (v : ℕ) → numbers at v ≡ 0 → (j : ℕ) → j < suc k → before.m (j + 1) ≡ true → (end_a ends j ≢ v) × (end_b ends j ≢ v)
      missed v z j l t = grind (arith, cases_eq j k, before.later (j + 1), before.named.missed v)

-- in the end the named edges are a matching with these mates
pub names_all : (n : ℕ) (ends : List Ends) (mate at : List ℕ) → AreEnds n ends → NamesPairs n ends mate at (length ends) → (r f : Set) → HasMates (graph_of n ends) r f (numbers mate) →
    (w : Set) × HasMates (graph_of n ends) r w (numbers mate) × NamesEdges ends w at (length ends)
names_all n ends mate at row named r f has = (
  named.m,
  marked_mates (graph_of n ends) (row_graph n ends row) r f named.m (λ v. not (numbers at v == 0)) (numbers mate) has
      (subst (λ k. Rattle.match_search.specs.Common.MarksMates (graph_of n ends) (numbers mate) named.m (λ v. not (numbers at v == 0)) k) (sym (size_is n ends)) named.marking),
  named.named,
)
