-- The candidates: none twice, each tight if the shores of the first two parts are, and each
-- edge of a nontrivial tight cut in a candidate's cut.
use Rattle.graph_core.proofs.from_counting.Common.{◌≡◌, ℕ, true, refl, sym, ap, ◌∙◌, arith, List, [], ◌∷◌, ◌↔◌, subst, All, fold, AllPairs, true≢false, not-true, All-nil, All-head, All-tail, count_member, list_any, Within, mem, Set, complement}
use Rattle.tight_cuts.specs.Common.{ShoresDiffer, Barrier, Separation, cuts, front_candidates, Origin, Candidate, with_list, candidates, IsTightCandidate}
use Rattle.barrier_kit.proofs.Common.{cut_edge, barrier_shores-tight, barrier_shores}
use Rattle.graph_core.proofs.Common.{IsCovered, Graph, size, IsGraph, in_cut, IsTight, IsNontrivial}
use Rattle.quick_kinds.proofs.from_separation_kit.SeparationFacts.{separation_shores-tight}
use Rattle.quick_kinds.specs.from_separation_kit.Common.{separation_shores}
use Rattle.tight_cuts.proofs.EdgeLoop.{after_apart, after_found, after_covers}
use Rattle.tight_cuts.proofs.Shores.{with_found, with_apart}

-- shores one after another
lists_apart : (n : ℕ) (o : Origin) (shores : List (List ℕ)) (list : List Candidate) → AllPairs ShoresDiffer list → AllPairs ShoresDiffer (fold (with_list n o) list shores)
lists_apart n o [] list h = h
lists_apart n o (s ∷ shores) list h = lists_apart n o shores (with_list n o list s) (with_apart n o list (mem s) h)

lists_found : (g : Graph) (o : Origin) → IsGraph g → (shores : List (List ℕ)) (list : List Candidate) → All (λ s. IsTight g (mem s)) shores → All (IsTightCandidate g) list → All (IsTightCandidate g) (fold (with_list g.order o) list shores)
lists_found g o is [] list t h = h
lists_found g o is (s ∷ shores) list t h = lists_found g o is shores (with_list g.order o list s) (All-tail (λ s. IsTight g (mem s)) s shores t) (with_found g o list (mem s) is (All-head (λ s. IsTight g (mem s)) s shores t) h)

none_apart : AllPairs ShoresDiffer []
none_apart i j d l m = absurd (omega arith)

-- no shore comes twice
pub candidates_apart : (g : Graph) → AllPairs ShoresDiffer (candidates g)
unfolding candidates front_candidates
candidates_apart g = after_apart g (fold (with_list g.order Separation) (fold (with_list g.order Barrier) [] (barrier_shores g)) (separation_shores g)) (size g)
    (lists_apart g.order Separation (separation_shores g) (fold (with_list g.order Barrier) [] (barrier_shores g)) (lists_apart g.order Barrier (barrier_shores g) [] none_apart))

-- each shore is canonical, tight and nontrivial
front_found : (g : Graph) → IsGraph g → IsCovered g → All (IsTightCandidate g) (front_candidates g)
unfolding front_candidates
front_found g is cov =
    lists_found g Separation is (separation_shores g) (fold (with_list g.order Barrier) [] (barrier_shores g)) (separation_shores-tight g is)
    (lists_found g Barrier is (barrier_shores g) [] (barrier_shores-tight g is cov) (All-nil (IsTightCandidate g)))

pub candidates_found : (g : Graph) → IsGraph g → IsCovered g → All (IsTightCandidate g) (candidates g)
unfolding candidates
candidates_found g is cov = after_found g is cov (front_candidates g) (size g) (omega arith) (front_found g is cov)

-- each edge of each nontrivial tight cut is in the cut of a candidate
pub candidates_cover : (g : Graph) → IsGraph g → IsCovered g → (x : Set) (e : ℕ) → Within (size g) e → IsTight g x → IsNontrivial g.order x → in_cut g x e ≡ true → list_any (cuts g e) (candidates g) ≡ true
unfolding candidates front_candidates
candidates_cover g is cov x e w t nt ce = after_covers g is cov (fold (with_list g.order Separation) (fold (with_list g.order Barrier) [] (barrier_shores g)) (separation_shores g)) (size g) (omega arith) x e w t nt ce

-- a nontrivial set has an edge in its cut
pub shore_edge : (g : Graph) (x : Set) → IsGraph g → IsCovered g → IsNontrivial g.order x → (e : ℕ) × Within (size g) e × (in_cut g x e ≡ true)
shore_edge g x is cov nt = grind (arith, count_member g.order x, count_member g.order (complement x), cut_edge g x, not-true)

-- there is no candidate exactly when no nontrivial shore is tight
pub candidates_none : (g : Graph) → IsGraph g → IsCovered g → (candidates g ≡ []) ↔ ((x : Set) → IsTight g x → IsNontrivial g.order x → ⊥)
candidates_none g is cov = grind (arith, shore_edge g, true≢false, candidates_cover g is cov, list_any, go (candidates g) (candidates_found g is cov), candidates_found g is cov)
  where
    go : (list : List Candidate) → All (IsTightCandidate g) list → ((x : Set) → IsTight g x → IsNontrivial g.order x → ⊥) → list ≡ []
    go [] h f = refl
    go (c ∷ list) h f = let p = All-head (IsTightCandidate g) c list h in absurd (f (mem c.shore) p.tight p.nontrivial)

-- the same of a list that is that of the candidates
module _ (g : Graph) (is : IsGraph g) (cov : IsCovered g) (list : List Candidate) (all : list ≡ candidates g) where
  pub listed-tight : All (IsTightCandidate g) list
  listed-tight = subst (All (IsTightCandidate g)) (sym all) (candidates_found g is cov)

  pub listed-apart : AllPairs ShoresDiffer list
  listed-apart = subst (AllPairs ShoresDiffer) (sym all) (candidates_apart g)

  pub listed-cover : (x : Set) (e : ℕ) → Within (size g) e → IsTight g x → IsNontrivial g.order x → in_cut g x e ≡ true → list_any (cuts g e) list ≡ true
  listed-cover x e w t n q = ap (list_any (cuts g e)) all ∙ candidates_cover g is cov x e w t n q

  pub listed-none : (list ≡ []) ↔ ((x : Set) → IsTight g x → IsNontrivial g.order x → ⊥)
  listed-none = subst (λ (l : List Candidate). (l ≡ []) ↔ ((x : Set) → IsTight g x → IsNontrivial g.order x → ⊥)) (sym all) (candidates_none g is cov)
