-- The edges that a row names at both of their ends are a matching. Idea: two of them at one vertex
-- are both the edge that the row names there.
use Rattle.graph_core.proofs.from_counting.Common.{◌≡◌, ℕ, Bool, true, sym, ap, ◌∙◌, List, [], arith, both_ways, rising_holds, mem-rising_list, Within, mem, rising_list, Set, none}
use Rattle.graph_core.proofs.Common.{Graph, IsMultigraph, size, IsEnd, IsMatching, IsPerfect, missed_count, none_missed-perfect, apart_matching}
use Rattle.match_core.specs.Common.{IsOf, MatchingValue, edges_of}
use Rattle.match_core.proofs.from_match_search.Alike.{matching_alike}
use Rattle.match_core.specs.from_match_search.Common.{marks, numbers}
use Rattle.allowed_edges.specs.Leaving.{IsMatchingOff}
use Rattle.allowed_edges.specs.PairTables.{NamesEdge}

-- the row names such an edge at each of its ends
named_there : (g : Graph) (at : List ℕ) (e v : ℕ) → NamesEdge g at e → IsEnd g e v → numbers at v ≡ e
named_there g at e v n h = grind arith

pub named_matching : (g : Graph) (at : List ℕ) (m : Set) → IsMultigraph g → ((k : ℕ) → m k ≡ true → NamesEdge g at k) → IsMatching g none m
named_matching g at m is names = grind (arith, apart_matching g m is.ends is.no_loop, named_there g at)

-- the matching that is listed of such marks, off no vertex
module _ (g : Graph) (m : MatchingValue) (mark : List Bool) (is : IsMatching g none (marks mark)) (of : IsOf g m) (edges : edges_of m ≡ rising_list (size g) (marks mark)) where
  listed_matching : IsMatching g none (mem (edges_of m))
  listed_matching = matching_alike g none (marks mark) (mem (edges_of m)) (λ e we. ap (λ xs. mem xs e) edges ∙ mem-rising_list (size g) (marks mark) e we) is

  pub listed_off : (met : List ℕ) → met ≡ [] → IsMatchingOff g met m
  listed_off met empty = grind (arith, both_ways, listed_matching)

  pub listed_perfect : (met : List ℕ) → met ≡ [] → missed_count g (mem met) (mem (edges_of m)) ≡ 0 → IsPerfect g none (mem (edges_of m))
  listed_perfect met empty z = none_missed-perfect g none (mem (edges_of m)) listed_matching (ap (λ xs. missed_count g (mem xs) (mem (edges_of m))) (sym empty) ∙ z)

  pub listed_holds : (e : ℕ) → Within (size g) e → marks mark e ≡ true → mem (edges_of m) e ≡ true
  listed_holds e we t = ap (λ xs. mem xs e) edges ∙ rising_holds (size g) (marks mark) e we t
