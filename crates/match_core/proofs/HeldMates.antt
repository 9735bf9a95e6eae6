-- An instance of a whole graph holds the mates of each of its matchings, and goes on to hold them
-- when it is put back. What is true of each row of a list holds when a row is put at its end.
use Rattle.graph_core.proofs.from_counting.Common.{◌≡◌, ℕ, ◌+◌, ◌++◌, ◌∷◌, [], arith, List, length, get_or_at, cases_eq, get_or_append_left, Within, item, Set}
use Rattle.graph_core.proofs.Common.{degree_congr, Graph, size}
use Rattle.match_search.specs.Common.{IsInstance, HasMates, numbers, AreAlike}
use Rattle.match_search.specs.declared.instance.Instance.{Instance}
use Rattle.match_search.proofs.Alike.{matching_alike}
use Rattle.match_search.proofs.Instances.{instance_alike}
use Rattle.match_core.specs.Common.{HoldsMates}

pub first_mates : (g : Graph) (r : Set) (s : Instance) (mate : List ℕ) → IsInstance g r s → length mate ≡ g.order + 1 → (m : Set) × HasMates g r m (numbers mate) → HoldsMates g r s mate
first_mates g r s mate is long has = grind arith

pub mates_alike : (g : Graph) (r : Set) (s h : Instance) (mate : List ℕ) → HoldsMates g r s mate → AreAlike s h → HoldsMates g r h mate
mates_alike g r s h mate holds alike = grind (arith, instance_alike g r s h holds.held.instance_is alike)

pub each_more : (P : ℕ → List ℕ → Type 0) (k : ℕ) (rows new : List (List ℕ)) (next : List ℕ) → length rows ≡ k → new ≡ rows ++ next ∷ [] → ((u : ℕ) → Within k u → P u (item rows u)) → P (k + 1) next → (u : ℕ) → Within (k + 1) u → P u (item new u)
each_more P k rows new next long is earlier here u w = grind (arith, cases_eq u (k + 1), get_or_at rows next, get_or_append_left rows (next ∷ []))

-- a set with the same edges has the same mates
pub same_edges_mates : (g : Graph) (r m n : Set) (mate : ℕ → ℕ) → ((e : ℕ) → Within (size g) e → n e ≡ m e) → HasMates g r m mate → HasMates g r n mate
same_edges_mates g r m n mate same has = grind (arith, matching_alike, degree_congr)
