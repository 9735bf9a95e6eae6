-- A forest as the code holds it, by rows, is a forest with functions for the parents and the mates.
-- Idea: the two records hold the same facts under other names, so each is written from the other.
use Rattle.graph_core.proofs.from_counting.Common.{◌≡◌, ℕ, suc, List, length, Set, mem}
use Rattle.graph_core.proofs.Common.{Graph}
use Rattle.match_search.specs.Common.{HoldsAlternating, numbers}
use Rattle.match_search.specs.declared.alternating.AlternatingForest.{AlternatingForest}
use Rattle.match_search.proofs.ShrunkForests.{IsWalkedForest}

module _ (g : Graph) (r f : Set) (mate : List ℕ) (t : AlternatingForest) where
  abbrev pub IsWalked : Type 0
  IsWalked = IsWalkedForest g r f (mem t.outer) (mem t.inner) (numbers t.parent.items) (numbers mate)

  abbrev pub walked_of : HoldsAlternating g r f mate t → IsWalked
  walked_of h = record {
    k = h.k;
    v = h.v;
    e = h.e;
    forest = h.forest;
    up = λ u o n. let p = h.up u o n in (p.0, record { parent_is = p.1.parent; outer_is = p.1.outer; pairs = p.1.pairs; inner = p.1.inner; before = p.1.before });
  }

  pub held_from : IsWalked → length t.parent.items ≡ suc g.order → HoldsAlternating g r f mate t
  held_from w long = record {
    k = w.k;
    v = w.v;
    e = w.e;
    forest = w.forest;
    parents_long = long;
    up = λ u o n. let p = w.up u o n in (p.0, record { parent = p.1.parent_is; outer = p.1.outer_is; pairs = p.1.pairs; inner = p.1.inner; before = p.1.before });
  }
