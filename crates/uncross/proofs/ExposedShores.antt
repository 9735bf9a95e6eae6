-- What exposing a shore in a derivation of a graph gives: a script of few moves to a derivation
-- with the shore at its root.
use Rattle.std.proofs.Common.{List, [], Option, Some, ap, arith, option_map, sym, unwrap_or, ℕ, ◌≡◌, ◌∙◌}
use Rattle.graph_core.proofs.Common.{Graph}
use Rattle.tree_core.proofs.Common.{moves_of, Shape, cut, cut_count, leaf}
use Rattle.tree_core.specs.declared.moves.Move.{Move}
use Rattle.uncross.specs.Common.{IsBrought, IsRaised, IsExposed}

-- if a shore is exposed, there are moves, so the default for none is not used
pub raised : (g : Graph) (p : List (List ℕ)) (s : Shape) (y : List ℕ) (t : Shape) (found : Option (List Move)) (other : List Move) → IsExposed g p s (Some y) t (option_map moves_of found) → IsRaised g p s y t (moves_of (unwrap_or found other))
raised g p s y t found other h = grind arith

left_of : Shape → Shape
left_of leaf = leaf
left_of (cut x a b) = a

right_of : Shape → Shape
right_of leaf = leaf
right_of (cut x a b) = b

-- if the new tree is a cut, its shore is the one that was exposed
pub brought : (g : Graph) (p : List (List ℕ)) (s : Shape) (y : List ℕ) (t : Shape) (found : Option (List Move)) (other ms : List Move) → ms ≡ unwrap_or found other → IsExposed g p s (Some y) t (option_map moves_of found) →
    (x : List ℕ) (k l : Shape) → t ≡ cut x k l → IsBrought g p s y k l (moves_of ms)
unfolding left_of right_of
brought g p s y t found other ms e h x k l is = grind arith

-- and it is not a leaf
pub brought_no_leaf : (g : Graph) (p : List (List ℕ)) (s : Shape) (y : List ℕ) (t : Shape) (found : Option (List Move)) → IsExposed g p s (Some y) t (option_map moves_of found) → t ≡ leaf → ⊥
brought_no_leaf g p s y t found h is = let none = ap cut_count (sym is ∙ (raised g p s y t found [] h).root.2) in omega arith
