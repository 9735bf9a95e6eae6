use Rattle.std.proofs.Common.{◌≡◌, ◌∙◌, List, None, Option, Some, ap, arith, unwrap_or, ℕ, option_map}
use Rattle.graph_core.proofs.Common.{Graph, singles}
use Rattle.tree_core.proofs.Common.{PlaceValue, Shape, moves_of, shape_of}
use Rattle.tree_core.specs.declared.moves.Move.{Move}
use Rattle.uncross.specs.Common.{IsExposed, IsRaised}
use Rattle.uncross.proofs.exposing.bring_up.Goals as goal

-- a shore that is brought to the root of the place at the single vertices
raised : (g : Graph) (place : PlaceValue) (s t : Shape) (y : List ℕ) (found : Option (List Move)) (none moves : List Move) → place ≡ record { graph = g; blocks = singles g.order } → moves ≡ unwrap_or found none →
    IsExposed place.graph place.blocks s (Some y) t (option_map moves_of found) → IsRaised g (singles g.order) s y t (moves_of moves)
raised g place s t y None none moves at is exposed = absurd exposed
raised g place s t y (Some found) none moves at is exposed = grind (arith, moves_of, singles)

pub expose_at-requires-clause-derives : goal.expose_at-requires-clause-derives
expose_at-requires-clause-derives c = grind arith

pub expose_at-requires-clause-shore : goal.expose_at-requires-clause-shore
expose_at-requires-clause-shore c = grind arith

pub returns : goal.returns
returns c =
    raised c.args.g.now c.in_ok-root.root (shape_of c.args.tree) (shape_of c.in_ok-tree.field-0.tree) c.args.shore c.in_ok-tree.field-0.moves c.new.result c.unwrap_or-moves.result
    (λ i. record { graph = (c.in_ok-root.ensures.graph ∙ c.in_ok-covered.ensures) i; blocks = (c.in_ok-root.ensures.blocks ∙ ap (λ (h : Graph). singles h.order) c.in_ok-covered.ensures) i })
    (grind arith) c.in_ok-tree.ensures
