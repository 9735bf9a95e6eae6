use Rattle.counting.proofs.Common.{◌≡◌, ◌++◌, ◌∷◌, [], ◌∙◌, List, ap, arith, map-append}
use Rattle.tree_text.proofs.from_tree_core.Common.{move_of, moves_of}
use Rattle.tree_text.specs.from_tree_core.declared.moves.Move.{Move}
use Rattle.move_text.proofs.move_format.read_switch.Goals as goal

-- the moves with one more
moves_of-more : (old new : List Move) (item : Move) → new ≡ old ++ item ∷ [] → moves_of new ≡ moves_of old ++ move_of item ∷ []
moves_of-more old new item is = ap moves_of is ∙ map-append move_of old (item ∷ [])

pub returns-in-Err : goal.returns-in-Err
returns-in-Err c = c.in-Err.ensures (moves_of c.args.moves.now) c.args.path.now

pub returns : goal.returns
returns c = grind (arith, moves_of-more c.args.moves.now c.push.new.self)
