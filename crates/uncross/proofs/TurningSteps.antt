-- Steps of the turning of trees: what the code has made is what the partial functions give. Idea:
-- if the first step has no result, nothing follows it; if it has one, the moves made before are put
-- in front.
use Rattle.graph_core.proofs.from_counting.Common.{◌≡◌, List, [], ◌++◌, Option, Some, None, option_and_then, refl, ap, ap₂, ◌∙◌, none-some}
use Rattle.tree_core.proofs.Common.{PlainMove, Shape}
use Rattle.move_laws.specs.Common.{PlainTurned, followed}
use Rattle.uncross.specs.Common.{IsMade}

-- what follows a raised root
pub after_raised : (f : Shape → Option PlainTurned) (o : Option PlainTurned) (up : Shape) (after before : List PlainMove) → before ≡ [] → ((s : PlainTurned) → o ≡ Some s → IsMade up after before s) → (s : PlainTurned) → option_and_then (λ r. followed r.moves (f r.tree)) o ≡ Some s → followed after (f up) ≡ Some s
after_raised f None up after before none h s e = absurd (none-some _ e)
after_raised f (Some q) up after before none h s e = let m = h q refl in ap₂ (λ (ms : List PlainMove) (t : Shape). followed ms (f t)) (m.1 ∙ ap (λ (ms : List PlainMove). ms ++ q.moves) none) m.0 ∙ e
