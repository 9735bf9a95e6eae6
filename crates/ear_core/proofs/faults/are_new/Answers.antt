use Rattle.graph_core.proofs.from_counting.Common.{◌≡◌, ◌||◌, ◌∙◌, ap, not, Bool, Option, ℕ, arith, is_none, is_some, mem}
use Rattle.two_ears.specs.from_match_search.Common.{marks}
use Rattle.ear_core.proofs.FaultPlaces.{none-found}
use Rattle.ear_core.proofs.faults.are_new.Goals as goal

none-or-some : (o : Option ℕ) (b : Bool) → is_some o ≡ not b → b ≡ is_none o
none-or-some o b h = grind arith

pub returns : goal.returns
returns c = none-or-some c.first_used.result c.is_none.result c.is_none.ensures ∙ ap is_none c.first_used.ensures ∙ none-found (λ e. marks c.args.mark.now e || mem c.args.used.now e) c.args.edges.now
