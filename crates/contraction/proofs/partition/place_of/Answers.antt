use Rattle.graph_core.proofs.from_counting.Common.{◌≡◌, ◌<◌, ◌+◌, ℕ, List, Option, Some, None, MatchOption, sym, arith, length, subst, mem}
use Rattle.itertools.specs.Consumer.{find_at}
use Rattle.graph_core.proofs.Common.{place}
use Rattle.contraction.proofs.BlockLists.{place-find}
use Rattle.contraction.proofs.partition.place_of.Goals as goal

-- what is known of the place, by what the search finds
seen : (p : List (List ℕ)) (v : ℕ) (r : Option (ℕ × List ℕ)) → r ≡ find_at (λ b. mem b v) 0 p → MatchOption r (place p v ≡ length p + 1) (λ found. (found.0 + 1 ≡ place p v + 0) × (found.0 < length p + 0))
seen p v r e = subst (λ s. MatchOption s (place p v ≡ length p + 1) (λ found. (found.0 + 1 ≡ place p v + 0) × (found.0 < length p + 0))) (sym e) (place-find p v 0)

pub returns-in-Some : goal.returns-in-Some
returns-in-Some c = let s = seen c.args.blocks.now c.args.v (Some c.in-Some.found) c.in-Some.ensures in let f = s.0 in omega arith

pub overflow_add-result : goal.overflow_add-result
overflow_add-result c = let s = seen c.args.blocks.now c.args.v (Some c.in-Some.found) c.in-Some.ensures in let f = s.1 in omega arith

pub returns-in-None : goal.returns-in-None
returns-in-None c = sym (seen c.args.blocks.now c.args.v None c.in-None.ensures)
