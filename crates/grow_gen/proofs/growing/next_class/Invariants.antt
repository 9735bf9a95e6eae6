use Rattle.graph_core.proofs.from_counting.Common.{◌≡◌, ℕ, ◌==◌, ◌&&◌, ◌||◌, not, take, map, mem}
use Rattle.grow_gen.specs.Common.{new_number}
use Rattle.grow_gen.proofs.growing.next_class.Given as goal

abbrev pub invariant-loop-x : goal.invariant-loop-x
invariant-loop-x l = (v : ℕ) → mem l.next v ≡ ((mem l.fn.class v && not (l.w == v)) || mem (map (new_number l.n l.w) (take l.x-index l.x-items)) v)
