use Rattle.std.proofs.Common.{arith}
use Rattle.grow_gen.proofs.PieceFacts.{piece-two}
use Rattle.grow_gen.proofs.Skeleton.{union-rising}
use Rattle.grow_gen.proofs.growing.Growing.eligible.Goals as goal

pub returns-then-is_bipartite : goal.returns-then-is_bipartite
returns-then-is_bipartite c =
    let s = c.args.self.now in
    grind (arith, union-rising s.order 128 s.in_a s.in_b c.union-both.result, piece-two c.args.piece)
