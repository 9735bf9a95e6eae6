use Rattle.std.proofs.Common.{refl, arith}
use Rattle.tight_cuts.proofs.BipartiteShores.{least_common}
use Rattle.tight_cuts.proofs.EdgePieces.{first_done, piece_found, piece_full}
use Rattle.tight_cuts.proofs.bipartite.shore_from.Goals as goal

pub returns-in-Some-clause-some : goal.returns-in-Some-clause-some
returns-in-Some-clause-some c s q =
    let p = c.keeps_covered.ensures in
    piece_found c.args.c.now p.limits p.covered c.args.e c.requires.edge c.args.x c.requires.x _
    (least_common c.args.c.now p.limits p.covered c.args.e c.requires.edge c.args.x c.requires.x _ _ _ (grind arith) (grind arith) c.shore-shore.ensures)
    (grind arith) c.requires.before c.shore-shore.result refl c.in-Some.field-0 (grind arith) (grind arith) c.in-Some.ensures.some.2

pub returns-in-None-clause-none : goal.returns-in-None-clause-none
returns-in-None-clause-none c n =
    let p = c.keeps_covered.ensures in
    let common = least_common c.args.c.now p.limits p.covered c.args.e c.requires.edge c.args.x c.requires.x c.min-a.result c.max-b.result c.shore-shore.result (grind arith) (grind arith) c.shore-shore.ensures in
    grind (arith, first_done c.args.c.now c.args.e c.args.x, piece_full c.args.c.now p.limits p.covered c.args.e c.requires.edge c.args.x c.requires.x _ common c.shore-shore.result)
