use Rattle.std.proofs.Common.{◌<◌, ◌≤◌, length, arith}
use Rattle.tree_core.proofs.Common.{move_of, shape_of}
use Rattle.bench_outcomes.proofs.from_tree_check.MovesFit.{move-fits}
use Rattle.bench_reports.proofs.MadeMoves.{made-next, made-none, made-stuck}
use Rattle.bench_reports.proofs.replaying.made_by.Goals as goal

pub returns-then-i-len : goal.returns-then-i-len
returns-then-i-len c =
    let less : c.loop-i.i < c.args.count = grind arith in
    let few : length c.args.moves.now ≤ c.loop-i.i = grind arith in
    made-none c.args.n (shape_of c.loop-i.made) c.args.moves.now c.loop-i.i c.args.count _ less c.loop-i.invariant.left few

pub returns-in-Err : goal.returns-in-Err
returns-in-Err c =
    let less : c.loop-i.i < c.args.count = grind arith in
    made-stuck c.args.n (shape_of c.loop-i.made) c.args.moves.now c.loop-i.i c.args.count _ less c.loop-i.invariant.left c.get.result.now c.get.ensures c.in-Err.ensures.stuck

pub loop-i-preserved : goal.loop-i-preserved
loop-i-preserved c =
    let less : c.loop-i.i < c.args.count = grind arith in
    let made = shape_of c.loop-i.made in
    let next = shape_of c.in-Ok.next in
    record {
      fits = move-fits c.args.n made next (move_of c.get.result.now) c.loop-i.invariant.fits c.in-Ok.ensures.ok;
      left = made-next c.args.n made c.args.moves.now c.loop-i.i c.args.count _ less c.loop-i.invariant.left c.get.result.now next c.get.ensures c.in-Ok.ensures.ok;
    }
