use Rattle.graph_core.proofs.from_counting.Common.{◌≡◌, ◌==◌, ◌&&◌, ◌||◌, not, map, take, ap, ◌∙◌, arith, take_all, mem}
use Rattle.grow_gen.specs.Common.{side, new_number}
use Rattle.grow_gen.proofs.Skeleton.{next_class-rising, mem-image_more}
use Rattle.grow_gen.proofs.growing.next_class.Goals as goal

pub loop-x-preserved : goal.loop-x-preserved
loop-x-preserved c v = grind (arith, mem-image_more (new_number c.args.n c.args.w) c.side-x-items.result.now c.loop-x.x-index v (mem c.args.class v && not (c.args.w == v)) c.loop-x-test.true)

pub returns : goal.returns
returns c =
    let all : take c.loop-x.x-index c.side-x-items.result.now ≡ side c.args.piece (mem c.args.class c.args.w) =
    take_all c.loop-x.x-index c.side-x-items.result.now c.loop-x-test.false ∙ c.side-x-items.ensures ∙ ap (side c.args.piece) c.contains.ensures in
    next_class-rising c.args.n 128 c.args.w c.args.piece c.args.class c.loop-x.next (mem c.args.class c.args.w) (let r = c.requires.room in omega arith) c.requires.vertex c.requires.rising c.rises.ensures
    (λ v. c.loop-x.invariant v ∙ ap (λ xs. (mem c.args.class v && not (c.args.w == v)) || mem (map (new_number c.args.n c.args.w) xs) v) all)
