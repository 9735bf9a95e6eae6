use Rattle.std.proofs.Common.{ap, arith, ℕ, ◌∙◌}
use Rattle.graph_core.proofs.Common.{block, place}
use Rattle.uncross.proofs.MappedSteps.{made-next}
use Rattle.uncross.proofs.PlaceSteps.{block-at, place-positive}
use Rattle.uncross.specs.Common.{IsNameIn, names_after, image_name}
use Rattle.uncross.proofs.leaf_maps.names_after.Goals as goal

pub names-preserved : goal.names-preserved
names-preserved c =
    let q = c.args.q.now.blocks in let f = image_name c.args.n c.args.images.now in
    made-next (λ (b : ℕ). f (block q (place q b))) (IsNameIn q) (names_after c.args.n c.args.images.now q c.args.names.now) c.names.after c.push.new.self c.names.rest.now c.in-Some.others.now c.in-Some.b.now c.image_name.result
    c.names.invariant c.in-Some.ensures.cases.0 c.in_ok-push.ensures.ok (c.image_name.ensures ∙ ap f (block-at q c.in-Some.b.now _ c.block-block.result (omega (arith, place-positive q c.in-Some.b.now)) c.block-block.ensures))
