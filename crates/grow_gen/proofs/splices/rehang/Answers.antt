use Rattle.std.proofs.Common.{◌+◌, ◌<◌, ap₂, ◌∙◌, arith, inl, length, drop}
use Rattle.std.proofs.lemmas.List.{set-get_or, drop_all}
use Rattle.graph_core.specs.declared.ends.Ends.{Ends}
use Rattle.grow_gen.proofs.RehangSteps.{Halfway, kept_step, rehung_step}
use Rattle.grow_gen.proofs.splices.rehang.Goals as goal
use Rattle.grow_gen.proofs.splices.rehang.Goals.{then-next-targets+then-is_at, else-next-targets, else-next-targets-via-then-next-targets+else-is_at, else-next-targets-via-else-next-targets}

-- the default past the end of a list of edges
nothing : Ends
nothing = record { a = 0; b = 0 }

pub loop-edge-preserved : goal.loop-edge-preserved
unfolding nothing
loop-edge-preserved c =
    let k = c.loop-edge.edge-index in
    let ts = c.args.targets.now in
    let xs = c.loop-edge.edge-items in
    let before = c.loop-edge.invariant.so_far in
    let room : k < length xs = omega (arith, c.loop-edge-test.true, c.loop-edge.auto.edge-items) in
    elim c.if-next-targets.branch [
      | then-next-targets+then-is_at w ↦ grind (arith, rehung_step c.args.w ts c.loop-edge.next k xs nothing w.with_end.result room)
      | else-next-targets w ↦ elim w.else-next-targets.branch [
        | else-next-targets-via-then-next-targets+else-is_at w' ↦ grind (arith, set-get_or, kept_step)
        | else-next-targets-via-else-next-targets w' ↦ record {
          in_range = omega (arith, w.next-is, c.loop-edge.invariant.in_range);
          so_far = ap₂ (λ n ys. Halfway c.args.w (drop n ts) (k + 1) ys) w.next-is (w.edge-items-is ∙ w'.edge-items-is ∙ set-get_or xs k nothing)
              ∙ kept_step c.args.w (drop c.loop-edge.next ts) k xs nothing room (inl (drop_all c.loop-edge.next ts w'.if-next-targets.false))
              ∙ before;
        }
      ]
    ]
