use Rattle.move_text.proofs.from_counting.Common.{◌≡◌, ◌∙◌, ℕ, List, Some, map, length, slice_get, ap, arith, option_map, into_iter_items, slice_get-map, append-nil, length-map}
use Rattle.contraction.specs.Partition.{PartitionValue}
use Rattle.uncross.specs.Common.{map_of, maps_of}
use Rattle.bench_outcomes.specs.Common.{map_lines_of}
use Rattle.bench_reports.proofs.PairLines.{lines-more, lines-none}
use Rattle.bench_reports.proofs.comparing.lines_of.Goals as goal

pub lines-preserved : goal.lines-preserved
lines-preserved c =
    let ps : List (List (List ℕ)) = map (λ (p : PartitionValue). p.blocks) c.args.found.now in
    let at_p : slice_get ps c.lines.i ≡ Some c.get.result.now.blocks = slice_get-map (λ (p : PartitionValue). p.blocks) c.args.found.now c.lines.i ∙ ap (option_map (λ (p : PartitionValue). p.blocks)) c.get.ensures in
    let less = ap length c.in-Some.ensures.cases.0 in
    let counts = c.in-Some.ensures.cases.1 in
    let left = c.lines.invariant.left in
    let counted = c.lines.invariant.counted in
    record {
      left = omega arith;
      counted = omega arith;
      lines = lines-more c.lines.i ps c.get.result.now.blocks (map_of c.in-Some.map) (maps_of (into_iter_items c.lines.rest)) (maps_of (into_iter_items c.next.new.self)) (map_lines_of 0 ps (maps_of c.args.maps)) c.lines.lines c.push.new.self c.in_ok-line_of.field-0
          at_p c.lines.invariant.lines (ap maps_of c.in-Some.ensures.cases.0) c.in_ok-line_of.ensures c.in_ok-push.ensures.ok;
    }

pub returns : goal.returns
returns c = grind (arith, length-map (into_iter_items c.lines.rest) map_of, lines-none c.lines.i, append-nil c.lines.lines)
