use Rattle.allowed_edges.proofs.from_counting.Common.{arith, append-nil, drop_all}
use Rattle.leaf_kinds.specs.from_tight_cuts.Common.{candidate_of}
use Rattle.mcg6_lines.proofs.CutTexts.{cuts_further}
use Rattle.mcg6_lines.proofs.cut_lines.lines_of_cuts.Goals as goal

pub loop-i-init : goal.loop-i-init
loop-i-init c = grind arith

pub loop-i-preserved : goal.loop-i-preserved
loop-i-preserved c =
    cuts_further c.args.front.now c.args.list.now c.loop-i.i (candidate_of c.get.result) c.loop-i.lines.items c.push_cut.new.lines.items c.get.ensures (omega arith) c.in_ok-push_cut.ensures c.loop-i.invariant

pub returns : goal.returns
returns c = grind (arith, append-nil, drop_all)
