use Rattle.std.proofs.Common.{◌∙◌, ap}
use Rattle.ear_core.specs.Common.{ears_of}
use Rattle.graph_core.proofs.Common.{Graph}
use Rattle.mcg6_lines.specs.EarLines.{ear_line}
use Rattle.mcg6_lines.proofs.ear_lines.covered_ear_line.Goals as goal

pub returns : goal.returns
returns c = record {
  covered = c.keeps_covered.ensures.covered;
  list = ears_of c.in_ok-list.list;
  is = c.in_ok-list.ensures.list;
  singles = c.in_ok-list.ensures.singles;
  unrefinable = c.in_ok-list.ensures.unrefinable;
  single = c.in_ok-list.ensures.single;
  line = c.in_ok-push_list.ensures ∙ ap (λ (g : Graph). ear_line c.args.front.items g (ears_of c.in_ok-list.list)) c.graph.ensures.same;
}
