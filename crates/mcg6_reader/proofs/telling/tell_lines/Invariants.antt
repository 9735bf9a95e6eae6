use Rattle.std.proofs.Common.{length}
use Rattle.mcg6_reader.specs.Common.{Added, Reports, ToldThrough}
use Rattle.mcg6_reader.proofs.telling.tell_lines.Given as goal

abbrev pub invariant-telling : goal.invariant-telling
invariant-telling g l = record {
  told : Added (ToldThrough (g.T.LineTeller.tells l.teller) l.fn.first l.text l.rest l.place) l.fn.output.items l.output.items;
  reported : Added (ToldThrough (Reports (g.T.LineTeller.skips l.teller)) l.fn.first l.text l.rest l.place) l.fn.skipped.items l.skipped.items;
}

abbrev pub decreases-telling : goal.decreases-telling
decreases-telling g l = length l.rest
