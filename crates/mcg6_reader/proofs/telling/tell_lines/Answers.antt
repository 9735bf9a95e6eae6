use Rattle.std.proofs.Common.{◌<◌, length, rules, arith}
use Rattle.outside.specs.Common.{most_line}
use Rattle.mcg6_reader.specs.Common.{HasNoFeed, IsFirstLine}
use Rattle.mcg6_reader.proofs.Pieces.{through_long, through_none, through_more, through_stopped}
use Rattle.mcg6_reader.proofs.Skips.{with_long, with_stopped}
use Rattle.mcg6_reader.proofs.telling.tell_lines.Goals as goal

pub telling-init : goal.telling-init
telling-init g c = grind (arith, through_none)

pub telling-preserved : goal.telling-preserved
telling-preserved g c = grind (arith, through_more)

pub returns-in-Err-clause-bad : goal.returns-in-Err-clause-bad
returns-in-Err-clause-bad g c =
    let first : IsFirstLine c.telling.rest.now c.in-Some.line.now c.in-Some.behind.now = search rules in
    through_stopped (g.T.LineTeller.tells c.args.teller.now) (g.T.LineTeller.bad c.args.teller.now) (g.T.LineTeller.lacks c.args.teller.now)
    c.args.first c.telling.place c.args.text.now c.telling.rest.now c.in-Some.line.now c.in-Some.behind.now
    c.args.output.now.items c.telling.output.items c.tell_line.new.output.items c.in-Err.stop c.telling.invariant.told first
    c.in-Err.ensures.bad c.in-Err.ensures.same

pub returns-in-Err-clause-stopped : goal.returns-in-Err-clause-stopped
returns-in-Err-clause-stopped g c = grind (arith, with_stopped)

pub returns-then-rest-gt-MOST_LINE-clause-bad : goal.returns-then-rest-gt-MOST_LINE-clause-bad
returns-then-rest-gt-MOST_LINE-clause-bad g c =
    let none : HasNoFeed c.telling.rest.now = search rules in
    let long : most_line < length c.telling.rest.now = omega arith in
    through_long (g.T.LineTeller.tells c.args.teller.now) (g.T.LineTeller.bad c.args.teller.now) (g.T.LineTeller.lacks c.args.teller.now)
    c.args.first c.telling.place c.args.text.now c.telling.rest.now c.args.output.now.items c.telling.output.items
    c.stop_at.result c.telling.invariant.told none long c.stop_at.ensures

pub returns-then-rest-gt-MOST_LINE-clause-stopped : goal.returns-then-rest-gt-MOST_LINE-clause-stopped
returns-then-rest-gt-MOST_LINE-clause-stopped g c = grind (arith, with_long)
