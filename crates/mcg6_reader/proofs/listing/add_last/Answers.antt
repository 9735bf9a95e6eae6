use Rattle.std.proofs.Common.{◌<◌, length, arith}
use Rattle.std.proofs.lemmas.Bool.Decides.{nat_tests}
use Rattle.mcg6_reader.proofs.Pieces.{end_none, end_told, end_place, end_stopped}
use Rattle.mcg6_reader.specs.Common.{Reports}
use Rattle.mcg6_reader.proofs.Skips.{last_memory_if, last_stopped, last_told_if}
use Rattle.mcg6_reader.proofs.listing.add_last.Goals as goal

pub returns-then-is_empty-clause-told : goal.returns-then-is_empty-clause-told
returns-then-is_empty-clause-told g c = grind (arith, nat_tests, end_none (g.T.LineTeller.tells c.args.teller.now) c.args.place c.args.held.now c.args.output.now.items)

pub returns-then-is_empty-clause-next : goal.returns-then-is_empty-clause-next
returns-then-is_empty-clause-next g c = grind (arith, nat_tests, end_none (g.T.LineTeller.tells c.args.teller.now) c.args.place c.args.held.now c.args.output.now.items)

pub returns-in-Ok-clause-told : goal.returns-in-Ok-clause-told
returns-in-Ok-clause-told g c = grind (arith, nat_tests, end_told (g.T.LineTeller.tells c.args.teller.now) c.args.place c.args.held.now c.args.output.now.items c.tell_line.new.output.items c.requires)

pub returns-in-Ok-clause-next : goal.returns-in-Ok-clause-next
returns-in-Ok-clause-next g c = grind (arith, nat_tests, end_place c.args.place)

pub returns-in-Err-clause-bad : goal.returns-in-Err-clause-bad
returns-in-Err-clause-bad g c = grind (arith, nat_tests, end_stopped)

pub returns-then-is_empty-clause-reported : goal.returns-then-is_empty-clause-reported
returns-then-is_empty-clause-reported g c = grind (arith, nat_tests, end_none (Reports (g.T.LineTeller.skips c.args.teller.now)) c.args.place c.args.held.now c.args.skipped.now.items)

pub returns-in-Err-clause-stopped : goal.returns-in-Err-clause-stopped
returns-in-Err-clause-stopped g c =
    let some : 0 < length c.args.held.now = grind (arith, nat_tests) in
    last_stopped (Reports (g.T.LineTeller.skips c.args.teller.now)) (g.T.LineTeller.bad c.args.teller.now) (g.T.LineTeller.lacks c.args.teller.now)
    c.args.place c.args.held.now c.args.skipped.now.items c.tell_line.new.skipped.items c.in-Err.stop c.requires some c.in-Err.ensures.bad c.in-Err.ensures.unreported

pub returns-in-Ok-clause-reported : goal.returns-in-Ok-clause-reported
returns-in-Ok-clause-reported g c =
    let some : 0 < length c.args.held.now = grind (arith, nat_tests) in
    last_told_if (Reports (g.T.LineTeller.skips c.args.teller.now)) (g.T.LineTeller.bad c.args.teller.now) (g.T.LineTeller.lacks c.args.teller.now)
    c.args.place c.args.held.now c.args.skipped.now.items c.tell_line.new.skipped.items c.place_after.result c.requires some c.in-Ok.ensures.reported

pub returns-in-Ok-clause-stopped : goal.returns-in-Ok-clause-stopped
returns-in-Ok-clause-stopped g c =
    let some : 0 < length c.args.held.now = grind (arith, nat_tests) in
    last_memory_if (Reports (g.T.LineTeller.skips c.args.teller.now)) (g.T.LineTeller.bad c.args.teller.now) (g.T.LineTeller.lacks c.args.teller.now)
    c.args.place c.args.held.now c.args.skipped.now.items c.tell_line.new.skipped.items c.place_after.result c.requires some c.in-Ok.ensures.reported c.place_after.ensures.memory
