use Rattle.std.proofs.Common.{◌≡◌, Some, rules}
use Rattle.mcg6_reader.specs.Common.{Added, AllTold, lines_of, place_behind}
use Rattle.mcg6_reader.proofs.Pieces.{lacking_bad}
use Rattle.mcg6_reader.proofs.listing.add_end.Goals as goal

pub returns-in-Some-clause-bad : goal.returns-in-Some-clause-bad
returns-in-Some-clause-bad g c =
    let tells = g.T.LineTeller.tells c.args.teller.now in
    let lacks = g.T.LineTeller.lacks c.args.teller.now in
    let lines = lines_of c.args.held.now in
    let told : Added (AllTold tells c.args.place lines) c.args.output.now.items c.add_last.new.output.items = search rules in
    let at : c.in-Ok.next ≡ place_behind c.args.place lines = search rules in
    let missing : lacks c.in-Ok.next.graphs ≡ Some c.in-Some.kind = search rules in
    lacking_bad tells (g.T.LineTeller.bad c.args.teller.now) lacks c.args.place c.in-Ok.next lines c.in-Some.kind
    c.args.output.now.items c.add_last.new.output.items c.stop_at.result told at missing c.stop_at.ensures
