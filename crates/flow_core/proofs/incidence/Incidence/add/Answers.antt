use Rattle.flow_core.proofs.Reading.{rows_of-push}
use Rattle.flow_core.proofs.incidence.Incidence.add.Goals as goal

pub returns : goal.returns
returns c = rows_of-push c.self.inside.rows.items c.args.self.now c.self.view_is c.args.v c.requires c.index_mut.result.now c.push.new.self c.index_mut.ensures.value c.args.i c.in_ok-push.ensures.items
