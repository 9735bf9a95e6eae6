use Rattle.contraction.proofs.EdgeRows.{lists-push}
use Rattle.contraction.proofs.edge_rows.EdgeRows.add.Goals as goal

pub returns : goal.returns
returns c = lists-push c.self.inside.rows.items c.args.self.now c.self.view_is c.args.a c.requires c.index_mut.result.now c.push.new.self c.index_mut.ensures.value c.args.e c.in_ok-push.ensures.items
