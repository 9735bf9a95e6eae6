use Rattle.std.proofs.Common.{ap₂, ◌∙◌, arith, w64, of_z, ℤ}
use Rattle.std.proofs.lemmas.Int.{to_z-of_z}
use Rattle.flow_core.specs.Common.{Arc, sent_amount}
use Rattle.flow_core.proofs.Duality.{FitsCapacities-length}
use Rattle.flow_core.proofs.Reading.{amount-fits, amount-read}
use Rattle.flow_core.proofs.net.Net.sent_over.Goals as goal

pub get-requires : goal.get-requires
get-requires c = let l = FitsCapacities-length c.args.self.now.arcs c.args.amounts.now c.requires.fits in let k = c.requires.arc in omega arith

pub sent-requires-clause-within : goal.sent-requires-clause-within
sent-requires-clause-within c = grind (arith, amount-fits, of_z, amount-read)

pub sent-requires-clause-room : goal.sent-requires-clause-room
sent-requires-clause-room c = grind (arith, amount-read c.args.amounts.now c.args.i c.get.result)

pub returns : goal.returns
returns c = to_z-of_z w64 c.sent.result (record { sfits = c.sent.type_inv }) ∙ c.sent.ensures ∙ ap₂ (λ (arc : Arc) (z : ℤ). sent_amount arc c.args.node z c.args.more) c.arc.ensures (amount-read c.args.amounts.now c.args.i c.get.result (record { sfits = c.get.type_inv }) c.get.ensures)
