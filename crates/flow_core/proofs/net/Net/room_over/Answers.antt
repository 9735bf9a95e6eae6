use Rattle.std.proofs.Common.{ap₂, ◌∙◌, arith, to_z, of_z, ℤ}
use Rattle.flow_core.specs.Common.{Arc, room_from}
use Rattle.flow_core.proofs.Duality.{FitsCapacities-length}
use Rattle.flow_core.proofs.Reading.{amount-fits, amount-read}
use Rattle.flow_core.proofs.net.Net.room_over.Goals as goal

pub get-requires : goal.get-requires
get-requires c = let l = FitsCapacities-length c.args.self.now.arcs c.args.amounts.now c.requires.fits in let k = c.requires.arc in omega arith

pub room-requires-clause-within : goal.room-requires-clause-within
room-requires-clause-within c = grind (arith, amount-fits, to_z, of_z, amount-read)

pub returns : goal.returns
returns c = c.room.ensures ∙ ap₂ (λ (arc : Arc) (z : ℤ). room_from c.args.node arc z) c.arc.ensures (amount-read c.args.amounts.now c.args.i c.get.result (record { sfits = c.get.type_inv }) c.get.ensures)
