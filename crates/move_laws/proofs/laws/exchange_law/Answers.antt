use Rattle.move_laws.proofs.ExchangedNames.{exchanged_kept, exchanged_merged}
use Rattle.move_laws.proofs.laws.exchange_law.Goals as goal

pub returns : goal.returns
returns c = record { kept = exchanged_kept; merged = exchanged_merged }
