use Rattle.mcg6_front_top.proofs.MessageLines.{message-closed}
use Rattle.mcg6_front_top.proofs.laws.message_law.Goals as goal

pub returns : goal.returns
returns c = message-closed
