use Rattle.ear_core.proofs.LoneParts.{lone-parts}
use Rattle.ear_core.proofs.LoneWholes.{lone-whole}
use Rattle.ear_core.proofs.laws.lone_parts_law.Goals as goal

pub returns : goal.returns
returns c = record { parts = lone-parts; whole = lone-whole }
