use Rattle.ear_core.proofs.LoneMatchings.{single-leads}
use Rattle.ear_core.proofs.Rests.{covered-meets, rest-perfect}
use Rattle.ear_core.proofs.laws.single_ears_law.Goals as goal

pub returns : goal.returns
returns c = record { rest = λ g is cov f steps goes. rest-perfect g is.ends (covered-meets g is cov) f steps goes; leads = single-leads }
