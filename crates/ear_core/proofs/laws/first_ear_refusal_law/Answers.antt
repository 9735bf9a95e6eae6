use Rattle.ear_core.proofs.Refusing.{refusal-none, refusal-one}
use Rattle.ear_core.proofs.laws.first_ear_refusal_law.Goals as goal

pub returns : goal.returns
returns c = record { none = refusal-none; one = refusal-one }
