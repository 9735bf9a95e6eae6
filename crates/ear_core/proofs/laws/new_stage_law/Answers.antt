use Rattle.ear_core.proofs.Refusing.{step-none, none-step, step_odds, step-nearly, fine-stage}
use Rattle.ear_core.specs.Common.{next_stage}
use Rattle.ear_core.proofs.laws.new_stage_law.Goals as goal

pub returns : goal.returns
returns c = record {
  tests = λ g f s. (step-none g f s, none-step g f s);
  stage = λ g is f s stage step fine. fine-stage g (next_stage f s) (step_odds s) (step-nearly g is f s stage step) fine;
}
