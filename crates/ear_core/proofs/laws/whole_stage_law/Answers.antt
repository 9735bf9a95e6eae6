use Rattle.ear_core.proofs.WholeStages.{covered-stage, listed-covered, stage-covered}
use Rattle.ear_core.proofs.laws.whole_stage_law.Goals as goal

pub returns : goal.returns
returns c = record {
  stage = λ g f is edges vertices. (stage-covered g f edges is vertices, covered-stage g f edges is);
  list = listed-covered;
}
