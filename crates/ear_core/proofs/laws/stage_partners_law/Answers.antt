use Rattle.ear_core.proofs.StageClasses.{class-partners}
use Rattle.ear_core.proofs.StagePartners.{all-partners, edge-ear, edge-stage, step-partners}
use Rattle.ear_core.proofs.laws.stage_partners_law.Goals as goal

pub returns : goal.returns
returns c = record {
  stay = step-partners;
  edge = λ g is f stage e we off joins. (edge-ear g is f e we off joins, edge-stage g is f e we off joins stage);
  all = λ g is f stage all e we off. all-partners g is.ends f stage all e we off (is.no_loop e we);
  classes = λ g is f stage u v w on_u on_v apart. class-partners g is f stage u v w on_u on_v apart;
}
