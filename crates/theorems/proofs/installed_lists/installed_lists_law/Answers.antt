use Rattle.mcg6_top.proofs.Reported.{has-list-report, list-report-other}
use Rattle.theorems.proofs.installed_lists.installed_lists_law.Goals as goal

pub returns-clause-edge : goal.returns-clause-edge
returns-clause-edge g c = λ words status first last before now runs. runs

pub returns-clause-reports : goal.returns-clause-reports
returns-clause-reports g c = has-list-report

pub returns-clause-other : goal.returns-clause-other
returns-clause-other g c = list-report-other
