use Rattle.std.proofs.Common.{Some}
use Rattle.bench_top.specs.from_outside.Common.{HasPrinted, IsOpened, PrintState}
use Rattle.bench_top.proofs.Reported.{has-reported, reported-other}
use Rattle.theorems.proofs.DoneRuns.{done-decomposition, done-ears, done-pairing, done-picks, done-script, done-sets}
use Rattle.theorems.proofs.InstalledRuns.{given, installed-run, notes, printed}
use Rattle.theorems.proofs.installed.installed_runs_law.Goals as goal

pub returns-clause-edge : goal.returns-clause-edge
returns-clause-edge g c = λ row status first last before now o. o

pub returns-clause-reports : goal.returns-clause-reports
returns-clause-reports g c = has-reported IsOpened given notes printed HasPrinted

pub returns-clause-other : goal.returns-clause-other
returns-clause-other g c = reported-other IsOpened given notes printed HasPrinted

pub returns-clause-sets : goal.returns-clause-sets
returns-clause-sets g c = λ graph first last before now o.
    let d = done-sets IsOpened (λ (k : PrintState). Some k.printed) HasPrinted graph first last before now o in (d.0, d.1, d.2, d.3, installed-run _ _ _ first last before now d.4, d.5, d.6)

pub returns-clause-decompositions : goal.returns-clause-decompositions
returns-clause-decompositions g c = λ graph order first last before now o.
    let d = done-decomposition IsOpened (λ (k : PrintState). Some k.printed) HasPrinted graph order first last before now o in (d.0, d.1, d.2, d.3, installed-run _ _ _ first last before now d.4, d.5, d.6)

pub returns-clause-picks : goal.returns-clause-picks
returns-clause-picks g c = λ graph picks first last before now o.
    let d = done-picks IsOpened (λ (k : PrintState). Some k.printed) HasPrinted graph picks first last before now o in (d.0, d.1, d.2, d.3, d.4, d.5, d.6, installed-run _ _ _ first last before now d.7, d.8, d.9)

pub returns-clause-ears : goal.returns-clause-ears
returns-clause-ears g c = λ graph first last before now o.
    let d = done-ears IsOpened (λ (k : PrintState). Some k.printed) HasPrinted graph first last before now o in (d.0, d.1, d.2, d.3, installed-run _ _ _ first last before now d.4, d.5, d.6)

pub returns-clause-comparisons : goal.returns-clause-comparisons
returns-clause-comparisons g c = λ graph one two first last before now o.
    let d = done-pairing IsOpened (λ (k : PrintState). Some k.printed) HasPrinted graph one two first last before now o in (d.0, d.1, d.2, d.3, d.4, d.5, d.6, d.7, d.8, d.9, installed-run _ _ _ first last before now d.10, d.11, d.12, d.13)

pub returns-clause-scripts : goal.returns-clause-scripts
returns-clause-scripts g c = λ graph one two first last before now o.
    let d = done-script IsOpened (λ (k : PrintState). Some k.printed) HasPrinted graph one two first last before now o in (d.0, d.1, d.2, d.3, d.4, d.5, d.6, d.7, d.8, d.9, installed-run _ _ _ first last before now d.10, d.11, d.12, d.13)
