use Rattle.std.proofs.Common.{map}
use Rattle.line_text.specs.Common.{unwords, written}
use Rattle.line_text.proofs.ReadBack.{Stands-written, Stands-comments, is_closed-unlines, AreSkipped-written}
use Rattle.line_text.proofs.laws.written_text_stands_law.Goals as goal

pub returns : goal.returns
returns g c = λ format lines comments reached value said skipped begins ends.
    let rules = g.F.LineFormat.rules format in
    let stands = Stands-written rules lines reached value said begins ends in
    Stands-comments rules (written lines) (written comments) value (is_closed-unlines (map unwords lines)) (AreSkipped-written comments skipped) stands
