use Rattle.std.proofs.Common.{refl, subst}
use Rattle.std.proofs.lemmas.Result.{on_ok_weaker}
use Rattle.mcg6_lines.specs.KindLines.{standing_words}
use Rattle.mcg6_lines.specs.Standings.{IsStanding, Structured, Uncovered}
use Rattle.mcg6_lines.proofs.kind_lines.push_standing.Goals as goal

pub returns-in-Uncovered : goal.returns-in-Uncovered
returns-in-Uncovered c =
    let standing = Uncovered c.in-Uncovered.reason c.in-Uncovered.deficiency in
    on_ok_weaker c.push_uncovered.result (λ is. (standing_words standing, record { standing = standing; right = subst (IsStanding c.args.g.now) c.in-Uncovered.is c.in_ok-reason.ensures; is = refl }, is)) c.push_uncovered.ensures

pub returns-in-Structured : goal.returns-in-Structured
returns-in-Structured c =
    let standing = Structured c.in-Structured.kind c.in-Structured.tally c.in-Structured.bicritical in
    on_ok_weaker c.push_structure.result (λ is. (standing_words standing, record { standing = standing; right = subst (IsStanding c.args.g.now) c.in-Structured.is c.in_ok-reason.ensures; is = refl }, is)) c.push_structure.ensures
