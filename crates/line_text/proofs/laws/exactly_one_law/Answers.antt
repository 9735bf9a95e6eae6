use Rattle.line_text.proofs.ExactlyOne as lemmas
use Rattle.line_text.proofs.laws.exactly_one_law.Goals as goal

pub returns : goal.returns
returns g c = λ format text. lemmas.exactly_one (g.F.LineFormat.rules format) text
