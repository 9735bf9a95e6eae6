use Rattle.line_text.proofs.ExactlyOne as lemmas
use Rattle.line_text.proofs.laws.reading_tells_law.Goals as goal

pub returns : goal.returns
returns g c = λ format text. lemmas.reading_tells (g.F.LineFormat.rules format) text
