use Rattle.std.proofs.Common.{refl}
use Rattle.front_words.specs.Texts.{all_texts}
use Rattle.front_words.proofs.laws.texts_law.Goals as goal

pub returns : goal.returns
unfolding all_texts
returns c = refl
