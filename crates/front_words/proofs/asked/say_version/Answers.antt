use Rattle.front_words.proofs.asked.say_version.Goals as goal

pub returns : goal.returns
returns g c = let said = rw c.as_bytes.ensures.value at c.say.ensures in said
