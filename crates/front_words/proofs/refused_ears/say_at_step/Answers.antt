use Rattle.front_words.proofs.refused_ears.say_at_step.Goals as goal

pub returns-in-None : goal.returns-in-None
returns-in-None g c = let said = rw c.ear_text.ensures at c.say.ensures in rw c.in-None.is said

pub returns-in-Some : goal.returns-in-Some
returns-in-Some g c = let said = rw c.ear_text.ensures at c.say-in-Some.ensures in rw c.in-Some.is said
