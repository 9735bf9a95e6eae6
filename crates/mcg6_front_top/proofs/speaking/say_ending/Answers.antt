use Rattle.mcg6_front_top.proofs.speaking.say_ending.Goals as goal

pub returns-in-None : goal.returns-in-None
returns-in-None g c = let said = rw c.words.ensures at c.say_unmatched.ensures in rw c.in-None.is said
