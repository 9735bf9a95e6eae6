use Rattle.std.proofs.Common.{arith}
use Rattle.front_words.proofs.unmatched.say_asked.Goals as goal

pub returns-in-Some : goal.returns-in-Some
returns-in-Some g c = let said = rw c.name.ensures at c.say_version.ensures in grind (arith, said)
