use Rattle.std.proofs.Common.{arith}
use Rattle.front_words.proofs.unmatched.say_known.Goals as goal

pub returns-then-asks_twice : goal.returns-then-asks_twice
returns-then-asks_twice g c = let said = rw c.name.ensures at c.say_twice.ensures in grind (arith, said)
