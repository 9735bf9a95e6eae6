use Rattle.std.proofs.Common.{length}
use Rattle.front_words.proofs.node_places.+say_numbers.Given as goal

abbrev pub decreases-say_numbers : goal.decreases-say_numbers
decreases-say_numbers g l = length l.set
