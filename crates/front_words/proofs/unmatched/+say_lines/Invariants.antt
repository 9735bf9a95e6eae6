use Rattle.std.proofs.Common.{length}
use Rattle.front_words.proofs.unmatched.+say_lines.Given as goal

abbrev pub decreases-say_lines : goal.decreases-say_lines
decreases-say_lines g l = length l.rows.now
