use Rattle.front_words.proofs.shores.+highest_named.Given as goal

abbrev pub decreases-highest_named : goal.decreases-highest_named
decreases-highest_named l = l.count
