use Rattle.front_words.proofs.shores.+say_others.Given as goal

abbrev pub decreases-say_others : goal.decreases-say_others
decreases-say_others g l = l.count
