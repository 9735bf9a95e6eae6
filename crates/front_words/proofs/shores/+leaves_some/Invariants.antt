use Rattle.front_words.proofs.shores.+leaves_some.Given as goal

abbrev pub decreases-leaves_some : goal.decreases-leaves_some
decreases-leaves_some l = l.count
