use Rattle.front_words.proofs.uncovered.say_cover_fault.Goals as goal

pub returns-in-Parted : goal.returns-in-Parted
returns-in-Parted g c = rw c.in-Parted.is c.say-in-Parted.ensures

pub returns-in-Unmatched : goal.returns-in-Unmatched
returns-in-Unmatched g c = rw c.in-Unmatched.is c.say-in-Unmatched.ensures

pub returns-in-Unallowed : goal.returns-in-Unallowed
returns-in-Unallowed g c = rw c.in-Unallowed.is c.say-in-Unallowed.ensures
