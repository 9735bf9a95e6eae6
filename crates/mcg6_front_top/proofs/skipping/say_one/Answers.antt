use Rattle.mcg6_front_top.proofs.skipping.say_one.Goals as goal

pub returns : goal.returns
returns g c = rw c.deref.ensures.value at c.say_bad_line.ensures
