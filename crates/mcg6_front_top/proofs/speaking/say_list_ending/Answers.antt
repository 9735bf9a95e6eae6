use Rattle.mcg6_front_top.proofs.speaking.say_list_ending.Goals as goal

pub returns-in-Bad : goal.returns-in-Bad
returns-in-Bad g c =
    let said = rw c.deref.ensures.value at c.say_bad_line.ensures in
    rw c.in-Bad.is said
