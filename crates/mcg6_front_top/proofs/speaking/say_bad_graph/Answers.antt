use Rattle.mcg6_front_top.proofs.speaking.say_bad_graph.Goals as goal

pub returns : goal.returns
returns g c = let said = rw (c.beginning_of.ensures, c.as_slice-text.ensures.value) at c.say_bad_file.ensures in said
