use Rattle.front_words.proofs.refused_ears.say_step_fault.Goals as goal

pub returns-in-StageNotCovered : goal.returns-in-StageNotCovered
returns-in-StageNotCovered g c = rw c.in-StageNotCovered.is c.say-in-StageNotCovered.ensures

pub returns-in-EndsEarly : goal.returns-in-EndsEarly
returns-in-EndsEarly g c = rw c.in-EndsEarly.is c.say-in-EndsEarly.ensures
