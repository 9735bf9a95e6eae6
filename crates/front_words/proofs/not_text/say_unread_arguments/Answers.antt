use Rattle.front_words.proofs.not_text.say_unread_arguments.Goals as goal

pub returns-in-Memory : goal.returns-in-Memory
returns-in-Memory g c = rw c.in-Memory.is c.say_nothing_written.ensures

pub returns-in-NotText : goal.returns-in-NotText
returns-in-NotText g c = let said = rw c.deref.ensures.value at c.say_not_text.ensures in rw c.in-NotText.is said
