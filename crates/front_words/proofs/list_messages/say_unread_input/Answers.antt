use Rattle.front_words.proofs.list_messages.say_unread_input.Goals as goal

pub returns : goal.returns
returns g c = let said = rw c.reason_words.ensures at c.say.ensures in said
