use Rattle.front_words.proofs.unread.say_unread_noted.Goals as goal

pub returns : goal.returns
returns g c = let said = rw (c.as_bytes.ensures.value, c.reason_words.ensures) at c.say.ensures in said
