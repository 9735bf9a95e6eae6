use Rattle.std.specs.Option.{option_map}
use Rattle.front_words.specs.Notes.{kind_note}
use Rattle.front_words.specs.Openings.{beginning_note}
use Rattle.front_words.proofs.OpeningNotes.{opened}
use Rattle.front_words.proofs.notes.say_note.Goals as goal

pub returns-else-is_empty : goal.returns-else-is_empty
returns-else-is_empty g c =
    let said = rw (c.as_bytes.ensures.value, c.beginning_note-opening.ensures) at c.say_bytes.ensures in
    let some = rw c.beginning_note-opening.ensures at c.is_empty.ensures in
    rw (opened (beginning_note c.args.file_kind (option_map (λ text. text.now) c.args.beginning))
    (kind_note c.args.file_kind c.args.kind c.args.sizes (option_map (λ line. line.now) c.args.text)) c.is_empty.result some c.if-is_empty.false)
    said
