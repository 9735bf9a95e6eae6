use Rattle.front_words.proofs.Sayings.{says-then, says-stopped}
use Rattle.mcg6_front_top.specs.Words.{skipped_words}
use Rattle.mcg6_front_top.proofs.speaking.say_skipping_ending.Goals as goal

pub returns-in-Ok : goal.returns-in-Ok
returns-in-Ok g c =
    let said = rw c.deref.ensures.value at c.in-Ok.ensures in
    says-then g.E.Sink.written g.E.Sink.writes g.E.Sink.faults (skipped_words c.args.end.now.skipped.items) _
    _ c.args.errors.now c.say_skipped.new.errors c.say_list_ending.new.errors said c.say_list_ending.ensures

pub returns-in-Err : goal.returns-in-Err
returns-in-Err g c =
    let said = rw c.deref.ensures.value at c.in-Err.ensures in
    says-stopped g.E.Sink.written g.E.Sink.writes g.E.Sink.faults (skipped_words c.args.end.now.skipped.items) _
    _ c.args.errors.now c.say_skipped.new.errors said
