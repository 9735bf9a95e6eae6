use Rattle.front_words.proofs.Sayings.{says_piece}
use Rattle.front_words.proofs.showing.say_bytes.Goals as goal

pub returns : goal.returns
returns g c =
    says_piece g.K.Sink.written g.K.Sink.writes g.K.Sink.faults c.args.bytes.now c.emit.result c.args.sink.now c.emit.new.sink
    c.emit.ensures.ok c.emit.ensures.err c.emit.ensures.whole c.emit.ensures.later c.emit.ensures.failed
