use Rattle.std.proofs.Common.{◌≡◌, ◌∙◌, IfOk, ap, arith, map, string_bytes, subst, sym}
use Rattle.bench_top.specs.from_outside.Common.{OpenState, PrintState}
use Rattle.bench_top.specs.Installed.{nothing_given, nothing_printed}
use Rattle.front_top.specs.Installed.{EndsOn}
use Rattle.front_top.proofs.Reported.{RanFrom, ends_from}
use Rattle.front_top.proofs.installed.program.Goals as goal
use Rattle.front_top.proofs.installed.program.Goals.{in-Ok, in-Err}

pub returns-clause-ends : goal.returns-clause-ends
returns-clause-ends g c = elim c.match-read.branch [
  | in-Ok w ↦ subst (λ r. IfOk r (λ read. EndsOn read.asked.words c.match-read.code c.match-read.shelf c.match-read.sink c.match-read.errors)) (sym w.in-Ok.is)
      (ends_from _ _ _ _ (λ before name bytes now read. read.given) _
      (map string_bytes w.deref.result.now) w.in-Ok.read.asked.words c.is_quiet-quiet.result w.run_front-ending.result.is_abandoned w.run_front-ending.result.status w.run_front-ending.result.message
      c.new-shelf.result w.run_front-ending.new.shelf c.match-read.shelf c.new-sink.result w.run_front-ending.new.sink c.match-read.sink c.match-read.code
      (ap (map string_bytes) w.deref.ensures.value ∙ subst (λ r. IfOk r (λ read. map string_bytes read.words.items ≡ read.asked.words)) w.in-Ok.is c.read_arguments-read.ensures.all)
      (ap (λ (s : OpenState). s.given) c.new-shelf.ensures) (ap (λ (k : PrintState). k.printed) c.new-sink.ensures) w.shelf-is w.sink-is (w.code-is ∙ w.said_code-code.ensures.code) w.run_front-ending.ensures.is_abandoned
      (map string_bytes w.run_front-ending.result.words.now) c.new-errors.result w.said_code-code.new.errors c.match-read.errors (ap (map string_bytes) w.run_front-ending.ensures.words) c.new-errors.ensures w.errors-is w.said_code-code.ensures.says w.run_front-ending.ensures.fronts
      (λ none. subst (λ (s : OpenState). RanFrom (map string_bytes w.deref.result.now) w.run_front-ending.result.status s w.run_front-ending.new.shelf nothing_printed w.run_front-ending.new.sink) c.new-shelf.ensures
      (subst (λ (k : PrintState). RanFrom (map string_bytes w.deref.result.now) w.run_front-ending.result.status c.new-shelf.result w.run_front-ending.new.shelf k w.run_front-ending.new.sink) c.new-sink.ensures
      (w.run_front-ending.ensures.fronts.runs none))))
  | in-Err w ↦ grind arith
]
