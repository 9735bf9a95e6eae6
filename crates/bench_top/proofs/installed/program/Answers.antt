use Rattle.std.proofs.Common.{◌≡◌, ◌∙◌, IfOk, ap, arith, map, string_bytes, subst, sym}
use Rattle.bench_top.specs.Installed.{EndsOn}
use Rattle.bench_top.proofs.Reported.{ends_from}
use Rattle.bench_top.proofs.installed.program.Goals as goal
use Rattle.bench_top.proofs.installed.program.Goals.{in-Ok, in-Err}

pub returns-clause-ends : goal.returns-clause-ends
returns-clause-ends g c = elim c.match-read.branch [
  | in-Ok w ↦ subst (λ r. IfOk r (λ read. EndsOn read.asked.words c.match-read.code c.match-read.shelf c.match-read.sink)) (sym w.in-Ok.is)
      (ends_from (map string_bytes w.deref.result.now) w.in-Ok.read.asked.words c.match-read.code w.run.result c.new-shelf.result w.run.new.shelf c.match-read.shelf c.new-sink.result w.run.new.sink c.match-read.sink
      (ap (map string_bytes) w.deref.ensures.value ∙ subst (λ r. IfOk r (λ read. map string_bytes read.words.items ≡ read.asked.words)) w.in-Ok.is c.read_arguments-read.ensures.all) c.new-shelf.ensures c.new-sink.ensures w.shelf-is w.sink-is (w.code-is ∙ w.code-code.ensures) w.run.ensures)
  | in-Err w ↦ grind arith
]
