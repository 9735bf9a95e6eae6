use Rattle.std.proofs.Common.{◌≡◌, ◌∙◌, IfOk, IsSomeAnd, ap, arith, map, string_bytes, subst, sym}
use Rattle.mcg6_top.specs.Common.{EndsOn, file_named_by}
use Rattle.mcg6_top.proofs.Reported.{ends_from, opened-is}
use Rattle.mcg6_top.proofs.installed.program.Goals as goal
use Rattle.mcg6_top.proofs.installed.program.Goals.{in-Ok, in-Err}

pub returns-clause-ends : goal.returns-clause-ends
returns-clause-ends g c = elim c.match-read.branch [
  | in-Ok w ↦ subst (λ r. IfOk r (λ read. IsSomeAnd c.match-read.code.1 (λ source. EndsOn read.asked.words c.match-read.code.0 source c.match-read.sink))) (sym w.in-Ok.is)
      (ends_from w.of-line.result w.in-Ok.read.asked.words w.run-status.result w.new-source.result w.run-status.new.source c.new-sink.result w.run-status.new.sink c.match-read.sink w.code.result c.match-read.code
      (w.of-line.ensures ∙ ap (map string_bytes) w.deref.ensures.value ∙ subst (λ r. IfOk r (λ read. map string_bytes read.words.items ≡ read.asked.words)) w.in-Ok.is c.read_arguments-read.ensures.all)
      (opened-is w.open.result w.new-source.result _ (file_named_by w.of-line.result) w.new-source.ensures w.open.ensures w.file.ensures)
      c.new-sink.ensures w.sink-is w.code-is w.code.ensures w.run-status.ensures)
  | in-Err w ↦ grind arith
]
