use Rattle.std.proofs.Common.{◌≡◌, ◌∙◌, IfOk, IsSomeAnd, ap, arith, map, string_bytes, subst, sym}
use Rattle.mcg6_top.specs.Common.{file_named_by}
use Rattle.mcg6_top.proofs.Reported.{opened-is}
use Rattle.mcg6_front_top.specs.Installed.{EndsOn}
use Rattle.mcg6_front_top.proofs.Reported.{ends_from}
use Rattle.mcg6_front_top.proofs.installed.program.Goals as goal
use Rattle.mcg6_front_top.proofs.installed.program.Goals.{in-Ok, in-Err}

pub returns-clause-ends : goal.returns-clause-ends
returns-clause-ends g c = elim c.match-read.branch [
  | in-Ok w ↦ subst (λ r. IfOk r (λ read. IsSomeAnd c.match-read.code.1 (λ source. EndsOn read.asked.words c.match-read.code.0 source c.match-read.sink c.match-read.errors))) (sym w.in-Ok.is)
      (ends_from w.of-line.result w.in-Ok.read.asked.words c.is_quiet-quiet.result w.run_list_front-ending.result.clues.is_abandoned w.run_list_front-ending.result.status w.run_list_front-ending.result.message
      w.new-source.result w.run_list_front-ending.new.source c.new-sink.result w.run_list_front-ending.new.sink c.match-read.sink w.said_code.result c.match-read.code
      (w.of-line.ensures ∙ ap (map string_bytes) w.deref.ensures.value ∙ subst (λ r. IfOk r (λ read. map string_bytes read.words.items ≡ read.asked.words)) w.in-Ok.is c.read_arguments-read.ensures.all)
      (opened-is w.open.result w.new-source.result _ (file_named_by w.of-line.result) w.new-source.ensures w.open.ensures w.file.ensures)
      c.new-sink.ensures w.sink-is w.code-is w.said_code.ensures.code
      w.run_list_front-ending.result.line.now w.run_list_front-ending.result.clues c.new-errors.result w.said_code.new.errors c.match-read.errors w.run_list_front-ending.ensures.words c.new-errors.ensures w.errors-is w.said_code.ensures.says w.run_list_front-ending.ensures.fronts)
  | in-Err w ↦ grind arith
]
