use Rattle.std.proofs.Common.{◌≡◌, None, arith, subst, sym}
use Rattle.mcg6_top.specs.declared.status.ListStatus.{ListStatus}
use Rattle.front_words.specs.Answers.{answer_of}
use Rattle.front_words.specs.declared.programs.Program.TheVariants.{Mcg6}
use Rattle.mcg6_front_top.specs.Fronts.{ListFronts}
use Rattle.mcg6_front_top.proofs.EachRun.{fronts_run}
use Rattle.mcg6_front_top.proofs.fronting.run_list_front.Goals as goal

pub returns-in-None-clause-fronts : goal.returns-in-None-clause-fronts
returns-in-None-clause-fronts g c =
    let run = c.run_to_ending-end in
    let none : answer_of Mcg6 c.args.line.now ≡ None = grind (arith, c.words.ensures, c.answer_of.ensures, c.in-None.is) in
    subst (λ (s : ListStatus). ListFronts g.S.Source.left g.S.Source.faults g.S.Source.reads g.K.Sink.written g.K.Sink.writes g.K.Sink.faults c.args.line.now
    c.args.is_quiet c.is_abandoned.result s c.message_on_run.result c.args.source.now run.new.source c.args.sink.now run.new.sink)
    (sym c.status_in.ensures)
    (fronts_run g.S.Source.left g.S.Source.faults g.S.Source.reads g.K.Sink.written g.K.Sink.writes g.K.Sink.faults c.args.line.now c.args.is_quiet
    c.is_abandoned.result c.message_on_run.result run.result _ _ _ _ none run.ensures c.message_on_run.ensures.quiet c.message_on_run.ensures.loud)
