use Rattle.std.proofs.Common.{◌≡◌, None, arith, map, string_bytes}
use Rattle.front_words.specs.Answers.{answer_of}
use Rattle.front_words.specs.declared.programs.Program.TheVariants.{Mcg}
use Rattle.front_top.proofs.EachRun.{fronts_run}
use Rattle.front_top.proofs.fronting.run_front.Goals as goal

pub returns-in-None-clause-fronts : goal.returns-in-None-clause-fronts
returns-in-None-clause-fronts g c =
    let run = c.run_ending-ending in
    let words = map string_bytes c.args.words.now in
    let none : answer_of Mcg words ≡ None = grind (arith, c.answer_of.ensures, c.in-None.is) in
    fronts_run g.S.Shelf.files g.S.Shelf.steady g.S.Shelf.faults g.S.Shelf.reads g.S.Explain.reason g.K.Sink.written g.K.Sink.writes g.K.Sink.faults words c.args.is_quiet
    c.is_abandoned.result c.message_on_run.result run.result _ _ _ _ none run.ensures c.message_on_run.ensures.quiet c.message_on_run.ensures.loud
