use Rattle.outside.specs.Common.{file_named}
use Rattle.bench_tasks.specs.Common.{place_name, file_read}
use Rattle.bench_tasks.proofs.AnswersMade.{answered-first}
use Rattle.bench_tasks.proofs.loading.load_first.Goals as goal

pub returns-clause-answered : goal.returns-clause-answered
returns-clause-answered g c =
    answered-first g.S.Shelf.reads c.args.name.now g.F.FileFormat.meaning (λ files. file_read 1 (g.F.FileFormat.reading c.args.format.now) (file_named (place_name 1) files))
    c.load.result c.args.shelf.now c.load.new.shelf c.load.ensures.stops c.load.ensures.answered
