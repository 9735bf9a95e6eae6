-- A read that failed is the stop, and one that wants memory is want of memory.
use Rattle.std.proofs.Common.{Err, refl}
use Rattle.outside.specs.declared.shelf.ShelfFault.TheVariants.{Failed, Memory}
use Rattle.bench_tasks.proofs.loading.load.Goals as goal

pub returns-in-Err-Failed-clause-answered : goal.returns-in-Err-Failed-clause-answered
returns-in-Err-Failed-clause-answered g c =
    let read = rw c.in-Err-Failed.field-0-is at c.in-Err-Failed.ensures.reads in
    record { answer = Err Failed; read = read; failed = refl; carries = tt; loads = λ files gave. tt }

pub returns-in-Err-Memory-clause-answered : goal.returns-in-Err-Memory-clause-answered
returns-in-Err-Memory-clause-answered g c =
    let read = rw c.in-Err-Memory.field-0-is at c.in-Err-Memory.ensures.reads in
    record { answer = Err Memory; read = read; failed = refl; carries = tt; loads = λ files gave. tt }
