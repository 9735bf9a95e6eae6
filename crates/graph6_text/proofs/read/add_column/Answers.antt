use Rattle.graph_core.proofs.from_counting.Common.{◌+◌, ◌++◌, ◌∙◌, drop, sym, arith, err_from_is_err_and}
use Rattle.graph6_text.specs.Common.{bits_of, chosen, chosen_one, column}
use Rattle.graph6_text.proofs.Choosing.{longer_limit}
use Rattle.graph6_text.proofs.ChosenColumns.{column_read_more, column_chosen_all}
use Rattle.graph6_text.proofs.SixBits.{length-bits_of}
use Rattle.graph6_text.proofs.read.add_column.Goals as goal

pub returns-in_err-add_chosen-clause-limit : goal.returns-in_err-add_chosen-clause-limit
returns-in_err-add_chosen-clause-limit c =
    let p = err_from_is_err_and c.from_residual.result c.from_residual.ensures.1 in
    let i = c.loop-i.i in
    let pairs = column c.args.before (c.args.before + 1) in
    let bits = drop c.args.from (bits_of c.args.«data».now) in
    let many = length-bits_of c.args.«data».now in
    let step = column_read_more c.loop-i.graph.ends c.args.before i c.args.from (bits_of c.args.«data».now) c.is_set.result c.loop-i-test.true (omega arith) c.is_set.ensures in
    rw (p.1, p.2) (longer_limit (c.loop-i.graph.ends ++ chosen_one (i + 1, c.args.before + 1) c.is_set.result) (chosen (drop (i + 1) pairs) (drop (i + 1) bits))
    (c.args.graph.now.ends ++ chosen pairs bits) c.in_err-add_chosen.field-0.0 (sym step ∙ c.loop-i.invariant.ends) c.in_err-add_chosen.ensures.limit)

pub loop-i-preserved : goal.loop-i-preserved
loop-i-preserved c = grind (arith, length-bits_of, column_read_more)

pub returns-clause-ends : goal.returns-clause-ends
returns-clause-ends c =
    let bits = drop c.args.from (bits_of c.args.«data».now) in
    column_chosen_all c.loop-i.graph.ends (c.args.graph.now.ends ++ chosen (column c.args.before (c.args.before + 1)) bits) c.args.before c.loop-i.i bits (omega arith) c.loop-i.invariant.ends
