use Rattle.graph_core.proofs.from_counting.Common.{ℕ, List, ◌+◌, ◌++◌, ◌∙◌, ap, arith, drop, length, ◌*◌, err_from_is_err_and}
use Rattle.graph6_text.specs.Common.{bits_of, chosen, column, column_pairs}
use Rattle.graph6_text.proofs.Choosing.{longer_limit}
use Rattle.graph6_text.proofs.ChosenColumns.{columns_chosen_front, columns_chosen_more, columns_chosen_none, columns_long}
use Rattle.graph6_text.proofs.Columns.{column_pairs-zero, length-next}
use Rattle.graph6_text.proofs.read.with_edges.Goals as goal

pub loop-i-init : goal.loop-i-init
loop-i-init c = grind (arith, columns_chosen_none (bits_of c.args.«data».now), column_pairs-zero)

pub add_column-requires-clause-long : goal.add_column-requires-clause-long
add_column-requires-clause-long c = columns_long c.loop-i.i c.args.n c.loop-i.from (6 * length c.args.«data».now) c.loop-i-test.true c.requires.long c.loop-i.invariant.place

pub overflow_add-from : goal.overflow_add-from
overflow_add-from c =
    let within = columns_long c.loop-i.i c.args.n c.loop-i.from (6 * length c.args.«data».now) c.loop-i-test.true c.requires.long c.loop-i.invariant.place in
    let short = c.requires.short in
    omega arith

pub returns-in_err-add_column-clause-limit : goal.returns-in_err-add_column-clause-limit
returns-in_err-add_column-clause-limit c =
    let p = err_from_is_err_and c.from_residual-in_err-add_column.result c.from_residual-in_err-add_column.ensures.1 in
    let i = c.loop-i.i in
    let bits = bits_of c.args.«data».now in
    let rest = drop c.loop-i.from bits in
    let next = columns_chosen_more c.loop-i.graph.ends i bits rest c.loop-i.invariant.ends (ap (λ (k : ℕ). drop k bits) c.loop-i.invariant.place) in
    let front = columns_chosen_front (i + 1) c.args.n bits (omega arith) in
    rw (p.1, p.2) (longer_limit (c.loop-i.graph.ends ++ chosen (column i (i + 1)) rest) front.0 (chosen (column_pairs c.args.n) bits) c.in_err-add_column.field-0.0
    (ap (λ (edges : List (ℕ × ℕ)). edges ++ front.0) next ∙ front.1) c.in_err-add_column.ensures.limit)

pub loop-i-preserved : goal.loop-i-preserved
loop-i-preserved c = grind (arith, length-next, columns_chosen_more)
