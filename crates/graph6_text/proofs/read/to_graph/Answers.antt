use Rattle.graph_core.proofs.from_counting.Common.{◌≡◌, ◌≤◌, ◌++◌, ◌∙◌, ap, arith, subst, None, true, drop, length, IfErr-weaker, on_ok_weaker, list_all}
use Rattle.graph6_text.specs.Common.{bits_of, chosen, column_pairs, data_len, data_of, IsFirstFaultOfRows, faults_of, is_digit, limit_row, first_fault}
use Rattle.graph6_text.proofs.Columns.{length-column_pairs}
use Rattle.graph6_text.proofs.Passing.{formed, digits-data, padding_row, last_rows, graph-from_bits, is_first-behind, first_fault-append}
use Rattle.graph6_text.proofs.read.to_graph.Goals as goal
use Rattle.graph6_text.proofs.read.to_graph.Goals.{After-pair_count}

-- the bytes of the data are digits, and few
digits : (c : After-pair_count) → list_all is_digit c.data-data.result.now ≡ true
digits c = let d = digits-data c.args.body.now (formed c.args.body.now c.requires) in rw (c.data-data.ensures) d

few : (c : After-pair_count) → length c.data-data.result.now ≤ data_len 128
few c = grind (arith, formed)

-- their bits are those of the body's data
turned : (c : After-pair_count) → bits_of c.data-data.result.now ≡ bits_of (data_of c.args.body.now)
turned c = ap bits_of c.data-data.ensures

-- the last two rows of the table, by these bits
rows : (c : After-pair_count) → padding_row c.pair_count.result (bits_of c.data-data.result.now) ++ limit_row (chosen (column_pairs c.order-n.result) (bits_of c.data-data.result.now)) ≡ drop 9 (faults_of c.args.body.now)
rows c = grind (arith, length-column_pairs, last_rows, turned)

pub check_filling-requires-clause-digits : goal.check_filling-requires-clause-digits
check_filling-requires-clause-digits c = digits ((goal.at.check_filling-requires-clause-digits c).After-pair_count)

pub with_edges-requires-clause-digits : goal.with_edges-requires-clause-digits
with_edges-requires-clause-digits c = digits ((goal.at.with_edges-requires-clause-digits c).After-pair_count)

pub returns-clause-graph : goal.returns-clause-graph
returns-clause-graph c = grind (arith, graph-from_bits, turned)

pub returns-clause-passed : goal.returns-clause-passed
returns-clause-passed c =
    let at = (goal.at.returns-clause-passed c).After-pair_count in
    on_ok_weaker c.with_edges.result (λ none. subst (λ rows. first_fault rows ≡ None) (rows at)
    (first_fault-append (padding_row c.pair_count.result (bits_of c.data-data.result.now)) (limit_row (chosen (column_pairs c.order-n.result) (bits_of c.data-data.result.now))) c.in_ok-check_filling.ensures ∙ none))
    c.with_edges.ensures.within

pub returns-clause-fault : goal.returns-clause-fault
returns-clause-fault c =
    let at = (goal.at.returns-clause-fault c).After-pair_count in
    IfErr-weaker c.with_edges.result _ _ (λ e h. subst (λ rows. IsFirstFaultOfRows rows e) (rows at)
    (is_first-behind (padding_row c.pair_count.result (bits_of c.data-data.result.now)) (limit_row (chosen (column_pairs c.order-n.result) (bits_of c.data-data.result.now))) e c.in_ok-check_filling.ensures h))
    c.with_edges.ensures.limit
