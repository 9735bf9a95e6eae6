use Rattle.std.proofs.Common.{◌++◌, ◌∷◌, ◌∙◌, ap, List, nat_lt, filter, append-nil, append_assoc, arith}
use Rattle.std.proofs.lemmas.List.{take_all}
use Rattle.std.proofs.lemmas.List.Elements.{filter_more}
use Rattle.match_core.specs.declared.matching.MatchRow.{MatchRow}
use Rattle.match_core.proofs.matching.rows_with.Goals as goal

pub lower-init : goal.lower-init
lower-init c = grind (arith, c.in_ok-all.ensures.items)

pub lower-preserved : goal.lower-preserved
lower-preserved c =
    let d : MatchRow = record { edge = 0; a = 0; b = 0 } in
    let more = filter_more (λ (row : MatchRow). nat_lt row.edge c.args.new.edge) c.args.rows.now c.lower.row-index d c.lower-test.true in
    grind (arith, append-nil)

pub higher-init : goal.higher-init
higher-init c = grind (arith, take_all, append-nil)

pub higher-preserved : goal.higher-preserved
higher-preserved c =
    let d : MatchRow = record { edge = 0; a = 0; b = 0 } in
    let more = filter_more (λ (row : MatchRow). nat_lt c.args.new.edge row.edge) c.args.rows.now c.higher.row-index d c.higher-test.true in
    grind (arith, append-nil, append_assoc)

pub returns : goal.returns
returns c =
    let rows = c.args.rows.now in
    let all = take_all c.higher.row-index rows (let t = c.higher-test.false in omega arith) in
    c.higher.invariant ∙ ap (λ (part : List MatchRow). filter (λ row. nat_lt row.edge c.args.new.edge) rows ++ c.args.new ∷ filter (λ row. nat_lt c.args.new.edge row.edge) part) all
