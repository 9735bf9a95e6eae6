use Rattle.std.proofs.Common.{◌∙◌, sym}
use Rattle.two_ears.specs.from_match_search.Common.{marks}
use Rattle.ear_core.proofs.LoneTables.{lone-sound, lone-complete}
use Rattle.ear_core.proofs.lone_tables.lone_with.Goals as goal

pub returns-clause-sound : goal.returns-clause-sound
returns-clause-sound c = λ v t.
    let g = c.args.g.now in
    let f = marks c.args.mark.now in
    let p = (c.in_ok-row.ensures.row g f c.keeps_limits.ensures.multigraph.ends c.requires.stage v).0 t in
    let q = lone-sound g c.keeps_limits.ensures.multigraph f c.args.tables.now c.requires.tables c.args.u p.0.1 v p.0 (sym (c.reached_from.ensures v) ∙ p.1) in
    (q.0, p.0.1, q.1, q.2)

pub returns-clause-complete : goal.returns-clause-complete
returns-clause-complete c = λ v d on_u on m by.
    let g = c.args.g.now in
    let f = marks c.args.mark.now in
    let p = lone-complete g c.keeps_limits.ensures.multigraph f c.args.tables.now c.requires.tables c.args.u on_u v d on m by in
    (c.in_ok-row.ensures.row g f c.keeps_limits.ensures.multigraph.ends c.requires.stage v).1 (p.0, c.reached_from.ensures v ∙ p.1)
