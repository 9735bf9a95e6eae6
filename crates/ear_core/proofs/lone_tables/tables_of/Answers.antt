use Rattle.graph_core.proofs.from_counting.Common.{subst, sym, mem}
use Rattle.graph_core.proofs.Common.{Graph}
use Rattle.two_ears.specs.from_match_core.Common.{ArePartners, IsOf}
use Rattle.two_ears.specs.from_match_search.Common.{marks}
use Rattle.ear_core.proofs.LoneTables.{tables-are}
use Rattle.ear_core.proofs.lone_tables.tables_of.Goals as goal

pub take-requires : goal.take-requires
take-requires c = subst (λ (h : Graph). IsOf h c.args.kept.now) (sym c.requires.last) c.requires.kept.of

pub returns-clause-tables : goal.returns-clause-tables
returns-clause-tables c =
    tables-are c.args.g.now c.keeps_limits.ensures.multigraph.ends (marks c.args.mark.now) c.args.kept.now c.requires.kept c.requires.mates
    (record { outer = c.in_ok-outer.outer; near = c.in_ok-near.near }) (mem c.args.met) c.requires.met (subst (λ (h : Graph). ArePartners h (mem c.args.met) c.in_ok-outer.outer) c.requires.last c.in_ok-outer.ensures.table) c.in_ok-near.ensures.long c.in_ok-near.ensures.each
