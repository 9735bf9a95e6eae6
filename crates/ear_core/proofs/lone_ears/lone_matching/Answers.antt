use Rattle.graph_core.proofs.from_counting.Common.{◌∙◌, subst, sym, fun_ext, mem, Set}
use Rattle.graph_core.proofs.Common.{Graph}
use Rattle.two_ears.specs.from_match_core.Common.{ArePartners}
use Rattle.ear_core.proofs.lone_ears.lone_matching.Goals as goal

pub keep-requires : goal.keep-requires
keep-requires c =
    let outer = c.in_ok-tables.tables.outer in
    let tables = c.in_ok-tables.ensures.tables in
    subst (λ (h : Graph). ArePartners h (mem c.args.met) outer) (sym (c.in_ok-tables.ensures.last ∙ c.requires.last))
    (subst (λ (x : Set). ArePartners c.args.g.now x outer) (sym (fun_ext c.requires.met)) tables.outer)
