use Rattle.graph_core.proofs.from_counting.Common.{ℕ, ◌==◌, ◌&&◌, not, nat_lt, nat_le, List, length, sym, ap, ◌∙◌, subst, arith, IfOk-weaker, mem, Set}
use Rattle.graph_core.proofs.Common.{graph_of}
use Rattle.match_search.specs.Common.{NamesEdges, marks, numbers, IsRepairRow, Misses}
use Rattle.match_core.specs.Common.{StartsWalk}
use Rattle.match_core.proofs.NamedEdges.{free_misses, none_free}
use Rattle.match_core.proofs.repairs.repair_path.Goals as goal

pub unreachable-requires : goal.unreachable-requires
unreachable-requires c = grind (arith, none_free c.args.n c.args.ends.now (mem c.args.removed) (marks c.args.mark.now) c.in_ok-at.at.items c.in_ok-at.ensures.named c.free.result, nat_lt 0, nat_le)

pub walk-requires : goal.walk-requires
walk-requires c = grind (arith, free_misses c.args.n c.args.ends.now (mem c.args.removed) (marks c.args.mark.now) c.in_ok-at.at.items c.in_ok-at.ensures.named c.free.result, nat_lt 0, nat_le)

pub returns : goal.returns
returns c =
    let start : StartsWalk c.args.n (mem c.args.removed) (marks c.args.mark.now) c.requires.found.m c.args.ends.now c.deref-in-Some.result.now c.args.found.now c.in-Some.x =
    record {
      row = c.requires.row;
      at_long = ap (λ (row : List ℕ). length row) c.deref-in-Some.ensures.value ∙ c.in_ok-at.ensures.length;
      named = subst (λ (row : List ℕ). NamesEdges c.args.ends.now (marks c.args.mark.now) row (length c.args.ends.now)) (sym c.deref-in-Some.ensures.value) c.in_ok-at.ensures.named;
      other_long = c.requires.found.long;
      other_named = c.requires.found.named;
      matching = c.requires.matching;
      perfect = c.requires.found.perfect;
      two = c.requires.two;
      missed = free_misses c.args.n c.args.ends.now (mem c.args.removed) (marks c.args.mark.now) c.in_ok-at.at.items c.in_ok-at.ensures.named c.free.result (λ v. c.free.ensures v ∙ ap (λ row. (nat_lt 0 v && nat_le v c.args.n) && (not (mem c.args.removed v) && (numbers row v == 0))) c.deref.ensures.value) c.in-Some.x c.in-Some.ensures.some.member;
    } in
    IfOk-weaker c.walk.result (λ es. (n : ℕ) (r m w : Set) → StartsWalk n r m w c.args.ends.now c.deref-in-Some.result.now c.args.found.now c.in-Some.x → IsRepairRow (graph_of n c.args.ends.now) r m c.in-Some.x es.items)
    (λ es. (x : ℕ) × Misses (graph_of c.args.n c.args.ends.now) (mem c.args.removed) (marks c.args.mark.now) x × IsRepairRow (graph_of c.args.n c.args.ends.now) (mem c.args.removed) (marks c.args.mark.now) x es.items)
    (λ es row. (c.in-Some.x, start.missed, row c.args.n (mem c.args.removed) (marks c.args.mark.now) c.requires.found.m start)) c.walk.ensures
