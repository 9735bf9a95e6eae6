use Rattle.graph_core.proofs.from_counting.Common.{◌≡◌, ◌∙◌, ◌==◌, not, Bool, None, ap₂, max, min, sym, subst₂, true, false, arith, IfOk-weaker, and_parts, pair_set}
use Rattle.tight_cuts.specs.Common.{first_separated, greater_end, lesser_end, at_place, AreWhole}
use Rattle.tight_cuts.proofs.EdgePieces.{inseparable, whole_before}
use Rattle.tight_cuts.proofs.inseparable.is_inseparable.Goals as goal

pub are_whole-requires-clause-leaders : goal.are_whole-requires-clause-leaders
are_whole-requires-clause-leaders c = grind arith

pub returns-clause-none : goal.returns-clause-none
returns-clause-none c =
    let g = c.args.g.now in
    let e = c.args.e in
    let x = c.args.x in
    let lesser : c.min-a.result ≡ lesser_end g e = c.min-a.ensures ∙ ap₂ min c.ends-ends.ensures.first c.ends-ends.ensures.second in
    let greater : c.max-b.result ≡ greater_end g e = c.max-b.ensures ∙ ap₂ max c.ends-ends.ensures.first c.ends-ends.ensures.second in
    let led = and_parts (not (pair_set c.min-a.result c.max-b.result x)) (at_place c.args.leaders.now x == x) (sym c.leads.ensures ∙ c.if-not-leads.false) in
    let apart : pair_set c.min-a.result c.max-b.result x ≡ false = grind arith in
    let outside : pair_set (lesser_end g e) (greater_end g e) x ≡ false = subst₂ (λ i j. pair_set i j x ≡ false) lesser greater apart in
    IfOk-weaker c.are_whole.result (λ (r : Bool). r ≡ true → AreWhole g c.max-b.result c.min-a.result x) (λ (r : Bool). r ≡ true → first_separated g e ≡ None)
    (λ r far q. inseparable g e x (whole_before g c.keeps_limits.ensures c.requires.leaders.covered e c.requires.leaders.edge x c.requires.x outside c.requires.before) (subst₂ (λ i j. AreWhole g j i x) lesser greater (far q)))
    c.are_whole.ensures.whole
