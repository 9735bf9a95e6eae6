use Rattle.std.proofs.Common.{rules, ◌≡◌, ◌∙◌, ◌++◌, ◌∷◌, [], ap, arith, subst, true, map, List, ℕ, append-nil}
use Rattle.graph_core.proofs.from_counting.Common.{IfOk-weaker, map-append, mem}
use Rattle.two_ears.specs.from_match_search.Common.{marks}
use Rattle.ear_core.specs.Common.{row_edge, is_left, AreMatedEars, IsTraced, PlainEar, ear_of}
use Rattle.ear_core.proofs.Following.{IsMade, collected-none, ear-made, ears-more}
use Rattle.ear_core.proofs.tracing.+collect.Goals as goal
use Rattle.ear_core.proofs.tracing.+collect.Goals.{In_ok-after}

pub returns-in_default : goal.returns-in_default
returns-in_default t c = grind (arith, append-nil (map ear_of c.args.ears.now.items), collected-none)

-- an ear was made from the vertex that is left
made : (t : ℕ) (c : In_ok-after t) →
    IsMade c.args.g.now (marks c.args.mark.now) (row_edge c.args.m.now.rows) (row_edge c.args.n.now.rows) (mem c.args.met) (mem c.args.used) (mem c.in_ok-after.after) (record { begin = c.in-Some.v; edges = c.trace.new.edges })
made t c =
    let g = c.args.g.now in
    let f = marks c.args.mark.now in
    let m = row_edge c.args.m.now.rows in
    let n = row_edge c.args.n.now.rows in
    let left : is_left (mem c.args.met) f m (mem c.args.used) c.in-Some.v ≡ true = search rules in
    let traced : IsTraced g (mem c.args.met) m n (mem c.args.used) c.in-Some.v [] c.trace.new.edges (mem c.in_ok-after.after) = subst (λ (old : List ℕ). IsTraced g (mem c.args.met) m n (mem c.args.used) c.in-Some.v old c.trace.new.edges (mem c.in_ok-after.after)) c.new-edges.ensures c.in_ok-after.ensures in
    ear-made g c.keeps_limits.ensures.multigraph.ends f m n (mem c.args.met) c.requires.met (mem c.args.used) c.requires.holds c.in-Some.v left c.trace.new.edges (mem c.in_ok-after.after) traced

pub collect-requires : goal.collect-requires
collect-requires t c =
    let ear = made t (goal.at.collect-requires t c).In_ok-after in
    let fewer = ear.fewer in
    let falls = c.decreases in
    (first_of (omega arith, search rules), (c.requires.long, (c.requires.met, (c.requires.leading, (c.requires.kept, (c.requires.mates, ear.holds))))))

pub returns : goal.returns
returns t c =
    let g = c.args.g.now in
    let f = marks c.args.mark.now in
    let m = row_edge c.args.m.now.rows in
    let n = row_edge c.args.n.now.rows in
    let ear : PlainEar = record { begin = c.in-Some.v; edges = c.trace.new.edges } in
    let old = map ear_of c.args.ears.now.items in
    let mid : map ear_of c.push.new.self.items ≡ old ++ ear ∷ [] = ap (map ear_of) c.in_ok-push.ensures.items ∙ map-append ear_of c.args.ears.now.items _ in
    IfOk-weaker c.collect.result (λ _. (more : List PlainEar) × (map ear_of c.collect.new.ears.items ≡ map ear_of c.push.new.self.items ++ more) × AreMatedEars g f m n (mem c.in_ok-after.after) more)
    (λ _. (more : List PlainEar) × (map ear_of c.collect.new.ears.items ≡ old ++ more) × AreMatedEars g f m n (mem c.args.used) more)
    (λ _ x. (
      ear ∷ x.0,
      ears-more old (map ear_of c.push.new.self.items) (map ear_of c.collect.new.ears.items) ear x.0 mid x.1,
      (made t (goal.at.returns t c).In_ok-after).more x.0 x.2,
    )) c.collect.ensures
