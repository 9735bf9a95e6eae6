use Rattle.graph_core.proofs.from_counting.Common.{◌≡◌, ◌≢◌, ℕ, ◌-◌, true, sym, ap, ap₂, ◌∙◌, arith, subst, length, List, fun_ext, get_or_default_zero, Within, mem}
use Rattle.match_search.specs.Common.{blossom_length, Touches, paired_round, with_mate, with_pair, numbers}
use Rattle.match_search.proofs.Opening.{IsSmallCycle, mate_near, mate_within, opened_base, opened_tip, small_cycle}
use Rattle.match_search.proofs.blossom.open.Goals as goal
use Rattle.match_search.proofs.blossom.open.Goals.{After-index-base, Else-outside-eq0}

cycle : (c : After-index-base) → IsSmallCycle c.requires.0 c.args.mate.now c.args.blossom.now c.index-base.result.now
cycle c = let q = c.requires in small_cycle q.0 q.1 q.2 q.3 q.4 c.args.instance.now c.args.mate.now c.args.blossom.now q.5 c.index-base.result.now c.index-base.ensures

-- the mate of the base, by the base that the code reads
same_mate : (c : After-index-base) → numbers c.args.mate.now c.index-base.result.now ≡ numbers c.args.mate.now (numbers c.args.blossom.now.cycle.items 1)
same_mate c = ap (numbers c.args.mate.now) (cycle c).base_is

taken : (c : Else-outside-eq0) → numbers c.args.mate.now (numbers c.args.blossom.now.cycle.items 1) ≢ 0
taken c z = let mate = same_mate (goal.at.Else-outside-eq0 c).After-index-base in let h = c.if-outside-eq0.false in absurd (omega arith)

outside : (c : Else-outside-eq0) → Within c.requires.0.order (numbers c.args.mate.now c.index-base.result.now)
outside c =
    let q = c.requires in
    subst (Within q.0.order) (sym (same_mate (goal.at.Else-outside-eq0 c).After-index-base)) (mate_within q.0 q.1 q.2 q.3 q.4 c.args.instance.now c.args.mate.now c.args.blossom.now q.5 (taken c))

pub pair_round-requires-clause-few : goal.pair_round-requires-clause-few
pair_round-requires-clause-few c =
    let small = cycle (goal.at.pair_round-requires-clause-few c).After-index-base in
    let same = ap (λ (row : List ℕ). length row) c.deref.ensures.value in omega arith

pub pair_round-requires-2-clause-few : goal.pair_round-requires-2-clause-few
pair_round-requires-2-clause-few c =
    let small = cycle (goal.at.pair_round-requires-2-clause-few c).After-index-base in
    let same = ap (λ (row : List ℕ). length row) c.deref-3.ensures.value in omega arith

pub near-requires-clause-vertex : goal.near-requires-clause-vertex
near-requires-clause-vertex c = grind (arith, outside)

pub join-requires-clause-v_in : goal.join-requires-clause-v_in
join-requires-clause-v_in c =
    let out = outside (goal.at.join-requires-clause-v_in c).Else-outside-eq0 in
    let long = c.requires.5.long in
    let same = c.expose.auto.mate in omega arith

pub place_in-tip-requires-clause-member : goal.place_in-tip-requires-clause-member
place_in-tip-requires-clause-member c =
    let q = c.requires in
    let mate = same_mate (goal.at.place_in-tip-requires-clause-member c).After-index-base in
    let near = mate_near q.0 q.1 q.2 q.3 q.4 c.args.instance.now c.args.mate.now c.args.blossom.now q.5 (taken (goal.at.place_in-tip-requires-clause-member c).Else-outside-eq0) in
    subst (λ (cycle : List ℕ). (i : ℕ) × Within (length cycle - 1) i × (mem c.near.result (numbers cycle i) ≡ true)) (sym c.deref-2.ensures.value)
    (near.0, near.1, (c.near.ensures (numbers c.args.blossom.now.cycle.items near.0)).1 (near.2, subst (λ (x : ℕ). Touches c.args.instance.now x (numbers c.args.blossom.now.cycle.items near.0)) (sym mate) near.3))

pub returns-then-outside-eq0 : goal.returns-then-outside-eq0
returns-then-outside-eq0 c = λ g r f m n is.
    let mate = same_mate (goal.at.returns-then-outside-eq0 c).After-index-base in
    let free : numbers c.args.mate.now (numbers c.args.blossom.now.cycle.items 1) ≡ 0 = (let h = c.if-outside-eq0.true in omega arith) in
    opened_base g r f m n c.args.instance.now c.args.mate.now c.args.blossom.now is free c.pair_round.new.mate
    (λ u. c.pair_round.ensures u ∙ ap (λ (row : List ℕ). paired_round (numbers c.args.mate.now) (length row - 1) (numbers row) 1 (length row - 1) u) c.deref.ensures.value)

pub returns : goal.returns
returns c = λ g r f m n is.
    let base = (cycle (goal.at.returns c).After-index-base).base_is in
    let mate = ap (numbers c.args.mate.now) base in
    let inside = subst (λ (cycle : List ℕ). Within (length cycle - 1) c.place_in-tip.result) c.deref-2.ensures.value c.place_in-tip.ensures.within in
    let near = subst (λ (x : ℕ). Touches c.args.instance.now x (numbers c.args.blossom.now.cycle.items c.place_in-tip.result)) mate ((c.near.ensures (numbers c.args.blossom.now.cycle.items c.place_in-tip.result)).0 (subst (λ (cycle : List ℕ). mem c.near.result (numbers cycle c.place_in-tip.result) ≡ true) c.deref-2.ensures.value c.place_in-tip.ensures.member)).1 in
    let tip : c.index.result.now ≡ numbers c.args.blossom.now.cycle.items c.place_in-tip.result = c.index.ensures ∙ get_or_default_zero c.args.blossom.now.cycle.items c.place_in-tip.result c.index.result.now (omega arith) in
    opened_tip g r f m n c.args.instance.now c.args.mate.now c.args.blossom.now is (taken (goal.at.returns c).Else-outside-eq0) c.place_in-tip.result inside near c.pair_round-2.new.mate
    (λ u. c.pair_round-2.ensures u ∙ ap (λ (row : List ℕ). paired_round (numbers c.join.new.mate) (length row - 1) (numbers row) c.place_in-tip.result (length row - 1) u) c.deref-3.ensures.value
    ∙ ap (λ (x : ℕ → ℕ). paired_round x (blossom_length c.args.blossom.now) (numbers c.args.blossom.now.cycle.items) c.place_in-tip.result (blossom_length c.args.blossom.now) u) (fun_ext (λ v. c.join.ensures v
    ∙ ap (λ (x : ℕ → ℕ). with_pair x (numbers c.args.mate.now c.index-base.result.now) c.index.result.now v) (fun_ext (λ w. c.expose.ensures w ∙ ap (λ (b : ℕ). with_mate (numbers c.args.mate.now) b 0 w) base))
    ∙ ap₂ (λ (x y : ℕ). with_pair (with_mate (numbers c.args.mate.now) (numbers c.args.blossom.now.cycle.items 1) 0) x y v) mate tip)))
