use Rattle.graph_core.proofs.from_counting.Common.{◌≡◌, ◌⊎◌, ◌+◌, true, sym, subst, ◌∙◌, inl, inr, arith, cases_lt, mem}
use Rattle.tight_cuts.proofs.ThirdEdges.{odd_apart}
use Rattle.tight_cuts.specs.Common.{HasFewLater, LeavesAlone}
use Rattle.tight_cuts.proofs.quick_tightness.is_uncrossed.Goals.{then-is_odd, else-is_odd, else-not-is_last-via-then-not-is_last+in_ok-leaves_alone+else-not-branch, else-not-is_last-via-else-not-is_last}
use Rattle.tight_cuts.proofs.quick_tightness.is_uncrossed.Goals as goal

pub loop-k-preserved : goal.loop-k-preserved
loop-k-preserved c = λ u w.
    let here : LeavesAlone c.args.g.now (mem c.args.set) (c.loop-k.k + 1) ⊎ ((c.is_odd_in-is_odd.result ≡ true) × HasFewLater c.args.g.now (mem c.args.set) (c.loop-k.k + 1)) = elim c.else-not-is_last.branch [
      | else-not-is_last-via-then-not-is_last+in_ok-leaves_alone+else-not-branch x ↦ inl (x.in_ok-leaves_alone.ensures (grind arith))
      | else-not-is_last-via-else-not-is_last x ↦ inr (elim c.if-is_odd.branch [
        | then-is_odd y ↦ (y.if-is_odd.true, y.has_few_later-is_last.ensures (grind arith))
        | else-is_odd y ↦ absurd (cc)
      ])
    ] in
    elim (cases_lt c.loop-k.k u) [
      | inl l ↦
          let q : c.loop-k.k + 1 ≡ u = let b = w.1 in omega arith in
          subst (λ v. LeavesAlone c.args.g.now (mem c.args.set) v ⊎ ((c.is_odd_in-is_odd.result ≡ true) × HasFewLater c.args.g.now (mem c.args.set) v)) q here
      | inr l ↦ c.loop-k.invariant u (w.0, l)
    ]

pub returns : goal.returns
returns c t = odd_apart c.args.g.now (mem c.args.set) c.keeps_limits.ensures.multigraph.ends c.is_odd_in-is_odd.result (λ q. sym c.is_odd_in-is_odd.ensures ∙ q) (λ u w. c.loop-k.invariant u (w.0, let l = c.loop-k-test.false in let s = c.order-k-end.ensures.is in let x = w.1 in omega arith))
