use Rattle.graph_core.proofs.from_counting.Common.{ℕ, ◌-◌, sym, ap, ◌∙◌, arith, inl, inr, List, [], true≢false, get_or_read, mem}
use Rattle.match_search.proofs.Instances.{first_in, near_found}
use Rattle.match_search.proofs.instance.Instance.near.Goals as goal

pub index-requires : goal.index-requires
index-requires c = grind (arith, first_in c.blossoms.rest c.in-Some.others c.in-Some.b c.in-Some.ensures.some)

pub returns : goal.returns
returns c =
    let q = c.requires.instance in
    let vertex = c.requires.vertex in
    near_found q.0 q.1 c.args.self.now q.2 c.args.v c.index-row.result.now c.blossoms.near c.meet.result (get_or_read c.args.self.now.rows.items (c.args.v - 1) c.index-row.result.now (omega arith) c.index-row.ensures [])
    c.blossoms.invariant.from c.blossoms.invariant.kept
    (λ w u b r m. elim (c.blossoms.invariant.found w u b r m) [
      | inl o ↦ absurd (true≢false (sym o ∙ ap (λ (xs : List ℕ). mem xs w) c.in_default.ensures.none))
      | inr o ↦ o
    ]) c.meet.ensures
