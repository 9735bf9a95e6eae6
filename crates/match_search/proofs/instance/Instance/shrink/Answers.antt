use Rattle.graph_core.proofs.from_counting.Common.{◌≡◌, ℕ, ◌++◌, List, ap, sym, ◌∙◌, subst, length, take, drop, rules, take-append_seam, Set, mem}
use Rattle.match_search.specs.Common.{IsGathered, IsUnionOf}
use Rattle.match_search.proofs.instance.Instance.shrink.Goals as goal

-- rows that are written back through a slice are gathered if those of the slice are
written_back : (len : ℕ) (before now new : List (List ℕ)) (x : Set) (z : ℕ) (row : List ℕ) → now ≡ before → length new ≡ len → IsUnionOf before x row → ((y : Set) → IsUnionOf now y row → IsGathered now y z new) → IsGathered before x z (take len (new ++ drop (length new) before))
written_back len before now new x z row same long united gathered =
    subst (λ (rows : List (List ℕ)). IsGathered before x z rows) (sym (ap (λ k. take k (new ++ drop (length new) before)) (sym long) ∙ take-append_seam new (drop (length new) before)))
    (subst (λ (rows : List (List ℕ)). IsGathered rows x z new) same (gathered x (subst (λ (rows : List (List ℕ)). IsUnionOf rows x row) (sym same) united)))

pub returns-clause-shrunk : goal.returns-clause-shrunk
returns-clause-shrunk c = record {
  rows = written_back c.args.self.now.rows.len c.args.self.now.rows.items c.deref_mut.result.now c.replace_row-row.new.rows (mem c.args.cycle) c.args.base c.unions_of-all_rows.result.0 c.deref_mut.ensures.value (c.replace_row-row.auto.rows ∙ c.deref_mut.ensures.len)
      (subst (λ (rows : List (List ℕ)). IsUnionOf rows (mem c.args.cycle) c.unions_of-all_rows.result.0) c.deref.ensures.value c.unions_of-all_rows.ensures.rows) c.replace_row-row.ensures.gathered;
  members = written_back c.args.self.now.members.len c.args.self.now.members.items c.deref_mut-2.result.now c.replace_row-members.new.rows (mem c.args.cycle) c.args.base c.unions_of-all_rows.result.1 c.deref_mut-2.ensures.value (c.replace_row-members.auto.rows ∙ c.deref_mut-2.ensures.len)
      (subst (λ (rows : List (List ℕ)). IsUnionOf rows (mem c.args.cycle) c.unions_of-all_rows.result.1) c.deref-2.ensures.value c.unions_of-all_rows.ensures.members) c.replace_row-members.ensures.gathered;
  blossoms = search rules;
  left = search rules;
}
