use Rattle.graph_core.proofs.from_counting.Common.{◌≡◌, ◌≢◌, ℕ, ◌+◌, ◌-◌, ◌<◌, sym, ap, ◌∙◌, arith, inl, inr, length, List, slice_set, get_or-set_same, get_or-set_other, cases_eq}
use Rattle.match_search.specs.Common.{numbers}
use Rattle.match_search.proofs.ForestWalks.{climbs, goes_on, has_mate, has_pairs}
use Rattle.match_search.proofs.PathsUp.{unwritten, up_parts, path_written}
use Rattle.match_search.proofs.paths.write_path.Goals as goal
use Rattle.match_search.proofs.paths.write_path.Goals.{In-loop-i}

-- the path has not reached its root
some : (c : In-loop-i) → numbers c.args.mate.now c.loop-i.v ≢ 0
some c =
    let q = c.requires.forest in
    let left = c.loop-i.invariant.left q in
    let less = c.loop-i-test.true in
    has_mate c.args.mate.now c.args.forest.now q c.loop-i.v c.loop-i.invariant.outer (λ z. absurd (omega arith))

pub index-v-requires : goal.index-v-requires
index-v-requires c = let up = climbs c.args.mate.now c.args.forest.now c.requires.forest c.loop-i.v c.loop-i.invariant.outer (some (goal.at.index-v-requires c).In-loop-i) in let read = up.in_parents in omega arith

pub loop-i-preserved : goal.loop-i-preserved
loop-i-preserved c =
    let mate = some (goal.at.loop-i-preserved c).In-loop-i in
    let less = c.loop-i-test.true in
    let on = goes_on c.args.mate.now c.args.forest.now c.requires.forest c.loop-i.v c.loop-i.invariant.outer mate c.index-v.result.now c.index-v.ensures in
    record {
      same = c.write_pair.auto.row ∙ c.loop-i.invariant.same;
      outer = on.outer;
      left = λ h.
          let down = on.pairs h in
          let left = c.loop-i.invariant.left h in omega arith;
      above = λ h j b.
          let p = up_parts h.g h.r h.f c.args.mate.now c.args.forest.now h.holds c.loop-i.v c.loop-i.invariant.outer (has_pairs c.args.mate.now c.args.forest.now h c.loop-i.v c.loop-i.invariant.outer mate) in
          let same = ap h.holds.k on.is in
          ap (λ (v : ℕ). h.holds.v v j) on.is ∙ sym (p.3 j (omega arith)) ∙ c.loop-i.invariant.above h j (let e = p.1 in omega arith);
      written = λ h j a b.
          let left = c.loop-i.invariant.left h in
          let full = c.requires.pairs h in
          let same = ap h.holds.k on.is in
          path_written h.g h.r h.f c.args.mate.now c.args.forest.now h.holds c.loop-i.v c.loop-i.invariant.outer (has_pairs c.args.mate.now c.args.forest.now h c.loop-i.v c.loop-i.invariant.outer mate) c.args.x c.loop-i.row c.write_pair.new.row c.args.start (c.loop-i.invariant.above h)
          (λ j a b. c.loop-i.invariant.written h j a (omega arith)) (c.args.start + (c.args.pairs - c.loop-i.i - 1 + (c.args.pairs - c.loop-i.i))) (omega arith) c.write_pair.ensures j (omega arith) (omega arith);
      kept = λ j b. c.write_pair.ensures j ∙ unwritten (numbers c.loop-i.row) (c.args.start + (c.args.pairs - c.loop-i.i - 1 + (c.args.pairs - c.loop-i.i))) c.loop-i.v (numbers c.args.mate.now c.loop-i.v) j (omega arith) ∙ c.loop-i.invariant.kept j b;
    }

pub returns-clause-path : goal.returns-clause-path
returns-clause-path c = λ h j b.
    let left = c.loop-i.invariant.left h in
    let full = c.requires.pairs h in
    let done = c.loop-i-test.false in
    let same = c.loop-i.invariant.same in
    let room = c.requires.room in
    elim (cases_eq j 0) [
      | inl z ↦
          ap (numbers (slice_set c.loop-i.row c.args.start c.loop-i.v)) (omega arith) ∙ here c.loop-i.row c.args.start c.loop-i.v (omega arith)
          ∙ sym (h.holds.forest.last c.loop-i.v c.loop-i.invariant.outer) ∙ ap (h.holds.v c.loop-i.v) (omega arith) ∙ c.loop-i.invariant.above h 0 (omega arith) ∙ ap (h.holds.v c.args.x) (sym z)
      | inr z ↦ there c.loop-i.row c.args.start (c.args.start + j) c.loop-i.v (λ s. z (omega arith)) ∙ c.loop-i.invariant.written h j (omega arith) b
    ]
  where
    here : (xs : List ℕ) (i x : ℕ) → i < length xs → numbers (slice_set xs i x) i ≡ x
    here xs i x l = get_or-set_same xs i x 0 l

    there : (xs : List ℕ) (i j x : ℕ) → j ≢ i → numbers (slice_set xs i x) j ≡ numbers xs j
    there xs i j x n = get_or-set_other xs i j x 0 n
