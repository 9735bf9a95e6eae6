use Rattle.std.proofs.Common.{ℕ, suc, ◌+◌, ◌<◌, sym, ap, ◌∙◌, arith, length, List}
use Rattle.std.proofs.lemmas.List.{with_items_is}
use Rattle.match_search.specs.Common.{numbers}
use Rattle.match_search.proofs.ForestPaths.{forest_paths, short_paths}
use Rattle.match_search.proofs.ForestWalks.{closed_forest}
use Rattle.match_search.proofs.paths.paths_to.Goals as goal
use Rattle.match_search.proofs.paths.paths_to.Goals.{After-pairs_to-second}

short : (c : After-pairs_to-second) → (c.pairs_to-first.result + c.pairs_to-first.result < 128) × (c.pairs_to-second.result + c.pairs_to-second.result < 128)
short c =
    let q = c.requires in
    let h = closed_forest q.0 q.1 q.2 c.args.mate.now c.args.forest.now c.args.bridge q.3 in
    short_paths q.0 q.1 q.2 c.args.mate.now c.args.forest.now c.args.bridge c.pairs_to-first.result c.pairs_to-second.result q.3 (c.pairs_to-first.ensures h) (c.pairs_to-second.ensures h)

pub overflow_add-first : goal.overflow_add-first
overflow_add-first c = let s = short (goal.at.overflow_add-first c).After-pairs_to-second in let a = s.0 in omega arith

pub overflow_add-first-2 : goal.overflow_add-first-2
overflow_add-first-2 c = let s = short (goal.at.overflow_add-first-2 c).After-pairs_to-second in let a = s.0 in omega arith

pub overflow_add-second : goal.overflow_add-second
overflow_add-second c = let s = short (goal.at.overflow_add-second c).After-pairs_to-second in let b = s.1 in omega arith

pub overflow_add-second-2 : goal.overflow_add-second-2
overflow_add-second-2 c = let s = short (goal.at.overflow_add-second-2 c).After-pairs_to-second in let b = s.1 in omega arith

pub overflow_add-first-3 : goal.overflow_add-first-3
overflow_add-first-3 c = let s = short (goal.at.overflow_add-first-3 c).After-pairs_to-second in let a = s.0 in let b = s.1 in omega arith

pub write_paths-requires-clause-short : goal.write_paths-requires-clause-short
write_paths-requires-clause-short c = let s = short (goal.at.write_paths-requires-clause-short c).After-pairs_to-second in let a = s.0 in omega arith

pub returns : goal.returns
returns c = λ g r f is.
    let h = closed_forest g r f c.args.mate.now c.args.forest.now c.args.bridge is in
    let one = ap length c.deref_mut.ensures.value in
    let same = c.write_paths.auto.row in
    let ok = c.in_ok-row.row.ok.0 in
    let size = c.in_ok-row.ensures.len in
    let items = with_items_is c.in_ok-row.row c.write_paths.new.row (same ∙ one ∙ sym ok) in
    let long = ap length items ∙ same ∙ one ∙ sym ok ∙ size in
    forest_paths g r f c.args.mate.now c.args.forest.now c.args.bridge is (record { row = Rattle.std.specs.Vec.with_items c.in_ok-row.row c.write_paths.new.row; first = c.pairs_to-first.result; second = c.pairs_to-second.result })
    (c.pairs_to-first.ensures h) (c.pairs_to-second.ensures h) (omega arith)
    (λ j l. ap (λ (row : List ℕ). numbers row (0 + j)) items ∙ c.write_paths.ensures.first h j l)
    (λ j l. ap (λ (row : List ℕ). numbers row (suc (c.pairs_to-first.result + c.pairs_to-first.result) + j)) items ∙ c.write_paths.ensures.second h j l)
