use Rattle.graph_core.proofs.from_counting.Common.{◌≡◌, ℕ, suc, ◌+◌, ◌<◌, sym, ap, ap₂, ◌∙◌, arith, subst, length, List, fun_ext, get_or_default_zero}
use Rattle.match_search.specs.Common.{second_start, with_pair, flipped_mates, numbers, part}
use Rattle.match_search.proofs.ClosingPairs.{pairs_augmented, second_in}
use Rattle.match_search.proofs.blossom.augment.Goals as goal

pub flip-requires-2-clause-in_mates : goal.flip-requires-2-clause-in_mates
flip-requires-2-clause-in_mates c =
    let q = c.requires.paths in
    let same = c.flip.auto.mate in
    λ j b. let l = second_in q.0 q.1 q.2 c.args.mate.now c.args.paths.now q.3 j b in
    subst (λ (row : List ℕ). numbers row (c.args.paths.now.first + c.args.paths.now.first + 1 + j) < length c.flip.new.mate) (sym c.deref-2.ensures.value)
    (let s = ap (numbers c.args.paths.now.row.items) (start (c.args.paths.now.first + c.args.paths.now.first) j) in omega arith)
  where
    start : (a j : ℕ) → a + 1 + j ≡ suc a + j
    start a j = omega arith

pub returns : goal.returns
returns c = λ g r f is.
    pairs_augmented g r f c.args.mate.now c.args.paths.now is (λ i j li lj. c.requires.apart i j (omega arith) (omega arith)) c.join.new.mate
    (λ u. c.join.ensures u
    ∙ ap (λ (m : ℕ → ℕ). with_pair m c.index.result.now c.index-2.result.now u) (fun_ext mates)
    ∙ ap₂ (λ (x y : ℕ). with_pair (flipped_mates (flipped_mates (numbers c.args.mate.now) (part c.args.paths.now.row.items 0) c.args.paths.now.first) (part c.args.paths.now.row.items (second_start c.args.paths.now)) c.args.paths.now.second) x y u)
    (let l = is.row_long in c.index.ensures ∙ get_or_default_zero c.args.paths.now.row.items (c.args.paths.now.first + c.args.paths.now.first) c.index.result.now (omega arith) ∙ ap (numbers c.args.paths.now.row.items) (omega arith))
    (let l = is.row_long in c.index-2.ensures ∙ get_or_default_zero c.args.paths.now.row.items (c.args.paths.now.first + c.args.paths.now.first + 1 + (c.args.paths.now.second + c.args.paths.now.second)) c.index-2.result.now (omega arith)
    ∙ ap (numbers c.args.paths.now.row.items) (omega arith)))
  where
    one_more : (a : ℕ) → a + 1 ≡ suc a
    one_more a = omega arith

    mates : (u : ℕ) → numbers c.flip-2.new.mate u ≡ flipped_mates (flipped_mates (numbers c.args.mate.now) (part c.args.paths.now.row.items 0) c.args.paths.now.first) (part c.args.paths.now.row.items (second_start c.args.paths.now)) c.args.paths.now.second u
    mates u = c.flip-2.ensures u
        ∙ ap (λ (row : List ℕ). flipped_mates (numbers c.flip.new.mate) (part row (c.args.paths.now.first + c.args.paths.now.first + 1)) c.args.paths.now.second u) c.deref-2.ensures.value
        ∙ ap (λ (s : ℕ). flipped_mates (numbers c.flip.new.mate) (part c.args.paths.now.row.items s) c.args.paths.now.second u) (one_more (c.args.paths.now.first + c.args.paths.now.first))
        ∙ ap (λ (m : ℕ → ℕ). flipped_mates m (part c.args.paths.now.row.items (second_start c.args.paths.now)) c.args.paths.now.second u)
        (fun_ext (λ v. c.flip.ensures v ∙ ap (λ (row : List ℕ). flipped_mates (numbers c.args.mate.now) (part row 0) c.args.paths.now.first v) c.deref.ensures.value))
