use Rattle.std.proofs.Common.{◌≡◌, ◌+◌, ◌-◌, ◌++◌, [], ℕ, List, ap, sym, ◌∙◌, map, flat_map, arith, get_or, inl, inr, subst, append-nil}
use Rattle.graph_core.proofs.from_counting.Common.{flat_map-append, cases_eq, get_or_read, IsRisingIn, item, pair_with, rising_list, everything}
use Rattle.contraction.proofs.place_pairs.row_pairs.Goals as goal

more : (rows : List (List ℕ)) (row : List ℕ) (i : ℕ) (before after : List (ℕ × ℕ)) → item rows (i + 1) ≡ row → before ≡ flat_map (λ a. map (pair_with a) (item rows a)) (rising_list i everything) → after ≡ before ++ map (pair_with (i + 1)) row →
    after ≡ flat_map (λ a. map (pair_with a) (item rows a)) (rising_list (i + 1) everything)
more rows row i before after read old new = grind (arith, append-nil (map (pair_with (i + 1)) (item rows (i + 1))), flat_map-append)

pub loop-i-preserved : goal.loop-i-preserved
loop-i-preserved c =
    let e : c.loop-i.i + 1 - 1 ≡ c.loop-i.i = omega arith in
    let read : item c.args.rows.now (c.loop-i.i + 1) ≡ c.index-rows-i.result = ap (λ k. get_or c.args.rows.now k []) e ∙ sym (get_or_read c.args.rows.now c.loop-i.i c.index-rows-i.result c.loop-i-test.true c.index-rows-i.is []) in
    record {
      pairs = more c.args.rows.now c.index-rows-i.result c.loop-i.i _ _ read c.loop-i.invariant.pairs c.in_ok-push_row.ensures;
      rising = λ k w. elim (cases_eq k (c.loop-i.i + 1)) [
        | inl q ↦ subst (IsRisingIn 128) (sym read ∙ ap (item c.args.rows.now) (sym q)) c.rises.ensures
        | inr d ↦ c.loop-i.invariant.rising k (omega arith)
      ];
    }

pub returns-clause-rising : goal.returns-clause-rising
returns-clause-rising c = λ i w. c.loop-i.invariant.rising i (let h = c.loop-i-test.false in omega arith)
