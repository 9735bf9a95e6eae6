-- The length of a pair list that grows.
-- Idea: each member is the first to hold some pair of edges, and no pair has two first members.
use Rattle.graph_core.proofs.from_counting.Common.{◌≡◌, ℕ, suc, zero, ◌-◌, ◌≤◌, Bool, true, false, refl, sym, ap, ◌∙◌, arith, ◌&&◌, not, inl, inr, List, [], length, nat_le, leb-true, All, cases_lt, cases_Bool, and_parts, and_from, true≢false, both_ways, false_from_ne_true, le-leb, count_le, count_le_one, some_true, true_some, total_le, total_none, total_swap, at_le_total, total_ones, bit, total, count, Within, mem, item, IsRisingIn, some}
use Rattle.graph_core.proofs.Common.{IsLean}
use Rattle.barrier_kit.proofs.from_match_search.Gluing.{mem-holds}

low_count : (m f : ℕ) → count m (λ e. nat_le e f) ≤ f
low_count zero f = omega arith
low_count (suc m) f = grind (arith, cases_Bool (nat_le (suc m) f), nat_le (suc m) f, leb-true (suc m) f, count_le m, nat_le, low_count m f)

module _ (ms : List (List ℕ)) (m : ℕ) where
  abbrev both : ℕ → ℕ → ℕ → Bool
  both e f j = mem (item ms j) e && mem (item ms j) f

  -- member k is the first to hold e and f
  abbrev earliest : ℕ → ℕ → ℕ → Bool
  earliest e f k = both e f k && not (some (k - 1) (both e f))

  once : (n e f : ℕ) → count n (earliest e f) ≤ 1
  once n e f = count_le_one n (earliest e f) (λ u v wu wv l p q.
      let a = and_parts (both e f u) (not (some (u - 1) (both e f))) p in
      let b = and_parts (both e f v) (not (some (v - 1) (both e f))) q in
      true≢false (sym b.1 ∙ ap not (true_some (v - 1) (both e f) u (omega arith) a.0)))

  here : (e f k : ℕ) → Within m e → Within m f → e ≤ f → earliest e f k ≡ true → 1 ≤ total m (λ e. total m (λ f. bit (nat_le e f && earliest e f k)))
  here e f k we wf l h =
      let a = ap bit (and_from (nat_le e f) (earliest e f k) (le-leb e f l) h) in
      let b = at_le_total m (λ f. bit (nat_le e f && earliest e f k)) f wf in
      let c = at_le_total m (λ e. total m (λ f. bit (nat_le e f && earliest e f k))) e we in omega arith

  module _ (rising : All (IsRisingIn m) ms) (grows : IsLean ms) where
    each : (k : ℕ) → Within (length ms) k → 1 ≤ total m (λ e. total m (λ f. bit (nat_le e f && earliest e f k)))
    each k w =
        let h = grows k w in
        let l = (rising (k - 1) [] (omega arith)).within in
        let a = mem-holds (Within m) (item ms k) h.one l h.holds.0 in
        let b = mem-holds (Within m) (item ms k) h.other l h.holds.1 in
        elim (cases_lt h.other h.one) [
          | inl s ↦ here h.other h.one k b a (omega arith) (and_from (both h.other h.one k) (not (some (k - 1) (both h.other h.one))) (and_from (mem (item ms k) h.other) (mem (item ms k) h.one) h.holds.1 h.holds.0)
              (ap not (false_from_ne_true (some (k - 1) (both h.other h.one)) (λ t. let q = some_true (k - 1) (both h.other h.one) t in let r = and_parts (mem (item ms q.0) h.other) (mem (item ms q.0) h.one) q.2 in
              both_ways (mem (item ms q.0) h.one && mem (item ms q.0) h.other) (h.new q.0 q.1) (and_from (mem (item ms q.0) h.one) (mem (item ms q.0) h.other) r.1 r.0)))))
          | inr s ↦ here h.one h.other k a b s (and_from (both h.one h.other k) (not (some (k - 1) (both h.one h.other))) (and_from (mem (item ms k) h.one) (mem (item ms k) h.other) h.holds.0 h.holds.1)
              (ap not (false_from_ne_true (some (k - 1) (both h.one h.other)) (λ t. let q = some_true (k - 1) (both h.one h.other) t in
              both_ways (mem (item ms q.0) h.one && mem (item ms q.0) h.other) (h.new q.0 q.1) q.2))))
        ]

    few : (e f : ℕ) → total (length ms) (λ k. bit (nat_le e f && earliest e f k)) ≤ bit (nat_le e f)
    few e f = go (nat_le e f)
      where
        go : (s : Bool) → total (length ms) (λ k. bit (s && earliest e f k)) ≤ bit s
        go true = once (length ms) e f
        go false = let z = total_none (length ms) (λ k. bit (false && earliest e f k)) (λ k w. refl) in omega arith

    -- at most 1 + 2 + .. + m members
    pub grown_length : length ms ≤ total m (λ f. f)
    grown_length =
        let a = total_ones (length ms) in
        let b = total_le (length ms) (λ k. 1) (λ k. total m (λ e. total m (λ f. bit (nat_le e f && earliest e f k)))) each in
        let c = total_swap (length ms) m (λ k e. total m (λ f. bit (nat_le e f && earliest e f k))) in
        let d = total_le m (λ e. total (length ms) (λ k. total m (λ f. bit (nat_le e f && earliest e f k)))) (λ e. total m (λ f. bit (nat_le e f))) (λ e w.
        let s = total_swap (length ms) m (λ k f. bit (nat_le e f && earliest e f k)) in
        let t = total_le m (λ f. total (length ms) (λ k. bit (nat_le e f && earliest e f k))) (λ f. bit (nat_le e f)) (λ f v. few e f) in omega arith) in
        let x = total_swap m m (λ e f. bit (nat_le e f)) in
        let y = total_le m (λ f. count m (λ e. nat_le e f)) (λ f. f) (λ f w. low_count m f) in omega arith
