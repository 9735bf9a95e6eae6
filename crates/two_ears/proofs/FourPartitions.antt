-- Let f and h be partitions, f0 a partition finer than both, and r a partition finer than each that
-- both are finer than. Then |f| + |h| ≤ |f0| + |r|, where |f| is the number of classes. Idea: f0
-- becomes f by merging one pair after another; each merge takes one class from f0, and at most one
-- from h, in which the pair is merged too.
use Rattle.graph_core.proofs.from_counting.Common.{◌≡◌, ℕ, suc, zero, ◌+◌, ◌≤◌, arith, inl, inr, Within, count}
use Rattle.two_ears.proofs.Labels.{used, IsLabel, Finer, finer_used, merge, merge_finer, merge_joins, merge_in, merge_label, merge_used, parted_pair, merge_most}

-- four partitions: f0 in f and in h, and r in each that holds f and h
pub record FourPartitions (n : ℕ) (f0 f h r : ℕ → ℕ) : Type 0 where
  pub label0 : IsLabel n f0
  pub label1 : IsLabel n f
  pub label2 : IsLabel n h
  pub label3 : IsLabel n r
  pub below1 : Finer n f0 f
  pub below2 : Finer n f0 h
  pub above : (z : ℕ → ℕ) → IsLabel n z → Finer n f z → Finer n h z → Finer n r z

four_labels-end : (n : ℕ) (f0 f h r : ℕ → ℕ) → FourPartitions n f0 f h r → Finer n f f0 → count n (used n f) + count n (used n h) ≤ count n (used n f0) + count n (used n r)
four_labels-end n f0 f h r q fin =
    let a = finer_used n f0 f q.label0 q.below1 in
    let b = finer_used n r h q.label3 (q.above h q.label2 (λ a b wa wb e. q.below2 a b wa wb (fin a b wa wb e)) (λ a b wa wb e. e)) in omega arith

four_labels-step : (n : ℕ) (f0 f h r : ℕ → ℕ) (x y : ℕ) → FourPartitions n f0 f h r → Within n x → Within n y → f x ≡ f y → FourPartitions n (merge f0 x y) f (merge h x y) r
four_labels-step n f0 f h r x y q wx wy e = record {
  label0 = merge_label n f0 x y wy q.label0;
  label1 = q.label1;
  label2 = merge_label n h x y wy q.label2;
  label3 = q.label3;
  below1 = merge_in n f0 f x y wx wy q.below1 e;
  below2 = merge_in n f0 (merge h x y) x y wx wy (λ a b wa wb i. merge_finer n h x y a b wa wb (q.below2 a b wa wb i)) (merge_joins h x y);
  above = λ z lz fz hz. q.above z lz fz (λ a b wa wb i. hz a b wa wb (merge_finer n h x y a b wa wb i));
}

four_labels-below : (k n : ℕ) (f0 f h r : ℕ → ℕ) → count n (used n f0) ≤ k → FourPartitions n f0 f h r → count n (used n f) + count n (used n h) ≤ count n (used n f0) + count n (used n r)
four_labels-below zero n f0 f h r le q = elim (parted_pair n f f0) [
  | inr fin ↦ four_labels-end n f0 f h r q fin
  | inl p ↦ let a = merge_used n f0 p.0 p.1 p.2 p.3 q.label0 p.5 in absurd (omega arith)
]
four_labels-below (suc k) n f0 f h r le q = elim (parted_pair n f f0) [
  | inr fin ↦ four_labels-end n f0 f h r q fin
  | inl p ↦
      let a = merge_used n f0 p.0 p.1 p.2 p.3 q.label0 p.5 in
      let b = four_labels-below k n (merge f0 p.0 p.1) f (merge h p.0 p.1) r (omega arith) (four_labels-step n f0 f h r p.0 p.1 q p.2 p.3 p.4) in
      let c = merge_most n h p.0 p.1 p.2 p.3 q.label2 in omega arith
]

pub four_labels : (n : ℕ) (f0 f h r : ℕ → ℕ) → FourPartitions n f0 f h r → count n (used n f) + count n (used n h) ≤ count n (used n f0) + count n (used n r)
four_labels n f0 f h r q = four_labels-below (count n (used n f0)) n f0 f h r (omega arith) q
