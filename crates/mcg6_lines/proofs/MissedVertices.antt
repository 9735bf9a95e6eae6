-- The vertices that a matching misses and twice its edges make all vertices. So a matching is
-- maximum if no other misses fewer vertices, and maximum matchings miss as many. A perfect matching
-- misses none, and one that a Berge set certifies misses as many as are certified.
use Rattle.allowed_edges.proofs.from_counting.Common.{◌≡◌, ◌≤◌, ◌<◌, ◌==◌, ℕ, ◌+◌, ◌-◌, ◌*◌, ◌%◌, Bool, List, length, count_by, ap, arith, count, count_complement, count_mem_length, is_odd, odd_remainder, total_zero, none, mem, IsRisingIn, Set}
use Rattle.graph_core.proofs.Common.{Graph, HasPerfect, IsGraph, IsMatching, IsMaximum, size, missed_count, missed_edges, none_matching, perfect_matching, perfect_misses}
use Rattle.mcg6_lines.specs.Standings.{IsDeficiency}

missed_and_ends : (g : Graph) (m : Set) → IsGraph g → IsMatching g none m → missed_count g none m + 2 * count (size g) m ≡ g.order
missed_and_ends g m is mm = grind (arith, missed_edges g none m is mm, count_complement g.order none, total_zero g.order)

-- a matching that misses fewest vertices is maximum
fewest_missed : (g : Graph) (m : Set) (k : ℕ) → IsGraph g → IsMatching g none m → missed_count g none m ≡ k → ((n : Set) → IsMatching g none n → k ≤ missed_count g none n) → IsDeficiency g k
fewest_missed g m k is mm misses fewest = record {
  matching = m;
  maximum = record {
    is = mm;
    most = λ n mn.
        let a = missed_and_ends g m is mm in
        let b = missed_and_ends g n is mn in
        let c = fewest n mn in
        omega arith;
  };
  misses = misses;
}

-- fewer than two vertices
pub small_deficiency : (g : Graph) → IsGraph g → g.order < 2 → IsDeficiency g g.order
small_deficiency g is few =
    let a = missed_and_ends g none is (none_matching g none) in
    fewest_missed g none g.order is (none_matching g none) (omega arith) (λ n mn. let b = missed_and_ends g n is mn in omega arith)

-- a perfect matching
pub perfect_deficiency : (g : Graph) → IsGraph g → HasPerfect g none → IsDeficiency g 0
perfect_deficiency g is perfect =
    fewest_missed g perfect.0 0 is (perfect_matching g none perfect.0 perfect.1) (perfect_misses g none perfect.0 perfect.1) (λ n mn. omega arith)

-- a matching that is known to be maximum
module _ (g : Graph) (edges : List ℕ) (is : IsGraph g) (rising : IsRisingIn (size g) edges) (most : IsMaximum g none (mem edges)) where
  all : missed_count g none (mem edges) + 2 * length edges ≡ g.order
  all = let a = missed_and_ends g (mem edges) is most.is in let b = count_mem_length (size g) edges rising in omega arith

  pub ends_within : 2 * length edges ≤ g.order
  ends_within = let a = all in omega arith

  pub rest_missed : IsDeficiency g (g.order - 2 * length edges)
  rest_missed = record { matching = mem edges; maximum = most; misses = let a = all in omega arith }

-- a matching that meets the bound of a set s of l vertices, without which k components are odd
module _ (g : Graph) (s : Set) (k l odd : ℕ) (is : IsGraph g) (counted : k ≡ odd) (long : count g.order s ≡ l)
    (bound : (n : Set) → IsMatching g none n → odd ≤ missed_count g none n + count g.order s)
    (m : Set) (mm : IsMatching g none m) (attained : missed_count g none m + count g.order s ≡ odd) where
  pub excess : (l ≤ k) × (k - l ≤ g.order) × IsDeficiency g (k - l)
  excess =
      let a = missed_and_ends g m is mm in
      (omega arith, omega arith, fewest_missed g m (k - l) is mm (omega arith) (λ n mn. let b = bound n mn in omega arith))

-- how many parts are odd
pub odd_parts : (parts : List (List ℕ)) → count_by (λ part. length part % 2 == 1) parts ≡ count_by (λ part. is_odd (length part)) parts
odd_parts parts = ap (λ (test : List ℕ → Bool). count_by test parts) (λ i part. odd_remainder (length part) i)

-- each two maximum matchings miss as many vertices
pub deficiency_once : (g : Graph) (k l : ℕ) → IsGraph g → IsDeficiency g k → IsDeficiency g l → k ≡ l
deficiency_once g k l is one two = grind (arith, missed_edges)
