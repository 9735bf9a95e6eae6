use Rattle.std.proofs.Common.{◌≡◌, ◌++◌}
use Rattle.std.specs.Slice.Iter.{chunks_rest, chunks_size}
use Rattle.graph6_text.specs.Common.{bytes_of}
use Rattle.graph6_text.proofs.digits.push_bytes.Given as goal

abbrev pub invariant-loop-six : goal.invariant-loop-six
invariant-loop-six l = (l.text.items ++ bytes_of (chunks_rest l.six-iterator) ≡ l.fn.text.items ++ bytes_of l.bits) × (chunks_size l.six-iterator ≡ 6) ×
    (goal.iterator-loop-six).can_next l.six-iterator × (goal.iterator-loop-six).is_finite l.six-iterator
