use Rattle.std.proofs.Common.{◌≡◌, ◌+◌, ◌<◌, drop}
use Rattle.graph6_text.specs.Common.{weights, bits_value, digit_of_bits}
use Rattle.graph6_text.proofs.digits.to_digit.Given as goal

abbrev pub invariant-loop-i : goal.invariant-loop-i
invariant-loop-i l = (l.digit + bits_value (drop l.i weights) (drop l.i l.bits) ≡ digit_of_bits l.bits) × (digit_of_bits l.bits < 64)
