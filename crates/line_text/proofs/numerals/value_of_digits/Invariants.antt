use Rattle.std.proofs.Common.{◌≡◌, ◌≤◌, ◌+◌, ◌*◌, ◌^◌, length, true}
use Rattle.std.specs.Char.{is_ascii_digit}
use Rattle.std.specs.List.{list_all}
use Rattle.std.specs.Str.Parse.{digits_value_after}
use Rattle.line_text.proofs.numerals.value_of_digits.Given as goal

-- the digits that are left, read after the number so far, make the whole number, which has room
-- for them
abbrev pub invariant-digits : goal.invariant-digits
invariant-digits l = record {
  digits : list_all is_ascii_digit l.rest ≡ true;
  value : digits_value_after 10 l.value l.rest ≡ digits_value_after 10 0 l.fn.digits;
  room : (l.value + 1) * 10 ^ length l.rest ≤ 10 ^ 9;
}

abbrev pub decreases-digits : goal.decreases-digits
decreases-digits l = length l.rest
