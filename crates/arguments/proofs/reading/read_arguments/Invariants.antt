use Rattle.std.proofs.Common.{◌≡◌, ◌+◌, map, length, string_bytes}
use Rattle.arguments.proofs.reading.read_arguments.Given as goal

abbrev pub invariant-asking : goal.invariant-asking
invariant-asking g l = record {
  all : map string_bytes l.words.items ≡ l.asked.words;
  next : l.place ≡ length l.asked.words + 1;
}
