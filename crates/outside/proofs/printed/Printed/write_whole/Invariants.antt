use Rattle.std.proofs.Common.{◌≡◌, ◌≤◌, ◌-◌, ◌++◌, length, take}
use Rattle.std.specs.Io.KnownBytes.{Appends}
use Rattle.outside.proofs.printed.Printed.write_whole.Given as goal

abbrev pub invariant-writing : goal.invariant-writing
invariant-writing g l = record {
  within : l.done ≤ length l.bytes;
  noted : l.self.bytes ≡ l.fn.self.bytes ++ take l.done l.bytes;
  tied : Appends (g.W.Write.contents l.fn.out) (g.W.Write.contents l.out) (take l.done l.bytes);
}

abbrev pub decreases-writing : goal.decreases-writing
decreases-writing g l = length l.bytes - l.done
