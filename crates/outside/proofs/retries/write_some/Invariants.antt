use Rattle.std.specs.Io.KnownBytes.{Keeps}
use Rattle.outside.proofs.retries.write_some.Given as goal

abbrev pub invariant-trying : goal.invariant-trying
invariant-trying g l = Keeps (g.W.Write.contents l.fn.out) (g.W.Write.contents l.out)
