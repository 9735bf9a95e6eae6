use Rattle.std.specs.Io.KnownBytes.{Keeps}
use Rattle.outside.proofs.retries.read_some.Given as goal

abbrev pub invariant-trying : goal.invariant-trying
invariant-trying g l = Keeps (g.F.Read.remaining l.fn.file) (g.F.Read.remaining l.file)
