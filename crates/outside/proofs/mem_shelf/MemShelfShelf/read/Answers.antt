-- Where the number of the call is kept, the next read fails; of a file that is given the bytes
-- are counted.
use Rattle.std.proofs.Common.{inl, refl}
use Rattle.outside.specs.Common.{FailsNext}
use Rattle.outside.proofs.mem_shelf.MemShelfShelf.read.Goals as goal

kept : (c : goal.Then-fails_next) → FailsNext c.args.self.now c.args.name.now
kept c = inl (rw (← c.self.view_is) (c.fails_next.ensures.fails.0 c.if-fails_next.true))

pub returns-then-fails_next-clause-failed : goal.returns-then-fails_next-clause-failed
returns-then-fails_next-clause-failed c = (λ _. kept c, λ _. refl)

pub returns-then-fails_next-clause-too_long : goal.returns-then-fails_next-clause-too_long
returns-then-fails_next-clause-too_long c = (λ is. cc, λ longer. absurd (longer.0 (kept c)))
