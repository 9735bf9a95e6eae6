use Rattle.std.proofs.Common.{◌≡◌, ◌-◌}
use Rattle.rand_pcg.specs.Lcg.{started, increment_of}
use Rattle.rand_pcg.specs.Pcg.{multiplier_64}
use Rattle.grow_gen.specs.Common.{growth_of, first_growth, growth_from}
use Rattle.grow_gen.proofs.SoundGrowth.{IsSound}
use Rattle.grow_gen.proofs.generator.grow.Given as goal

abbrev pub invariant-loop-i : goal.invariant-loop-i
invariant-loop-i l = record {
  sound : IsSound l.i (growth_of l.growing);
  rest : growth_from l.i (l.i-end - l.i) l.words (growth_of l.growing) ≡ growth_from 0 l.i-end (started 64 multiplier_64 l.fn.seed (increment_of 64 1)) first_growth;
}
