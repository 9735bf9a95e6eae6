-- The definitions of this crate, passed on from one place to the crates above. Declares nothing.
pub use Rattle.barrier_kit.specs.Choices.{neighbours, Picks}
pub use Rattle.barrier_kit.specs.BarrierCuts.{BarrierCut, WideClass}
unfoldable pub use Rattle.barrier_kit.specs.BarrierShores.{barrier_shores, barrier_cuts}
