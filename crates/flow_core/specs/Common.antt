-- The definitions of this crate, passed on from one place to the crates above. Declares nothing.
pub use Rattle.flow_core.specs.Nets.{Arc, Net, IsArc, IsNet, with_arc, total_capacity, IsBounded, leaves_set, cut_value, Separates, HasCutWithin, IsLeastCut}
pub use Rattle.flow_core.specs.Flows.{out_by, goes_out, FitsCapacities, IsFlow}
pub use Rattle.flow_core.specs.Residual.{arc_at, amount_at, Joins, room_from, sent_amount, HasRoom, IsOpenWalk, IsReached, IsScanned, IsReachedSet}
pub use Rattle.flow_core.specs.View.{arc_of, net_of, HasTotal}
pub use Rattle.flow_core.specs.Rows.{rows_of}
pub use Rattle.flow_core.specs.Incidence.{HasEnd, ListsArcs, IsIncidence}
pub use Rattle.flow_core.specs.Search.{visit_at, visited_node, IsVisitStep, IsVisit, IsTree, HasTree, IsSetOfVisited, first_node, last_node, IsSearch}
pub use Rattle.flow_core.specs.Outcomes.{IsOutcome}
pub use Rattle.flow_core.specs.Cuts.{IsCut, IfCut, IfExceeds}
pub use Rattle.flow_core.specs.Layers.{IsLaid, arcs_left, work_left}
