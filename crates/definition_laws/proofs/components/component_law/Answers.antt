use Rattle.graph_core.proofs.Common.{length-components, least_same, joined_back, joined_on, joined_self}
use Rattle.definition_laws.proofs.Covering.{components-cover, components-once}
use Rattle.definition_laws.proofs.Leaders.{components-are, count-leaders, count-odd_leaders, leader, least_found, least_says}
use Rattle.definition_laws.proofs.ListOrders.{components-order, odd-lists}
use Rattle.definition_laws.proofs.components.component_law.Goals as goal

pub returns-clause-same : goal.returns-clause-same
returns-clause-same c g s u v w = (joined_self g s u, joined_back g s u v, joined_on g s u v w)

pub returns-clause-least : goal.returns-clause-least
returns-clause-least c g s u is w = (least_says g s is u w, λ h. least_found g s u h.0 h.1)

pub returns-clause-one : goal.returns-clause-one
returns-clause-one c g s v is w out = leader g s is v w out

pub returns-clause-apart : goal.returns-clause-apart
returns-clause-apart c g s u v is wu wv lu lv j = least_same g s is u v wu wv lu lv j

pub returns-clause-count : goal.returns-clause-count
returns-clause-count c g s = count-leaders g s

pub returns-clause-odd : goal.returns-clause-odd
returns-clause-odd c g s = count-odd_leaders g s

pub returns-clause-lists : goal.returns-clause-lists
returns-clause-lists c g s is = (length-components g s, components-are g s is)

pub returns-clause-cover : goal.returns-clause-cover
returns-clause-cover c g s v is w out = components-cover g s is v w out

pub returns-clause-once : goal.returns-clause-once
returns-clause-once c g s i j v is wi wj hi hj = components-once g s is i j v wi wj hi hj

pub returns-clause-odd_lists : goal.returns-clause-odd_lists
returns-clause-odd_lists c g s = odd-lists g s

pub returns-clause-order : goal.returns-clause-order
returns-clause-order c g s is = components-order g s is
