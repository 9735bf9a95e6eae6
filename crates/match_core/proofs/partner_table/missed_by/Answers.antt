use Rattle.std.proofs.Common.{arith}
use Rattle.match_core.proofs.PartnerRows.{few_left, missed-left}
use Rattle.match_core.proofs.partner_table.missed_by.Goals as goal

pub overflow_mul-result : goal.overflow_mul-result
overflow_mul-result c =
    let left = missed-left c.args.g.now c.keeps_limits.ensures.multigraph.ends c.order.result c.full.result c.minus-left.result c.args.removed c.args.mark.now c.order.ensures.is c.rises.ensures c.full.ensures.members c.minus-left.ensures c.requires.long c.requires.matching in
    let length_is = c.len.ensures in
    let found = c.marked_count.ensures in
    let few = few_left c.minus-left.result c.rises.ensures in
    omega arith

pub overflow_sub-result : goal.overflow_sub-result
overflow_sub-result c =
    let left = missed-left c.args.g.now c.keeps_limits.ensures.multigraph.ends c.order.result c.full.result c.minus-left.result c.args.removed c.args.mark.now c.order.ensures.is c.rises.ensures c.full.ensures.members c.minus-left.ensures c.requires.long c.requires.matching in
    let length_is = c.len.ensures in
    let found = c.marked_count.ensures in
    omega arith

pub returns : goal.returns
returns c =
    let left = missed-left c.args.g.now c.keeps_limits.ensures.multigraph.ends c.order.result c.full.result c.minus-left.result c.args.removed c.args.mark.now c.order.ensures.is c.rises.ensures c.full.ensures.members c.minus-left.ensures c.requires.long c.requires.matching in
    let length_is = c.len.ensures in
    let found = c.marked_count.ensures in
    omega arith
