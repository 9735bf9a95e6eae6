use Rattle.std.proofs.Common.{add-one, arith, slice_index_or}
use Rattle.report_text.proofs.CommentLines.{given_names-commented}
use Rattle.report_text.proofs.WrittenLines.{one-more}
use Rattle.report_text.proofs.names.with_names.Goals as goal

pub loop-i-preserved : goal.loop-i-preserved
loop-i-preserved c = grind (arith, add-one, one-more, slice_index_or)

pub returns-clause-comments : goal.returns-clause-comments
returns-clause-comments c = grind (arith, given_names-commented c.args.report.now c.loop-i.text.items c.args.names.now c.args.comments c.loop-i.i c.are_names.ensures)
