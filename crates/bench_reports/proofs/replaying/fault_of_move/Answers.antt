use Rattle.std.proofs.Common.{◌≡◌, ◌∙◌, ◌-◌, Some, ap, sym, arith, option_map}
use Rattle.std.proofs.lemmas.Option.{none-some}
use Rattle.tree_core.proofs.Common.{moves_of, shape_of}
use Rattle.bench_outcomes.specs.Common.{made_by}
use Rattle.bench_reports.proofs.MadeMoves.{next-less, next-made, stuck-by}
use Rattle.bench_reports.proofs.replaying.fault_of_move.Goals as goal

pub overflow_sub-before : goal.overflow_sub-before
overflow_sub-before c =
    let stuck = c.requires.stuck in
    let some = (next-less c.args.n (shape_of c.args.tree) c.args.moves.now c.args.at stuck.0 stuck.1 stuck.2).0 in
    omega arith

pub get-requires : goal.get-requires
get-requires c =
    let stuck = c.requires.stuck in
    (next-less c.args.n (shape_of c.args.tree) c.args.moves.now c.args.at stuck.0 stuck.1 stuck.2).1

pub returns-in-Some : goal.returns-in-Some
returns-in-Some c =
    let stuck = c.requires.stuck in
    let reached = shape_of c.in-Some.reached in
    let made : made_by c.args.n (shape_of c.args.tree) (moves_of c.args.moves.now) (c.args.at - 1) ≡ Some reached = sym c.made_by.ensures ∙ ap (option_map shape_of) c.in-Some.is in (
      stuck.0,
      stuck.1,
      stuck.2,
      stuck-by c.args.n (shape_of c.args.tree) c.args.moves.now c.args.at stuck.0 stuck.1 stuck.2 stuck.3 reached c.get.result.now c.stuck_fault.result made c.get.ensures
          (λ none. (c.stuck_fault.ensures.reason c.args.n).0 none),
    )

pub returns-in-None : goal.returns-in-None
returns-in-None c =
    let stuck = c.requires.stuck in
    let made = next-made c.args.n (shape_of c.args.tree) c.args.moves.now c.args.at stuck.0 stuck.1 stuck.2 in
    absurd (none-some stuck.0 (sym (ap (option_map shape_of) c.in-None.is) ∙ (c.made_by.ensures ∙ made)))
