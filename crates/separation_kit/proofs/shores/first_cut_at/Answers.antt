use Rattle.std.proofs.Common.{ap, sym, ◌∙◌, eqb-true, length, fold, option_map}
use Rattle.std.proofs.lemmas.List.{nil_from_length}
use Rattle.graph_core.proofs.Common.{with_cut, pair_of}
use Rattle.separation_kit.specs.Common.{shores_at_pair}
use Rattle.separation_kit.proofs.FirstSeparations.{first_pair, first_separation, no_first, some_first}
use Rattle.separation_kit.proofs.shores.first_cut_at.Goals as goal

pub add_pair_cuts-requires-clause-first : goal.add_pair_cuts-requires-clause-first
add_pair_cuts-requires-clause-first c = (first_pair c.args.g.now (pair_of c.in-Some.pair) (sym (ap (option_map pair_of) c.in-Some.is) ∙ c.requires.pair)).0

pub add_pair_cuts-requires-clause-second : goal.add_pair_cuts-requires-clause-second
add_pair_cuts-requires-clause-second c = (first_pair c.args.g.now (pair_of c.in-Some.pair) (sym (ap (option_map pair_of) c.in-Some.is) ∙ c.requires.pair)).1

pub returns-in-None : goal.returns-in-None
returns-in-None c = no_first c.args.g.now c.keeps_limits.ensures.multigraph.ends (sym (ap (option_map pair_of) c.in-None.is) ∙ c.requires.pair)

pub returns-then-is_empty : goal.returns-then-is_empty
returns-then-is_empty c =
    absurd (some_first c.args.g.now (pair_of c.in-Some.pair) (sym (ap (option_map pair_of) c.in-Some.is) ∙ c.requires.pair) c.requires.bicritical c.requires.four c.add_pair_cuts.new.cuts
    (c.in_ok-add_pair_cuts-in-Some.ensures ∙ ap (λ list. fold (with_cut c.args.g.now.order) list (shores_at_pair c.args.g.now (pair_of c.in-Some.pair))) c.new-cuts.ensures)
    c.keeps_limits.ensures.multigraph.ends
    (nil_from_length c.add_pair_cuts.new.cuts (eqb-true (length c.add_pair_cuts.new.cuts) 0 (sym c.is_empty.ensures ∙ c.if-is_empty.true))))

pub returns-else-is_empty : goal.returns-else-is_empty
returns-else-is_empty c =
    first_separation c.args.g.now (pair_of c.in-Some.pair) (sym (ap (option_map pair_of) c.in-Some.is) ∙ c.requires.pair) c.requires.bicritical c.requires.four c.add_pair_cuts.new.cuts
    (c.in_ok-add_pair_cuts-in-Some.ensures ∙ ap (λ list. fold (with_cut c.args.g.now.order) list (shores_at_pair c.args.g.now (pair_of c.in-Some.pair))) c.new-cuts.ensures)
    c.get.result c.get.ensures
