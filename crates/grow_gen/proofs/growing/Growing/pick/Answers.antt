use Rattle.graph_core.proofs.from_counting.Common.{◌≡◌, ◌%◌, length, ap, ap₂, sym, ◌∙◌, subst, slice_index, mod_below, Within}
use Rattle.grow_gen.specs.Common.{eligible, growth_of}
use Rattle.grow_gen.proofs.Skeleton.{eligible-within}
use Rattle.grow_gen.proofs.growing.Growing.pick.Goals as goal

pub returns : goal.returns
returns c =
    let s = growth_of c.args.self.now in
    let from = eligible s c.args.piece in
    let value : c.member_at.result ≡ slice_index from (c.args.x % length from) =
    c.member_at.ensures ∙ ap₂ (λ xs n. slice_index xs (c.args.x % n)) c.eligible-from.ensures (c.len.ensures ∙ ap length c.eligible-from.ensures) in
    record {
      value = value;
      within = subst (Within s.graph.order) (sym value) (eligible-within s c.args.piece c.requires.in_a (c.args.x % length from) (mod_below c.args.x (length from) c.requires.some));
    }
