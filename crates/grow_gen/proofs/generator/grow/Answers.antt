use Rattle.graph_core.proofs.from_counting.Common.{◌≡◌, ℕ, suc, ◌+◌, ◌-◌, ◌≤◌, ◌<◌, ap, ap₂, sym, ◌∙◌, arith, subst, IfOk-weaker}
use Rattle.rand_pcg.specs.Lcg.{Lcg}
use Rattle.rand_pcg.specs.Pcg.{pcg32}
use Rattle.grow_gen.specs.Common.{further_piece, growth_of, Growth, growth_from, grown, with_piece, IsCubic}
use Rattle.graph_core.proofs.Common.{IsSimple}
use Rattle.grow_gen.proofs.SoundGrowth.{IsSound, sound-first, sound-next, may-take}
use Rattle.grow_gen.proofs.generator.grow.Goals as goal

pub loop-i-init : goal.loop-i-init
loop-i-init c = grind (arith, sound-first)

pub with_piece-requires : goal.with_piece-requires
with_piece-requires c = grind (arith, may-take c.loop-i.i (growth_of c.loop-i.growing) c.loop-i.invariant.sound 0)

-- one piece of those that are left
growth_from-more : (i n : ℕ) (words : Lcg) (s : Growth) → i < n → growth_from i (n - i) words s ≡ growth_from (i + 1) (n - (i + 1)) (pcg32 (pcg32 words).1).1 (with_piece s (further_piece i) (pcg32 words).0 (pcg32 (pcg32 words).1).0)
unfolding growth_from
growth_from-more i n words s l = ap (λ k. growth_from i k words s) (let q : n - i ≡ suc (n - (i + 1)) = omega arith in q)

pub loop-i-preserved : goal.loop-i-preserved
loop-i-preserved c =
    let i = c.loop-i.i in
    let s = growth_of c.loop-i.growing in
    let w = c.loop-i.words in
    let first = c.next_word-first.ensures in
    let second = c.next_word-second.ensures in
    let x : c.next_word-first.result ≡ (pcg32 w).0 = ap (λ p. p.0) first in
    let left : c.next_word-first.new.self ≡ (pcg32 w).1 = ap (λ p. p.1) first in
    let y : c.next_word-second.result ≡ (pcg32 (pcg32 w).1).0 = ap (λ p. p.0) second ∙ ap (λ v. (pcg32 v).0) left in
    let end : c.next_word-second.new.self ≡ (pcg32 (pcg32 w).1).1 = ap (λ p. p.1) second ∙ ap (λ v. (pcg32 v).1) left in
    let made : growth_of c.in_ok-growing-2.growing ≡ with_piece s (further_piece i) (pcg32 w).0 (pcg32 (pcg32 w).1).0 =
    c.in_ok-growing-2.ensures ∙ ap (λ p. with_piece s p c.next_word-first.result c.next_word-second.result) c.further.ensures ∙ ap₂ (with_piece s (further_piece i)) x y in
    record {
      sound = subst (IsSound (i + 1)) (sym made) (sound-next i s c.loop-i.invariant.sound (pcg32 w).0 (pcg32 (pcg32 w).1).0);
      rest = ap₂ (growth_from (i + 1) (c.args.pieces - 1 - (i + 1))) end made ∙ sym (growth_from-more i (c.args.pieces - 1) w s c.loop-i-test.true) ∙ c.loop-i.invariant.rest;
    }

-- no piece is left
growth_from-none : (i n : ℕ) (words : Lcg) (s : Growth) → n ≤ i → growth_from i (n - i) words s ≡ s
unfolding growth_from
growth_from-none i n words s l = ap (λ k. growth_from i k words s) (let q : n - i ≡ 0 = omega arith in q)

pub returns-clause-graph : goal.returns-clause-graph
unfolding grown
returns-clause-graph c = grind (arith, growth_from-none c.loop-i.i (c.args.pieces - 1) c.loop-i.words (growth_of c.loop-i.growing) c.loop-i-test.false)

pub returns-clause-cubic : goal.returns-clause-cubic
returns-clause-cubic c = IfOk-weaker c.to_graph.result _ IsCubic (λ g e. subst IsCubic (sym e) c.loop-i.invariant.sound.cubic) c.to_graph.ensures

pub returns-clause-simple : goal.returns-clause-simple
returns-clause-simple c = IfOk-weaker c.to_graph.result _ IsSimple (λ g e. subst IsSimple (sym e) c.loop-i.invariant.sound.simple) c.to_graph.ensures
