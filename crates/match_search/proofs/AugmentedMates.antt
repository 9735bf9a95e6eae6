-- What an augmentation by mates hands on: its matching is held again, with fewer exposed
-- vertices; and where it ends, the marks of a matching with its mates and its frame are the best.
use Rattle.graph_core.proofs.from_counting.Common.{◌≡◌, ℕ, ◌+◌, ◌<◌, ◌==◌, ◌&&◌, not, nat_lt, nat_le, ap, ◌∙◌, arith, lt-ltb, List, length, rules, and_from, le-leb, count_congr, count, Within, mem, Set}
use Rattle.graph_core.proofs.Common.{Graph, IsGraph, size}
use Rattle.match_search.specs.Common.{HoldsMatching, IsMateStep, IsInstance, HasMates, HasFrame, IsBest, marks, numbers, AreAlike}
use Rattle.match_search.specs.declared.best.Best.{Best}
use Rattle.match_search.specs.declared.instance.Instance.{Instance}
use Rattle.match_search.specs.declared.answer.Answer.TheVariants.{Grown}
use Rattle.match_search.proofs.Instances.{instance_alike}
use Rattle.match_search.proofs.SameMates.{exposed_mates, same_mates_count}

-- a matching with one more edge has fewer exposed vertices
fewer_exposed : (g : Graph) → IsGraph g → (r f m : Set) (mate new : ℕ → ℕ) → HasMates g r f mate → HasMates g r m new → count (size g) m ≡ count (size g) f + 1 →
    count g.order (λ v. not (r v) && (new v == 0)) < count g.order (λ v. not (r v) && (mate v == 0))
fewer_exposed g is r f m mate new before after more = grind (arith, exposed_mates g is r f mate before, exposed_mates g is r m new after)

-- the vertices that are left are those that are not removed
pub left_is : (g : Graph) (r : Set) (s : Instance) → IsInstance g r s → (v : ℕ) → Within g.order v → mem s.left v ≡ not (r v)
left_is g r s is v w = is.left v ∙ ap (λ b. b && not (r v)) (and_from (nat_lt 0 v) (nat_le v g.order) (lt-ltb 0 v (omega arith)) (le-leb v g.order (omega arith)))

-- what a step leaves
module _ (g : Graph) (is : IsGraph g) (r f : Set) (s s' : Instance) (mate new : List ℕ) (held : HoldsMatching g r f s mate) (long : length new ≡ length mate) (step : IsMateStep g r f new Grown) where
  pub held_again : AreAlike s s' → HoldsMatching g r step.m s' new
  held_again alike = grind (arith, instance_alike g r s s' held.instance_is alike)

  pub fewer_left : (left : List ℕ) → ((v : ℕ) → Within g.order v → mem left v ≡ not (r v)) → count g.order (λ v. mem left v && (numbers new v == 0)) < count g.order (λ v. mem left v && (numbers mate v == 0))
  fewer_left left are = search (rules, fewer_exposed g is r f step.m (numbers mate) (numbers new) held.mates step.mates step.answer, count_congr g.order)

-- marks with the mates of a frame
pub framed_best : (g : Graph) → IsGraph g → (r : Set) (mate : List ℕ) (b : Best) (framed : HasFrame g r mate b.sets) → length b.mark.items ≡ size g + 1 → HasMates g r (marks b.mark.items) (numbers mate) → IsBest g r b
framed_best g is r mate b framed long has = grind (arith, same_mates_count g is r framed.m (marks b.mark.items) (numbers mate) framed.mates has)
