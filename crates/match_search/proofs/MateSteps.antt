-- One augmentation by mates: the facts that its parts pass to one another. Idea: each is read off
-- the relation that the one part ensures, in the form that the next requires.
use Rattle.graph_core.proofs.from_counting.Common.{◌≡◌, ℕ, ◌<◌, ◌∙◌, arith, subst₂, length, List, get_or, nat_lt, nat_le, lt-ltb, Option, Some, None, true, ◌==◌, ◌||◌, ◌⊎◌, eq-eqb, fun_ext, and_from, le-leb, total_congr, get_or_default_zero, Within, count, Set, complement, mem}
use Rattle.graph_core.proofs.Common.{Graph}
use Rattle.match_search.specs.Common.{AreExposed, HoldsMatching, IsGrownForest, IsOpenedCycle, HasMates, MayBeExposed, ClosesForest, HoldsBlossom, IsCompleted, IsMateStep, MayOpen, blossom_length, removed_with, without_blossom, IsInstance, listed, numbers, AreAlike, IsShrinking, IsWidened}
use Rattle.match_search.specs.declared.blossom.Blossom.{Blossom}
use Rattle.match_search.specs.declared.growing.Adjacent.{Adjacent}
use Rattle.match_search.specs.declared.alternating.AlternatingForest.{AlternatingForest}
use Rattle.match_search.specs.declared.instance.Instance.{Instance}
use Rattle.match_search.specs.declared.answer.Answer.{Answer}
use Rattle.match_search.specs.declared.answer.Answer.TheVariants.{Final}
use Rattle.match_search.proofs.BlossomMates.{H, rs, below_mates, below_size, cr, cw, cz, graph, pulls, smaller}
use Rattle.match_search.proofs.BlossomSteps.{same_count, step_up}
use Rattle.match_search.proofs.Instances.{instance_alike, near_edge}
use Rattle.match_search.proofs.ParentForests.{done_frame}
use Rattle.match_search.proofs.ShrunkInstances.{shrunk_instance}

-- the base of a blossom, as the code reads it, is the first vertex of the cycle, and a vertex of
-- the graph
module _ (g : Graph) (r f : Set) (mate : List ℕ) (b : Blossom) (held : HoldsBlossom g r f mate b) (base : ℕ) (read : base ≡ get_or b.cycle.items 1 base) where
  pub base_read : base ≡ numbers b.cycle.items 1
  base_read = let three = held.opened.cycle.three in read ∙ get_or_default_zero b.cycle.items 1 base (omega arith)

  pub base_within : Within g.order base
  base_within = let three = held.opened.cycle.three in let w = held.opened.cycle.within 1 (omega arith, omega arith) in let first = base_read in omega arith

-- the vertices that are left are counted by the instance
pub left_count : (g : Graph) (r : Set) (s : Instance) → IsInstance g r s → count (length s.rows.items) (mem s.left) ≡ count g.order (complement r)
left_count g r s is = grind (arith, total_congr g.order, and_from, nat_lt 0, nat_le, lt-ltb 0, le-leb)

-- a blossom may be opened by an instance that holds the same
pub may_open_alike : (g : Graph) (r f m n : Set) (s h : Instance) (mate : List ℕ) (b : Blossom) → MayOpen g r f m n s mate b → AreAlike s h → MayOpen g r f m n h mate b
may_open_alike g r f m n s h mate b may same = record { instance_is = instance_alike g r s h may.instance_is same; long = may.long; edge = may.edge; opened = may.opened; mates = may.mates }

-- the exposed vertices are all those that may be
pub roots_exposed : (left mate roots : List ℕ) → AreExposed left mate roots → MayBeExposed left mate roots
roots_exposed left mate roots are v l z = are v ∙ and_from (mem left v) (numbers mate v == 0) l (eq-eqb (numbers mate v) 0 z)

-- a vertex that is left after a shrinking and exposed is the base, or was exposed before
pub candidates_below : (s h : Instance) (cycle : List ℕ) (base : ℕ) → IsShrinking s (mem cycle) base h → (candidates more before after : List ℕ) → MayBeExposed s.left before candidates
    → ((v : ℕ) → numbers after v ≡ 0 → (mem cycle v ≡ true) ⊎ (numbers before v ≡ 0)) → ((v : ℕ) → mem more v ≡ (mem candidates v || (base == v))) → MayBeExposed h.left after more
candidates_below s h cycle base shrink candidates more before after may exposes more_is v l z = grind arith

-- the instance with a cycle shrunk, and the mates of the matching that misses the cycle
module _ (g : Graph) (r f m : Set) (s h : Instance) (mate mate2 : List ℕ) (n : ℕ) (c e : ℕ → ℕ) (is : HoldsMatching g r f s mate) (long : length mate2 ≡ length mate) (opened : IsOpenedCycle g r f m n c e) (mates : HasMates g r m (numbers mate2)) (shrinking : IsShrinking s (listed n c) (c 1) h) where
  pub opened_holds : HoldsMatching (H g is.instance_is.graph r f m n c e opened) (rs g is.instance_is.graph r f m n c e opened) m h mate2
  opened_holds = record {
    instance_is = shrunk_instance g (listed n c) (c 1) _ (pulls g is.instance_is.graph r f m n c e opened) (cz g is.instance_is.graph r f m n c e opened) r s h is.instance_is
        (cr g is.instance_is.graph r f m n c e opened) (cw g is.instance_is.graph r f m n c e opened) shrinking (graph g is.instance_is.graph r f m n c e opened);
    long = long ∙ is.long;
    mates = below_mates g is.instance_is.graph r f m n c e opened (numbers mate2) mates;
  }

  pub opened_less : count (length h.rows.items) (mem h.left) < count (length s.rows.items) (mem s.left)
  opened_less =
      let a = left_count (H g is.instance_is.graph r f m n c e opened) (rs g is.instance_is.graph r f m n c e opened) h opened_holds.instance_is in
      let d = left_count g r s is.instance_is in
      let e = smaller g is.instance_is.graph r f m n c e opened in omega arith

module _ (g : Graph) (r f : Set) (s : Instance) (mate : List ℕ) (is : HoldsMatching g r f s mate) where
  pub growth_closes : (t : AlternatingForest) (closing : Option Adjacent) (o : Adjacent) → IsGrownForest g r f s mate t closing → closing ≡ Some o → ClosesForest g r f mate t o
  growth_closes t closing o growth q = grind (arith, near_edge g r s is.instance_is o.v o.w)

  pub growth_final : (t : AlternatingForest) (closing : Option Adjacent) → IsGrownForest g r f s mate t closing → closing ≡ None → IsMateStep g r f mate (Final (record { outer = t.outer; inner = t.inner }))
  growth_final t closing growth q = grind (arith, done_frame g r f s mate is t growth.grows.holds (growth.done q))

  module _ (mate2 : List ℕ) (long2 : length mate2 ≡ length mate) (b : Blossom) (held : HoldsBlossom g r f mate2 b) (base : ℕ) (base_is : base ≡ numbers b.cycle.items 1) (h : Instance) (shrink : IsShrinking s (mem b.members) base h) where
    abbrev c : ℕ → ℕ
    c = numbers b.cycle.items

    abbrev n : ℕ
    n = blossom_length b

    shrinking : IsShrinking s (listed n c) (c 1) h
    shrinking = subst₂ (λ (x : Set) (z : ℕ). IsShrinking s x z h) (fun_ext held.members) base_is shrink

    pub below_holds : HoldsMatching (without_blossom g b) (removed_with r b) held.m h mate2
    below_holds = opened_holds g r f held.m s h mate mate2 n c held.edge is long2 held.opened held.mates shrinking

    pub below_less : count (length h.rows.items) (mem h.left) < count (length s.rows.items) (mem s.left)
    below_less = opened_less g r f held.m s h mate mate2 n c held.edge is long2 held.opened held.mates shrinking

    module _ (mate3 : List ℕ) (long3 : length mate3 ≡ length mate2) (below : Answer) (step : IsMateStep (without_blossom g b) (removed_with r b) held.m mate3 below) where
      pub may_open : MayOpen g r f held.m step.m s mate3 b
      may_open = record { instance_is = is.instance_is; long = long3 ∙ long2 ∙ is.long; edge = held.edge; opened = held.opened; mates = step.mates }

      pub step_completed : (mate4 : List ℕ) (result : Answer) → IsCompleted g r f held.m step.m mate4 → IsWidened below (mem b.members) result → IsMateStep g r f mate4 result
      step_completed mate4 result done wide = record {
        m = done.0;
        mates = done.1;
        answer = step_up g is.instance_is.graph r f held.m n c held.edge held.opened step.m done.0
            (let d = done.2 in let low = below_size g is.instance_is.graph r f held.m n c held.edge held.opened in
            let sm = same_count g is.instance_is.graph r f held.m n c held.edge held.opened held.m in let sn = same_count g is.instance_is.graph r f held.m n c held.edge held.opened step.m in omega arith)
            below result b.members held.members step.answer wide;
      }
