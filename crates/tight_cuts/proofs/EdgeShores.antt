-- What the groups of two pieces, or of one, give as the code finds it: a least cut of their
-- network within the number of listed matchings. Idea: the network of the rows is the contracted
-- network of the list, and the leaders give its groups.
use Rattle.graph_core.proofs.from_counting.Common.{◌≡◌, ℕ, suc, zero, ◌*◌, ◌≤◌, ◌<◌, ◌^◌, ◌≢◌, true, false, ◌&&◌, ◌||◌, not, get_or, refl, sym, ap, ap₂, ◌∙◌, arith, inl, inr, List, [], ◌∷◌, length, subst, subst₂, Option, Some, None, All, rules, cases_lt, count_congr, sum_by-cons, bit_le_one, complement, count, is_odd, Within, total, mem, Set, pair_set}
use Rattle.graph_core.proofs.Common.{tight-same, components, is_least, IsCovered, Graph, size, edges_in_cut, first_end, second_end, has_ends, IsGraph, IsTight, Allowed, IsWithinLimits}
use Rattle.flow_core.specs.Common.{HasCutWithin, IsLeastCut}
use Rattle.tight_cuts.proofs.LeanLists.{grown_length}
use Rattle.tight_cuts.proofs.LeaderGroups.{leaders_group}
use Rattle.tight_cuts.proofs.Leaders.{leader-least, leader-fixed}
use Rattle.tight_cuts.proofs.Networks.{back, back_odd, least_back, least_common, least_once, parts_nodes}
use Rattle.tight_cuts.proofs.PiecesOfEdges.{beside_graph}
use Rattle.tight_cuts.specs.Common.{lesser_end, greater_end, common_shore, AreGroups, AreLeaders, AreLeadersAt, AreWeights, LeadsBeyond, IsCommonShore, IsCutOfGroups, Leads, arcs_by, at_place, group_net, row_group, weight, SeparatesTightly, arcs_of, contracted_net, group_of, leader, IsGrouping}

-- a total of numbers up to 2048
pub total_small : (n : ℕ) (f : ℕ → ℕ) → ((v : ℕ) → Within n v → f v ≤ 2048) → total n f ≤ 2048 * n
total_small zero f h = omega arith
total_small (suc n) f h = let i = total_small n f (λ v w. h v (omega arith)) in let j = h (suc n) (omega arith) in omega arith

-- a total of numbers up to 2^22
total_large : (n : ℕ) (f : ℕ → ℕ) → ((v : ℕ) → Within n v → f v ≤ 4194304) → total n f ≤ 4194304 * n
total_large zero f h = omega arith
total_large (suc n) f h = let i = total_large n f (λ v w. h v (omega arith)) in let j = h (suc n) (omega arith) in omega arith

-- what a least cut gives: an odd set that each listed matching crosses once, and the common shore
-- if it is tight
pub record IsCutShore (g : Graph) (a b : ℕ) (list : List (List ℕ)) (x y : ℕ) (s : Set) : Type 0 where
  pub odd : is_odd (count g.order s) ≡ true
  pub odd_complement : is_odd (count g.order (complement s)) ≡ true
  pub once : All (λ m. edges_in_cut g (mem m) s ≡ 1) list
  pub common : IsTight g s → ((z : Set) × SeparatesTightly g a b (x, y) z) × ((v : ℕ) → Within g.order v → s v ≡ common_shore g a b (x, y) v)

-- no edge is in more matchings than there are
weight_within : (ms : List (List ℕ)) (e : ℕ) → weight ms e ≤ length ms
weight_within [] e = omega arith
weight_within (m ∷ ms) e = search (rules, sum_by-cons, weight_within ms e, bit_le_one)

-- the sum of all weights
weights_small : (g : Graph) (list : List (List ℕ)) (weights : List ℕ) (bound : ℕ) → IsWithinLimits g → AreWeights g list weights bound → total (size g) (at_place weights) < 2 ^ 63
weights_small g list weights bound lim w = grind (arith, grown_length list (size g) w.grown.rising w.grown.lean, total_small (size g), total_large (size g) (at_place weights), weight_within list)

module _ (g : Graph) (lim : IsWithinLimits g) (cov : IsCovered g) (e : ℕ) (we : Within (size g) e) where
  is : IsGraph g
  is = lim.multigraph.ends

  pub ends_apart : lesser_end g e ≢ greater_end g e
  ends_apart q = lim.multigraph.no_loop e we (let a : lesser_end g e ≡ greater_end g e = q in omega arith)

  pub lesser_within : Within g.order (lesser_end g e)
  lesser_within = let w = is e we in let a = w.0 in let b = w.1 in elim (cases_lt (first_end g e) (second_end g e)) [ inl l ↦ omega arith | inr l ↦ omega arith ]

  pub greater_within : Within g.order (greater_end g e)
  greater_within = let w = is e we in let a = w.0 in let b = w.1 in elim (cases_lt (first_end g e) (second_end g e)) [ inl l ↦ omega arith | inr l ↦ omega arith ]

  pub allowed : Allowed g e
  allowed = cov.allowed e we (lim.multigraph.no_loop e we)

-- what the ends of an edge are under any names
pub ends_within : (g : Graph) → IsGraph g → (a b e : ℕ) → Within (size g) e → has_ends g a b e ≡ true → Within g.order a × Within g.order b
ends_within g is a b e we h = grind arith

ends_differ : (g : Graph) (a b e : ℕ) → first_end g e ≢ second_end g e → has_ends g a b e ≡ true → a ≢ b
ends_differ g a b e d h q = grind arith

module _ (g : Graph) (is : IsGraph g) (a b e : ℕ) (wa : Within g.order a) (wb : Within g.order b) (ab : a ≢ b) (we : Within (size g) e) (ends : has_ends g a b e ≡ true) (leaders : List ℕ) (ld : AreLeaders g a b e leaders) where
  beside_is : IsGraph ld.beside
  beside_is = beside_graph g ld.beside is a b e wa wb we ends ld.is

  -- a vertex that leads a piece is its least vertex
  pub leads_least : (x : ℕ) → Leads g a b leaders x → is_least ld.beside (pair_set a b) x ≡ true
  leads_least x l = grind (arith, leader-least, beside_is)

  -- and the least vertex of a piece leads it
  pub least_leads : (x : ℕ) → Within g.order x → pair_set a b x ≡ false → is_least ld.beside (pair_set a b) x ≡ true → Leads g a b leaders x
  least_leads x wx o l = grind (arith, leader-fixed, beside_is)

  module _ (x y : ℕ) (lx : Leads g a b leaders x) (beyond : LeadsBeyond g a b leaders x y) where
    abbrev pub groups : ℕ → ℕ
    groups v = group_of a b x y (leader (components ld.beside (pair_set a b)) v)

    y_within : Within g.order y
    y_within = elim beyond [ inl l ↦ l.0.within | inr q ↦ subst (Within g.order) (sym q) wb ]

    grouping : IsGrouping g ld.beside a b (x, y) g.order groups
    grouping = leaders_group g ld.beside beside_is ld.is.order a b wa wb ab x y lx.within y_within (leads_least x lx)
        (elim beyond [ inl l ↦ inl (leads_least y l.0, l.1) | inr q ↦ inr q ])

    row_same : (v : ℕ) → Within g.order v → row_group a b x y leaders v ≡ groups v
    row_same v w = ap (group_of a b x y) (ld.each v w)

    -- each group is a node
    pub groups_within : (v : ℕ) → Within g.order v → Within g.order (row_group a b x y leaders v)
    groups_within v w = subst (Within g.order) (sym (row_same v w)) (grouping.nodes v w)

    module _ (list : List (List ℕ)) (weights : List ℕ) (bound : ℕ) (wt : AreWeights g list weights bound) where
      same_arcs : (k : ℕ) → k ≤ size g → arcs_by g weights (row_group a b x y leaders) k ≡ arcs_of g list groups k
      same_arcs zero l = refl
      same_arcs (suc k) l = grind (arith, same_arcs k (omega arith), row_same (first_end g (suc k)), row_same (second_end g (suc k)))

      same_net : group_net g weights leaders a b x y ≡ contracted_net g list groups g.order
      same_net = ap (λ arcs. record { nodes = g.order; arcs = arcs }) (same_arcs (size g) (omega arith))

      -- what is known of the vertices of a least cut within the bound
      module _ (set : List ℕ) (value : ℕ) (least : IsLeastCut (group_net g weights leaders a b x y) a b set value) (l : value ≤ bound)
          (s : Set) (these : (v : ℕ) → Within g.order v → s v ≡ mem set (row_group a b x y leaders v)) where
        abbrev shore : Set
        shore = back g ld.beside is a b e wa wb we ends ld.is list wt.grown.perfect (x, y) lx.within y_within g.order groups grouping (mem set)

        on_shore : (v : ℕ) → Within g.order v → shore v ≡ s v
        on_shore v w = sym (these v w ∙ ap (mem set) (row_same v w))

        cut : IsLeastCut (contracted_net g list groups g.order) a b set value
        cut = subst (λ net. IsLeastCut net a b set value) same_net least

        within : value ≤ length list
        within = let b = wt.is in omega arith

        odd : (is_odd (count g.order shore) ≡ true) × (is_odd (count g.order (complement shore)) ≡ true)
        odd = back_odd g ld.beside is a b e wa wb we ends ld.is list wt.grown.perfect (x, y) lx.within y_within g.order groups grouping (mem set) cut.separates

        once : All (λ m. edges_in_cut g (mem m) s ≡ 1) list
        once k d h =
            sym (count_congr (size g) _ _ (λ f wf. ap₂ (λ a b. mem (get_or list k d) f && ((a && not b) || (not a && b))) (on_shore (first_end g f) (is f wf).0) (on_shore (second_end g f) (is f wf).1)))
            ∙ least_once g ld.beside is a b e wa wb we ends ld.is list wt.grown.perfect (x, y) lx.within y_within g.order groups grouping set value cut within k d h

        common : IsTight g s → ((z : Set) × SeparatesTightly g a b (x, y) z) × ((v : ℕ) → Within g.order v → s v ≡ common_shore g a b (x, y) v)
        common t =
            let tight = tight-same g s shore is (λ v w. sym (on_shore v w)) t in (
              (shore, least_back g ld.beside is a b e wa wb we ends ld.is list wt.grown.perfect (x, y) lx.within y_within g.order groups grouping set value cut tight),
              λ v w. sym (on_shore v w)
                  ∙ least_common g ld.beside is a b e wa wb we ends ld.is list wt.grown.perfect (x, y) lx.within y_within g.order groups grouping set value cut within tight v w,
            )

        pub cut_facts : IsCutShore g a b list x y s
        cut_facts = record {
          odd = ap is_odd (count_congr g.order s shore (λ v w. sym (on_shore v w))) ∙ odd.0;
          odd_complement = ap is_odd (count_congr g.order (complement s) (complement shore) (λ v w. ap not (sym (on_shore v w)))) ∙ odd.1;
          once = once;
          common = common;
        }

      -- if no cut is within the bound no tight set separates the groups
      pub no_cut_parts : (HasCutWithin (group_net g weights leaders a b x y) a b bound → ⊥) → (z : Set) → SeparatesTightly g a b (x, y) z → ⊥
      no_cut_parts h z p =
          let n = parts_nodes g ld.beside is a b e wa wb we ends ld.is list wt.grown.perfect (x, y) lx.within y_within g.order groups grouping z p in
          h (subst (λ net. HasCutWithin net a b bound) (sym same_net) (record { set = n.0; separates = n.1; within = let b = wt.is in let v = n.3 in omega arith }))

-- all that the code asks at the groups
pub record GroupFacts (g : Graph) (list : List (List ℕ)) (leaders weights : List ℕ) (bound x y a b : ℕ) : Type 0 where
  pub groups : AreGroups g leaders weights a b x y
  pub cut : (set : List ℕ) (value : ℕ) → IsLeastCut (group_net g weights leaders a b x y) a b set value → value ≤ bound → (s : Set) → ((v : ℕ) → Within g.order v → s v ≡ mem set (row_group a b x y leaders v)) → IsCutShore g a b list x y s
  pub none : (HasCutWithin (group_net g weights leaders a b x y) a b bound → ⊥) → (z : Set) → SeparatesTightly g a b (x, y) z → ⊥

pub group_facts : (g : Graph) (list : List (List ℕ)) (leaders weights : List ℕ) (bound x y a b e : ℕ) → IsWithinLimits g → AreLeadersAt g a b e leaders → AreWeights g list weights bound → Leads g a b leaders x → LeadsBeyond g a b leaders x y → GroupFacts g list leaders weights bound x y a b
group_facts g list leaders weights bound x y a b e lim at weighed lx beyond =
    let is = lim.multigraph.ends in
    let w = ends_within g is a b e at.edge at.ends in
    let ab = ends_differ g a b e (lim.multigraph.no_loop e at.edge) at.ends in
    record {
      groups = record {
        small = weights_small g list weights bound lim weighed;
        within = groups_within g is a b e w.0 w.1 ab at.edge at.ends leaders at.led x y lx beyond;
        source = w.0;
        sink = w.1;
        differ = ab;
      };
      cut = cut_facts g is a b e w.0 w.1 ab at.edge at.ends leaders at.led x y lx beyond list weights bound weighed;
      none = no_cut_parts g is a b e w.0 w.1 ab at.edge at.ends leaders at.led x y lx beyond list weights bound weighed;
    }

-- the shore that the cut of the groups gives
pub cut-shore : (g : Graph) (list : List (List ℕ)) (leaders weights : List ℕ) (bound x y a b : ℕ) → GroupFacts g list leaders weights bound x y a b → (answer : Option (List ℕ)) → IsCutOfGroups g weights leaders bound a b x y answer →
    (s : List ℕ) → answer ≡ Some s → IsCutShore g a b list x y (mem s)
cut-shore g list leaders weights bound x y a b facts answer h s q = let c = h.some s q in facts.cut c.0 c.1 c.2 c.3 (mem s) c.4

-- if it is tight it is the common shore
pub tight-common : (g : Graph) (list : List (List ℕ)) (x y a b : ℕ) (s : List ℕ) → IsCutShore g a b list x y (mem s) → IsTight g (mem s) → IsCommonShore g a b (x, y) (Some s)
tight-common g list x y a b s cut tight = grind arith

-- without a cut there is none
pub none-common : (g : Graph) (x y a b : ℕ) → ((z : Set) → SeparatesTightly g a b (x, y) z → ⊥) → IsCommonShore g a b (x, y) None
none-common g x y a b h = record { some = λ s q. absurd cc; none = λ q. h }

-- what is known for ends under one name holds under another
pub named_shore : (g : Graph) (a b x y : ℕ) {l h : ℕ} (answer : Option (List ℕ)) → a ≡ l → b ≡ h → IsCommonShore g a b (x, y) answer → IsCommonShore g l h (x, y) answer
named_shore g a b x y answer qa qb common = subst₂ (λ i j. IsCommonShore g i j (x, y) answer) qa qb common

pub named_leads : (g : Graph) (a b : ℕ) (leaders : List ℕ) (x : ℕ) {l h : ℕ} → a ≡ l → b ≡ h → Leads g l h leaders x → Leads g a b leaders x
named_leads g a b leaders x qa qb at = subst₂ (λ i j. Leads g i j leaders x) (sym qa) (sym qb) at

pub named_leaders : (g : Graph) (a b e : ℕ) (leaders : List ℕ) {l h : ℕ} → a ≡ l → b ≡ h → AreLeadersAt g l h e leaders → AreLeadersAt g a b e leaders
named_leaders g a b e leaders qa qb at = subst₂ (λ i j. AreLeadersAt g i j e leaders) (sym qa) (sym qb) at
