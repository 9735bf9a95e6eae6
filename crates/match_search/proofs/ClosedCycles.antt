-- The cycle of a blossom, as the code reads it off two closing paths, with its members and with the
-- mates that are left. What is proved of the places on the paths is so said of the cycle.
use Rattle.graph_core.proofs.from_counting.Common.{◌≡◌, ◌≢◌, ℕ, suc, ◌+◌, ◌-◌, ◌/◌, ◌≤◌, ◌<◌, ap, ◌∙◌, arith, subst, length, List, fun_ext, Within, Set, mem}
use Rattle.graph_core.proofs.Common.{Graph}
use Rattle.match_search.specs.Common.{AreClosingPaths, ExposesOnly, HoldsBlossom, second_start, cleared_mates, flipped_mates, IsLastMeeting, listed, numbers, part}
use Rattle.match_search.specs.declared.blossom.Blossom.{Blossom}
use Rattle.match_search.specs.declared.cycle.Meeting.{Meeting}
use Rattle.match_search.specs.declared.paths.Paths.{Paths}
use Rattle.match_search.proofs.ClosingPairs.{blossom_cycle, blossom_exposes, blossom_holds, half_is}

module _ (w : Paths) (meeting : Meeting) (last : IsLastMeeting w.row.items 0 (suc (w.first + w.first)) (second_start w) (suc (w.second + w.second)) meeting) (row cs : List ℕ) (row_is : row ≡ w.row.items)
    (low : (y : ℕ) → y ≤ w.second + w.second - meeting.j → numbers cs (1 + y) ≡ numbers row (w.first + w.first + 1 + meeting.j + y))
    (high : (y : ℕ) → y < w.first + w.first - meeting.i → numbers cs (w.second + w.second - meeting.j + 2 + y) ≡ numbers row (meeting.i + 1 + (w.first + w.first - meeting.i - 1 - y)))
    (g : Graph) (r f : Set) (mate : List ℕ) (are : AreClosingPaths g r f mate w) where
  i_in : meeting.i ≤ w.first + w.first
  i_in = let b = last.i_in in omega arith

  j_in : meeting.j ≤ w.second + w.second
  j_in = let b = last.j_in in omega arith

  latest : (s u : ℕ) → meeting.i < s → s ≤ w.first + w.first → u ≤ w.second + w.second → part w.row.items 0 s ≢ part w.row.items (second_start w) u
  latest s u a b d = last.latest s u a (omega arith) (omega arith)

  c_low : (y : ℕ) → y ≤ w.second + w.second - meeting.j → numbers cs (1 + y) ≡ numbers w.row.items (second_start w + meeting.j + y)
  c_low y b = low y b ∙ ap (λ (xs : List ℕ). numbers xs (w.first + w.first + 1 + meeting.j + y)) row_is ∙ ap (numbers w.row.items) (omega arith)

  c_high : (y : ℕ) → y < w.first + w.first - meeting.i → numbers cs (w.second + w.second - meeting.j + 2 + y) ≡ numbers w.row.items (meeting.i + 1 + (w.first + w.first - meeting.i - 1 - y))
  c_high y b = high y b ∙ ap (λ (xs : List ℕ). numbers xs (meeting.i + 1 + (w.first + w.first - meeting.i - 1 - y))) row_is

  pub cycle_within : (s : ℕ) → Within (suc (w.second + w.second - meeting.j + (w.first + w.first - meeting.i))) s → Within g.order (numbers cs s)
  cycle_within = (blossom_cycle g r f mate w are meeting.i meeting.j i_in j_in last.meet latest cs c_low c_high).within

  -- the path to the base has an even number of edges
  pub stem_half : meeting.j ≡ meeting.j / 2 + meeting.j / 2
  stem_half = half_is g r f mate w are meeting.i meeting.j i_in j_in last.meet latest cs c_low c_high

  -- the pairs are exchanged along the path to the base, and the cycle is cleared
  module _ (blossom : Blossom) (cycle_is : blossom.cycle.items ≡ cs) (long : length cs ≡ w.second + w.second - meeting.j + (w.first + w.first - meeting.i) + 2)
      (listing : List ℕ) (listing_is : listing ≡ cs) (members : (v : ℕ) → mem blossom.members v ≡ listed (length listing - 1) (numbers listing) v)
      (path : List ℕ) (path_is : path ≡ w.row.items) (between : List ℕ) (flip : (v : ℕ) → numbers between v ≡ flipped_mates (numbers mate) (part path (w.first + w.first + 1)) (meeting.j / 2) v)
      (cleared : List ℕ) (cleared_is : cleared ≡ cs) (new : List ℕ) (clear : (v : ℕ) → numbers new v ≡ cleared_mates (numbers between) (length cleared - 1) (numbers cleared) v) where
    members_is : (v : ℕ) → mem blossom.members v ≡ listed (length cs - 1) (numbers cs) v
    members_is = subst (λ (xs : List ℕ). (v : ℕ) → mem blossom.members v ≡ listed (length xs - 1) (numbers xs) v) listing_is members

    new_is : (v : ℕ) → numbers new v ≡ cleared_mates (flipped_mates (numbers mate) (part w.row.items (second_start w)) (meeting.j / 2)) (length cs - 1) (numbers cs) v
    new_is v = grind (arith, fun_ext, one_more (w.first + w.first))
      where
        one_more : (a : ℕ) → a + 1 ≡ suc a
        one_more a = omega arith

    pub blossom_cycle_holds : HoldsBlossom g r f new blossom
    blossom_cycle_holds = blossom_holds g r f mate w are meeting.i meeting.j i_in j_in last.meet latest cs c_low c_high blossom cycle_is (omega arith) members_is new new_is

    pub cycle_exposes : ExposesOnly mate new blossom
    cycle_exposes = blossom_exposes g r f mate w are meeting.i meeting.j i_in j_in last.meet latest cs c_low c_high blossom (omega arith) members_is new new_is
