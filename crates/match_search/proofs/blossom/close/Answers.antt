use Rattle.std.proofs.Common.{◌≡◌, ℕ, suc, ◌+◌, arith}
use Rattle.match_search.proofs.blossom.close.Goals as goal

pub augment-requires-clause-apart : goal.augment-requires-clause-apart
augment-requires-clause-apart c = grind (arith, one_more (c.args.paths.now.first + c.args.paths.now.first))
  where
    one_more : (a : ℕ) → a + 1 ≡ suc a
    one_more a = omega arith

pub blossom_of-requires-clause-last : goal.blossom_of-requires-clause-last
blossom_of-requires-clause-last c =
    let last = c.last_meeting.ensures.some c.in-Some.meeting c.in-Some.is in
    grind (arith, one_more (c.args.paths.now.first + c.args.paths.now.first), one_more (c.args.paths.now.second + c.args.paths.now.second))
  where
    one_more : (a : ℕ) → a + 1 ≡ suc a
    one_more a = omega arith
