use Rattle.std.proofs.Common.{arith, ◌≡◌, ◌-◌}
use Rattle.match_search.specs.declared.cycle.Meeting.{Meeting}
use Rattle.match_search.proofs.cycle.last_meeting.Goals as goal

pub returns-in-Some-clause-some : goal.returns-in-Some-clause-some
returns-in-Some-clause-some c m e =
    let f = c.find_in.ensures.some c.in-Some.j c.in-Some.is in
    let here : Meeting = record { i = c.loop-i.i - 1; j = c.in-Some.j } in
    let q : here ≡ m = cc in
    let l = c.loop-i-test.true in
    grind arith
