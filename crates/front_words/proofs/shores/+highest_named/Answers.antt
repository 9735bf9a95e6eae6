use Rattle.std.proofs.Common.{◌∙◌, sym}
use Rattle.front_words.proofs.OtherShores.{highest-no, highest-none, highest-yes, none-zero, some-suc}
use Rattle.front_words.proofs.shores.+highest_named.Goals as goal

pub returns-in-None-clause-named : goal.returns-in-None-clause-named
returns-in-None-clause-named t c = highest-none _ _ (none-zero _ _ c.checked_sub.ensures c.in-None.is)

pub returns-then-names-clause-named : goal.returns-then-names-clause-named
returns-then-names-clause-named t c =
    highest-yes _ _ _ (some-suc _ _ _ c.checked_sub.ensures c.in-Some.is) (sym c.names.ensures ∙ c.if-names.true)

pub returns-else-names-clause-named : goal.returns-else-names-clause-named
returns-else-names-clause-named t c =
    c.highest_named.ensures.named
    ∙ highest-no _ _ _ (some-suc _ _ _ c.checked_sub.ensures c.in-Some.is) (sym c.names.ensures ∙ c.if-names.false)
