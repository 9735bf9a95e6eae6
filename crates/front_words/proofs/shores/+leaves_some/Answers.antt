use Rattle.std.proofs.Common.{◌∙◌}
use Rattle.front_words.proofs.OtherShores.{leaves-no, leaves-none, leaves-yes, none-zero, some-suc}
use Rattle.front_words.proofs.shores.+leaves_some.Goals as goal

pub returns-in-None : goal.returns-in-None
returns-in-None t c = leaves-none _ _ (none-zero _ _ c.checked_sub.ensures c.in-None.is)

pub returns-then-not-names : goal.returns-then-not-names
returns-then-not-names t c =
    leaves-yes _ _ _ _ (some-suc _ _ _ c.checked_sub.ensures c.in-Some.is) c.names.ensures c.if-not-names.true

pub returns-else-not-names : goal.returns-else-not-names
returns-else-not-names t c =
    c.leaves_some.ensures ∙ leaves-no _ _ _ _ (some-suc _ _ _ c.checked_sub.ensures c.in-Some.is) c.names.ensures c.if-not-names.false
