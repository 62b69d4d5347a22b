use mathlib.Core.Path.{refl, sym, ◌∙◌}
use Rattle.follower.proofs.Calls.{called_refused, called_ruled, restart_alike}
use Rattle.follower.proofs.called.Goals as goal

pub returns-in-Err : goal.returns-in-Err
returns-in-Err c = sym (called_refused _ _ _ (sym c.check.ensures ∙ c.in-Err.is))

pub returns-in-Restart : goal.returns-in-Restart
returns-in-Restart c =
    rw c.in-Restart.is
    (c.restart_on.ensures ∙ restart_alike _ _ _ ∙ sym (called_ruled _ _ _ (sym c.check.ensures ∙ c.in-Ok.is) refl))
