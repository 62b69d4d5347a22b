use mathlib.Core.Path.{sym, ◌∙◌}
use native.Mathlib.Omega.{arith}
use Rattle.chart.proofs.Checks.{header_true, check_header}
use Rattle.chart.proofs.check.Goals as goal

pub returns-then-not-header_ok : goal.returns-then-not-header_ok
returns-then-not-header_ok c = sym (check_header _ (sym c.header_ok.ensures ∙ c.if-not-header_ok.true))

pub byte-v-requires : goal.byte-v-requires
byte-v-requires c = omega (arith, (header_true _ (sym c.header_ok.ensures ∙ c.if-not-header_ok.false)).long)

pub sound_until-at-requires : goal.sound_until-at-requires
sound_until-at-requires c =
    (header_true _ (sym c.header_ok.ensures ∙ c.if-not-header_ok.false), c.byte-v.ensures.0)
