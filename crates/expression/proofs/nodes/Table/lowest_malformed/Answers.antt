use mathlib.Core.Path.{sym, ◌∙◌}
use native.Mathlib.Omega.{arith}
use Rattle.expression.proofs.Table.{lowest_step, lowest_stop, lowest_end, malformed_start}
use Rattle.expression.proofs.nodes.Table.lowest_malformed.Goals as goal

pub loop-k-init : goal.loop-k-init
loop-k-init c = malformed_start _ _ c.node_count-k-end.ensures

pub returns-then-not-node_ok : goal.returns-then-not-node_ok
returns-then-not-node_ok c = (
  sym (lowest_stop _ _ _ c.loop-k-test.true (sym c.node_ok.ensures ∙ c.if-not-node_ok.true)) ∙ c.loop-k.invariant,
  omega arith,
)

pub loop-k-preserved : goal.loop-k-preserved
loop-k-preserved c =
    sym (lowest_step _ _ _ c.loop-k-test.true (sym c.node_ok.ensures ∙ c.if-not-node_ok.false)) ∙ c.loop-k.invariant

pub returns : goal.returns
returns c = let e = sym (lowest_end _ _ _ c.loop-k-test.false) ∙ c.loop-k.invariant in omega arith
