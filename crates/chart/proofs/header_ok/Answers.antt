use borrow.Author.Tests.{le-leb, lt-leb}
use Rattle.chart.specs.Checks.{◌and◌, header_ok}
use Rattle.chart.proofs.header_ok.Goals as goal

ruleset tests = (lt-leb)

pub returns-then-body-lt4 : goal.returns-then-body-lt4
unfolding header_ok ◌and◌
returns-then-body-lt4 c = search tests

pub returns : goal.returns
unfolding header_ok ◌and◌
returns c = rw (le-leb 4 _ c.if-body-lt4.false) (cc)
