use native.Mathlib.Omega.{arith}
use Rattle.chart.proofs.Codes.{sound_none}
use Rattle.chart.proofs.sound_until.Goals as goal

pub key_before-before-requires : goal.key_before-before-requires
key_before-before-requires c = sound_none c.requires.0

pub loop-p-init : goal.loop-p-init
loop-p-init c = c.key_before-before.ensures

pub overflow_add-p : goal.overflow_add-p
overflow_add-p c = let s = c.loop-p.invariant.sound in omega (arith, s.header.count_high, s.place, s.within)

pub block_ok-requires : goal.block_ok-requires
block_ok-requires c = (c.loop-p.invariant, c.requires.1, omega arith)

pub returns-then-not-block_ok : goal.returns-then-not-block_ok
returns-then-not-block_ok c = c.loop-p.invariant.sound

pub key_before-before-requires-in-loop-p : goal.key_before-before-requires-in-loop-p
key_before-before-requires-in-loop-p c = c.block_ok.ensures c.if-not-block_ok.false

pub loop-p-preserved : goal.loop-p-preserved
loop-p-preserved c = c.key_before-before-in-loop-p.ensures

pub returns : goal.returns
returns c = c.loop-p.invariant.sound
