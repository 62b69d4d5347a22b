use borrow.Author.Rules.{rules}
use native.Mathlib.Omega.{arith}
use Prim.Native.Nat.{◌^◌, ◌<◌}
use Rattle.bits.proofs.Words.{bit_below}
use Rattle.bisimulation.proofs.TableLaws.{over_both}
use Rattle.bisimulation.proofs.tables.spread_over.Goals as goal

pub spread-requires : goal.spread-requires
spread-requires c = λ k on. let b : c.args.vertices.lo < 2 ^ 64 = search rules in omega (arith, bit_below 64 _ k b on)

pub spread-requires-2 : goal.spread-requires-2
spread-requires-2 c =
    let b : c.args.vertices.hi < 2 ^ 64 = search rules in
    λ k on. omega (arith, bit_below 64 _ k b on, c.spread.ensures.long)

pub returns : goal.returns
returns c =
    over_both c.args.vertices c.args.set (search rules) c.spread.ensures c.spread-2.ensures
