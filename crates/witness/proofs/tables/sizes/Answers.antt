use native.Mathlib.Omega.{arith}
use Rattle.witness.proofs.tables.sizes.Goals as goal

pub returns : goal.returns
returns c =
    let a = c.row_or_empty-a.ensures in
    let b = c.row_or_empty-b.ensures in
    let p = rw a at c.few_bits.ensures.0 in
    let q = rw a at c.few_bits-2.ensures.0 in
    let r = rw b at c.few_bits-3.ensures.0 in
    let s = rw b at c.few_bits-4.ensures.0 in (
      omega (arith, p, q, r, s),
      omega (
        arith,
        c.few_bits.ensures.1,
        c.few_bits-2.ensures.1,
        c.few_bits-3.ensures.1,
        c.few_bits-4.ensures.1,
      ),
    )
