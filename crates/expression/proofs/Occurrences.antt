-- (1·2)+(1·2), computed: both vertices of 2 stand for the same, and the first 1 leads to its own 2 alone.
use Prim.Native.Nat.{ℕ}
use mathlib.Core.Path.{◌≡◌, refl}
use mathlib.Core.List.Memᴰ
use mathlib.Core.List.{List, [], ◌∷◌, Memᴰ}
use native.Mathlib.Omega.{arith}
use Rattle.std.specs.Prelude.{Ok}
use Rattle.theory.specs.Tests as tests
use Rattle.theory.specs.Nodes.{down_f, down, expr, first, up, uses, rise_f, rise, after, remainders, residual, meaning, Tree}
use Rattle.theory.specs.Climbs.{itself, ClimbsTo, left_of_product, LeadsBy}
use Rattle.theory.proofs.Climbs.{first_iff, climb_iff}
use Rattle.expression.specs.Table.{node, count, lowest_failing, malformed, misused, check_of}
use Rattle.expression.proofs.Table.{passed→well_formed, tree}

abbrev pub twice : List ℕ
twice = 1 ∷ 1 ∷ 0 ∷ 0 ∷ 1 ∷ 2 ∷ 0 ∷ 0 ∷ 3 ∷ 0 ∷ 0 ∷ 1
    ∷ 1 ∷ 1 ∷ 0 ∷ 0 ∷ 1 ∷ 2 ∷ 0 ∷ 0 ∷ 3 ∷ 0 ∷ 3 ∷ 4 ∷ 2 ∷ 0 ∷ 2 ∷ 5 ∷ []

passes : check_of twice ≡ Ok tt
unfolding check_of misused malformed lowest_failing tests.lowest count node uses
passes = refl

table : Tree (node twice) 7
unfolding count
table = tree twice (passed→well_formed twice passes)

pub same_meaning : meaning (node twice) 7 2 ≡ meaning (node twice) 7 5
unfolding residual remainders after rise rise_f up expr down down_f node
same_meaning = refl

pub to_its_own : LeadsBy (node twice) 7 0 1 2
unfolding node
to_its_own = (0, itself refl, refl, left_of_product {k = 2} (omega arith) refl)

only_first : (j : ℕ) → Memᴰ j (first (node twice) 0) → j ≡ 0
unfolding first down down_f node
only_first j m = Memᴰ.eq_of_singleton m

one_climb : ClimbsTo (node twice) 7 0 5 → ⊥
unfolding after rise rise_f up node
one_climb c = let z : ◌≡◌ {A = ℕ} 5 2 = (climb_iff (node twice) 7 table 0 5 (omega arith)).0 c in omega arith

pub not_to_the_other : LeadsBy (node twice) 7 0 1 5 → ⊥
not_to_the_other (j, f, e, c) =
    let q = only_first j ((first_iff (node twice) 7 table 0 (omega arith) j).1 f) in
    one_climb (rw q at c)
