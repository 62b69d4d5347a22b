-- What the loops of a vertex, and all loops, make 33 to 35 say.
use Rattle.std.specs.Prelude.{ℕ, ◌<◌, ◌≡◌, Result, Ok, Err}
use Rattle.theory.specs.Charts.{Steps, Loop}
use Rattle.theory.specs.Checks.{LoopPasses, Outcome, LoopFails, EarlierPass}
use Rattle.report.specs.declared.Refusal.{Refusal}
use Rattle.witness.specs.Labellings.{labelled_as}

-- a check of the loop (v, l) fails, and p is its place
abbrev pub FailsAt : Steps → ℕ → ℕ → Refusal → Type 0
FailsAt S v l p = (o : Outcome) × LoopFails S v l o × ((n : ℕ) → labelled_as n o ≡ Err p)

-- the loops of v, by level: each passes, or the first that fails
abbrev pub VertexSaid : Steps → ℕ → Result Unit Refusal → Type 0
VertexSaid S v (Ok tt) = (l : ℕ) → Loop S v l → LoopPasses S v l
VertexSaid S v (Err p) =
    (l : ℕ) × Loop S v l × ((m : ℕ) → m < l → Loop S v m → LoopPasses S v m) × FailsAt S v l p

-- all loops, by vertex and then by level
abbrev pub LoopsSaid : Steps → Result Unit Refusal → Type 0
LoopsSaid S (Ok tt) = (v l : ℕ) → Loop S v l → LoopPasses S v l
LoopsSaid S (Err p) = (v l : ℕ) × Loop S v l × EarlierPass S v l × FailsAt S v l p
