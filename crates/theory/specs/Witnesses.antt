-- Layered loop witnesses (001, Definition 3.3) of a connected chart.
use Rattle.std.specs.Prelude.{◌≢◌, ℕ, ◌<◌}
use Rattle.theory.specs.Paths.{Star, Endless}
use Rattle.theory.specs.Charts.{Steps, Any, Branch, Loop}
use Rattle.theory.specs.LoopCharts.{InLoop, LoopChart}

-- W2(b) of one loop: from the vertices of its chart, v aside, only entries of lower level depart
abbrev pub Layered : Steps → ℕ → ℕ → Type 0
Layered S v l = (w : ℕ) → w ≢ v → Star (InLoop S v l) v w → (m : ℕ) → Loop S w m → m < l

-- Definition 3.3
pub record Witness (S : Steps) (start : ℕ) : Type 0 where
  pub W1 : ¬ Endless (Branch S) start
  pub W2a : (v l : ℕ) → Loop S v l → LoopChart (InLoop S v l) v
  pub W2b : (v l : ℕ) → Loop S v l → Layered S v l

-- every vertex but the end is reached from the start
abbrev pub Connected : ℕ → Steps → ℕ → Type 0
Connected size S start = (w : ℕ) → 0 < w → w < size → Star (Any S) start w
