-- What the parts of the shortest way's code answer: the vertices by how many steps lead there from a set, those of them that
-- are on a shortest path to the end, and the list.
use Rattle.std.specs.Prelude.{ℕ, suc, ◌-◌, ◌≤◌, ◌<◌, ◌≡◌, ◌↔◌, List, ◌++◌, length, drop, Result, Ok, Err, Option, Some, None}
use Rattle.theory.specs.Least.{Least}
use Rattle.theory.specs.Ways.{EndsIn, FirstIn, LowestOf}
use Rattle.report.specs.declared.Refusal.{Refusal}
use Rattle.report.specs.declared.Refusal.TheVariants as refusal
use Rattle.report.specs.declared.Refusal.TheVariants.{NoWay}
use Rattle.bits.specs.declared.sets.Set.{Set}
use Rattle.bits.specs.Sets.{Has, Members}
use Rattle.bits.specs.Tables.{row_of, HasRow}
use Rattle.chart.specs.Bodies.{vertices_of}
use Rattle.chart.specs.Steps.{ActsOf}
use Rattle.chart.specs.Systems.{system_of}
use Rattle.chart.specs.Images.{Image, LeadsTo}

-- from some vertex of the set n steps lead to the end
abbrev pub SomeEnds : List ℕ → Set → ℕ → Type 0
SomeEnds b set n = (x : ℕ) × Has set x × EndsIn (system_of b) n x

-- THE TARGETS of the vertices of a layer, together, and each vertex's in its set of the table; the other sets stay
pub record ReadRows (b : List ℕ) (layer : Set) (before : List ℕ) (r : Set) (after : List ℕ) : Type 0 where
  pub long : length after ≡ 256
  pub all : Members (λ (w : ℕ). (u : ℕ) × Has layer u × LeadsTo b u w) r
  pub each : (u : ℕ) → Has layer u → Members (LeadsTo b u) (row_of after u)
  pub others : (u : ℕ) → ¬ Has layer u → row_of after u ≡ row_of before u

-- THE LAYERS from a set: d steps lead from it to the end, and no fewer. Set k of the layers has the vertices that are first
-- reached in k steps, up to d, and those before d have their targets in the rows
pub record Layered (b : List ℕ) (set : Set) (d : ℕ) (layers rows : List ℕ) : Type 0 where
  pub layers_long : length layers ≡ 256
  pub rows_long : length rows ≡ 256
  pub nearest : Least (SomeEnds b set) d
  pub layer : (k : ℕ) → k ≤ d → Members (FirstIn (system_of b) (Has set) k) (row_of layers k)
  pub row : (k u : ℕ) → k < d → HasRow layers k u → Members (LeadsTo b u) (row_of rows u)

-- the number of steps, if any number below V does it
pub data LayersFrom (b : List ℕ) (set : Set) (layers rows : List ℕ) : Option ℕ → Type 0 where
  found : {d : ℕ} → d < vertices_of b → Layered b set d layers rows → LayersFrom b set layers rows (Some d)
  not_found : ((k : ℕ) → k < vertices_of b → ¬ SomeEnds b set k) → LayersFrom b set layers rows None

-- the vertices of a layer whose row has a vertex of the next
abbrev pub Leading : List ℕ → Set → Set → ℕ → Type 0
Leading rows layer aim u = Has layer u × ((w : ℕ) × HasRow rows u w × Has aim w)

-- THE LAYERS NARROWED, from the last, which has the end alone
pub record Narrowed (rows : List ℕ) (d : ℕ) (before after : List ℕ) : Type 0 where
  pub long : length after ≡ 256
  pub last : (u : ℕ) → HasRow after d u ↔ (u ≡ 0)
  pub each : (k : ℕ) → k < d → Members (Leading rows (row_of before k) (row_of after (suc k))) (row_of after k)

-- so that set k has vertices from which d - k steps lead to the end, and each step to such a one leads into the next set
pub record Leads (b : List ℕ) (d : ℕ) (layers : List ℕ) : Type 0 where
  pub long : length layers ≡ 256
  pub some : (x : ℕ) × HasRow layers 0 x
  pub ends : (k x : ℕ) → k ≤ d → HasRow layers k x → EndsIn (system_of b) (d - k) x
  pub onward : (k u a w : ℕ) → k < d → HasRow layers k u → ActsOf b u a w → EndsIn (system_of b) (d - suc k) w
      → HasRow layers (suc k) w

-- an action leads from a vertex of one set to y, which is in another
abbrev pub OnwardBy : List ℕ → Set → Set → ℕ → ℕ → Type 0
OnwardBy b near aim a y = Image b near a y × Has aim y

-- THE LIST: the lowest of d actions from the set to the end is written to the beginning, and the bytes past it are kept
pub record Writes (b : List ℕ) (set : Set) (d : ℕ) (before after : List ℕ) : Type 0 where
  pub list : List ℕ
  pub lowest : LowestOf (system_of b) d (Has set) list
  pub left : after ≡ list ++ drop d before

-- 55 and 54 of a set that fits, and the list
pub data WayFrom (b : List ℕ) (set : Set) (out : List ℕ) : Result ℕ Refusal → List ℕ → Type 0 where
  no_way : ((k : ℕ) → k < vertices_of b → ¬ SomeEnds b set k) → WayFrom b set out (Err NoWay) out
  too_short : {d : ℕ} → d < vertices_of b → Least (SomeEnds b set) d → length out < d
      → WayFrom b set out (Err (refusal.OutputLength d)) out
  written : {d : ℕ} {t : List ℕ} → d < vertices_of b → Least (SomeEnds b set) d → d ≤ length out → Writes b set d out t
      → WayFrom b set out (Ok d) t
