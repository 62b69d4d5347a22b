-- Rows that are the same put together in classes, and the chart vertices that pass 43 to 45 with all their rows at once:
-- the contracts of the code.
use Rattle.std.specs.Prelude.{◌≡◌, ◌≢◌, ◌⊎◌, ◌↔◌, List, ℕ, ◌+◌, ◌*◌, ◌/◌, ◌≤◌, ◌<◌, length, get_or}
use Rattle.bits.specs.declared.sets.Set.{Set}
use Rattle.bits.specs.Words.{On}
use Rattle.bits.specs.Sets.{Has}
use Rattle.bisimulation.specs.Answers.{Related}
use Rattle.bisimulation.specs.Suspects.{SameRow, row_at, Sorted, Match}

-- CLASSES
-- the class of a row: a row up to it, which is its own class, with the same vertices; only row 0 has class 0
pub record Classes (relation : List ℕ) (rows : ℕ) (class : List ℕ) : Type 0 where
  pub long : length class ≡ 128
  pub few : (u : ℕ) → get_or class u 0 < 128
  pub low : (u : ℕ) → u < rows → get_or class u 0 ≤ u
  pub own : (u : ℕ) → u < rows → get_or class (get_or class u 0) 0 ≡ get_or class u 0
  pub same : (u : ℕ) → u < rows → SameRow relation (get_or class u 0) u
  pub first : (u : ℕ) → u < rows → get_or class u 0 ≡ 0 → u ≡ 0

-- the class of a step's target
abbrev pub class_at : (keys class : List ℕ) → ℕ → ℕ
class_at keys class k = get_or class (row_at keys k) 0

-- the first m keys are steps whose target has a class
pub record Classed (keys class : List ℕ) (m : ℕ) : Type 0 where
  pub steps_few : m ≤ 64
  pub keys_long : length keys ≡ 128
  pub fit : (k : ℕ) → k < m → get_or keys k 0 < 65536
  pub targets : (k : ℕ) → k < m → row_at keys k < 128
  pub class_long : length class ≡ 128
  pub class_few : (u : ℕ) → u < 128 → get_or class u 0 < 128

-- word c has the steps whose target has class c
abbrev pub Leading : (keys class : List ℕ) → (m : ℕ) → (r : List ℕ) → Type 0
Leading keys class m r = Sorted (class_at keys class) 128 m r

-- steps with the same action, whose targets have the same class
pub record Alike (keys class : List ℕ) (j k : ℕ) : Type 0 where
  pub actions : get_or keys j 0 / 256 ≡ get_or keys k 0 / 256
  pub targets : class_at keys class j ≡ class_at keys class k

-- the word has only steps below m
abbrev pub StepsBelow : (m word : ℕ) → Type 0
StepsBelow m word = (k : ℕ) → On word k → k < m

-- each step of r is alike to one of the word
pub record Saturated (keys class : List ℕ) (word r : ℕ) : Type 0 where
  pub each : (k : ℕ) → On r k → (j : ℕ) × On word j × Alike keys class j k

-- of the rows from 1 up to n: a step of the word `every` of a class is alike to one of each row of the class, and a step
-- of a row is in the word `some` of its class
pub record ClassSteps (keys words class : List ℕ) (n : ℕ) (every some : List ℕ) : Type 0 where
  pub every_long : length every ≡ 128
  pub some_long : length some ≡ 128
  pub all : (u : ℕ) → 0 < u → u < n → Saturated keys class (get_or words u 0) (get_or every (get_or class u 0) 0)
  pub any : (u k : ℕ) → 0 < u → u < n → On (get_or words u 0) k → On (get_or some (get_or class u 0) 0) k

-- TABLES OF WORDS
-- the bits of x have come into the words of a with P
pub record Adds (P : ℕ → Type 0) (x : ℕ) (a r : List ℕ) : Type 0 where
  pub long : length r ≡ length a
  pub exactly : (w k : ℕ) → w < length a → On (get_or r w 0) k ↔ (On (get_or a w 0) k ⊎ (P w × On x k))

-- no bit has come in, and the words of a with P have only bits of x left
pub record Cuts (P : ℕ → Type 0) (x : ℕ) (a r : List ℕ) : Type 0 where
  pub long : length r ≡ length a
  pub only : (w k : ℕ) → w < length a → On (get_or r w 0) k → On (get_or a w 0) k × (P w → On x k)

-- c stands for its class, and its rows are related to w
abbrev pub Stands : (relation class : List ℕ) → (c w : ℕ) → Type 0
Stands relation class c w = (get_or class c 0 ≡ c) × Related relation c w

-- the classes below n are in the tables: at each vertex the steps that lead to one of them, steps that all of them have
-- in common, and the steps of some of them
pub record Spread (relation class leading every some : List ℕ) (n : ℕ) (into all any : List ℕ) : Type 0 where
  pub into_long : length into ≡ 128
  pub all_long : length all ≡ 128
  pub any_long : length any ≡ 128
  pub come : (w k : ℕ) → w < 128
      → On (get_or into w 0) k ↔ ((c : ℕ) × (c < n) × Stands relation class c w × On (get_or leading c 0) k)
  pub common : (w k c : ℕ) → w < 128 → c < n → Stands relation class c w → On (get_or all w 0) k → On (get_or every c 0) k
  pub joined : (w k c : ℕ) → w < 128 → c < n → Stands relation class c w → On (get_or some c 0) k → On (get_or any w 0) k

-- the set has the vertices of row c, where it stands for its class
abbrev pub RowIn : (relation class : List ℕ) → ℕ → Set → Type 0
RowIn relation class c r = (w : ℕ) → Stands relation class c w → Has r w

-- and those of all such rows from 1 up to n
abbrev pub RowsIn : (relation class : List ℕ) → ℕ → Set → Type 0
RowsIn relation class n r = (c : ℕ) → 0 < c → c < n → RowIn relation class c r

-- THE SUSPECTS
-- by M, a step of `every` matches each of the transitions from a up to b, and each step of `some` matches one of them
pub record Passing (M : ℕ → ℕ → Type 0) (a b every some : ℕ) : Type 0 where
  pub met : (i : ℕ) → a ≤ i → i < b → (k : ℕ) × On every k × M i k
  pub matched : (k : ℕ) → On some k → (i : ℕ) × (a ≤ i) × (i < b) × M i k

-- this by the tables
abbrev pub TablesPass : (into acting body : List ℕ) → (a b every some : ℕ) → Type 0
TablesPass into acting body = Passing (λ (i k : ℕ). Match into acting body i k)

-- this of all transitions of vertex v, by its words in the tables
abbrev pub PassesAt : (into acting all any body begins : List ℕ) → ℕ → Type 0
PassesAt into acting all any body begins v =
    TablesPass into acting body (get_or begins v 0) (get_or begins (v + 1) 0) (get_or all v 0) (get_or any v 0)

-- of the set `related`, the vertices outside r pass, and r has those of the set `apart`
pub record Sifted (into acting all any body begins : List ℕ) (related apart r : Set) : Type 0 where
  pub given : (v : ℕ) → Has apart v → Has r v
  pub others : (v : ℕ) → Has related v → ¬ Has r v → PassesAt into acting all any body begins v

-- 43: r has the vertices but 0 of row 0, and 0 where another row has it
pub record Apart (row related r : Set) : Type 0 where
  pub first : (v : ℕ) → Has row v → v ≢ 0 → Has r v
  pub others : Has related 0 → Has r 0

-- the steps of a chart, and a relation with a row for each of its vertices
pub record Stepped (keys words : List ℕ) (m rows : ℕ) (relation : List ℕ) : Type 0 where
  pub steps_few : m ≤ 64
  pub keys_long : length keys ≡ 128
  pub words_long : length words ≡ 128
  pub fit : (k : ℕ) → k < m → get_or keys k 0 < 65536
  pub known : (u : ℕ) → StepsBelow m (get_or words u 0)
  pub targets : (k : ℕ) → k < m → row_at keys k < rows
  pub end : (k : ℕ) → ¬ On (get_or words 0 0) k
  pub whole : length relation ≡ 16 * rows
  pub few : rows ≤ 128
  pub some : 0 < rows

-- steps with the same action, whose targets have the same row
pub record SameStep (keys relation : List ℕ) (j k : ℕ) : Type 0 where
  pub actions : get_or keys j 0 / 256 ≡ get_or keys k 0 / 256
  pub targets : SameRow relation (row_at keys j) (row_at keys k)

-- of a row but 0 and a vertex v that it is related to: v is in the set, each of the m steps that is in the word `all`
-- of v is the same as one of the row, and the steps of the row are in the word `any` of v
pub record Joined (keys words : List ℕ) (m : ℕ) (relation all any : List ℕ) (related : Set) : Type 0 where
  pub given : (u v : ℕ) → u ≢ 0 → Related relation u v → Has related v
  pub common : (u v k : ℕ) → u ≢ 0 → Related relation u v → k < m → On (get_or all v 0) k
      → (j : ℕ) × On (get_or words u 0) j × SameStep keys relation j k
  pub steps : (u v k : ℕ) → u ≢ 0 → Related relation u v → On (get_or words u 0) k → On (get_or any v 0) k

-- of the set `related`, the vertices outside r pass; r has those where 43 fails
pub record Suspected (into acting all any body begins relation : List ℕ) (related r : Set) : Type 0 where
  pub first : (v : ℕ) → Related relation 0 v → v ≢ 0 → Has r v
  pub end : Has related 0 → Has r 0
  pub others : (v : ℕ) → Has related v → ¬ Has r v → PassesAt into acting all any body begins v
