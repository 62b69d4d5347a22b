-- A chart body as the theory has charts: its transitions as a list, and as relations.
use Rattle.std.specs.Prelude.{ℕ, zero, suc, ◌<◌, ◌≡◌, List, [], ◌∷◌, get_or}
use Rattle.theory.specs.Transitions.{Transition}
use Rattle.chart.specs.Bodies.{count_of, from_of, action_of, to_of}

abbrev pub transition_at : List ℕ → ℕ → Transition
transition_at b i = (from_of b i, action_of b i, to_of b i)

-- the n transitions from i on
unfoldable pub transitions_from : List ℕ → ℕ → ℕ → List Transition
transitions_from b i zero = []
transitions_from b i (suc n) = transition_at b i ∷ transitions_from b (suc i) n

-- the body's transitions, in its order
unfoldable pub transitions_of : List ℕ → List Transition
transitions_of b = transitions_from b 0 (count_of b)

-- some transition leads from u to w, at an index with P
pub record Via (body : List ℕ) (P : ℕ → Type 0) (u w : ℕ) : Type 0 where
  pub at : ℕ
  pub within : at < count_of body
  pub leaves : from_of body at ≡ u
  pub enters : to_of body at ≡ w
  pub holds : P at

-- entry i of a list of bytes is x
pub record At (bytes : List ℕ) (x i : ℕ) : Type 0 where
  pub is : get_or bytes i 0 ≡ x

-- the action of transition i is a
pub record Acts (body : List ℕ) (a i : ℕ) : Type 0 where
  pub is : action_of body i ≡ a

-- transition i has the label l and the standing byte 1
pub record Stands (labels standing : List ℕ) (l i : ℕ) : Type 0 where
  pub label : get_or labels i 0 ≡ l
  pub stands : get_or standing i 0 ≡ 1

-- some transition with the action a leads from u to w
abbrev pub ActsOf : List ℕ → ℕ → ℕ → ℕ → Type 0
ActsOf body u a w = Via body (Acts body a) u w

-- some transition with the label l
abbrev pub StepsOf : List ℕ → List ℕ → ℕ → ℕ → ℕ → Type 0
StepsOf body labels u l w = Via body (At labels l) u w

-- some transition with the label l that stands
abbrev pub StandingOf : List ℕ → List ℕ → List ℕ → ℕ → ℕ → ℕ → Type 0
StandingOf body labels standing u l w = Via body (Stands labels standing l) u w

-- some transition whose `keep` byte is 1
abbrev pub Kept : List ℕ → List ℕ → ℕ → ℕ → Type 0
Kept body keep u w = Via body (At keep 1) u w
