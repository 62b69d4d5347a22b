-- Transition systems, of which charts are instances, and bisimulations between them (001, section 2).
use Rattle.std.specs.Prelude.{◌≡◌, ◌↔◌, ℕ}

pub record System : Type 1 where
  pub State : Type 0
  pub start : State
  -- the state is the end
  pub End : State → Type 0
  -- the action leads from the first state to the second
  pub Step : State → ℕ → State → Type 0

-- a relation the other way round
abbrev pub converse : {A B : Type 0} → (A → B → Type 0) → B → A → Type 0
converse R y x = R x y

-- each step of M from x is matched by one of N from y: the same action, related targets
abbrev pub StepsMatched : (M N : System) → (M.State → N.State → Type 0) → M.State → N.State → Type 0
StepsMatched M N R x y = (a : ℕ) (x' : M.State) → M.Step x a x' → (y' : N.State) × N.Step y a y' × R x' y'

-- a relation between the states of two systems, checked both ways: starts related, end only with end, steps matched
pub record Bisimulation (M N : System) (R : M.State → N.State → Type 0) : Type 0 where
  pub starts : R M.start N.start
  pub ends : (x : M.State) (y : N.State) → R x y → M.End x ↔ N.End y
  pub forth : (x : M.State) (y : N.State) → R x y → StepsMatched M N R x y
  pub back : (x : M.State) (y : N.State) → R x y → StepsMatched N M (converse R) y x

-- a relation between states, lifted to sets of them: each member of P is related to one of Q, and each of Q to one of P
abbrev pub Lift : {A B : Type 0} → (A → B → Type 0) → (A → Type 0) → (B → Type 0) → Type 0
Lift {A} {B} R P Q = ((x : A) → P x → (y : B) × Q y × R x y) × ((y : B) → Q y → (x : A) × P x × R x y)

-- the system with each action a replaced by f a
abbrev pub renamed : (ℕ → ℕ) → System → System
renamed f M = record {
  State = M.State;
  start = M.start;
  End = M.End;
  Step = λ x b y. (a : ℕ) × M.Step x a y × (b ≡ f a);
}
