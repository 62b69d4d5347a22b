-- When "spoilt" is answered (document 02, C-15), read off a list of calls and its answers alone.
use Rattle.std.specs.Prelude.{◌≡◌, ◌↔◌, Bool, List, ◌∷◌, ℕ, suc, ◌<◌, length}
use Rattle.theory.specs.Events.{Call, restart, event, not_possible, Answer, answer, spoilt}

-- at place i of a list, from 0, is x
pub data At {A : Type 0} : ℕ → List A → A → Type 0 where
  here : {x : A} {xs : List A} → At 0 (x ∷ xs) x
  later : {i : ℕ} {x y : A} {xs : List A} → At i xs x → At (suc i) (y ∷ xs) x

-- ANSWERS OF ANY FORM, of which some say "not possible". Since the last restart before place i a call was answered so
pub record SpoiltBefore {A : Type 0} (NotPossible : A → Type 0) (cs : List Call) (xs : List A) (i : ℕ) : Type 0 where
  pub place : ℕ
  pub sooner : place < i
  pub said : A
  pub at_place : At place xs said
  pub not_possible : NotPossible said
  pub no_restart : (j : ℕ) → place < j → j < i → ¬ At j cs restart

-- ONE CLAIM ABOUT THE WHOLE LIST, where others say "spoilt": there is an answer to each call, and it is "spoilt" exactly where
-- the call is an event and one since the last restart was not possible
pub record SpoiltExactly {A : Type 0} (Spoilt NotPossible : A → Type 0) (cs : List Call) (xs : List A) : Type 0 where
  pub long : length xs ≡ length cs
  pub each : (i : ℕ) (x : A) → At i xs x → Spoilt x ↔ (((a : ℕ) × At i cs (event a)) × SpoiltBefore NotPossible cs xs i)

-- of the rule's own answers
abbrev pub IsNotPossible : Answer → Type 0
IsNotPossible x = (end : Bool) × (offered : ℕ) × (x ≡ answer not_possible end offered)

abbrev pub RuleSpoiltExactly : List Call → List Answer → Type 0
RuleSpoiltExactly = SpoiltExactly (λ x. x ≡ spoilt) IsNotPossible
