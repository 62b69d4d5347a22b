-- The checks 42 to 45 of document 01, of a relation between two charts, and what each of their places says.
use Rattle.std.specs.Prelude.{◌≡◌, ◌↔◌, ℕ, ◌<◌}
use Rattle.theory.specs.Least.{Least, Earlier}
use Rattle.theory.specs.Systems.{System, converse}

-- a chart whose transitions have an index
pub record Indexed : Type 0 where
  pub start : ℕ
  pub count : ℕ
  pub from : ℕ → ℕ
  pub action : ℕ → ℕ
  pub to : ℕ → ℕ

-- vertex 0 is the end
abbrev pub indexed : Indexed → System
indexed M = record {
  State = ℕ;
  start = M.start;
  End = λ v. v ≡ 0;
  Step = λ u a w. (i : ℕ) × (i < M.count) × (M.from i ≡ u) × (M.action i ≡ a) × (M.to i ≡ w);
}

-- transition i of M is matched by one of N that leaves v: the same action, related targets
abbrev pub Matched : (M N : Indexed) → (ℕ → ℕ → Type 0) → ℕ → ℕ → Type 0
Matched M N R v i = (j : ℕ) × (j < N.count) × (N.from j ≡ v) × (N.action j ≡ M.action i) × R (M.to i) (N.to j)

-- transition i of M leaves u and is not matched at v
abbrev pub Unmatched : (M N : Indexed) → (ℕ → ℕ → Type 0) → ℕ → ℕ → ℕ → Type 0
Unmatched M N R u v i = (i < M.count) × (M.from i ≡ u) × (¬ Matched M N R v i)

-- each transition of M that leaves u is matched
abbrev pub AllMatched : (M N : Indexed) → (ℕ → ℕ → Type 0) → ℕ → ℕ → Type 0
AllMatched M N R u v = (i : ℕ) → i < M.count → M.from i ≡ u → Matched M N R v i

-- 43: both are the end or neither is
abbrev pub EndsAgree : ℕ → ℕ → Type 0
EndsAgree u v = (u ≡ 0) ↔ (v ≡ 0)

-- checks 43, 44 and 45 of one pair: both the end or neither; each transition of the one matched, and of the other
pub record PairPasses (M N : Indexed) (R : ℕ → ℕ → Type 0) (u v : ℕ) : Type 0 where
  pub c43 : EndsAgree u v
  pub c44 : AllMatched M N R u v
  pub c45 : AllMatched N M (converse R) v u

-- what the checks answer, with the places of document 01
pub data RelationOutcome : Type 0 where
  related : RelationOutcome
  starts_apart : RelationOutcome
  ends_apart : (p q : ℕ) → RelationOutcome
  left_unmatched : (p q r : ℕ) → RelationOutcome
  right_unmatched : (p q r : ℕ) → RelationOutcome

-- one pair fails, in the order 43, 44, 45
pub data PairFails (M N : Indexed) (R : ℕ → ℕ → Type 0) (u v : ℕ) : RelationOutcome → Type 0 where
  fails_43 : ¬ EndsAgree u v → PairFails M N R u v (ends_apart u v)
  fails_44 : {r : ℕ} → EndsAgree u v → Least (Unmatched M N R u v) r → PairFails M N R u v (left_unmatched u v r)
  fails_45 : {r : ℕ} → EndsAgree u v → AllMatched M N R u v → Least (Unmatched N M (converse R) v u) r
      → PairFails M N R u v (right_unmatched u v r)

-- every related pair before (u, v), by row and then by column, passes
abbrev pub EarlierPairsPass : (M N : Indexed) → (ℕ → ℕ → Type 0) → ℕ → ℕ → Type 0
EarlierPairsPass M N R u v = (a b : ℕ) → Earlier a b u v → R a b → PairPasses M N R a b

-- the answer of the checks: the starts, then the first pair that fails, by row and then by column
pub data RelationChecked (M N : Indexed) (R : ℕ → ℕ → Type 0) : RelationOutcome → Type 0 where
  all_pass : R M.start N.start → ((u v : ℕ) → R u v → PairPasses M N R u v) → RelationChecked M N R related
  fails_42 : ¬ R M.start N.start → RelationChecked M N R starts_apart
  fails_pair : {u v : ℕ} {o : RelationOutcome} → R M.start N.start
      → R u v → EarlierPairsPass M N R u v → PairFails M N R u v o → RelationChecked M N R o
