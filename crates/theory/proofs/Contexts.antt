-- Targets in the context of factors that come after them, and their steps.
use mathlib.Core.Path.{◌≡◌, refl, sym, ap, ◌∙◌}
use mathlib.Core.Logic.{◌≢◌}
use mathlib.Core.List.Memᴰ
use mathlib.Core.List.{List, [], ◌∷◌, map, map-map, map-id, foldl, Memᴰ}
use Prim.Native.Nat.{ℕ}
use native.Mathlib.Omega.{arith}
use Rattle.theory.specs.Expressions.{Expr, deadlock, act, sum, product, star, Target, end, to}
use Rattle.theory.specs.Derivatives.{Move, onto, moved, derivatives}
use Rattle.theory.specs.Rules.{Derives, by_rules}
use Rattle.theory.specs.Remains.{factors, pieces}
use Rattle.theory.proofs.Derivatives.{derivatives_sound, derivatives_complete}

-- a target followed by es in turn
abbrev pub plug : List Expr → Target → Target
plug [] t = t
plug (e ∷ es) t = plug es (onto e t)

abbrev pub plugged : List Expr → Move → Move
plugged es m = (m.0, plug es m.1)

pub plug_to : (es : List Expr) (e : Expr) → plug es (to e) ≡ to (foldl product e es)
plug_to [] e = refl
plug_to (f ∷ es) e = plug_to es (product e f)

pub plug_not_end : (es : List Expr) (e : Expr) → plug es (to e) ≢ end
plug_not_end es e q = let r = plug_to es e in let z : ◌≡◌ {A = ℕ} 0 1 = cc in omega arith

-- the steps of an expression multiplied by es are its steps in their context
pub in_context : (es : List Expr) (e : Expr) → derivatives (foldl product e es) ≡ map (plugged es) (derivatives e)
in_context [] e = sym (map-id (derivatives e))
in_context (f ∷ es) e = in_context es (product e f) ∙ map-map (plugged es) (moved f) (derivatives e)

-- the steps of a target
abbrev pub moves : Target → List Move
moves end = []
moves (to e) = derivatives e

pub moves_sound : (ξ : Target) (m : Move) → Memᴰ m (moves ξ) → Derives ξ m.0 m.1
moves_sound end m h = absurd (Memᴰ.not-nil h)
moves_sound (to e) m h = by_rules (derivatives_sound e m h)

pub moves_complete : {ξ η : Target} {a : ℕ} → Derives ξ a η → Memᴰ (a, η) (moves ξ)
moves_complete (by_rules s) = derivatives_complete s

pub moves_plug : (es : List Expr) (e : Expr) → moves (plug es (to e)) ≡ map (plugged es) (derivatives e)
moves_plug es e = ap moves (plug_to es e) ∙ in_context es e

-- a target is made up of its pieces
plug_factors : (e : Expr) (es : List Expr) → plug (factors e es) end ≡ plug es (to e)
plug_factors deadlock es = refl
plug_factors (act a) es = refl
plug_factors (sum e f) es = refl
plug_factors (product e f) es = plug_factors e (f ∷ es)
plug_factors (star e f) es = refl

pub plug_pieces : (ξ : Target) → plug (pieces ξ) end ≡ ξ
plug_pieces end = refl
plug_pieces (to e) = plug_factors e []

pub pieces_plug : (es : List Expr) (e : Expr) → pieces (plug es (to e)) ≡ factors e es
pieces_plug [] e = refl
pieces_plug (f ∷ es) e = pieces_plug es (product e f)
