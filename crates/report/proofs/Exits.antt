-- What the exit of a `?` returns, where the error is handed on as it is.
use mathlib.Core.Path.{◌≡◌, ◌∙◌, ap}
use Rattle.std.specs.Result.{IsErrAnd}
use Rattle.std.specs.Prelude.{Result, Err}
use Rattle.std.proofs.lemmas.Result.{err_from_is_err_and}
use Rattle.report.specs.declared.Refusal.{Refusal}

pub handed_on : {A : Type 0} {x : Refusal} (r : Result A Refusal) → IsErrAnd r (λ y. y ≡ x) → r ≡ Err x
handed_on r h = let p = err_from_is_err_and r h in p.1 ∙ ap Err p.2
