-- The byte that stands for a kind of node.
use Rattle.std.specs.Prelude.{ℕ, ◌<◌, ◌≡◌, Result, MatchResult}
use Rattle.expression.specs.declared.kind.Kind.{Kind}
use Rattle.expression.specs.declared.kind.Kind.TheVariants.{Deadlock, Action, Sum, Product, Star}
use Rattle.expression.specs.declared.kind.UnknownKind.{UnknownKind}

abbrev pub byte_of : Kind → ℕ
byte_of Deadlock = 0
byte_of Action = 1
byte_of Sum = 2
byte_of Product = 3
byte_of Star = 4

-- the kind for which a byte stands, or an error with a byte that stands for none
abbrev pub Decodes : ℕ → Result Kind UnknownKind → Type 0
Decodes byte r = MatchResult r (λ kind. byte_of kind ≡ byte) (λ e. (e.0 ≡ byte) × (4 < byte))
