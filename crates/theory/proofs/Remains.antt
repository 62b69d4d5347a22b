-- What remains at a vertex of the drawn chart steps, by the published rules, as the vertex does.
use mathlib.Core.Path.{◌≡◌, refl, sym, subst}
use mathlib.Core.Logic.{◌≢◌, ◌↔◌, ⊎_elim}
use mathlib.Core.List.Memᴰ
use mathlib.Core.List.{List, [], ◌∷◌, ◌++◌, map, Memᴰ}
use mathlib.Core.Option.{Option, none, some}
use Prim.Native.Nat.{ℕ, ◌≤◌, ◌<◌}
use native.Mathlib.Omega.{arith}
use native.Mathlib.Decide.{ℕ_discrete}
use Rattle.theory.specs.Expressions.{Expr, act, product, star, Target, end, to}
use Rattle.theory.specs.Derivatives.{Move, moved, derivatives}
use Rattle.theory.specs.Charts.{Formed}
use Rattle.theory.specs.Relations.{indexed}
use Rattle.theory.specs.Rules.{rules}
use Rattle.theory.specs.Systems.{Bisimulation}
use Rattle.theory.specs.LabelledCharts.{LabelledChart, labelled_steps, Half, InHalf}
use Rattle.theory.specs.Texts.{plus, total, Text, text, Sum, nothing, other, alone, times}
use Rattle.theory.specs.Remains.{Remains, over, next, pieces, AtVertex}
use Rattle.theory.proofs.Contexts.{plug, plugged, plug_not_end, plug_pieces, pieces_plug}
use Rattle.theory.proofs.Contexts.{moves, moves_sound, moves_complete, moves_plug}

plus_derivatives : (x : Option Expr) (e : Expr) → derivatives (plus x e) ≡ derivatives (total x) ++ derivatives e
plus_derivatives none e = refl
plus_derivatives (some d) e = refl

module _ (c : LabelledChart) (vertices : ℕ) where
  -- m is a step by transition i, to what remains there
  record Goes (m : Move) (i : ℕ) : Type 0 where
    acts : m.0 ≡ c.chart.action i
    left : List Expr
    remains : Remains c vertices left (c.chart.to i)
    leads : m.1 ≡ plug left end

  -- a step of e which, in the context es, is by transition i
  record Stepped (e : Expr) (es : List Expr) (i : ℕ) : Type 0 where
    move : Move
    listed : Memᴰ move (derivatives e)
    goes : Goes (plugged es move) i

  earlier : {es : List Expr} {i : ℕ} (x : Option Expr) (e : Expr) → Stepped (total x) es i → Stepped (plus x e) es i
  earlier x e s = record {
    move = s.move;
    listed = rw (plus_derivatives x e) (Memᴰ.append_left (derivatives e) s.listed);
    goes = s.goes;
  }

  latest : {es : List Expr} {i : ℕ} (x : Option Expr) (e : Expr) (m : Move) → derivatives e ≡ m ∷ [] → Goes (plugged es m) i
      → Stepped (plus x e) es i
  latest x e m q g = record {
    move = m;
    listed = rw (plus_derivatives x e) (Memᴰ.append_right (derivatives (total x)) (rw q (Memᴰ.head refl)));
    goes = g;
  }

  module _ (formed : Formed vertices (labelled_steps c)) where
    below : (i : ℕ) → i < c.chart.count → c.chart.to i < vertices
    below i h = formed.to_vertex (c.chart.from i) (c.label i) (c.chart.to i) (i, h, refl, refl, refl)

    not_from_end : (i : ℕ) → i < c.chart.count → c.chart.from i ≢ 0
    not_from_end i h e =
        let b = formed.from_vertex (c.chart.from i) (c.label i) (c.chart.to i) (i, h, refl, refl, refl) in omega arith

    -- the one step of an item
    goes_alone : {es : List Expr} {back i : ℕ} → Remains c vertices es back → c.chart.to i ≡ back
        → Goes (plugged es (c.chart.action i, end)) i
    goes_alone {es} r e = record { acts = refl; left = es; remains = rw e r; leads = refl }

    goes_times : {es : List Expr} {back i : ℕ} {e : Expr} → Remains c vertices es back → i < c.chart.count
        → Text c (c.chart.to i) back e → Goes (plugged es (c.chart.action i, to e)) i
    goes_times {es} {i = i} {e = e} r h t = record { acts = refl; left = e ∷ es; remains = next (below i h) t r; leads = refl }

    -- each step of a sum is one of its transitions, and each of its transitions a step
    sum_forth : {half : Half} {w back n : ℕ} {x : Option Expr} {es : List Expr} → Sum c half w back n x → n ≤ c.chart.count
        → Remains c vertices es back → (m : Move) → Memᴰ m (derivatives (total x))
        → (i : ℕ) × (i < n) × InHalf c half w i × Goes (plugged es m) i
    sum_forth nothing b r m h = absurd (Memᴰ.not-nil h)
    sum_forth (other s g) b r m h = let (i, l, o, d) = sum_forth s (omega arith) r m h in (i, omega arith, o, d)
    sum_forth {es = es} (alone {n = n} {x = x} s o e) b r m h =
        ⊎_elim
        (λ q. let (i, l, p, d) = sum_forth s (omega arith) r m q in (i, omega arith, p, d))
        (λ q. (n, omega arith, o, subst (λ (k : Move). Goes (plugged es k) n) (sym (Memᴰ.eq_of_singleton q)) (goes_alone r e)))
        (Memᴰ.append_cases (derivatives (total x)) (rw (plus_derivatives x (act (c.chart.action n))) at h))
    sum_forth {es = es} (times {n = n} {x = x} {e = f} s o e t) b r m h =
        ⊎_elim
        (λ q. let (i, l, p, d) = sum_forth s (omega arith) r m q in (i, omega arith, p, d))
        (λ q. (n, omega arith, o, subst (λ (k : Move). Goes (plugged es k) n) (sym (Memᴰ.eq_of_singleton q)) (goes_times r b t)))
        (Memᴰ.append_cases (derivatives (total x)) (rw (plus_derivatives x (product (act (c.chart.action n)) f)) at h))

    sum_back : {half : Half} {w back n : ℕ} {x : Option Expr} {es : List Expr} → Sum c half w back n x → n ≤ c.chart.count
        → Remains c vertices es back → (i : ℕ) → i < n → InHalf c half w i → Stepped (total x) es i
    sum_back nothing b r i l o = absurd (omega arith)
    sum_back {half} {w} (other {n = n} s g) b r i l o = elim (ℕ_discrete i n) [
      | yes q ↦ absurd (g (subst (InHalf c half w) q o))
      | no q ↦ sum_back s (omega arith) r i (omega arith) o
    ]
    sum_back (alone {n = n} {x = x} s g e) b r i l o = elim (ℕ_discrete i n) [
      | yes q ↦ rw q (latest x (act (c.chart.action n)) (c.chart.action n, end) refl (goes_alone r e))
      | no q ↦ earlier x (act (c.chart.action n)) (sum_back s (omega arith) r i (omega arith) o)
    ]
    sum_back (times {n = n} {x = x} {e = f} s g e t) b r i l o = elim (ℕ_discrete i n) [
      | yes q ↦ rw q (latest x (product (act (c.chart.action n)) f) (c.chart.action n, to f) refl (goes_times r b t))
      | no q ↦ earlier x (product (act (c.chart.action n)) f) (sum_back s (omega arith) r i (omega arith) o)
    ]

    -- each step of a text is a transition of its vertex, and each of these a step
    text_forth : {v back : ℕ} {e : Expr} {es : List Expr} → v < vertices → Text c v back e → Remains c vertices es back
        → (m : Move) → Memᴰ m (derivatives e)
        → (i : ℕ) × (i < c.chart.count) × (c.chart.from i ≡ v) × Goes (plugged es m) i
    text_forth {es = es} b (text {x = x} {y = y} h s t) r m k =
        let again = moved (star (total x) (total y)) in
        ⊎_elim
        (λ q. let (n, l, g) = Memᴰ.of_map again (derivatives (total x)) q in
        let (i, j, o, d) = sum_forth s (omega arith) (next b (text h s t) r) n l in
        (i, j, o.0, subst (λ (a : Move). Goes (plugged es a) i) g d))
        (λ q. let (i, j, o, d) = sum_forth t (omega arith) r m q in (i, j, o.0, d))
        (Memᴰ.append_cases (map again (derivatives (total x))) k)

    text_back : {v back : ℕ} {e : Expr} {es : List Expr} → v < vertices → Text c v back e → Remains c vertices es back
        → (i : ℕ) → i < c.chart.count → c.chart.from i ≡ v → Stepped e es i
    text_back b (text {x = x} {y = y} h s t) r i j o =
        let again = moved (star (total x) (total y)) in
        elim (ℕ_discrete (c.label i) 0) [
          | yes z ↦
              let k = sum_back t (omega arith) r i j (o, z) in
              record { move = k.move; listed = Memᴰ.append_right (map again (derivatives (total x))) k.listed; goes = k.goes }
          | no z ↦
              let k = sum_back s (omega arith) (next b (text h s t) r) i j (o, z) in
              record {
                move = again k.move;
                listed = Memᴰ.append_left (derivatives (total y)) (Memᴰ.map again k.listed);
                goes = k.goes;
              }
        ]

    -- and so it is with what remains at v
    forth : {es : List Expr} {v : ℕ} → Remains c vertices es v → (m : Move) → Memᴰ m (moves (plug es end))
        → (i : ℕ) × (i < c.chart.count) × (c.chart.from i ≡ v) × Goes m i
    forth over m h = absurd (Memᴰ.not-nil h)
    forth (next {e = e} {es = es} b t r) m h =
        let (n, l, g) = Memᴰ.of_map (plugged es) (derivatives e) (rw (moves_plug es e) at h) in
        let (i, j, o, d) = text_forth b t r n l in
        (i, j, o, subst (λ (a : Move). Goes a i) g d)

    back : {es : List Expr} {v : ℕ} → Remains c vertices es v → (i : ℕ) → i < c.chart.count → c.chart.from i ≡ v
        → (m : Move) × Memᴰ m (moves (plug es end)) × Goes m i
    back over i h e = absurd (not_from_end i h e)
    back (next {e = e} {es = es} b t r) i h o =
        let k = text_back b t r i h o in
        (plugged es k.move, rw (moves_plug es e) (Memᴰ.map (plugged es) k.listed), k.goes)

    -- what remains tells its pieces, and whether the vertex is the end
    remains_pieces : {es : List Expr} {v : ℕ} → Remains c vertices es v → pieces (plug es end) ≡ es
    remains_pieces over = refl
    remains_pieces (next {es = es} b (text {x = x} {y = y} h s t) r) = pieces_plug es (star (total x) (total y))

    ends : {es : List Expr} {v : ℕ} → Remains c vertices es v → (plug es end ≡ end) ↔ (v ≡ 0)
    ends over = (λ q. refl, λ q. refl)
    ends (next {e = e} {es = es} b (text h s t) r) = (λ q. absurd (plug_not_end es _ q), λ q. absurd (h q))

    at_vertex : {es : List Expr} {η : Target} {v : ℕ} → Remains c vertices es v → η ≡ plug es end → AtVertex c vertices η v
    at_vertex r e = rw (e, remains_pieces r) r

    -- the published rules on the start's text, and the drawn chart
    module _ (e : Expr) (low : c.chart.start < vertices) (t : Text c c.chart.start 0 e) where
      pub text_bisimulation : Bisimulation (rules e) (indexed c.chart) (AtVertex c vertices)
      text_bisimulation = record {
        starts = at_vertex (next low t over) refl;
        ends = λ ξ v r. rw (plug_pieces ξ) at (ends r);
        forth = λ ξ v r a η s.
            let (i, h, f, d) = forth r (a, η) (rw (plug_pieces ξ) (moves_complete s)) in
            (c.chart.to i, (i, h, f, sym d.acts, refl), at_vertex d.remains d.leads);
        back = λ ξ v r a w (i, h, f, g, k).
            let (m, l, d) = back r i h f in (
              m.1,
              rw (← g, ← d.acts) (moves_sound ξ m (rw (plug_pieces ξ) at l)),
              rw (← k) (at_vertex d.remains d.leads),
            );
      }
