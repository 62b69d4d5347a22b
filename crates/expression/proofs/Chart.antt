-- THE CHART'S THEOREMS: what the body of an expression that passes says, read from its bytes.
use Prim.Native.Nat.{ℕ, zero, suc, ◌+◌, ◌-◌, ◌*◌, ◌/◌, ◌%◌, ◌<◌, ◌≤◌}
use mathlib.Core.Path.{◌≡◌, refl, ap, ◌∙◌}
use mathlib.Core.Logic.{inl, inr}
use mathlib.Core.Bool.{Bool, true, false, cond}
use mathlib.Core.List.{List, [], ◌∷◌, ◌++◌, Memᴰ}
use native.Mathlib.Omega.{arith}
use lib.Dec.{ltb}
use lib.ListN.{length, get_or, drop}
use lib.Seq.{ext_get_or}
use borrow.Author.Tests.{ltb-false}
use Rattle.std.specs.Prelude.{Result, Ok, Err}
use Rattle.report.specs.declared.Refusal.{Refusal}
use Rattle.report.specs.declared.Refusal.TheVariants as refusal
use Rattle.theory.specs.Transitions.{Transition, Precedes, precedes}
use Rattle.theory.proofs.Ascending.{precedes→, precedes_order, member_at, places_ascend}
use Rattle.theory.proofs.ExpressionCharts.{transitions_ascend, chart_sound, chart_complete, residual_of_start}
use Rattle.theory.proofs.Bounds.{transition_bounds}
use Rattle.expression.specs.Table.{node, count, check_of}
use Rattle.bits.specs.Bits.{Bytes}
use Rattle.expression.specs.Body.{four_of, flat, chart_transitions, body_of, written_after, written_of, buffer_of}
use Rattle.chart.specs.Bodies.{vertices_of, start_of, count_of, pad_of, key_at, HeaderFits, TransitionFits}
use Rattle.chart.specs.Checks as chart
use Rattle.chart.specs.Steps.{transition_at, transitions_of}
use Rattle.chart.proofs.Checks.{passes}
use Rattle.chart.proofs.Relations.{transitions_length, transitions_at}
use Rattle.expression.specs.Charts.{IsChart}
use Rattle.expression.proofs.Table.{passed→well_formed, tree}
use Rattle.expression.proofs.View.{leaf_action}
use Rattle.expression.proofs.Bodies.{body_long, chart_few}

-- READING THE BODY
-- transition i among the bytes of the transitions
flat_at : (ts : List Transition) (i : ℕ) → i < length ts
    → (get_or (flat ts) (4 * i) 0 ≡ (get_or ts i (0, 0, 0)).0) × (get_or (flat ts) (4 * i + 1) 0 ≡ (get_or ts i (0, 0, 0)).1)
    × (get_or (flat ts) (4 * i + 2) 0 ≡ (get_or ts i (0, 0, 0)).2) × (get_or (flat ts) (4 * i + 3) 0 ≡ 0)
unfolding flat four_of
flat_at [] i h = absurd (omega arith)
flat_at (x ∷ ts) zero h = (refl, refl, refl, refl)
flat_at (x ∷ ts) (suc i) h =
    let r = flat_at ts i (omega arith) in
    let e : 4 * suc i ≡ suc (suc (suc (suc (4 * i)))) = omega arith in
    let e1 : 4 * suc i + 1 ≡ suc (suc (suc (suc (4 * i + 1)))) = omega arith in
    let e2 : 4 * suc i + 2 ≡ suc (suc (suc (suc (4 * i + 2)))) = omega arith in
    let e3 : 4 * suc i + 3 ≡ suc (suc (suc (suc (4 * i + 3)))) = omega arith in
    (rw e r.0, rw e1 r.1, rw e2 r.2, rw e3 r.3)

-- the body holds V, the number of transitions, and each of them in its place
pub body_vertices : (s : List ℕ) → vertices_of (body_of s) ≡ suc (count s)
unfolding body_of four_of
body_vertices s = refl

pub body_start : (s : List ℕ) → start_of (body_of s) ≡ count s
unfolding body_of four_of
body_start s = refl

pub body_count : (s : List ℕ) → count_of (body_of s) ≡ length (chart_transitions s)
unfolding body_of four_of
body_count s = omega arith

module _ (s : List ℕ) (i : ℕ) (h : i < length (chart_transitions s)) where
  at_field : (c : ℕ) {x : ℕ} → get_or (flat (chart_transitions s)) (4 * i + c) 0 ≡ x → get_or (body_of s) (4 * i + 4 + c) 0 ≡ x
  unfolding body_of four_of
  at_field c e = let q : 4 * i + 4 + c ≡ suc (suc (suc (suc (4 * i + c)))) = omega arith in rw q e

  at_from : {x : ℕ} → get_or (flat (chart_transitions s)) (4 * i) 0 ≡ x → get_or (body_of s) (4 * i + 4) 0 ≡ x
  unfolding body_of four_of
  at_from e = let q : 4 * i + 4 ≡ suc (suc (suc (suc (4 * i)))) = omega arith in rw q e

  body_at : transition_at (body_of s) i ≡ get_or (chart_transitions s) i (0, 0, 0)
  body_at = let r = flat_at (chart_transitions s) i h in λ j. (at_from r.0 j, at_field 1 r.1 j, at_field 2 r.2 j)

  pad_at : pad_of (body_of s) i ≡ 0
  pad_at = at_field 3 (flat_at (chart_transitions s) i h).3

-- THE BODY'S TRANSITIONS are those of the expression's chart, in this order
pub body_transitions : (s : List ℕ) → transitions_of (body_of s) ≡ chart_transitions s
body_transitions s =
    ext_get_or (0, 0, 0) (transitions_of (body_of s)) (chart_transitions s) (transitions_length (body_of s) ∙ body_count s)
    (λ i h. let g : i < length (chart_transitions s) = omega (arith, transitions_length (body_of s), body_count s) in transitions_at (body_of s) i (0, 0, 0) (omega (arith, body_count s)) ∙ body_at s i g)

-- THE TRANSITIONS
pub passed_chart : (s : List ℕ) → check_of s ≡ Ok tt → IsChart s (chart_transitions s)
unfolding chart_transitions
passed_chart s e =
    let w = passed→well_formed s e in
    let t = tree s w in
    record {
      nodes = (w.sized.some, w.sized.few);
      ascend = transitions_ascend (node s) (count s);
      few = chart_few s w;
      fits = λ x m.
          let b = transition_bounds (node s) (count s) t x m in
          (b.0, b.1, (leaf_action s b.3.0 x.1 b.3.2).0, b.2);
      steps = chart_sound (node s) (count s) t;
      all = λ k h. chart_complete (node s) (count s) t k h;
      start = residual_of_start (node s) (count s) t (count s - 1) (let z = w.sized.some in omega arith);
    }

-- BYTES
bytes_four : (a b c d : ℕ) (l : List ℕ) → a < 256 → b < 256 → c < 256 → d < 256 → Bytes l → Bytes (four_of a b c d ++ l)
unfolding four_of
bytes_four a b c d l p q r t h zero = p
bytes_four a b c d l p q r t h (suc zero) = q
bytes_four a b c d l p q r t h (suc (suc zero)) = r
bytes_four a b c d l p q r t h (suc (suc (suc zero))) = t
bytes_four a b c d l p q r t h (suc (suc (suc (suc i)))) = h i

bytes_flat : (ts : List Transition) → ((x : Transition) → Memᴰ x ts → (x.0 < 256) × (x.1 < 256) × (x.2 < 256)) → Bytes (flat ts)
unfolding flat
bytes_flat [] h = λ i. omega arith
bytes_flat (x ∷ ts) h =
    let q = h x (Memᴰ.head refl) in
    bytes_four x.0 x.1 x.2 0 (flat ts) q.0 q.1 q.2 (omega arith) (bytes_flat ts (λ y m. h y (Memᴰ.tail m)))

-- a body of bytes
pub passed_bytes : (s : List ℕ) → Bytes s → check_of s ≡ Ok tt → Bytes (body_of s)
unfolding body_of chart_transitions
passed_bytes s bytes e =
    let w = passed→well_formed s e in
    let few = w.sized.few in
    let many = chart_few s w in
    bytes_four (suc (count s)) (count s) (length (chart_transitions s) % 256) (length (chart_transitions s) / 256) (flat (chart_transitions s)) (omega arith) (omega arith) (omega arith) (omega arith)
    (bytes_flat (chart_transitions s) (λ x m.
    let b = transition_bounds (node s) (count s) (tree s w) x m in
    let a = leaf_action s b.3.0 x.1 b.3.2 in
    let h = bytes (4 * b.3.0 + 1) in
    (omega arith, omega arith, omega arith)))

-- THE BODY PASSES 20 AND 21
key_ascends : (x y : Transition) → x.1 < 256 → x.2 < 256 → Precedes x y → 65536 * x.0 + 256 * x.1 + x.2 < 65536 * y.0 + 256 * y.1 + y.2
key_ascends x y p q (inl h) = omega arith
key_ascends x y p q (inr (e, inl h)) = omega arith
key_ascends x y p q (inr (e, inr (f, h))) = omega arith

key_at_lem : (s : List ℕ) (i : ℕ) → i < length (chart_transitions s) → let x = get_or (chart_transitions s) i (0, 0, 0) in key_at (body_of s) i ≡ 65536 * x.0 + 256 * x.1 + x.2
key_at_lem s i h = ap (λ (x : Transition). 65536 * x.0 + 256 * x.1 + x.2) (body_at s i h)

module _ (s : List ℕ) (c : IsChart s (chart_transitions s)) where
  header_fits : HeaderFits (body_of s)
  unfolding body_of four_of
  header_fits = let l = body_long s in let n = body_count s in record {
    long = omega arith;
    vertices_low = omega (arith, c.nodes);
    vertices_high = omega (arith, c.nodes);
    start_low = c.nodes.0;
    start_high = omega arith;
    count_high = omega (arith, c.few);
    whole = omega arith;
  }

  transition_fits : (i : ℕ) → i < length (chart_transitions s) → TransitionFits (body_of s) i
  transition_fits i h =
      let x : Transition = get_or (chart_transitions s) i (0, 0, 0) in
      let b = c.fits x (member_at precedes precedes_order (0, 0, 0) (chart_transitions s) i h) in
      let r : transition_at (body_of s) i ≡ x = body_at s i h in
      let v = body_vertices s in
      record {
        from_low = omega (arith, ap (λ (y : Transition). y.0) r);
        from_high = omega (arith, ap (λ (y : Transition). y.0) r);
        action_low = omega (arith, ap (λ (y : Transition). y.1) r);
        to_high = omega (arith, ap (λ (y : Transition). y.2) r);
        pad_zero = pad_at s i h;
      }

  keys_ascend : Bytes (body_of s) → (i j : ℕ) → i < j → j < length (chart_transitions s) → key_at (body_of s) i < key_at (body_of s) j
  keys_ascend bytes i j h g =
      let k : i < length (chart_transitions s) = omega arith in
      let x : Transition = get_or (chart_transitions s) i (0, 0, 0) in
      let y : Transition = get_or (chart_transitions s) j (0, 0, 0) in
      let r : transition_at (body_of s) i ≡ x = body_at s i k in
      rw (key_at_lem s i k, key_at_lem s j g) (key_ascends x y
      (omega (arith, ap (λ (z : Transition). z.1) r, bytes (4 * i + 4 + 1)))
      (omega (arith, ap (λ (z : Transition). z.2) r, bytes (4 * i + 4 + 2)))
      (precedes→ x y (places_ascend precedes precedes_order (0, 0, 0) (chart_transitions s) c.ascend i j h g)))

pub body_passes : (s : List ℕ) → Bytes s → check_of s ≡ Ok tt → chart.check_of (body_of s) ≡ Ok tt
body_passes s bytes e =
    let c : IsChart s (chart_transitions s) = passed_chart s e in
    let n = body_count s in
    passes (body_of s) (record {
      header = header_fits s c;
      each = λ i h. transition_fits s c i (omega arith);
      ascending = λ i j h g. keys_ascend s c (passed_bytes s bytes e) i j h (omega arith);
    })

-- THE ANSWER. A length is the body's, which the lent bytes then begin with; what stood past it is kept
pub length_says : (s out : List ℕ) (k : ℕ) → written_of s (length out) ≡ Ok k
    → (check_of s ≡ Ok tt) × (k ≡ length (body_of s)) × (k ≤ length out) × (buffer_of s out ≡ body_of s ++ drop k out)
unfolding written_of buffer_of
length_says s out k e = go (check_of s) refl e
  where
    fits : (b : Bool) → ltb (length out) (length (body_of s)) ≡ b
        → cond b (Err (refusal.OutputLength (length (body_of s)))) (Ok (length (body_of s))) ≡ Ok k
        → (k ≡ length (body_of s)) × (k ≤ length out)
    fits true q f = absurd (let z : ◌≡◌ {A = ℕ} 0 1 = cc in omega arith)
    fits false q f = let d : k ≡ length (body_of s) = cc in (d, omega (arith, ltb-false (length out) (length (body_of s)) q))

    go : (g : Result Unit Refusal) → check_of s ≡ g → written_after g (length (body_of s)) (length out) ≡ Ok k
        → (check_of s ≡ Ok tt) × (k ≡ length (body_of s)) × (k ≤ length out) × (buffer_of s out ≡ body_of s ++ drop k out)
    go (Err p) q f = absurd (let z : ◌≡◌ {A = ℕ} 0 1 = cc in omega arith)
    go (Ok tt) q f =
        let r = fits (ltb (length out) (length (body_of s))) refl f in
        (q, r.0, r.1, rw (e, r.0))

-- a refusal changes nothing
pub refusal_keeps : (s out : List ℕ) (p : Refusal) → written_of s (length out) ≡ Err p → buffer_of s out ≡ out
unfolding buffer_of
refusal_keeps s out p e = rw e
