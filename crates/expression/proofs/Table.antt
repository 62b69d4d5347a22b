-- The checks 10, 11 and 12: what each answer says, and that a body that passes is a tree.
use Prim.Native.Nat.{ℕ, zero, suc, ◌+◌, ◌-◌, ◌%◌, ◌<◌, ◌≤◌}
use mathlib.Core.Path.{◌≡◌, refl, sym, ◌∙◌, ap, subst}
use mathlib.Core.Bool.{Bool, true, false, cond, ◌&&◌, not, false≢true}
use mathlib.Core.List.{List}
use native.Mathlib.Nat.{sub-zero}
use native.Mathlib.Numerals.{add-one}
use native.Mathlib.Omega.{arith}
use lib.Dec.{eqb, ltb, leb}
use lib.ListN.{length}
use borrow.Author.Tests.{not-true, not-false, eqb-true, eqb-false, ltb-true, ltb-false, leb-true, eq-eqb, le-ltb, lt-ltb, le-leb}
use Rattle.std.specs.Prelude.{Result, Ok, Err}
use Rattle.report.specs.declared.Refusal.{Refusal}
use Rattle.report.specs.declared.Refusal.TheVariants as refusal
use Rattle.theory.specs.Nodes.{Op, op_sum, op_product, op_star, Node, bad, dead, leaf, bin, Tree}
use Rattle.theory.specs.Least.{Least}
use Rattle.theory.specs.Tests as tests
use Rattle.theory.proofs.Search.{least_one}
use Rattle.theory.proofs.Tests.{lowest_stops}
use Rattle.expression.specs.Table.{kind_of, action_of, left_of, right_of, branch, parse, node, is_good, count, lowest_failing, length_ok, node_ok, malformed, uses_of, used_once, misused, check_of, Sized, WellFormed, NodesChecked, passed, ill_sized, malformed_at, misused_at}

-- operands are lower than their node
abbrev Low : ℕ → Node → Type 0
Low k bad = Unit {0}
Low k dead = Unit {0}
Low k (leaf a) = Unit {0}
Low k (bin o l r) = (l < k) × (r < k)

either : (k : ℕ) (b : Bool) (x y : Node) → Low k x → Low k y → Low k (cond b x y)
either k true x y p q = p
either k false x y p q = q

branch_low : (k : ℕ) (o : Op) (a l r : ℕ) → Low k (branch k o a l r)
branch_low k o a l r = go (eqb a 0) (ltb l k) (ltb r k) refl refl
  where
    go : (t u w : Bool) → ltb l k ≡ u → ltb r k ≡ w → Low k (cond (t && u && w) (bin o l r) bad)
    go false u w p q = tt
    go true false w p q = tt
    go true true false p q = tt
    go true true true p q = (ltb-true l k p, ltb-true r k q)

parse_low : (k m a l r : ℕ) → Low k (parse k m a l r)
parse_low k m a l r =
    either k (eqb m 0) _ _ (either k (eqb a 0 && eqb l 0 && eqb r 0) _ _ tt tt)
    (either k (eqb m 1) _ _ (either k (ltb 0 a && eqb l 0 && eqb r 0) _ _ tt tt)
    (either k (eqb m 2) _ _ (branch_low k op_sum a l r)
    (either k (eqb m 3) _ _ (branch_low k op_product a l r)
    (either k (eqb m 4) _ _ (branch_low k op_star a l r) tt))))

pub node_low : (s : List ℕ) (k : ℕ) (o : Op) (l r : ℕ) → node s k ≡ bin o l r → (l < k) × (r < k)
unfolding node
node_low s k o l r e = subst (Low k) e (parse_low k (kind_of s k) (action_of s k) (left_of s k) (right_of s k))

-- the lowest number at which a test fails
module _ (ok : ℕ → Bool) where
  lowest_law : (i m : ℕ) → tests.Stops (λ k. not (ok k)) i m (lowest_failing ok i m)
  unfolding lowest_failing
  lowest_law i m = lowest_stops (λ k. not (ok k)) i m

  pub lowest_step : (i n : ℕ) → i < n → ok i ≡ true → lowest_failing ok i (n - i) ≡ lowest_failing ok (i + 1) (n - (i + 1))
  unfolding lowest_failing tests.lowest
  lowest_step i n h e = let r : n - i ≡ suc (n - (i + 1)) = omega arith in rw (r, add-one i, e)

  pub lowest_stop : (i n : ℕ) → i < n → ok i ≡ false → lowest_failing ok i (n - i) ≡ i
  unfolding lowest_failing tests.lowest
  lowest_stop i n h e = let r : n - i ≡ suc (n - (i + 1)) = omega arith in rw (r, e)

  pub lowest_end : (i n : ℕ) → n ≤ i → lowest_failing ok i (n - i) ≡ i
  unfolding lowest_failing tests.lowest
  lowest_end i n h = let r : n - i ≡ 0 = omega arith in rw r

pub malformed_start : (s : List ℕ) (n : ℕ) → n ≡ count s → lowest_failing (node_ok s) 0 (n - 0) ≡ malformed s
unfolding malformed
malformed_start s n e = rw (sub-zero n, e)

pub lowest_same : (f g : ℕ → Bool) (i m : ℕ) → ((k : ℕ) → k < i + m → f k ≡ g k) → lowest_failing f i m ≡ lowest_failing g i m
unfolding lowest_failing tests.lowest
lowest_same f g i zero h = refl
lowest_same f g i (suc m) h = rw (h i (omega arith), lowest_same f g (suc i) m (λ k q. h k (omega arith)))

all_pass : (ok : ℕ → Bool) (m : ℕ) → ((k : ℕ) → k < m → ok k ≡ true) → m ≤ lowest_failing ok 0 m
all_pass ok m h = go (ltb (lowest_failing ok 0 m) m) refl
  where
    go : (b : Bool) → ltb (lowest_failing ok 0 m) m ≡ b → m ≤ lowest_failing ok 0 m
    go false e = ltb-false _ _ e
    go true e =
        let q = ltb-true _ _ e in
        absurd (false≢true (sym (not-true _ ((lowest_law ok 0 m).passes (omega arith))) ∙ h _ q))

pub all_good : (s : List ℕ) (n : ℕ) → n ≡ count s → n ≤ malformed s → (k : ℕ) → k < count s → is_good (node s k) ≡ true
unfolding malformed
all_good s n e h k q = not-false _ ((lowest_law (node_ok s) 0 (count s)).below k (omega arith) (omega arith))

-- 10
both : (a b c : Bool) → a && b && c ≡ true → (a ≡ true) × (b ≡ true) × (c ≡ true)
both false b c e = absurd (false≢true e)
both true false c e = absurd (false≢true e)
both true true c e = (refl, refl, e)

module _ (s : List ℕ) where
  pub sizes : length_ok s ≡ true → Sized s
  unfolding count
  sizes e =
      let t = both (ltb 0 (length s)) (leb (length s) 508) (eqb (length s % 4) 0) e in
      let x = ltb-true 0 (length s) t.0 in
      let y = leb-true (length s) 508 t.1 in
      let z = eqb-true (length s % 4) 0 t.2 in
      record { some = omega arith; few = omega arith; whole = omega arith }

  pub sizes← : Sized s → length_ok s ≡ true
  unfolding count
  sizes← z =
      let a = z.some in
      let b = z.few in
      let c = z.whole in
      rw (lt-ltb 0 (length s) (omega arith), le-leb (length s) 508 (omega arith), eq-eqb (length s % 4) 0 (omega arith))

  -- each answer of the checks, with what it says
  pub checked : NodesChecked s (check_of s)
  unfolding check_of malformed misused
  checked = at_10 (length_ok s) refl
    where
      at_12 : (b : Bool) → ltb (misused s) (count s - 1) ≡ b → Sized s → ((k : ℕ) → k < count s → is_good (node s k) ≡ true)
          → NodesChecked s (cond b (Err (refusal.NodeUses (misused s) (uses_of s (misused s)))) (Ok tt))
      at_12 true e z g =
          let l = lowest_law (used_once s) 0 (count s - 1) in
          let h : misused s < count s - 1 = ltb-true _ _ e in
          misused_at (misused s) z g (omega arith) (eqb-false _ 1 (not-true _ (l.passes (omega arith)))) (λ j q. eqb-true _ 1 (not-false _ (l.below j (omega arith) q)))
      at_12 false e z g =
          let l = lowest_law (used_once s) 0 (count s - 1) in
          let h : count s - 1 ≤ misused s = ltb-false _ _ e in
          passed (record { sized = z; good = g; once = λ j q. eqb-true _ 1 (not-false _ (l.below j (omega arith) (omega arith))) })

      at_11 : (b : Bool) → ltb (malformed s) (count s) ≡ b → Sized s
          → NodesChecked s (cond b (Err (refusal.Node (malformed s))) (cond (ltb (misused s) (count s - 1)) (Err (refusal.NodeUses (misused s) (uses_of s (misused s)))) (Ok tt)))
      at_11 true e z =
          let l = lowest_law (node_ok s) 0 (count s) in
          let h : malformed s < count s = ltb-true _ _ e in
          malformed_at (malformed s) z h (not-true _ (l.passes (omega arith))) (λ k q. not-false _ (l.below k (omega arith) q))
      at_11 false e z =
          let l = lowest_law (node_ok s) 0 (count s) in
          let h : count s ≤ malformed s = ltb-false _ _ e in
          at_12 (ltb (misused s) (count s - 1)) refl z (λ k q. not-false _ (l.below k (omega arith) (omega arith)))

      at_10 : (b : Bool) → length_ok s ≡ b
          → NodesChecked s (cond b
          (cond (ltb (malformed s) (count s)) (Err (refusal.Node (malformed s)))
          (cond (ltb (misused s) (count s - 1)) (Err (refusal.NodeUses (misused s) (uses_of s (misused s)))) (Ok tt)))
          (Err (refusal.NodesLength (length s))))
      at_10 true e = at_11 (ltb (malformed s) (count s)) refl (sizes e)
      at_10 false e = ill_sized (λ z. false≢true (sym e ∙ sizes← z))

  pub passed→well_formed : check_of s ≡ Ok tt → WellFormed s
  passed→well_formed e = go (check_of s) checked e
    where
      go : (g : Result Unit Refusal) → NodesChecked s g → g ≡ Ok tt → WellFormed s
      go _ (passed w) q = w
      go _ (ill_sized f) q = absurd (let z : ◌≡◌ {A = ℕ} 0 1 = cc in omega arith)
      go _ (malformed_at p a b d f) q = absurd (let z : ◌≡◌ {A = ℕ} 0 1 = cc in omega arith)
      go _ (misused_at p a b d f g) q = absurd (let z : ◌≡◌ {A = ℕ} 0 1 = cc in omega arith)

  pub well_formed→passed : WellFormed s → check_of s ≡ Ok tt
  unfolding check_of malformed misused
  well_formed→passed w =
      let z = w.sized.some in
      rw (
        sizes← w.sized,
        le-ltb _ _ (all_pass (node_ok s) (count s) w.good),
        le-ltb _ _ (all_pass (used_once s) (count s - 1) (λ j h. eq-eqb _ 1 (w.once j (omega arith)))),
      )

-- NO TWO ANSWERS: what an answer says holds of no other
lowest_bad : (s : List ℕ) {p : ℕ} → is_good (node s p) ≡ false → ((k : ℕ) → k < p → is_good (node s k) ≡ true) → Least (λ k. is_good (node s k) ≡ false) p
lowest_bad s e low = record { holds = e; lowest = λ k h q. false≢true (sym q ∙ low k h) }

lowest_uses : (s : List ℕ) {p : ℕ} → (uses_of s p ≡ 1 → ⊥) → ((j : ℕ) → j < p → uses_of s j ≡ 1) → Least (λ j. uses_of s j ≡ 1 → ⊥) p
lowest_uses s e low = record { holds = e; lowest = λ j h q. q (low j h) }

module _ {s : List ℕ} where
  one_check : {a b : Result Unit Refusal} → NodesChecked s a → NodesChecked s b → a ≡ b
  one_check (passed w) (passed v) = refl
  one_check (passed w) (ill_sized h) = absurd (h w.sized)
  one_check (passed w) (malformed_at p z h e low) = absurd (false≢true (sym e ∙ w.good p h))
  one_check (passed w) (misused_at p z g h e low) = absurd (e (w.once p h))
  one_check (ill_sized i) (passed v) = absurd (i v.sized)
  one_check (ill_sized i) (ill_sized h) = refl
  one_check (ill_sized i) (malformed_at p z h e low) = absurd (i z)
  one_check (ill_sized i) (misused_at p z g h e low) = absurd (i z)
  one_check (malformed_at q y i d below) (passed v) = absurd (false≢true (sym d ∙ v.good q i))
  one_check (malformed_at q y i d below) (ill_sized h) = absurd (h y)
  one_check (malformed_at q y i d below) (malformed_at p z h e low) = ap (λ (x : ℕ). Err (refusal.Node x)) (least_one (lowest_bad s d below) (lowest_bad s e low))
  one_check (malformed_at q y i d below) (misused_at p z g h e low) = absurd (false≢true (sym d ∙ g q i))
  one_check (misused_at q y f i d below) (passed v) = absurd (d (v.once q i))
  one_check (misused_at q y f i d below) (ill_sized h) = absurd (h y)
  one_check (misused_at q y f i d below) (malformed_at p z h e low) = absurd (false≢true (sym e ∙ f p h))
  one_check (misused_at q y f i d below) (misused_at p z g h e low) = ap (λ (x : ℕ). Err (refusal.NodeUses x (uses_of s x))) (least_one (lowest_uses s d below) (lowest_uses s e low))

  -- so that what an answer says is said exactly where it is the answer
  pub checked_is : {a : Result Unit Refusal} → NodesChecked s a → a ≡ check_of s
  checked_is c = one_check c (checked s)

pub tree : (s : List ℕ) → WellFormed s → Tree (node s) (count s)
tree s w = record { low = λ k o l r h e. node_low s k o l r e; once = w.once }
