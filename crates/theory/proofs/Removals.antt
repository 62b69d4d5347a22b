-- A list of removals over a chart that passed answers, and leaves, what the plain set does.
use mathlib.Core.Path.{◌≡◌, refl, sym, ◌∙◌, ap₂, subst}
use mathlib.Core.Logic.Iff
use mathlib.Core.Logic.{◌⊎◌, inl, inr, ⊎_elim, ◌↔◌}
use mathlib.Core.List.{List, ◌∷◌}
use Prim.Native.Nat.{ℕ}
use native.Mathlib.Omega.{arith}
use native.Mathlib.Decide.{ℕ_discrete}
use Rattle.theory.specs.Paths.{Star, Endless, Returns}
use Rattle.theory.specs.Charts.{Steps, SameSteps, Formed, Loop}
use Rattle.theory.specs.LoopCharts.{Around}
use Rattle.theory.specs.Checks.{Passed}
use Rattle.theory.specs.Standing.{Loops, SameLoops, Standing, Agree, Inside}
use Rattle.theory.specs.Removals.{Answer, done, refused_51, refused_52, Removes, Plain, left_steps, left_loops, RemovesAll, PlainAll}
use Rattle.theory.proofs.Paths.{endless_map}
use Rattle.theory.proofs.Rounds.{round_map, loop_chart_agree}
use Rattle.theory.proofs.Removal.{taken_L1, inside_not_L2, taken_loop_chart}

-- at first all transitions stand and all loops remain
pub agree_at_first : (S : Steps) → Agree S (Loop S) S
agree_at_first S u l w = ((λ e. (e, go (ℕ_discrete l 0) e)), (λ e. e.0))
  where
    go : Dec (l ≡ 0) → S u l w → (l ≡ 0) ⊎ Loop S u l
    go (yes z) e = inl z
    go (no z) e = inr (omega arith, w, e)

module _ {size : ℕ} {S : Steps} (formed : Formed size S) (passed : Passed S) where
  module _ {X : Loops} {R : Steps} (loops : (v l : ℕ) → X v l → Loop S v l) (agree : Agree S X R) (v l : ℕ) where
    stands : X v l → Loop R v l
    stands x = let (h, w, e) = loops v l x in (h, w, (agree v l w).1 (e, inr x))

    pub remains : Loop R v l → X v l
    remains (h, w, e) = elim ((agree v l w).0 e).1 [ inl z ↦ absurd (omega arith) | inr x ↦ x ]

    pub same : (u w : ℕ) → Around R v l u w ↔ Around (Standing S X) v l u w
    same u w = (
      round_map (λ y. (agree v l y).0) (λ a b (m, e). (m, (agree a m b).0 e)) u w,
      round_map (λ y. (agree v l y).1) (λ a b (m, e). (m, (agree a m b).1 e)) u w,
    )

    -- what the plain set answers, the rule answers
    pub rule_of : {a : Answer} → Plain S X v l a → Removes R v l a
    rule_of (Plain.absent h) = Removes.absent (λ o. h (remains o))
    rule_of (Plain.inner x i) = Removes.breaks_L2 (stands x)
        (endless_map (λ u w. (same u w).1) (taken_L1 formed passed X loops v l x))
        (λ back. inside_not_L2 formed passed X loops v l x i (λ p. back (endless_map (λ u w. (same u w).1) p)))
    rule_of (Plain.goes x n) = Removes.goes (stands x)
        (loop_chart_agree (λ u w p. ((same u w).1, (same u w).0)) (taken_loop_chart formed passed X loops v l x n))

    -- and what a call leaves agrees again
    pub left_agree : (a : Answer) → Plain S X v l a → Agree S (left_loops a v l X) (left_steps a v l R)
    left_agree done (Plain.goes y n) u m w = (
      (λ (e, g). let (s, c) = (agree u m w).0 e in (s, elim c [ inl z ↦ inl z | inr x ↦ inr (x, g) ])),
      (λ (s, c). elim c [ inl z ↦ ((agree u m w).1 (s, inl z), (λ e. omega (arith, e.1, (loops v l y).0))) | inr x ↦ ((agree u m w).1 (s, inr x.0), x.1) ]),
    )
    left_agree (refused_51 p q) h u m w = agree u m w
    left_agree (refused_52 p q r) h u m w = agree u m w

    pub left_loops_are : (a : Answer) (u m : ℕ) → left_loops a v l X u m → Loop S u m
    left_loops_are done u m x = loops u m x.0
    left_loops_are (refused_51 p q) u m x = loops u m x
    left_loops_are (refused_52 p q r) u m x = loops u m x

-- the plain set says done exactly when the loop is in it and none of it starts inside
pub plain_done : {S : Steps} {X : Loops} {v l : ℕ} {a : Answer} → Plain S X v l a → (a ≡ done) ↔ (X v l × ¬ Inside S X v l)
plain_done (Plain.absent h) = ((λ e. let z : ◌≡◌ {A = ℕ} 0 1 = cc in absurd (omega arith)), (λ (x, n). absurd (h x)))
plain_done (Plain.inner x i) = ((λ e. let z : ◌≡◌ {A = ℕ} 0 1 = cc in absurd (omega arith)), (λ (y, n). absurd (n i)))
plain_done (Plain.goes x n) = ((λ e. (x, n)), (λ y. refl))

-- THE RULE HAS ONE ANSWER: x where P fails, else A's
One : (Answer → Type 0) → Type 0
One A = (a b : Answer) → A a → A b → a ≡ b

abbrev Else : Type 0 → Answer → (Answer → Type 0) → Answer → Type 0
Else P x A a = ((a ≡ x) × ¬ P) ⊎ (P × A a)

else_one : (P : Type 0) (x : Answer) (A : Answer → Type 0) → One A → One (Else P x A)
unfolding One
else_one P x A h a b (inl p) (inl q) = p.0 ∙ sym q.0
else_one P x A h a b (inl p) (inr q) = absurd (p.1 q.0)
else_one P x A h a b (inr p) (inl q) = absurd (q.1 p.0)
else_one P x A h a b (inr p) (inr q) = h a b p.1 q.1

abbrev Chain : Steps → ℕ → ℕ → Answer → Type 0
Chain R v l =
    Else (Loop R v l) (refused_51 v l)
    (Else (Endless (Around R v l) v) (refused_52 v l 1)
    (Else (Returns (Around R v l) v) (refused_52 v l 2)
    (Else (¬ Star (Around R v l) v 0) (refused_52 v l 3) (λ a. a ≡ done))))

chain_of : {R : Steps} {v l : ℕ} {a : Answer} → Removes R v l a → Chain R v l a
chain_of (Removes.absent h) = inl (refl, h)
chain_of (Removes.breaks_L1 o h) = inr (o, inl (refl, h))
chain_of (Removes.breaks_L2 o p h) = inr (o, inr (p, inl (refl, h)))
chain_of (Removes.breaks_L3 o p b q) = inr (o, inr (p, inr (b, inl (refl, λ n. n q))))
chain_of (Removes.goes o c) = inr (o, inr (c.L1, inr (c.L2, inr (c.L3, refl))))

pub one_answer : {R : Steps} {v l : ℕ} {a b : Answer} → Removes R v l a → Removes R v l b → a ≡ b
unfolding One
one_answer {a = a} {b = b} p q = else_one _ _ _ (else_one _ _ _ (else_one _ _ _ (else_one _ _ (λ c. c ≡ done) (λ c d e f. e ∙ sym f)))) a b (chain_of p) (chain_of q)

-- SETS WITH THE SAME MEMBERS agree alike
module _ (S : Steps) {X Y : Loops} (same : SameLoops Y X) where
  pub standing_same : SameSteps (Standing S Y) (Standing S X)
  standing_same u l w = (
    (λ (e, c). (e, ⊎_elim inl (λ y. inr ((same u l).0 y)) c)),
    (λ (e, c). (e, ⊎_elim inl (λ x. inr ((same u l).1 x)) c)),
  )

  pub agree_same : {R Q : Steps} → SameSteps Q R → Agree S X R → Agree S Y Q
  agree_same q agree u l w = Iff.trans (q u l w) (Iff.trans (agree u l w) (Iff.symm (standing_same u l w)))

-- THE LIST CLAIM: over a chart that passed, from where R is what stands while the loops of X remain
pub removals_agree : {size : ℕ} {S : Steps} → Formed size S → Passed S → {X Y : Loops} {R Q : Steps}
    → ((v l : ℕ) → X v l → Loop S v l) → Agree S X R → {cs : List (ℕ × ℕ)} {xs ys : List Answer}
    → RemovesAll R cs xs Q → PlainAll S X cs ys Y → (xs ≡ ys) × Agree S Y Q
removals_agree f c loops agree RemovesAll.none PlainAll.none = (refl, agree)
removals_agree {S = S} f c {X = X} {Y = Y} {R = R} {Q = Q} loops agree (RemovesAll.call {Q = R'} {v = v} {l = l} {a = a} {answers = xs} p left ps) (PlainAll.call {Y = X'} {a = b} {answers = ys} q stay qs) =
    let e : a ≡ b = one_answer p (rule_of f c loops agree v l q) in
    let left' : SameSteps R' (left_steps b v l R) = subst (λ (z : Answer). SameSteps R' (left_steps z v l R)) e left in
    let here : Agree S X' R' = agree_same S stay left' (left_agree f c loops agree v l b q) in
    let r : (xs ≡ ys) × Agree S Y Q = removals_agree f c (λ u m x. left_loops_are f c loops agree v l b u m ((stay u m).0 x)) here ps qs in
    (ap₂ ◌∷◌ e r.0, r.1)
