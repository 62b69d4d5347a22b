-- The loops of a list one by one, over what stands; and then 57.
use Prim.Native.Nat.{ℕ, ◌+◌, ◌<◌}
use mathlib.Core.Path.{◌≡◌, sym, ◌∙◌, ap}
use mathlib.Core.Logic.{◌≢◌, inl, inr, ⊎_elim, ◌↔◌, by_cases}
use mathlib.Core.List.{List}
use native.Mathlib.Decide.{ℕ_discrete}
use native.Mathlib.Omega.{arith}
use lib.ListN.{length}
use Rattle.theory.specs.Paths.{Edges}
use Rattle.theory.specs.Charts.{Steps}
use Rattle.theory.specs.Orders.{Pair}
use Rattle.theory.specs.Removals.{Answer, done, Removes}
use Rattle.theory.specs.MultiSteps.{loop_at, GroupAnswer, single, refused_57, RemovesAt, EachGoes, StartInside, RemovesTogether}
use Rattle.theory.specs.MultiSteps.{inside, goes}
use Rattle.theory.specs.MultiSteps as several
use Rattle.theory.proofs.Paths.{plus_below}
use Rattle.theory.proofs.Rounds.{round_below}
use Rattle.std.specs.Prelude.{Result, Ok, Err}
use Rattle.report.specs.declared.Refusal.{Refusal}
use Rattle.bits.specs.declared.sets.Set.{Set}
use Rattle.theory.specs.Least.{Least}
use Rattle.bits.specs.Sets.{Has, empty_set, Members, Union}
use Rattle.bits.proofs.Members.{none}
use Rattle.elimination.specs.Removals.{removed_as}
use Rattle.elimination.specs.Together.{together_as}
use Rattle.elimination.specs.declared.walk.Found.{Found}
use Rattle.elimination.specs.declared.walk.Stops.{Stops}
use Rattle.elimination.specs.Walks.{Settled, Alone, StopsAt, same, apart, fresh, Judged, passed}
use Rattle.elimination.specs.LoopLists.{InSomeBody, RulingOf, refused, gone}
use Rattle.elimination.proofs.Walking.{own_back, settled_fresh, settled_at}
use Rattle.elimination.proofs.Removals.{err_not_ok}
use Rattle.elimination.proofs.Answers.{BodyFound}

-- WHAT WALKS BEFORE HAVE SETTLED: the end is not past, and what is past, where walks stop aside, is in the bodies
pub record Carried (E : Edges) (bodies : Set) (s : Stops) : Type 0 where
  pub settled : Settled E s
  pub not_end : Has s.past 0 → s.at ≡ 0
  pub inside : (w : ℕ) → Has s.past w → w ≢ s.at → Has bodies w

module _ {E : Edges} {bodies : Set} where
  pub carried_fresh : {v : ℕ} {s : Stops} → Alone v s → Carried E bodies s
  carried_fresh A = record {
    settled = settled_fresh A;
    not_end = λ h. A.at ∙ sym ((A.past 0).0 h);
    inside = λ w h n. absurd (n ((A.past w).0 h ∙ sym A.at));
  }

  pub carried_at : {v : ℕ} {before s : Stops} → Carried E bodies before → StopsAt v before s → Carried E bodies s
  carried_at C (same e p) = rw p C
  carried_at C (fresh A) = carried_fresh A
  carried_at {v} {before} {s} C (apart e out P K) = record {
    settled = settled_at C.settled (apart e out P K);
    not_end = λ h. ⊎_elim (λ (p, n). absurd (n (own_back C.settled p (sym (C.not_end p))))) (λ z. e ∙ sym z) ((P 0).0 h);
    inside = λ w h n. ⊎_elim (λ (p, m). C.inside w p (λ z. m (own_back C.settled p z))) (λ z. absurd (n (z ∙ sym e))) ((P w).0 h);
  }

  pub carried_more : {Entry : ℕ → Type 0} {v l : ℕ} {before : Stops} {found : Found} {rest more : Set} → before.at ≡ v
      → Carried E bodies before → Judged Entry E before l (Ok found)
      → ((w : ℕ) → Has rest w ↔ (Has found.body w × (w ≢ v))) → Union bodies rest more → Carried E more found.stops
  carried_more e C (passed u W) R U = record {
    settled = W.settled;
    not_end = λ h. W.same ∙ ⊎_elim C.not_end (λ g. absurd (u.not_end (W.sound 0 g))) (W.grown 0 h);
    inside = λ w h n. (U w).1 (⊎_elim
        (λ p. inl (C.inside w p (λ z. n (z ∙ sym W.same))))
        (λ g. inr ((R w).1 (g, λ z. n (z ∙ sym e ∙ sym W.same))))
        (W.grown w h));
  }

pub stops_there : {v : ℕ} {before s : Stops} → StopsAt v before s → s.at ≡ v
stops_there (same e p) = rw p (sym e)
stops_there (apart e out P K) = e
stops_there (fresh A) = A.at

-- the first i loops go by themselves, and the set has what is in their bodies
pub record Gone (R : Steps) (cs : List Pair) (i : ℕ) (bodies : Set) : Type 0 where
  pub each : (j : ℕ) → j < i → RemovesAt R cs j done
  pub inside : Members (InSomeBody R cs i) bodies

module _ {R : Steps} {cs : List Pair} where
  pub gone_none : {bodies : Set} → bodies ≡ empty_set → Gone R cs 0 bodies
  gone_none e = record {
    each = λ j h. absurd (omega (arith, h));
    inside = record { exactly = λ w l. ((λ h. absurd (none w (rw e at h))), (λ b. absurd (omega (arith, b.within)))) };
  }

  -- the next goes: its body comes in, and not its start; what was past is in already
  pub gone_more : {i v l : ℕ} {bodies past body rest bodies' : Set} → loop_at cs i ≡ (v, l) → Gone R cs i bodies → Removes R v l done
      → BodyFound R v l past body → ((w : ℕ) → Has past w → w ≢ v → Has bodies w)
      → ((w : ℕ) → Has rest w ↔ (Has body w × (w ≢ v))) → Union bodies rest bodies' → Gone R cs (i + 1) bodies'
  gone_more {i} {v} {l} {bodies} {past} {body} {rest} e G r B P W U = record {
    each = λ j h. by_cases (ℕ_discrete j i) (λ z. rw (z, e) r) (λ n. G.each j (omega (arith, h, n)));
    inside = record {
      exactly = λ w low. (
        (λ h. ⊎_elim
            (λ g. let b = (G.inside.exactly w low).0 g in record { at = b.at; within = omega (arith, b.within); inside = b.inside })
            (λ g. let (x, n) = (W w).0 g in record { at = i; within = omega arith; inside = rw e (n, B.sound w x) })
            ((U w).0 h)),
        (λ b. (U w).1 (by_cases (ℕ_discrete b.at i)
            (λ z. let (n, p) = rw (z, e) at b.inside in ⊎_elim (λ x. inr ((W w).1 (x, n))) (λ q. inl (P w q n)) (B.all w p))
            (λ n. inl ((G.inside.exactly w low).1 (record { at = b.at; within = omega (arith, b.within, n); inside = b.inside }))))),
      );
    };
  }

  -- the next is refused
  pub gone_refused : {i v l : ℕ} {bodies : Set} {p : Refusal} → i < length cs → loop_at cs i ≡ (v, l) → Gone R cs i bodies
      → (a : Answer) × (Err p ≡ removed_as a) × Removes R v l a → RulingOf R cs (Err p)
  gone_refused h e G (a, s, r) = refused (record {
    at = _;
    within = h;
    before = G.each;
    answer = a;
    said = s;
    by_rule = rw e r;
    refusal = λ q. err_not_ok (s ∙ ap removed_as q);
  })

  -- none is
  pub gone_all : {i : ℕ} {bodies : Set} → i ≡ length cs → Gone R cs i bodies → RulingOf R cs (Ok bodies)
  gone_all e G = gone (rw e at G.each) (rw e at G.inside)

-- THEN 57: where each goes and the set has what is in their bodies, a loop's start is inside exactly when it is in the set
module _ {R : Steps} (low : (u m w : ℕ) → R u m w → w < 128) (cs : List Pair) {bodies : Set}
    (M : Members (InSomeBody R cs (length cs)) bodies) where
  pub starts_inside : (p : ℕ) → p < length cs → Has bodies (loop_at cs p).0 ↔ StartInside R cs p
  starts_inside p h = (
    (λ g. let b = (M.exactly _ g.below).0 g in
        (h, (b.at, b.within, (λ e. b.inside.0 (ap (λ (i : ℕ). (loop_at cs i).0) (sym e))), b.inside))),
    (λ (k, (j, l, n, b)). (M.exactly _ (plus_below (round_below 128 (low _ _) (λ u w (m, e). low u m w e)) b.1)).1
        (record { at = j; within = l; inside = b })),
  )

  module _ (each : EachGoes R cs) {start : ℕ → ℕ} (starts : (i : ℕ) → i < length cs → (loop_at cs i).0 ≡ start i) {n : ℕ}
      (long : length cs ≡ n) where
    not_inside : (k : ℕ) → ¬ Has bodies (start k) → ¬ StartInside R cs k
    not_inside k n s = n (rw (starts k s.0) at ((starts_inside k s.0).1 s))

    pub lowest_inside : {p : ℕ} → p < n → Least (λ (i : ℕ). Has bodies (start i)) p → RemovesTogether R cs (refused_57 p)
    lowest_inside {p} h L =
        let l : p < length cs = omega (arith, h, long) in
        inside each (record {
          holds = (starts_inside p l).0 (rw (starts p l) L.holds);
          lowest = λ k b. not_inside k (L.lowest k b);
        })

    pub nothing_inside : ((i : ℕ) → i < n → ¬ Has bodies (start i)) → RemovesTogether R cs (single done)
    nothing_inside m = goes each (λ k s. not_inside k (m k (omega (arith, long, s.0))) s)

module _ {R : Steps} {cs : List Pair} where
  pub ruling_refused : {x : Result Set Refusal} {p : Refusal} → RulingOf R cs x → x ≡ Err p
      → (g : GroupAnswer) × (Err p ≡ together_as g) × RemovesTogether R cs g
  ruling_refused {x} {p} (refused {p = q} f) e =
      let z : p ≡ q = cc in (single f.answer, rw z f.said, several.refused f.within f.before f.by_rule f.refusal)
  ruling_refused (gone each bodies) e = let z : ◌≡◌ {A = ℕ} 0 1 = cc in absurd (omega arith)

  pub ruling_gone : {x : Result Set Refusal} {bodies : Set} → RulingOf R cs x → x ≡ Ok bodies
      → EachGoes R cs × Members (InSomeBody R cs (length cs)) bodies
  ruling_gone (refused f) e = let z : ◌≡◌ {A = ℕ} 0 1 = cc in absurd (omega arith)
  ruling_gone {x} {bodies} (gone {bodies = found} each within) e = (each, let z : found ≡ bodies = cc in rw z at within)
