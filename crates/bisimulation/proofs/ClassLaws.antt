-- Rows put together in classes, and their steps by class: what the loops keep.
use mathlib.Core.Path.{◌≡◌, refl, sym, ◌∙◌, ap, subst}
use mathlib.Core.Logic.{◌⊎◌, inl, inr, ⊎_elim, ◌↔◌, by_cases}
use mathlib.Core.List.{List}
use Prim.Native.Nat.{ℕ, ◌+◌, ◌≤◌, ◌<◌}
use native.Mathlib.Nat.{eq-or-lt_of_le}
use native.Mathlib.Decide.{ℕ_discrete}
use native.Mathlib.Omega.{arith}
use lib.ListN.{length, get_or, set, length-set, replicate, length-replicate}
use lib.Seq.{get_or-set_same, get_or-set_other}
use Rattle.bits.specs.Words.{On, With}
use Rattle.bits.proofs.Words.{subset_le}
use Rattle.bits.proofs.Members.{zero_off}
use Rattle.bits.proofs.Gains.{blank}
use Rattle.bisimulation.specs.Suspects.{SameRow, Sorted}
use Rattle.bisimulation.specs.Classes.{Classes, Classed, Alike, Saturated, ClassSteps, Stepped}

-- `classes`: the heads, for each vertex a row below u that is its own class
pub record Heads (class : List ℕ) (u : ℕ) (heads : List ℕ) : Type 0 where
  pub long : length heads ≡ 129
  pub low : (w : ℕ) → get_or heads w 0 < u
  pub own : (w : ℕ) → get_or class (get_or heads w 0) 0 ≡ get_or heads w 0

-- row 0
pub classes_first : (relation : List ℕ) → Classes relation 1 (replicate {A = ℕ} 128 0)
classes_first relation = record {
  long = refl;
  few = λ u. omega (arith, blank 128 u);
  low = λ u l. omega (arith, blank 128 u);
  own = λ u l. blank 128 (get_or (replicate {A = ℕ} 128 0) u 0) ∙ sym (blank 128 u);
  same = λ u l. let e : u ≡ 0 = omega arith in rw (blank 128 u, e) (λ w h. ((λ r. r), (λ r. r)));
  first = λ u l e. omega arith;
}

pub heads_first : {relation class : List ℕ} → Classes relation 1 class → Heads class 1 (replicate {A = ℕ} 129 0)
heads_first {class = class} C = record {
  long = refl;
  low = λ w. omega (arith, blank 129 w);
  own = λ w. rw (blank 129 w) (omega (arith, C.low 0 (omega arith)));
}

-- row u with the class c
module _ {relation class heads : List ℕ} {u w c : ℕ} (C : Classes relation u class) (H : Heads class u heads)
    (high : u < 128) (within : w < 129)
    (D : (c ≡ u) ⊎ ((c ≡ get_or heads w 0) × (0 < get_or heads w 0) × SameRow relation (get_or heads w 0) u)) where
  before : (x : ℕ) → x < u → get_or (set class u c) x 0 ≡ get_or class x 0
  before x l = get_or-set_other class u x c 0 (λ e. omega arith)

  here : get_or (set class u c) u 0 ≡ c
  here = get_or-set_same class u c 0 (omega (arith, C.long))

  c_low : c ≤ u
  c_low = elim D [ inl e ↦ omega arith | inr (e, l, S) ↦ omega (arith, H.low w) ]

  c_own : get_or (set class u c) c 0 ≡ c
  c_own = elim D [
    | inl e ↦ ap (λ (x : ℕ). get_or (set class u c) x 0) e ∙ here
    | inr (e, l, S) ↦ before c (omega (arith, H.low w)) ∙ ap (λ (x : ℕ). get_or class x 0) e ∙ H.own w ∙ sym e
  ]

  c_same : SameRow relation c u
  c_same = elim D [ inl e ↦ rw e (λ x h. ((λ r. r), (λ r. r))) | inr (e, l, S) ↦ rw e S ]

  c_first : c ≡ 0 → u ≡ 0
  c_first z = elim D [ inl e ↦ omega arith | inr (e, l, S) ↦ absurd (omega arith) ]

  -- the rows below u, and u
  up_to : (P : ℕ → ℕ → Type 0) → ((x : ℕ) → x < u → P x (get_or class x 0)) → P u c → (x : ℕ) → x < u + 1 → P x (get_or (set class u c) x 0)
  up_to P f g x l = by_cases (ℕ_discrete x u) (λ e. rw (e, here) g) (λ e. rw (before x (omega arith)) (f x (omega arith)))

  pub classes_more : Classes relation (u + 1) (set class u c)
  classes_more = record {
    long = length-set class u c ∙ C.long;
    few = λ x. by_cases (ℕ_discrete x u) (λ e. rw (e, here) (omega (arith, c_low))) (λ e. rw (get_or-set_other class u x c 0 e) (C.few x));
    low = up_to (λ (x y : ℕ). y ≤ x) C.low c_low;
    own = up_to (λ (x y : ℕ). get_or (set class u c) y 0 ≡ y) (λ x l. before (get_or class x 0) (omega (arith, C.low x l)) ∙ C.own x l) c_own;
    same = up_to (λ (x y : ℕ). SameRow relation y x) C.same c_same;
    first = up_to (λ (x y : ℕ). y ≡ 0 → x ≡ 0) C.first c_first;
  }

  pub heads_more : Heads (set class u c) (u + 1) (set heads w c)
  heads_more = record {
    long = length-set heads w c ∙ H.long;
    low = λ x. by_cases (ℕ_discrete x w)
        (λ e. rw (at x e) (omega (arith, c_low)))
        (λ e. rw (get_or-set_other heads w x c 0 e) (omega (arith, H.low x)));
    own = λ x. by_cases (ℕ_discrete x w)
        (λ e. rw (at x e) c_own)
        (λ e. rw (get_or-set_other heads w x c 0 e) (before (get_or heads x 0) (H.low x) ∙ H.own x));
  }
    where
      at : (x : ℕ) → x ≡ w → get_or (set heads w c) x 0 ≡ c
      at x e = rw e (get_or-set_same heads w c 0 (omega (arith, H.long)))

-- `classify`: words by kind, of no number, and of one more
pub sorted_none : (kind : ℕ → ℕ) (n : ℕ) → Sorted kind n 0 (replicate {A = ℕ} n 0)
sorted_none kind n = record {
  long = length-replicate {A = ℕ} n 0;
  exactly = λ x k l. ((λ h. absurd (zero_off k (rw (blank n x) at h))), (λ h. absurd (omega (arith, h.0))));
}

pub sorted_more : (kind : ℕ → ℕ) {n k r : ℕ} {t : List ℕ} → Sorted kind n k t → kind k < n → With (get_or t (kind k) 0) k r
    → Sorted kind n (k + 1) (set t (kind k) r)
sorted_more kind {n} {k} {r} {t} S l W = record {
  long = length-set t (kind k) r ∙ S.long;
  exactly = λ x j m. elim (ℕ_discrete x (kind k)) [ yes e ↦ here x j e | no e ↦ there x j m e ];
}
  where
    new : (j : ℕ) → On (get_or t (kind k) 0) j ⊎ (j ≡ k) → (j < k + 1) × (kind j ≡ kind k)
    new j (inl on) = let (p, q) = (S.exactly (kind k) j l).0 on in (omega arith, q)
    new j (inr e) = (omega arith, ap kind e)

    old : (j : ℕ) → j < k + 1 → kind j ≡ kind k → On (get_or t (kind k) 0) j ⊎ (j ≡ k)
    old j p q = by_cases (ℕ_discrete j k) (λ e. inr e) (λ e. inl ((S.exactly (kind k) j l).1 (omega arith, q)))

    here : (x j : ℕ) → x ≡ kind k → On (get_or (set t (kind k) r) x 0) j ↔ ((j < k + 1) × (kind j ≡ x))
    here x j e =
        rw (e, get_or-set_same t (kind k) r 0 (omega (arith, S.long)))
        ((λ on. new j ((W.exactly j).0 on)), (λ (p, q). (W.exactly j).1 (old j p q)))

    there : (x j : ℕ) → x < n → ¬ (x ≡ kind k) → On (get_or (set t (kind k) r) x 0) j ↔ ((j < k + 1) × (kind j ≡ x))
    there x j m f = rw (get_or-set_other t (kind k) x r 0 f) (
      (λ on. let (p, q) = (S.exactly x j m).0 on in (omega arith, q)),
      (λ (p, q). (S.exactly x j m).1 (by_cases (ℕ_discrete j k) (λ e. absurd (f (sym q ∙ ap kind e))) (λ e. omega arith), q)),
    )

-- what the steps and the classes are
pub classed : {keys words class relation : List ℕ} {m rows : ℕ} → Stepped keys words m rows relation → Classes relation rows class
    → Classed keys class m
classed S C = record {
  steps_few = S.steps_few;
  keys_long = S.keys_long;
  fit = S.fit;
  targets = λ k l. omega (arith, S.targets k l, S.few);
  class_long = C.long;
  class_few = λ u l. C.few u;
}

-- `saturated`: each step of the word itself, and those alike to one more
pub saturated_none : (keys class : List ℕ) (word : ℕ) → Saturated keys class word word
saturated_none keys class word = record { each = λ k on. (k, on, record { actions = refl; targets = refl }) }

pub saturated_more : {keys class : List ℕ} {word all : ℕ} (more r k : ℕ) → Saturated keys class word all → On word k
    → ((j : ℕ) → On more j → Alike keys class k j) → ((j : ℕ) → On r j ↔ (On all j ⊎ On more j)) → Saturated keys class word r
saturated_more more r k S on A R = record { each = λ j h. ⊎_elim (S.each j) (λ g. (k, on, A j g)) ((R j).0 h) }

-- without a bit of it a word is less
pub fewer : (left more r k : ℕ) → On left k → On more k → ((j : ℕ) → On r j ↔ (On left j × (¬ On more j))) → r < left
fewer left more r k on m R =
    elim (eq-or-lt_of_le (subset_le r left (λ j h. ((R j).0 h).0))) [ inl e ↦ absurd (((R k).0 (rw e on)).1 m) | inr h ↦ h ]

-- `join_rows`: at first no row but 0, then row u too
pub join_none : {keys words class every some : List ℕ} → length every ≡ 128 → length some ≡ 128 → ClassSteps keys words class 1 every some
join_none p q = record { every_long = p; some_long = q; all = λ u l h. absurd (omega arith); any = λ u k l h. absurd (omega arith) }

pub join_end : {keys words class every some : List ℕ} {u rows : ℕ} → ClassSteps keys words class u every some → rows ≤ u
    → ClassSteps keys words class rows every some
join_end G l = record {
  every_long = G.every_long;
  some_long = G.some_long;
  all = λ u p h. G.all u p (omega arith);
  any = λ u k p h. G.any u k p (omega arith);
}

pub join_more : {keys words class every some : List ℕ} {u sat : ℕ} (r s : ℕ) → ClassSteps keys words class u every some
    → get_or class u 0 < 128
    → Saturated keys class (get_or words u 0) sat → ((j : ℕ) → On r j ↔ (On (get_or every (get_or class u 0) 0) j × On sat j))
    → ((j : ℕ) → On s j ↔ (On (get_or some (get_or class u 0) 0) j ⊎ On (get_or words u 0) j))
    → ClassSteps keys words class (u + 1) (set every (get_or class u 0) r) (set some (get_or class u 0) s)
join_more {keys} {words} {class} {every} {some} {u} {sat} r s G low S R O = record {
  every_long = length-set every (get_or class u 0) r ∙ G.every_long;
  some_long = length-set some (get_or class u 0) s ∙ G.some_long;
  all = λ x p l. by_cases (ℕ_discrete (get_or class x 0) (get_or class u 0)) (all_here x p l) (all_there x p l);
  any = λ x k p l on. by_cases (ℕ_discrete (get_or class x 0) (get_or class u 0)) (any_here x k p l on) (any_there x k p l on);
}
  where
    -- a row of another class is not u
    earlier : (x : ℕ) → x < u + 1 → ¬ (get_or class x 0 ≡ get_or class u 0) → x < u
    earlier x l e = by_cases (ℕ_discrete x u) (λ h. absurd (e (ap (λ (y : ℕ). get_or class y 0) h))) (λ h. omega arith)

    all_here : (x : ℕ) → 0 < x → x < u + 1 → get_or class x 0 ≡ get_or class u 0
        → Saturated keys class (get_or words x 0) (get_or (set every (get_or class u 0) r) (get_or class x 0) 0)
    all_here x p l e = record {
      each = λ k on.
          let (f, g) = (R k).0 (rw (e, get_or-set_same every (get_or class u 0) r 0 (omega (arith, G.every_long))) at on) in
          by_cases (ℕ_discrete x u)
          (λ h. subst (λ (y : ℕ). (j : ℕ) × On (get_or words y 0) j × Alike keys class j k) (sym h) (S.each k g))
          (λ h. (G.all x p (omega arith)).each k (rw e f));
    }

    all_there : (x : ℕ) → 0 < x → x < u + 1 → ¬ (get_or class x 0 ≡ get_or class u 0)
        → Saturated keys class (get_or words x 0) (get_or (set every (get_or class u 0) r) (get_or class x 0) 0)
    all_there x p l e = rw (get_or-set_other every (get_or class u 0) (get_or class x 0) r 0 e) (G.all x p (earlier x l e))

    any_here : (x k : ℕ) → 0 < x → x < u + 1 → On (get_or words x 0) k → get_or class x 0 ≡ get_or class u 0
        → On (get_or (set some (get_or class u 0) s) (get_or class x 0) 0) k
    any_here x k p l on e =
        rw (e, get_or-set_same some (get_or class u 0) s 0 (omega (arith, G.some_long)))
        ((O k).1
        (by_cases (ℕ_discrete x u)
        (λ h. inr (subst (λ (y : ℕ). On (get_or words y 0) k) h on))
        (λ h. inl (rw e at (G.any x k p (omega arith) on)))))

    any_there : (x k : ℕ) → 0 < x → x < u + 1 → On (get_or words x 0) k → ¬ (get_or class x 0 ≡ get_or class u 0)
        → On (get_or (set some (get_or class u 0) s) (get_or class x 0) 0) k
    any_there x k p l on e = rw (get_or-set_other some (get_or class u 0) (get_or class x 0) s 0 e) (G.any x k p (earlier x l e) on)
