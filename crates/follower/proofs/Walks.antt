-- The lowest list through the layers to the end, one action after the other.
use Prim.Native.Nat.{ℕ, suc, ◌+◌, ◌-◌, ◌*◌, ◌≤◌, ◌<◌}
use mathlib.Core.Path.{◌≡◌, refl, sym, ap, ◌∙◌, subst}
use mathlib.Core.Logic.{◌≢◌, ◌⊎◌, inl, inr, ◌↔◌, by_cases}
use mathlib.Core.List.{List, [], ◌∷◌, ◌++◌, append-nil, append_assoc}
use native.Mathlib.Decide.{ℕ_discrete, dec_lt}
use native.Mathlib.Numerals.{add-one}
use native.Mathlib.Omega.{arith}
use lib.ListN.{length, take, drop, set, length-set, take-append-drop}
use lib.Seq.{drop-set-lt, take-suc-set}
use Rattle.theory.specs.Least.{Least}
use Rattle.theory.specs.Systems.{System}
use Rattle.theory.specs.Followers.{Next}
use Rattle.theory.specs.Ways.{EndsIn, LowestOf}
use Rattle.theory.proofs.Search.{least_below}
use Rattle.theory.proofs.Ways.{ends_in_less, ends_in_none, lowest_none, lowest_more}
use Rattle.bits.specs.Bits.{Bytes}
use Rattle.bits.specs.First.{First}
use Rattle.bits.specs.declared.sets.Set.{Set}
use Rattle.bits.specs.Sets.{Has, Empty, Members, Intersection}
use Rattle.bits.specs.Tables.{row_of, HasRow}
use Rattle.bits.proofs.Members.{has?}
use Rattle.chart.specs.Steps.{ActsOf}
use Rattle.chart.specs.Systems.{system_of}
use Rattle.chart.specs.Images.{Image, LeadsInto}
use Rattle.chart.proofs.Relations.{acts_member}
use Rattle.follower.specs.Layers.{Leads, OnwardBy, Writes}

-- THE TARGETS IN THE NEXT LAYER, which has one vertex or more
module _ {b : List ℕ} {near aim : Set} {a : ℕ} where
  pub onward_one : {rest : Set} → ((u : ℕ) → First (Has aim) 0 128 u → (y : ℕ) → Has rest y ↔ (Has aim y × (y ≢ u))) → Empty rest
      → LeadsInto b near aim a → Members (OnwardBy b near aim a) aim
  onward_one {rest} R E o = go (least_below (has? aim) 128)
    where
      only : (u : ℕ) → First (Has aim) 0 128 u → (y : ℕ) → Has aim y → y ≡ u
      only u F y g = elim (ℕ_discrete y u) [ yes e ↦ e | no n ↦ absurd (E y ((R u F y).1 (g, n))) ]

      go : ((p : ℕ) × (p < 128) × Least (Has aim) p) ⊎ ((k : ℕ) → k < 128 → ¬ Has aim k) → Members (OnwardBy b near aim a) aim
      go (inl (u, l, L)) =
          let F : First (Has aim) 0 128 u = record {
            from = omega arith;
            within = omega (arith, l);
            holds = λ h. L.holds;
            before = λ k q. L.lowest k;
          } in
          record {
            exactly = λ y h. (
              (λ g. (subst (Image b near a) (only u F o.to o.member ∙ sym (only u F y g)) o.image, g)),
              (λ (m, g). g),
            );
          }
      go (inr n) = absurd (n o.to o.member.below o.member)

  pub onward_more : {targets next : Set} → Members (Image b near a) targets → Intersection targets aim next
      → Members (OnwardBy b near aim a) next
  onward_more T I = record {
    exactly = λ y h. (
      (λ g. let (p, q) = (I y).0 g in ((T.exactly y h).0 p, q)),
      (λ (m, q). (I y).1 ((T.exactly y h).1 m, q)),
    );
  }

-- i actions are written, and lead from the first layer to vertices of layer i. With the lowest list from these the list is the
-- lowest from the first
pub record Walking (b : List ℕ) (d : ℕ) (layers before : List ℕ) (i : ℕ) (near : Set) (out : List ℕ) : Type 0 where
  pub low : i ≤ d
  pub long : length out ≡ length before
  pub past : drop d out ≡ drop d before
  pub some : (x : ℕ) × Has near x
  pub away : (x : ℕ) → Has near x → HasRow layers i x
  pub goes : (xs : List ℕ) → LowestOf (system_of b) (d - i) (Has near) xs
      → LowestOf (system_of b) d (Has (row_of layers 0)) (take i out ++ xs)

module _ (b : List ℕ) where
  abbrev M : System
  M = system_of b

  -- THE FIRST PLACE
  pub walking_first : {d : ℕ} {layers : List ℕ} {near : Set} → Leads b d layers → near ≡ row_of layers 0 → (out : List ℕ)
      → Walking b d layers out 0 near out
  walking_first {d} L e out = record {
    low = omega arith;
    long = refl;
    past = refl;
    some = rw e L.some;
    away = λ x g. rw e at g;
    goes = λ xs K. rw (whole, e) at K;
  }
    where
      whole : d - 0 ≡ d
      whole = omega arith

  -- ONE PLACE MORE
  module _ (B : Bytes b) {near aim : Set} {d i a : ℕ} {layers before out : List ℕ}
      (L : Leads b d layers) (K : Walking b d layers before i near out) (h : i < d) (e : aim ≡ row_of layers (i + 1))
      (F : First (LeadsInto b near aim) 0 256 a) where
    left : d - i ≡ suc (d - suc i)
    left = omega arith

    -- a step from a vertex that is near to one from which the steps that are left lead to the end
    steps_into : {u x w : ℕ} → Has near u → ActsOf b u x w → EndsIn M (d - suc i) w → Has aim w
    steps_into {u} {x} {w} g t f = rw (e, add-one i) (L.onward i u x w h (K.away u g) t f)

    pub action_low : a < 256
    action_low =
        let (u, g) = K.some in
        let (x, w, m, f) = ends_in_less M (rw left at (L.ends i u (omega arith) (K.away u g))) in
        let t = (acts_member b u x w).1 m in
        let l : x < 256 = omega (arith, t.holds.is, B (4 * t.at + 4 + 1)) in
        by_cases (dec_lt a 256) (λ q. q)
        (λ q. absurd (F.before x (omega arith) (omega (arith, l, q))
        (record { to = w; image = (u, g, t); member = steps_into g t f })))

    pub action_leads : LeadsInto b near aim a
    action_leads = F.holds action_low

    module _ {next : Set} (T : Members (OnwardBy b near aim a) next) where
      into : (y : ℕ) → Has next y → Next M (Has near) a y
      into y g = let (u, n, t) = ((T.exactly y g.below).0 g).0 in (u, n, (acts_member b u a y).0 t)

      back : (y : ℕ) → Next M (Has near) a y → EndsIn M (d - suc i) y → Has next y
      back y (u, g, m) f =
          let t = (acts_member b u a y).1 m in
          let q = steps_into g t f in
          (T.exactly y q.below).1 ((u, g, t), q)

      pub walking_more : i < length out → Walking b d layers before (i + 1) next (set out i a)
      walking_more l = rw (add-one i) (record {
        low = omega (arith, h);
        long = length-set out i a ∙ K.long;
        past = drop-set-lt d out i a h ∙ K.past;
        some = let o = action_leads in (o.to, (T.exactly o.to o.member.below).1 (o.image, o.member));
        away = λ x g. rw (e, add-one i) at ((T.exactly x g.below).0 g).1;
        goes = λ xs N. rw (take-suc-set out i a l, append_assoc (take i out) (a ∷ []) xs)
            (K.goes (a ∷ xs) (rw left (lowest_more M below into back N)));
      })
        where
          below : (x : ℕ) → x < a → (y : ℕ) → Next M (Has near) x y → ¬ EndsIn M (d - suc i) y
          below x q y (u, g, m) f =
              let t = (acts_member b u x y).1 m in
              F.before x (omega arith) q (record { to = y; image = (u, g, t); member = steps_into g t f })

  -- ALL PLACES
  pub walking_all : {near : Set} {d i : ℕ} {layers before out : List ℕ} → Leads b d layers → Walking b d layers before i near out
      → d ≤ i → Writes b (row_of layers 0) d before out
  walking_all {near} {d} {i} {layers} {before} {out} L K h = record {
    list = take d out;
    lowest = subst (LowestOf M d (Has (row_of layers 0))) (append-nil (take i out) ∙ ap (λ (j : ℕ). take j out) at)
        (K.goes [] (rw none (lowest_none M end)));
    left = sym (take-append-drop d out) ∙ ap (λ t. take d out ++ t) K.past;
  }
    where
      at : i ≡ d
      at = omega (arith, K.low, h)

      none : d - i ≡ 0
      none = omega (arith, h)

      end : (x : ℕ) × Has near x × (x ≡ 0)
      end = let (x, g) = K.some in (x, g, (ends_in_none M).0 (rw none at (L.ends i x K.low (K.away x g))))
