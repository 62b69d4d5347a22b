-- 21 by words: the four comparisons say whether a transition is sound, and so a turn over words what `check_of` says.
use mathlib.Core.Path.{◌≡◌, refl, sym, ap, ◌∙◌}
use mathlib.Core.List.{List}
use mathlib.Core.Bool.{true, false}
use Prim.Native.Nat.{ℕ, zero, suc, ◌+◌, ◌-◌, ◌*◌, ◌/◌, ◌%◌, ◌≤◌, ◌<◌}
use native.Mathlib.Omega.{arith}
use lib.ListN.{length}
use borrow.Author.Count.{below_more}
use borrow.Author.Tests.{le-leb, lt-ltb, leb-true, ltb-true}
use Rattle.bits.specs.Bits.{Bytes}
use Rattle.bits.specs.Packed.{four_at}
use Rattle.std.specs.Prelude.{Ok, Err}
use Rattle.report.specs.declared.Refusal.TheVariants.{Transition}
use Rattle.chart.specs.Bodies.{vertices_of, count_of, action_of, to_of, pad_of, key_at, HeaderFits, Sound, SoundTo}
use Rattle.chart.specs.Checks.{check_of}
use Rattle.chart.specs.Codes.{code_key, code_rises, code_ok, Turn}
use Rattle.chart.proofs.Checks.{left, right, both, differ, well_of, passes, check_21}

-- a word of four bytes has them as its digits
module _ (f a t l : ℕ) (F : f < 256) (A : a < 256) (T : t < 256) where
  abbrev joined : ℕ
  joined = f + 256 * a + 65536 * t + 16777216 * l

  digit_0 : joined % 256 ≡ f
  digit_0 = omega arith

  past_0 : joined / 256 ≡ a + 256 * t + 65536 * l
  past_0 = omega arith

  digit_1 : joined / 256 % 256 ≡ a
  digit_1 = rw past_0 (omega arith)

  past_1 : joined / 65536 ≡ t + 256 * l
  past_1 = omega arith

  key_joined : code_key joined ≡ 65536 * f + 256 * a + (t + 256 * l)
  key_joined = rw (digit_0, digit_1, past_1) refl

-- the word of transition i
module _ (b : List ℕ) (B : Bytes b) (i : ℕ) where
  abbrev at : ℕ
  at = 4 * i + 4

  abbrev word : ℕ
  word = four_at b at

  word_key : code_key word ≡ key_at b i + 256 * pad_of b i
  word_key = key_joined _ _ _ (pad_of b i) (B at) (B (at + 1)) (B (at + 2)) ∙ omega arith

  word_action : word / 256 % 256 ≡ action_of b i
  word_action = digit_1 _ _ _ (pad_of b i) (B at) (B (at + 1)) (B (at + 2))

  word_upper : word / 65536 ≡ to_of b i + 256 * pad_of b i
  word_upper = past_1 _ _ _ (pad_of b i) (B at) (B (at + 1)) (B (at + 2))

-- none has passed
pub sound_none : {b : List ℕ} → HeaderFits b → SoundTo b 4
sound_none H = record { header = H; passed = 0; place = refl; within = omega arith; each = λ i h. absurd (omega arith) }

-- the key of the transition before p
pub turn_later : {b : List ℕ} {p : ℕ} → Bytes b → SoundTo b p → 8 ≤ p → Turn b p (code_key (four_at b (p - 4)))
turn_later {b} {p} B S h = record {
  sound = S;
  first = λ e. absurd (omega arith);
  later = λ j e.
      let s : p - 4 ≡ 4 * j + 4 = omega arith in
      rw s (word_key b B j ∙ omega (arith, (S.each j (omega (arith, S.place))).fits.pad_zero));
}

-- the key before p: not below one whose from is 0, and below that of a sound transition at p
module _ {b : List ℕ} {p z : ℕ} (T : Turn b p z) where
  before_low : 65535 ≤ z
  before_low = low T.sound.passed T.sound.place T.sound.each
    where
      low : (i : ℕ) → p ≡ 4 * i + 4 → ((k : ℕ) → k < i → Sound b k) → 65535 ≤ z
      low zero e S = omega (arith, T.first e)
      low (suc j) e S = omega (arith, T.later j (omega arith), (S j (omega arith)).fits.from_low)

  before_high : Sound b T.sound.passed → z < key_at b T.sound.passed
  before_high = high T.sound.passed T.sound.place
    where
      high : (i : ℕ) → p ≡ 4 * i + 4 → Sound b i → z < key_at b i
      high zero e S = omega (arith, T.first e, S.fits.from_low)
      high (suc j) e S = omega (arith, T.later j (omega arith), S.above j refl)

-- all have passed
pub turn_end : {b : List ℕ} {p : ℕ} → SoundTo b p → length b < p + 4 → (Ok tt) ≡ check_of b
turn_end {b} S l = sym (passes b (well_of b S.header (λ k h. S.each k (omega (arith, S.place, S.header.whole)))))

-- the key is above the one before it
pub rises : (w k v z : ℕ) → code_rises w k v z ≡ true → z < k
unfolding code_rises
rises w k v z e = ltb-true _ _ (left _ _ (left _ _ e))

-- the turn of the word w, whose key is k
module _ {b : List ℕ} (B : Bytes b) {p z v w k : ℕ} (T : Turn b p z) (l : p + 4 ≤ length b)
    (ev : v ≡ vertices_of b) (ew : w ≡ four_at b p) (ek : k ≡ code_key w) where
  abbrev i : ℕ
  i = T.sound.passed

  inside : i < count_of b
  inside = omega (arith, T.sound.place, T.sound.header.whole)

  word_here : w ≡ word b B i
  word_here = ew ∙ ap (four_at b) T.sound.place

  key_here : k ≡ key_at b i + 256 * pad_of b i
  key_here = ek ∙ ap code_key word_here ∙ word_key b B i

  action_here : w / 256 % 256 ≡ action_of b i
  action_here = ap (λ (x : ℕ). x / 256 % 256) word_here ∙ word_action b B i

  upper_here : w / 65536 ≡ to_of b i + 256 * pad_of b i
  upper_here = ap (λ (x : ℕ). x / 65536) word_here ∙ word_upper b B i

  code_sound : code_rises w k v z ≡ true → k < 65536 * v → Sound b i
  unfolding code_rises
  code_sound e below =
      let e1 = left _ _ e in
      sound (ltb-true _ _ (left _ _ e1)) (leb-true _ _ (right _ _ e1)) (ltb-true _ _ (right _ _ e))
    where
      sound : z < k → 1 ≤ w / 256 % 256 → w / 65536 < v → Sound b i
      sound above acts low =
          let pad : pad_of b i ≡ 0 = omega (arith, low, upper_here, ev, T.sound.header.vertices_high) in
          record {
            fits = record {
              from_low = omega (arith, before_low T, key_here, B (at b B i + 1), B (at b B i + 2));
              from_high = omega (arith, key_here, ev);
              action_low = omega (arith, action_here);
              to_high = omega (arith, low, upper_here, ev);
              pad_zero = pad;
            };
            above = λ j e. omega (arith, key_here, T.later j (omega (arith, T.sound.place)));
          }

  sound_code : Sound b i → code_ok w k v z ≡ true
  unfolding code_rises code_ok
  sound_code S =
      let above : z < k = omega (arith, before_high T S, key_here) in
      let below : k < 65536 * v = omega (arith, S.fits, key_here, ev, B (at b B i + 1), B (at b B i + 2)) in
      let acts : 1 ≤ w / 256 % 256 = omega (arith, S.fits.action_low, action_here) in
      let low : w / 65536 < v = omega (arith, S.fits, upper_here, ev) in
      both (both (both (lt-ltb _ _ above) (le-leb _ _ acts)) (lt-ltb _ _ low)) (lt-ltb _ _ below)

  pub turn_rises : code_rises w k v z ≡ true → k < 65536 * v → Turn b (p + 4) k
  turn_rises e below =
      let s : p + 4 - 4 ≡ p = omega arith in
      rw (ek, ew) (rw s at (turn_later B next (omega (arith, T.sound.place))))
    where
      next : SoundTo b (p + 4)
      next = record {
        header = T.sound.header;
        passed = i + 1;
        place = omega (arith, T.sound.place);
        within = omega (arith, inside);
        each = below_more (Sound b) i T.sound.each (code_sound e below);
      }

  pub turn_step : code_ok w k v z ≡ true → Turn b (p + 4) k
  unfolding code_ok
  turn_step e = turn_rises (left _ _ e) (ltb-true _ _ (right _ _ e))

  pub turn_stop : {n : ℕ} → p ≡ 4 * n + 4 → code_ok w k v z ≡ false → Err (Transition n) ≡ check_of b
  turn_stop {n} q f =
      let s : n ≡ i = omega (arith, q, T.sound.place) in
      rw s (sym ((check_21 b i).1 (T.sound.header, record { holds = (inside, unsound); lowest = λ j g x. x.1 (T.sound.each j g) })))
    where
      unsound : ¬ Sound b i
      unsound S = differ (code_ok w k v z) (sound_code S) f
