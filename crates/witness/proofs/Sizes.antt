-- The number of loops is that of the vertices in the sets of the levels.
use mathlib.Core.Path.{◌≡◌, refl, ◌∙◌, ap, ap₂, subst}
use mathlib.Core.Bool.{Bool}
use mathlib.Core.List.Memᴰ
use mathlib.Core.List.{List, map, Memᴰ}
use Prim.Native.Nat.{ℕ, zero, suc, ◌+◌, ◌*◌, ◌/◌, ◌%◌, ◌^◌, ◌<◌}
use native.Mathlib.Omega.{arith}
use native.Mathlib.Numerals.{add-one}
use lib.Dec.{eqb}
use lib.ListN.{length, length-map}
use borrow.Author.Tests.{lt-ltb, le-ltb, ne_eqb}
use Rattle.bits.specs.Bits.{Bytes}
use Rattle.bits.specs.Counts.{bits_below}
use Rattle.bits.specs.Words.{On}
use Rattle.bits.specs.Sets.{half_of, size_of}
use Rattle.bits.specs.Tables.{row_of, HasRow, TableOf}
use Rattle.bits.proofs.Counts.{bit_uncounted}
use Rattle.bits.proofs.Members.{zero_off}
use Rattle.theory.specs.Orders.{Pair, AllLoops}
use Rattle.theory.specs.Tests.{Decides, row_pairs, pairs}
use Rattle.theory.proofs.Pairs.{pairs→, pairs←, pairs_distinct, distinct_map}
use Rattle.theory.proofs.Tests.{decides_eqb}
use Rattle.std.specs.Prelude.{Ok}
use Rattle.chart.specs.Checks.{check_of}
use Rattle.chart.specs.Steps.{StepsOf}
use Rattle.chart.proofs.Checks.{well_formed}
use Rattle.witness.specs.Given.{Enters, NoneAbove, sizes_of}
use Rattle.witness.specs.Labellings.{loops_of}
use Rattle.witness.proofs.Counting.{pairs_left, pairs_split, pairs_bits, pairs_one, pairs_none}
use Rattle.witness.proofs.Labellings.{loop_below, loops_number}

-- whether v is in set l of a table
abbrev in_set : List ℕ → ℕ → ℕ → Bool
in_set a l v = eqb (half_of (row_of a l) v / 2 ^ (v % 64) % 2) 1

in_set_lem : (a : List ℕ) (l v : ℕ) → v < 128 → Decides (in_set a l v) (HasRow a l v)
in_set_lem a l v h = let d = decides_eqb (half_of (row_of a l) v / 2 ^ (v % 64) % 2) 1 in ((λ e. record { below = h; on = d.0 e }), (λ k. d.1 k.on))

-- a set has as many members as bits are set
row_size : (a : List ℕ) (l : ℕ) → length (row_pairs (in_set a) l 0 128) ≡ size_of (row_of a l)
row_size a l =
    pairs_split (in_set a) l 0 64 64
    ∙ ap₂ (λ (x y : ℕ). x + y) (pairs_bits (in_set a) l (row_of a l).lo 64 0 low) (pairs_bits (in_set a) l (row_of a l).hi 64 64 high)
  where
    low : (i : ℕ) → i < 64 → in_set a l (0 + i) ≡ eqb ((row_of a l).lo / 2 ^ i % 2) 1
    low i h = let e : (0 + i) % 64 ≡ i = omega arith in rw (lt-ltb (0 + i) 64 (omega arith), e)

    high : (i : ℕ) → i < 64 → in_set a l (64 + i) ≡ eqb ((row_of a l).hi / 2 ^ i % 2) 1
    high i h = let e : (64 + i) % 64 ≡ i = omega arith in rw (le-ltb (64 + i) 64 (omega arith), e)

-- 0 has none
bits_none : (x n : ℕ) → ((k : ℕ) → k < n → ¬ On x k) → bits_below x n ≡ 0
unfolding bits_below
bits_none x zero f = refl
bits_none x (suc n) f = bit_uncounted x n (f n (omega arith)) ∙ bits_none x n (λ k h. f k (omega arith))

pub zero_bits : (x : ℕ) → x ≡ 0 → bits_below x 64 ≡ 0
zero_bits x e = bits_none x 64 (λ k h on. zero_off k (rw e at on))

-- n and the members of the sets from l on are the members of all sets
pub record CountedTo (a : List ℕ) (l n : ℕ) : Type 0 where
  pub sum : n + pairs_left (in_set a) 128 256 l ≡ pairs_left (in_set a) 128 256 0

pub counted_begin : {a : List ℕ} → CountedTo a 0 0
counted_begin = record { sum = omega arith }

counted_more : {a : List ℕ} {l n : ℕ} → l < 256 → CountedTo a l n → CountedTo a (l + 1) (n + size_of (row_of a l))
counted_more {a} {l} {n} h c =
    let r = pairs_one (in_set a) 128 256 l h in
    let s = row_size a l in
    record { sum = rw (add-one l) (omega (arith, r, s, c.sum)) }

pub counted_two : {a : List ℕ} {k n m : ℕ} → k < 128 → m ≡ sizes_of a k → CountedTo a (2 * k) n → CountedTo a (2 * (k + 1)) (n + m)
counted_two {a} {k} {n} {m} h e c =
    let i : 2 * k + 1 + 1 ≡ 2 * (k + 1) = omega arith in
    let j : n + size_of (row_of a (2 * k)) + size_of (row_of a (2 * k + 1)) ≡ n + m = omega (arith, e) in
    subst (λ (l : ℕ). CountedTo a l (n + m)) i (subst (CountedTo a (2 * k + 1 + 1)) j (counted_more (omega arith) (counted_more (omega arith) c)))

-- the sets have a member for each loop
module _ {b labels a : List ℕ} (passed : check_of b ≡ Ok tt) (B : Bytes labels) (T : TableOf (Enters (StepsOf b labels)) a) where
  abbrev swap : Pair → Pair
  swap x = (x.1, x.0)

  all_loops : AllLoops (StepsOf b labels) (map swap (pairs (in_set a) 256 128))
  all_loops = record {
    every = λ v l o.
        let (h, g) = loop_below b labels (well_formed b passed) B o in
        let i : v < 128 = omega (arith, h, (well_formed b passed).header.vertices_high) in
        Memᴰ.map swap (pairs← (in_set a) 256 128 l v (g, i) ((in_set_lem a l v i).1 ((T.exactly l v i).1 o)));
    only = λ v l m.
        let (x, n, e) = Memᴰ.of_map swap (pairs (in_set a) 256 128) m in
        let (g, i, t) = pairs→ (in_set a) 256 128 l v (subst (λ (y : Pair). Memᴰ y (pairs (in_set a) 256 128)) (ap swap e) n) in
        (T.exactly l v i).0 ((in_set_lem a l v i).0 t);
    once = distinct_map swap (λ x y e. ap swap e) (pairs_distinct (in_set a) 256 128);
  }

  all_counted : pairs_left (in_set a) 128 256 0 ≡ loops_of b labels
  unfolding pairs
  all_counted =
      let n = loops_number b labels passed B _ all_loops in
      let m = length-map (pairs (in_set a) 256 128) swap in
      omega (arith, n, m)

  pub counted_all : (k : ℕ) {n top : ℕ} → NoneAbove a top → top < 2 * k → CountedTo a (2 * k) n → n ≡ loops_of b labels
  counted_all k N h c =
      let e = pairs_none (in_set a) 128 256 (2 * k) (λ l v g i j. ne_eqb _ _ (λ e. N l v (omega arith) i (record { below = j; on = e }))) in
      omega (arith, e, c.sum, all_counted)
