-- A whole file is the layout of its four bodies, and the layout of four bodies is a whole file with these bodies.
use mathlib.Core.Path.{◌≡◌, refl, sym, ◌∙◌, ap}
use mathlib.Core.List.{List, [], ◌∷◌, ◌++◌, append_assoc, append-nil}
use Prim.Native.Nat.{ℕ, zero, suc, ◌+◌, ◌*◌, ◌/◌, ◌%◌, ◌≤◌, ◌<◌}
use native.Mathlib.Numerals.{add-one}
use native.Mathlib.Omega.{arith}
use lib.ListN.{length, get_or, take, drop, length-append, length-drop, take-append-drop}
use lib.Seq.{drop-cons, drop-drop, drop_at, take_at, length-take-le, get_or-append-add, get_or_at, drop-length}
use Rattle.bits.specs.Bits.{Bytes}
use Rattle.bits.specs.Packed.{two_at}
use Rattle.verdict.specs.Files.{two_bytes, record_of, file_of, end_at, offset_of, body_at, RecordFits, Whole}

-- a number of two bytes is its two bytes
two_bytes_lem : (x y : ℕ) → x < 256 → two_bytes (x + 256 * y) ≡ x ∷ y ∷ []
two_bytes_lem x y h =
    let a : (x + 256 * y) % 256 ≡ x = omega arith in
    let b : (x + 256 * y) / 256 ≡ y = omega arith in
    rw (a, b)

-- READ: what a file holds from an offset on
module _ (f : List ℕ) (bytes : Bytes f) where
  pair_there : (at : ℕ) → at + 2 ≤ length f → drop at f ≡ two_bytes (two_at f at) ++ drop (at + 2) f
  pair_there at h =
      let a : drop at f ≡ get_or f at 0 ∷ drop (at + 1) f = rw (add-one at) (drop-cons f at 0 (omega arith)) in
      let two : at + 2 ≡ suc (at + 1) = omega arith in
      let b : drop (at + 1) f ≡ get_or f (at + 1) 0 ∷ drop (at + 2) f = rw two (drop-cons f (at + 1) 0 (omega arith)) in
      a ∙ ap (λ (l : List ℕ). get_or f at 0 ∷ l) b ∙ ap (λ (l : List ℕ). l ++ drop (at + 2) f) (sym (two_bytes_lem (get_or f at 0) (get_or f (at + 1) 0) (bytes at)))

  record_there : (kind at : ℕ) → RecordFits f kind at → drop at f ≡ record_of kind (take (two_at f at) (drop (at + 4) f)) ++ drop (end_at f at) f
  record_there kind at s =
      let n = two_at f at in
      let body = take n (drop (at + 4) f) in
      let long : length body ≡ n = length-take-le n (drop (at + 4) f) (rw (length-drop (at + 4) f) (omega (arith, s.body))) in
      let four : at + 2 + 2 ≡ at + 4 = omega arith in
      let c : drop (at + 2) f ≡ two_bytes kind ++ drop (at + 4) f = rw (s.is_kind, four) at (pair_there (at + 2) (omega (arith, s.header))) in
      let d : drop (at + 4) f ≡ body ++ drop (end_at f at) f = sym (take-append-drop n (drop (at + 4) f)) ∙ ap (λ (l : List ℕ). body ++ l) (drop-drop n (at + 4) f) in
      pair_there at (omega (arith, s.header))
      ∙ ap (λ (l : List ℕ). two_bytes n ++ l) (c ∙ ap (λ (l : List ℕ). two_bytes kind ++ l) d)
      ∙ ap (λ (m : ℕ). two_bytes m ++ (two_bytes kind ++ (body ++ drop (end_at f at) f))) (sym long)

  module _ (w : Whole f) where
    there : (k : ℕ) → k < 4 → drop (offset_of f k) f ≡ record_of (suc k) (body_at f k) ++ drop (offset_of f (suc k)) f
    unfolding offset_of body_at
    there k h = record_there (suc k) (offset_of f k) (w.each k h)

    nothing : drop (offset_of f 4) f ≡ []
    nothing = rw w.nothing_after (drop-length f)

    -- A WHOLE FILE is its four bodies, laid out
    pub whole_layout : f ≡ file_of (body_at f 0) (body_at f 1) (body_at f 2) (body_at f 3)
    unfolding offset_of
    whole_layout =
        there 0 (omega arith)
        ∙ ap (λ (l : List ℕ). record_of 1 (body_at f 0) ++ l) (there 1 (omega arith)
        ∙ ap (λ (l : List ℕ). record_of 2 (body_at f 1) ++ l) (there 2 (omega arith)
        ∙ ap (λ (l : List ℕ). record_of 3 (body_at f 2) ++ l) (there 3 (omega arith)
        ∙ ap (λ (l : List ℕ). record_of 4 (body_at f 3) ++ l) nothing ∙ append-nil (record_of 4 (body_at f 3)))))

-- WRITTEN: what is read of a number, and of a record, after a prefix
pair_after : (p q : List ℕ) (n at : ℕ) → length p ≡ at → two_at (p ++ (two_bytes n ++ q)) at ≡ n
pair_after p q n at e =
    let a : get_or (p ++ (two_bytes n ++ q)) at 0 ≡ n % 256 = get_or_at p (n % 256) (n / 256 ∷ q) 0 at e in
    let b : get_or (p ++ (two_bytes n ++ q)) (at + 1) 0 ≡ n / 256 = rw (← e) (get_or-append-add p (two_bytes n ++ q) 1 0) in
    omega arith

module _ (f p x q : List ℕ) (kind at : ℕ) (is : f ≡ p ++ (record_of kind x ++ q)) (e : length p ≡ at) where
  length_there : two_at f at ≡ length x
  length_there = rw is (pair_after p (two_bytes kind ++ (x ++ q)) (length x) at e)

  kind_there : two_at f (at + 2) ≡ kind
  kind_there =
      let h = two_bytes (length x) in
      let z : f ≡ (p ++ h) ++ (two_bytes kind ++ (x ++ q)) = is ∙ sym (append_assoc p h (two_bytes kind ++ (x ++ q))) in
      rw z (pair_after (p ++ h) (x ++ q) kind (at + 2) (length-append p h ∙ rw e))

  body_there : take (two_at f at) (drop (at + 4) f) ≡ x
  body_there =
      let h = two_bytes (length x) ++ two_bytes kind in
      let z : f ≡ (p ++ h) ++ (x ++ q) = is ∙ sym (append_assoc p h (x ++ q)) in
      let d : drop (at + 4) f ≡ x ++ q = rw z (drop_at (p ++ h) (x ++ q) (at + 4) (length-append p h ∙ rw e)) in
      rw (length_there, d) (take_at x q (length x) refl)

  end_there : end_at f at ≡ length (p ++ record_of kind x)
  end_there = let a = length_there in let b = length-append p (record_of kind x) in omega arith

  fits_there : RecordFits f kind at
  fits_there =
      let l : length f ≡ length (p ++ record_of kind x) + length q = ap length (is ∙ sym (append_assoc p (record_of kind x) q)) ∙ length-append (p ++ record_of kind x) q in
      let g : end_at f at ≤ length f = omega (arith, end_there) in
      record { header = omega arith; is_kind = kind_there; body = g }

-- x is the body of record k, from 0, where p is all before it
record Placed (f : List ℕ) (k : ℕ) (p x : List ℕ) : Type 0 where
  fits : RecordFits f (suc k) (offset_of f k)
  body_is : body_at f k ≡ x
  next : length (p ++ record_of (suc k) x) ≡ offset_of f (suc k)

placed : (f : List ℕ) (k : ℕ) (p x q : List ℕ) → f ≡ p ++ (record_of (suc k) x ++ q) → length p ≡ offset_of f k → Placed f k p x
unfolding offset_of body_at
placed f k p x q is e =
    record {
      fits = fits_there f p x q (suc k) (offset_of f k) is e;
      body_is = body_there f p x q (suc k) (offset_of f k) is e;
      next = sym (end_there f p x q (suc k) (offset_of f k) is e);
    }

-- FOUR BODIES, laid out, are a whole file with these bodies
pub layout_whole : (a b c d : List ℕ) → length (file_of a b c d) ≤ 43536
    → Whole (file_of a b c d) × (body_at (file_of a b c d) 0 ≡ a) × (body_at (file_of a b c d) 1 ≡ b) × (body_at (file_of a b c d) 2 ≡ c) × (body_at (file_of a b c d) 3 ≡ d)
unfolding offset_of
layout_whole a b c d short =
    let f = file_of a b c d in
    let p = record_of 1 a in
    let q = p ++ record_of 2 b in
    let r = q ++ record_of 3 c in
    let A : Placed f 0 [] a = placed f 0 [] a (record_of 2 b ++ (record_of 3 c ++ record_of 4 d)) refl refl in
    let B : Placed f 1 p b = placed f 1 p b (record_of 3 c ++ record_of 4 d) refl A.next in
    let C : Placed f 2 q c = placed f 2 q c (record_of 4 d) (sym (append_assoc p (record_of 2 b) (record_of 3 c ++ record_of 4 d))) B.next in
    let z : f ≡ r ++ record_of 4 d = sym (append_assoc p (record_of 2 b) (record_of 3 c ++ record_of 4 d)) ∙ sym (append_assoc q (record_of 3 c) (record_of 4 d)) in
    let D : Placed f 3 r d = placed f 3 r d [] (z ∙ ap (λ (l : List ℕ). r ++ l) (sym (append-nil (record_of 4 d)))) C.next in (
      record {
        short = short;
        each = each_of f A.fits B.fits C.fits D.fits;
        nothing_after = sym D.next ∙ ap length (sym z);
      },
      A.body_is,
      B.body_is,
      C.body_is,
      D.body_is,
    )
  where
    each_of : (f : List ℕ) → RecordFits f 1 (offset_of f 0) → RecordFits f 2 (offset_of f 1) → RecordFits f 3 (offset_of f 2) → RecordFits f 4 (offset_of f 3) → (k : ℕ) → k < 4 → RecordFits f (suc k) (offset_of f k)
    each_of f a b c d zero h = a
    each_of f a b c d (suc zero) h = b
    each_of f a b c d (suc (suc zero)) h = c
    each_of f a b c d (suc (suc (suc zero))) h = d
    each_of f a b c d (suc (suc (suc (suc k)))) h = absurd (omega arith)
