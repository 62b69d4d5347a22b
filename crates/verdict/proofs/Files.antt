-- The refusals 1 to 4: the test answers as the cases say, and passes just the whole files.
use mathlib.Core.Path.{◌≡◌, refl, sym, ◌∙◌, ap}
use mathlib.Core.Logic.{◌≢◌, ◌↔◌}
use mathlib.Core.Bool.{Bool, true, false, cond}
use mathlib.Core.List.{List}
use Prim.Native.Nat.{ℕ, zero, suc, ◌+◌, ◌-◌, ◌≤◌, ◌<◌}
use native.Mathlib.Numerals.{add-one}
use native.Mathlib.Omega.{arith}
use lib.Dec.{eqb, ltb}
use lib.ListN.{length, take, drop}
use borrow.Author.Count.{below_more}
use borrow.Author.Tests.{lt-ltb, le-ltb, eq-eqb, ne_eqb, ltb-true, ltb-false, eqb-true, eqb-false}
use Rattle.std.specs.Prelude.{Result, Ok, Err}
use Rattle.report.specs.Stages.{after}
use Rattle.report.specs.declared.Refusal.{Refusal}
use Rattle.report.specs.declared.Refusal.TheVariants.{File, Record, RecordKind, FileOffset}
use Rattle.bits.specs.Packed.{two_at}
use Rattle.verdict.specs.Files.{end_at, record_stage, records_from, records_of, offset_of, body_at, RecordFits, Whole, RecordsBefore, RecordsChecked, too_long, cut_header, other_kind, cut_body, bytes_after, whole}

refused_not : {p : Refusal} → ◌≡◌ {A = Result Unit Refusal} (Err p) (Ok tt) → ⊥
refused_not e = let z : ◌≡◌ {A = ℕ} 0 1 = cc in omega arith

-- ONE RECORD
module _ (f : List ℕ) (kind at : ℕ) where
  pub record_cut : length f < at + 4 → Err (Record kind) ≡ record_stage f kind at
  unfolding record_stage
  record_cut h = rw (lt-ltb (length f) (at + 4) h)

  module _ (h : at + 4 ≤ length f) where
    pub record_other : (found : ℕ) → found ≡ two_at f (at + 2) → found ≢ kind → Err (RecordKind kind found) ≡ record_stage f kind at
    unfolding record_stage
    record_other found q e = rw (le-ltb (length f) (at + 4) h, ← q, ne_eqb found kind e)

    pub record_short : kind ≡ two_at f (at + 2) → length f < end_at f at → Err (Record kind) ≡ record_stage f kind at
    unfolding record_stage
    record_short e g = rw (le-ltb (length f) (at + 4) h, ← e, eq-eqb kind kind refl, lt-ltb (length f) (end_at f at) g)

    pub record_passes : kind ≡ two_at f (at + 2) → end_at f at ≤ length f → (Ok tt) ≡ record_stage f kind at
    unfolding record_stage
    record_passes e g = rw (le-ltb (length f) (at + 4) h, ← e, eq-eqb kind kind refl, le-ltb (length f) (end_at f at) g)

  -- it passes exactly when it fits
  pub record_fits : (record_stage f kind at ≡ Ok tt) ↔ RecordFits f kind at
  unfolding record_stage
  record_fits = (λ e. go (ltb (length f) (at + 4)) (eqb (two_at f (at + 2)) kind) (ltb (length f) (end_at f at)) refl refl refl e, λ s. sym (record_passes s.header (sym s.is_kind) s.body))
    where
      go : (a b c : Bool) → ltb (length f) (at + 4) ≡ a → eqb (two_at f (at + 2)) kind ≡ b → ltb (length f) (end_at f at) ≡ c
          → cond a (Err (Record kind)) (cond b (cond c (Err (Record kind)) (Ok tt)) (Err (RecordKind kind (two_at f (at + 2))))) ≡ Ok (tt {0}) → RecordFits f kind at
      go true b c p q r e = absurd (refused_not e)
      go false false c p q r e = absurd (refused_not e)
      go false true true p q r e = absurd (refused_not e)
      go false true false p q r e = record { header = ltb-false _ _ p; is_kind = eqb-true _ _ q; body = ltb-false _ _ r }

pub fits_at_lem : (f : List ℕ) (kind at : ℕ) (s : Result Unit Refusal) → s ≡ record_stage f kind at → s ≡ Ok tt → RecordFits f kind at
fits_at_lem f kind at s e p = (record_fits f kind at).0 (sym e ∙ p)

-- THE RECORDS FROM AN OFFSET ON, as the loop goes
module _ (f : List ℕ) (kind at : ℕ) where
  pub from_step : kind < 5 → (Ok tt) ≡ record_stage f kind at → records_from f kind at (5 - kind) ≡ records_from f (kind + 1) (end_at f at) (5 - (kind + 1))
  unfolding records_from
  from_step h e = let r : 5 - kind ≡ suc (5 - (kind + 1)) = omega arith in rw (r, add-one kind, ← e)

  pub from_stop : (p : Refusal) → kind < 5 → Err p ≡ record_stage f kind at → records_from f kind at (5 - kind) ≡ Err p
  unfolding records_from
  from_stop p h e = let r : 5 - kind ≡ suc (5 - (kind + 1)) = omega arith in rw (r, ← e)

  pub from_after : 5 ≤ kind → at < length f → records_from f kind at (5 - kind) ≡ Err (FileOffset at)
  unfolding records_from
  from_after h g = let r : 5 - kind ≡ 0 = omega arith in rw (r, lt-ltb at (length f) g)

  pub from_end : 5 ≤ kind → length f ≤ at → records_from f kind at (5 - kind) ≡ Ok tt
  unfolding records_from
  from_end h g = let r : 5 - kind ≡ 0 = omega arith in rw (r, le-ltb at (length f) g)

pub records_long : (f : List ℕ) → 43536 < length f → Err File ≡ records_of f
unfolding records_of
records_long f h = rw (lt-ltb 43536 (length f) h)

pub records_from_lem : (f : List ℕ) → length f ≤ 43536 → records_from f 1 0 4 ≡ records_of f
unfolding records_of
records_from_lem f h = rw (le-ltb 43536 (length f) h)

-- ALL RECORDS
module _ (f : List ℕ) where
  one_more : (k : ℕ) → RecordsBefore f k → RecordFits f (suc k) (offset_of f k) → RecordsBefore f (suc k)
  one_more k (s, b) g = (s, λ j h. below_more (λ (j : ℕ). RecordFits f (suc j) (offset_of f j)) k b g j (omega arith))

  -- at the end: 4, or nothing after
  end_checked : RecordsBefore f 4 → RecordsChecked f (cond (ltb (offset_of f 4) (length f)) (Err (FileOffset (offset_of f 4))) (Ok tt))
  unfolding offset_of
  end_checked b = go (ltb (offset_of f 4) (length f)) refl
    where
      go : (t : Bool) → ltb (offset_of f 4) (length f) ≡ t → RecordsChecked f (cond t (Err (FileOffset (offset_of f 4))) (Ok tt))
      go true q = bytes_after b (ltb-true _ _ q)
      go false q =
          let l : RecordFits f 4 (offset_of f 3) = b.1 3 (omega arith) in
          whole (record { short = b.0; each = b.1; nothing_after = omega (arith, l.body, ltb-false (offset_of f 4) (length f) q) })

  -- the n records from record k on
  from_checked : (n k : ℕ) → k + n ≡ 4 → RecordsBefore f k → RecordsChecked f (records_from f (suc k) (offset_of f k) n)
  unfolding records_from record_stage offset_of
  from_checked zero k e b = let z : k ≡ 4 = omega arith in rw z (end_checked (rw z at b))
  from_checked (suc n) k e b = go (ltb (length f) (offset_of f k + 4)) (eqb (two_at f (offset_of f k + 2)) (suc k)) (ltb (length f) (end_at f (offset_of f k))) refl refl refl (λ g. from_checked n (suc k) (omega arith) (one_more k b g))
    where
      go : (x y z : Bool) → ltb (length f) (offset_of f k + 4) ≡ x → eqb (two_at f (offset_of f k + 2)) (suc k) ≡ y → ltb (length f) (end_at f (offset_of f k)) ≡ z
          → (RecordFits f (suc k) (offset_of f k) → RecordsChecked f (records_from f (suc (suc k)) (offset_of f (suc k)) n))
          → RecordsChecked f (after {A = Unit} {B = Unit} (cond x (Err (Record (suc k))) (cond y (cond z (Err (Record (suc k))) (Ok tt)) (Err (RecordKind (suc k) (two_at f (offset_of f k + 2)))))) (records_from f (suc (suc k)) (offset_of f (suc k)) n))
      go true y z p q r next = cut_header k (omega arith) b (ltb-true _ _ p)
      go false false z p q r next = other_kind k (omega arith) b (ltb-false _ _ p) (eqb-false _ _ q)
      go false true true p q r next = cut_body k (omega arith) b (ltb-false _ _ p) (eqb-true _ _ q) (ltb-true _ _ r)
      go false true false p q r next = next (record { header = ltb-false _ _ p; is_kind = eqb-true _ _ q; body = ltb-false _ _ r })

  -- THE TEST'S ANSWER is one that the cases give
  pub records_checked : RecordsChecked f (records_of f)
  unfolding records_of offset_of
  records_checked = go (ltb 43536 (length f)) refl
    where
      go : (t : Bool) → ltb 43536 (length f) ≡ t → RecordsChecked f (cond t (Err File) (records_from f 1 0 4))
      go true q = too_long (ltb-true _ _ q)
      go false q = from_checked 4 0 (omega arith) (ltb-false _ _ q, λ j h. absurd (omega arith))

  passed_whole : {s : Result Unit Refusal} → RecordsChecked f s → s ≡ Ok tt → Whole f
  passed_whole (too_long h) e = absurd (refused_not e)
  passed_whole (cut_header k h b c) e = absurd (refused_not e)
  passed_whole (other_kind k h b c d) e = absurd (refused_not e)
  passed_whole (cut_body k h b c d g) e = absurd (refused_not e)
  passed_whole (bytes_after b h) e = absurd (refused_not e)
  passed_whole (whole w) e = w

  -- the check comes to record k where those before it fit
  come_to : (k n : ℕ) → k + n ≡ 4 → RecordsBefore f k → records_from f (suc k) (offset_of f k) n ≡ records_of f
  unfolding records_from offset_of
  come_to zero n e b = let z : n ≡ 4 = omega arith in rw z (records_from_lem f b.0)
  come_to (suc k) n e b =
      let g : (Ok tt) ≡ record_stage f (suc k) (offset_of f k) = sym ((record_fits f (suc k) (offset_of f k)).1 (b.1 k (omega arith))) in
      ap (λ (s : Result Unit Refusal). after s (records_from f (suc (suc k)) (offset_of f (suc k)) n)) g ∙ come_to k (suc n) (omega arith) (b.0, λ j h. b.1 j (omega arith))

  stops_at : (k : ℕ) (p : Refusal) → k < 4 → RecordsBefore f k → Err p ≡ record_stage f (suc k) (offset_of f k) → Err p ≡ records_of f
  unfolding records_from
  stops_at k p h b e = ap (λ (s : Result Unit Refusal). after s (records_from f (suc (suc k)) (end_at f (offset_of f k)) (3 - k))) e ∙ come_to k (suc (3 - k)) (omega arith) b

  -- the cases give no other
  pub checked_records : {s : Result Unit Refusal} → RecordsChecked f s → s ≡ records_of f
  unfolding records_from
  checked_records (too_long h) = records_long f h
  checked_records (cut_header k h b c) = stops_at k _ h b (record_cut f (suc k) (offset_of f k) c)
  checked_records (other_kind k h b c d) = stops_at k _ h b (record_other f (suc k) (offset_of f k) c _ refl d)
  checked_records (cut_body k h b c d g) = stops_at k _ h b (record_short f (suc k) (offset_of f k) c (sym d) g)
  checked_records (bytes_after b h) = rw (← come_to 4 0 (omega arith) b, lt-ltb (offset_of f 4) (length f) h)
  checked_records (whole w) = rw (← come_to 4 0 (omega arith) (w.short, w.each), le-ltb (offset_of f 4) (length f) (omega (arith, w.nothing_after)))

  -- 1 TO 4 PASS exactly where the file is four records and nothing after
  pub records_iff : (records_of f ≡ Ok tt) ↔ Whole f
  records_iff = (passed_whole records_checked, λ w. sym (checked_records (whole w)))

  pub records_whole : records_of f ≡ Ok tt → Whole f
  records_whole = records_iff.0

  pub offset_none : 0 ≡ offset_of f 0
  unfolding offset_of
  offset_none = refl

  pub offset_next : (i at : ℕ) → at ≡ offset_of f i → end_at f at ≡ offset_of f (i + 1)
  unfolding offset_of
  offset_next i at e = rw (add-one i, e)

  pub body_part : (k at n : ℕ) → at ≡ offset_of f k → n ≡ two_at f at → take (at + 4 + n - (at + 4)) (drop (at + 4) f) ≡ body_at f k
  unfolding body_at
  body_part k at n e q = let z : at + 4 + n - (at + 4) ≡ n = omega arith in rw (z, q, e)

  pub body_within : Whole f → (k at n : ℕ) → k < 4 → at ≡ offset_of f k → n ≡ two_at f at → at + 4 + n ≤ length f
  body_within w k at n h e q = rw (q, e) (w.each k h).body
