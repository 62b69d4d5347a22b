-- Where the transitions of a vertex lead that have a property, as a set, gathered in their order.
use mathlib.Core.Path.{◌≡◌, refl, sym, ap, ◌∙◌, subst}
use mathlib.Core.Bool.{Bool, true, ◌&&◌}
use mathlib.Core.List.{List, []}
use mathlib.Core.Logic.{by_cases, ⊎_elim, ◌⊎◌, inl, inr, ◌↔◌}
use Prim.Native.Nat.{ℕ, zero, suc, ◌/◌, ◌+◌, ◌-◌, ◌*◌, ◌≤◌, ◌<◌}
use native.Mathlib.Decide.{ℕ_discrete, dec_lt}
use native.Mathlib.Omega.{arith}
use lib.Dec.{eqb}
use lib.ListN.{length, get_or, take, drop, length-drop}
use Rattle.std.specs.Simd.{first_chunks}
use lib.Seq.{get_or-take, get_or-drop, length-take-le, take_all}
use Rattle.theory.specs.Tests.{Decides}
use Rattle.theory.proofs.Tests.{decides_same, decides_and, decides_eqb}
use Rattle.bits.specs.Bits.{Bytes}
use Rattle.bits.specs.declared.sets.Set.{Set}
use Rattle.bits.specs.Sets.{Has, empty_set, Members}
use Rattle.bits.specs.declared.Span.{Span}
use Rattle.bits.proofs.Determined.{split_one}
use Rattle.bits.proofs.Members.{⊎_map, none}
use Rattle.std.specs.Prelude.{Ok}
use Rattle.chart.specs.Bodies.{count_of, from_of, to_of, WellFormed}
use Rattle.chart.specs.Checks.{check_of}
use Rattle.chart.specs.Leaving.{leaving_of, RangeOf}
use Rattle.chart.specs.Parts.{count_in, action_in, to_in, beside, row_byte, ActionsRise, PartOf, Row, RowsOf, Enters, Every, ActsTo}
use Rattle.chart.specs.Steps.{Via, At, Stands, ActsOf}
use Rattle.chart.specs.Images.{LeadsTo}
use Rattle.chart.proofs.Checks.{well_formed}
use Rattle.chart.proofs.Parts.{leaving_by_index}
use Rattle.chart.proofs.Order.{at_mid, between, actions_sorted}

-- a vertex of a well_formed body's transition is a number of sets
pub to_low : {body : List ℕ} → WellFormed body → (i : ℕ) → i < count_of body → to_of body i < 128
to_low W i h = omega (arith, (W.each i h).to_high, W.header.vertices_high)

members_same : {P Q : ℕ → Type 0} {s : Set} → ((w : ℕ) → P w ↔ Q w) → Members P s → Members Q s
members_same f M = record { exactly = λ w h. ((λ g. (f w).0 ((M.exactly w h).0 g)), (λ k. (M.exactly w h).1 ((f w).1 k))) }

-- one of a part's transitions, before transition i, leads to w
abbrev pub EntersBelow : List ℕ → (ℕ → Type 0) → ℕ → ℕ → Type 0
EntersBelow part P i w = (e : Enters part P w) × (e.at < i)

module _ {part : List ℕ} {P : ℕ → Type 0} where
  -- none is before transition i
  pub enters_nothing : {i : ℕ} {s : Set} → ((k : ℕ) → k < i → ¬ P k) → s ≡ empty_set → Members (EntersBelow part P i) s
  enters_nothing f e = record { exactly = λ w h. ((λ g. absurd (none w (rw e at g))), (λ (k, l). absurd (f k.at l k.holds))) }

  pub enters_none : {s : Set} → s ≡ empty_set → Members (EntersBelow part P 0) s
  enters_none = enters_nothing (λ k l p. omega (arith, l))

  -- transition i comes in where it has the property
  pub enters_more : {i t : ℕ} {flag : Bool} {s r : Set} → i < count_in part → to_in part i ≡ t → Decides flag (P i)
      → ((y : ℕ) → Has r y ↔ (Has s y ⊎ ((flag ≡ true) × (y ≡ t)))) → Members (EntersBelow part P i) s
      → Members (EntersBelow part P (i + 1)) r
  enters_more {i} {t} {flag} {s} {r} h k D W M = record { exactly = λ w l. (to w l, back w l) }
    where
      to : (w : ℕ) → w < 128 → Has r w → EntersBelow part P (i + 1) w
      to w l g = ⊎_elim
          (λ p. let (m, q) = (M.exactly w l).0 p in (m, omega arith))
          (λ (p, q). (record { at = i; within = h; enters = k ∙ sym q; holds = D.0 p }, omega arith))
          ((W w).0 g)

      back : (w : ℕ) → w < 128 → EntersBelow part P (i + 1) w → Has r w
      back w l (m, q) = (W w).1 (by_cases (ℕ_discrete m.at i)
          (λ z. inr (D.1 (subst P z m.holds), sym m.enters ∙ subst (λ (j : ℕ). to_in part j ≡ t) (sym z) k))
          (λ z. inl ((M.exactly w l).1 (m, omega arith))))

  -- none is from transition i on
  pub enters_rest : {i : ℕ} {s : Set} → ((k : ℕ) → i ≤ k → k < count_in part → ¬ P k) → Members (EntersBelow part P i) s
      → Members (Enters part P) s
  enters_rest {i} f M = record { exactly = λ w h. ((λ g. ((M.exactly w h).0 g).0), (λ k. (M.exactly w h).1 (k, before k))) }
    where
      before : {w : ℕ} (k : Enters part P w) → k.at < i
      before k = by_cases (dec_lt k.at i) (λ g. g) (λ g. absurd (f k.at (omega arith) k.within k.holds))

  pub enters_all : {i : ℕ} {s : Set} → count_in part ≤ i → Members (EntersBelow part P i) s → Members (Enters part P) s
  enters_all l = enters_rest (λ k g h p. omega (arith, g, h, l))

-- A PART'S TRANSITIONS ARE THOSE OF THE VERTEX
module _ {b : List ℕ} {v : ℕ} {part : List ℕ} (S : PartOf b v part) where
  pub part_byte : (i k : ℕ) → i < count_in part → k < 4 → get_or part (4 * i + k) 0 ≡ get_or b (4 * (S.at + i) + 4 + k) 0
  part_byte i k h l =
      let e : 4 * S.at + 4 + (4 * i + k) ≡ 4 * (S.at + i) + 4 + k = omega arith in
      S.same (4 * i + k) (omega (arith, S.whole, h, l)) ∙ ap (λ (j : ℕ). get_or b j 0) e

  pub part_leaves : (i : ℕ) → i < count_in part → from_of b (S.at + i) ≡ v
  part_leaves i h = at_mid S.begins S.ends (S.at + i) (omega arith) (omega (arith, h))

  pub part_within : (i : ℕ) → i < count_in part → S.at + i < count_of b
  part_within i h = omega (arith, h, S.ends.within)

  -- the other way: where in the part a transition of v stands
  pub part_index : (k : ℕ) → k < count_of b → from_of b k ≡ v → (i : ℕ) × (i < count_in part) × (S.at + i ≡ k)
  part_index k h e =
      let (p, q) = between S.begins S.ends k h e in (k - S.at, omega (arith, p, q), omega (arith, p))

  pub part_row : Bytes b → WellFormed b → Row part
  part_row B W = record {
    whole = S.whole;
    low = λ i h. rw (part_byte i 2 h (omega arith)) (to_low W (S.at + i) (part_within i h));
    sorted = λ i j l h. rw (part_byte i 1 (omega (arith, l, h)) (omega arith), part_byte j 1 h (omega arith))
        (actions_sorted b B W (S.at + i) (S.at + j) (omega (arith, l)) (part_within j h)
        (part_leaves i (omega (arith, l, h)) ∙ sym (part_leaves j h)));
  }

  -- one that leads to w, and at its index, beside it, a property
  pub part_same : {P Q : ℕ → Type 0} → ((i : ℕ) → i < count_in part → Q i ↔ P (S.at + i)) → (w : ℕ) → Enters part Q w ↔ Via b P v w
  part_same {P} {Q} f w = (to, back)
    where
      to : Enters part Q w → Via b P v w
      to k = record {
        at = S.at + k.at;
        within = part_within k.at k.within;
        leaves = part_leaves k.at k.within;
        enters = sym (part_byte k.at 2 k.within (omega arith)) ∙ k.enters;
        holds = (f k.at k.within).0 k.holds;
      }

      back : Via b P v w → Enters part Q w
      back k =
          let (i, h, e) = part_index k.at k.within k.leaves in
          record {
            at = i;
            within = h;
            enters = part_byte i 2 h (omega arith) ∙ ap (to_of b) e ∙ k.enters;
            holds = (f i h).1 (subst P (sym e) k.holds);
          }

  pub part_via : {P Q : ℕ → Type 0} {s : Set} → ((i : ℕ) → i < count_in part → Q i ↔ P (S.at + i)) → Members (Enters part Q) s
      → Members (Via b P v) s
  part_via f = members_same (part_same f)

  -- one with the action a
  pub acts_same : (a w : ℕ) → ActsTo part a w ↔ ActsOf b v a w
  acts_same a = part_same (λ i h. let e = part_byte i 1 h (omega arith) in
      ((λ y. record { is = sym e ∙ y.is }), (λ y. record { is = e ∙ y.is })))

pub every_more : {part : List ℕ} {i t : ℕ} {s r : Set} → i < count_in part → to_in part i ≡ t → ((y : ℕ) → Has r y ↔ (Has s y ⊎ (y ≡ t)))
    → Members (EntersBelow part Every i) s → Members (EntersBelow part Every (i + 1)) r
every_more h k W = enters_more {flag = true} h k ((λ z. tt), (λ z. refl))
    (λ y. ((λ g. ⊎_map (λ a. a) (λ q. (refl, q)) ((W y).0 g)), (λ g. (W y).1 (⊎_map (λ a. a) (λ (p, q). q) g))))

every_leads : (body : List ℕ) (u w : ℕ) → Via body Every u w ↔ LeadsTo body u w
every_leads body u w = (
  (λ k. (_, record { at = k.at; within = k.within; leaves = k.leaves; enters = k.enters; holds = record { is = refl } })),
  (λ (a, k). record { at = k.at; within = k.within; leaves = k.leaves; enters = k.enters; holds = tt }),
)

-- BYTES BESIDE THE TRANSITIONS, one each: those of a vertex are a part of theirs
module _ {b part : List ℕ} {v : ℕ} {r : Span} (S : PartOf b v part) (R : RangeOf b v r) where
  same_place : S.at ≡ r.from
  same_place = split_one S.begins R.begins

  pub same_count : r.to - r.from ≡ count_in part
  same_count = omega (arith, same_place, split_one S.ends R.ends)

  pub beside_long : (bytes : List ℕ) → count_of b ≤ length bytes → length (beside r bytes) ≡ count_in part
  beside_long bytes l =
      let d : length (drop r.from bytes) ≡ length bytes - r.from = length-drop r.from bytes in
      length-take-le (r.to - r.from) (drop r.from bytes) (omega (arith, d, l, R.ends.within)) ∙ same_count

  pub beside_byte : (bytes : List ℕ) (i : ℕ) → i < count_in part → get_or (beside r bytes) i 0 ≡ get_or bytes (S.at + i) 0
  beside_byte bytes i h =
      let e : r.from + i ≡ S.at + i = omega (arith, same_place) in
      get_or-take (r.to - r.from) (drop r.from bytes) i 0 (omega (arith, h, same_count)) ∙ get_or-drop r.from bytes i 0
      ∙ ap (λ (j : ℕ). get_or bytes j 0) e

  pub beside_at : {bytes : List ℕ} {x : ℕ} {s : Set} → Members (Enters part (At (beside r bytes) x)) s → Members (Via b (At bytes x) v) s
  beside_at {bytes} = part_via S (λ i h. let e = beside_byte bytes i h in
      ((λ y. record { is = sym e ∙ y.is }), (λ y. record { is = e ∙ y.is })))

  pub beside_stands : {labels standing : List ℕ} {l : ℕ} {s : Set}
      → Members (Enters part (Stands (beside r labels) (beside r standing) l)) s → Members (Via b (Stands labels standing l) v) s
  beside_stands {labels} {standing} = part_via S (λ i h. let e = beside_byte labels i h in let f = beside_byte standing i h in (
    (λ y. record { label = sym e ∙ y.label; stands = sym f ∙ y.stands }),
    (λ y. record { label = e ∙ y.label; stands = f ∙ y.stands }),
  ))

-- WHAT THE LOOKUP HANDS BACK of a body that passes
module _ (b : List ℕ) (v : ℕ) {part : List ℕ} (B : Bytes b) (e : check_of b ≡ Ok tt) (k : part ≡ leaving_of b v) where
  pub looked_up : PartOf b v part
  looked_up = subst (PartOf b v) (sym k) (leaving_by_index b B v e)

  pub leaving_row : Row part
  leaving_row = part_row looked_up B (well_formed b e)

  pub leaving_acts : {a : ℕ} {s : Set} → Members (ActsTo part a) s → Members (ActsOf b v a) s
  leaving_acts {a} = members_same (acts_same looked_up a)

  pub leaving_leads : {s : Set} → Members (Enters part Every) s → Members (LeadsTo b v) s
  leaving_leads M = members_same (every_leads b v) (part_via looked_up (λ i h. ((λ z. tt), (λ z. tt))) M)

-- the properties, tested by bytes that are read
pub decides_at : {bytes : List ℕ} {i b : ℕ} (x : ℕ) → b ≡ get_or bytes i 0 → Decides (eqb b x) (At bytes x i)
decides_at {b = b} x e = decides_same ((λ p. record { is = sym e ∙ p }), (λ q. e ∙ q.is)) (decides_eqb b x)

pub decides_stands : {labels standing : List ℕ} {i label s : ℕ} (l : ℕ) → label ≡ get_or labels i 0 → s ≡ get_or standing i 0
    → Decides (eqb label l && eqb s 1) (Stands labels standing l i)
decides_stands {label = label} {s} l e f =
    decides_same ((λ (p, q). record { label = sym e ∙ p; stands = sym f ∙ q }), (λ k. (e ∙ k.label, f ∙ k.stands)))
    (decides_and (decides_eqb label l) (decides_eqb s 1))

-- THE ROWS of four bytes that stand in a list of bytes
row_at : (xs : List ℕ) (n i k : ℕ) → i < n → k < 4 → row_byte (first_chunks 4 n xs) i k ≡ get_or xs (4 * i + k) 0
row_at xs zero i k h l = absurd (omega arith)
row_at xs (suc n) zero k h l = get_or-take 4 xs k 0 l ∙ ap (λ (j : ℕ). get_or xs j 0) {x = k} {y = 4 * 0 + k} (omega arith)
row_at xs (suc n) (suc i) k h l =
    row_at (drop 4 xs) n i k (omega arith) l ∙ get_or-drop 4 xs (4 * i + k) 0
    ∙ ap (λ (j : ℕ). get_or xs j 0) {x = 4 + (4 * i + k)} {y = 4 * suc i + k} (omega arith)

many_rows : (xs : List ℕ) (n : ℕ) → length (first_chunks 4 n xs) ≡ n
many_rows xs zero = refl
many_rows xs (suc n) = ap (λ (j : ℕ). suc j) (many_rows (drop 4 xs) n)

-- those of a vertex are the ones of its range among those past the header
pub rows_of : {b part : List ℕ} {v : ℕ} {r : Span} {all : List (List ℕ)} → PartOf b v part → RangeOf b v r → Bytes b → WellFormed b
    → (let past = take (length b - 4) (drop 4 b) in all ≡ first_chunks 4 (length past / 4) past)
    → RowsOf part (take (r.to - r.from) (drop r.from all))
rows_of {b} {part} {v} {r} {all} S R B W f = record {
  row = part_row S B W;
  many = many;
  same = same;
  byte = λ i k h g. rw (same i k h g, part_byte S i k (omega (arith, h, many)) g) (B (4 * (S.at + i) + 4 + k));
}
  where
    n : ℕ
    n = length (drop 4 b) / 4

    t : length (drop 4 b) ≡ length b - 4
    t = length-drop 4 b

    e : all ≡ first_chunks 4 n (drop 4 b)
    e = f ∙ ap (λ (xs : List ℕ). first_chunks 4 (length xs / 4) xs) (take_all (length b - 4) (drop 4 b) (omega (arith, t)))

    l : length all ≡ n
    l = ap (λ (xs : List (List ℕ)). length xs) e ∙ many_rows (drop 4 b) n

    d : length (drop r.from all) ≡ length all - r.from
    d = length-drop r.from all

    many : length (take (r.to - r.from) (drop r.from all)) ≡ count_in part
    many = length-take-le (r.to - r.from) (drop r.from all) (omega (arith, d, t, l, W.header.whole, R.ends.within)) ∙ same_count S R

    get_byte : {xs ys : List ℕ} → xs ≡ ys → (k : ℕ) → get_or xs k 0 ≡ get_or ys k 0
    get_byte q k = ap (λ (xs : List ℕ). get_or xs k 0) q

    same : (i k : ℕ) → i < length (take (r.to - r.from) (drop r.from all)) → k < 4 → row_byte (take (r.to - r.from) (drop r.from all)) i k ≡ get_or part (4 * i + k) 0
    same i k j g =
        let h : i < count_in part = omega (arith, j, many) in
        get_byte (get_or-take (r.to - r.from) (drop r.from all) i [] (omega (arith, h, same_count S R)) ∙ get_or-drop r.from all i []) k
        ∙ ap (λ (xs : List (List ℕ)). row_byte xs (r.from + i) k) e
        ∙ row_at (drop 4 b) n (r.from + i) k (omega (arith, h, t, same_count S R, W.header.whole, R.ends.within)) g
        ∙ get_or-drop 4 b (4 * (r.from + i) + k) 0
        ∙ ap (λ (j : ℕ). get_or b j 0) {x = 4 + (4 * (r.from + i) + k)} {y = 4 * (S.at + i) + 4 + k} (omega (arith, same_place S R))
        ∙ sym (part_byte S i k h g)

-- a row is its part's transition
module _ {part : List ℕ} {rows : List (List ℕ)} (R : RowsOf part rows) {i : ℕ} (h : i < length rows) where
  pub row_within : i < count_in part
  row_within = omega (arith, h, R.many)

  pub row_action : row_byte rows i 1 ≡ action_in part i
  row_action = R.same i 1 h (omega arith)

  pub row_to : row_byte rows i 2 ≡ to_in part i
  row_to = R.same i 2 h (omega arith)

  pub row_low : row_byte rows i 2 < 128
  row_low = rw row_to (R.row.low i row_within)

pub rows_rise : {part : List ℕ} {rows : List (List ℕ)} → RowsOf part rows → ActionsRise rows
rows_rise R i j l h = rw (row_action R {i = i} (omega (arith, l, h)), row_action R h) (R.row.sorted i j l (row_within R h))

-- the rows from row n on
abbrev pub rows_after : List (List ℕ) → ℕ → List (List ℕ)
rows_after rows n = take (length rows - n) (drop n rows)

pub after_long : (rows : List (List ℕ)) (n : ℕ) → length (rows_after rows n) ≡ length rows - n
after_long rows n = ap (λ (xs : List (List ℕ)). length xs) (take_all (length rows - n) (drop n rows) (omega (arith, length-drop n rows))) ∙ length-drop n rows

pub after_byte : (rows : List (List ℕ)) (n i k : ℕ) → row_byte (rows_after rows n) i k ≡ row_byte rows (n + i) k
after_byte rows n i k = ap (λ (xs : List ℕ). get_or xs k 0)
    (ap (λ (xs : List (List ℕ)). get_or xs i []) (take_all (length rows - n) (drop n rows) (omega (arith, length-drop n rows))) ∙ get_or-drop n rows i [])
