-- Bytes copied to the beginning of others, by each byte; `copied` in ExtractionCalls has it by the parts of the list.
use Prim.Native.Nat.{ℕ, ◌+◌, ◌-◌, ◌≤◌, ◌<◌}
use mathlib.Core.Path.{◌≡◌, sym, ap, ◌∙◌}
use mathlib.Core.Logic.{by_cases}
use mathlib.Core.List.{List}
use native.Mathlib.Decide.{dec_lt}
use native.Mathlib.Omega.{arith}
use lib.ListN.{length, get_or, take, drop, length-append, length-drop, get_or-append}
use lib.Seq.{get_or-take, get_or-drop, get_or-append-add, length-take-le, ext_get_or}
use Rattle.bits.specs.Bits.{bytes_with}

-- the first i bytes of xs stand in t, and the others are those of s
pub record CopiedTo (xs s t : List ℕ) (i : ℕ) : Type 0 where
  pub long : length t ≡ length s
  pub within : i ≤ length s
  pub copied : (k : ℕ) → k < i → get_or t k 0 ≡ get_or xs k 0
  pub kept : (k : ℕ) → i ≤ k → get_or t k 0 ≡ get_or s k 0

-- WHERE n ARE COPIED the whole is the first n of xs before what was past them
pub copied_all : {xs s t : List ℕ} {i n : ℕ} → CopiedTo xs s t i → i ≤ n → n ≤ i → n ≤ length xs → t ≡ bytes_with (take n xs) s
copied_all {xs} {s} {t} {i} {n} C l g h =
    let m : length (take n xs) ≡ n = length-take-le n xs h in
    let d : length (drop (length (take n xs)) s) ≡ length s - length (take n xs) = length-drop (length (take n xs)) s in
    ext_get_or 0 t (bytes_with (take n xs) s)
    (C.long ∙ sym (length-append (take n xs) (drop (length (take n xs)) s) ∙ omega (arith, C.within)))
    (λ k q. by_cases (dec_lt k n)
    (λ a.
    C.copied k (omega arith)
    ∙ sym (get_or-append (take n xs) (drop (length (take n xs)) s) 0 k (omega arith) ∙ get_or-take n xs k 0 a))
    (λ a.
    let e : length (take n xs) + (k - length (take n xs)) ≡ k = omega arith in
    C.kept k (omega arith)
    ∙ sym (ap (λ (j : ℕ). get_or (bytes_with (take n xs) s) j 0) (sym e)
    ∙ get_or-append-add (take n xs) (drop (length (take n xs)) s) (k - length (take n xs)) 0
    ∙ get_or-drop (length (take n xs)) s (k - length (take n xs)) 0
    ∙ ap (λ (j : ℕ). get_or s j 0) e)))
