-- THE STEPS' NUMBERS: the words of the first actions say what the chart's transitions are, and no other answer does.
use Prim.Native.Nat.{ℕ, zero, suc, ◌+◌, ◌*◌, ◌/◌, ◌%◌, ◌<◌, ◌≤◌}
use mathlib.Core.Path.{◌≡◌, refl, ap, ap₂, sym, ◌∙◌, subst}
use mathlib.Core.Logic.{⊎_elim}
use mathlib.Core.List.Memᴰ
use mathlib.Core.List.{List, [], ◌∷◌, Memᴰ}
use native.Mathlib.Decide.{dec_lt}
use native.Mathlib.Omega.{arith}
use lib.Dec.{ltb}
use lib.ListN.{length, get_or, take}
use lib.Seq.{get_or-take, length-take-le, ext_get_or}
use borrow.Author.Tests.{lt-ltb}
use Rattle.bits.specs.Bits.{Bytes}
use Rattle.bits.specs.Words.{On}
use Rattle.bits.proofs.Words.{subset_le}
use Rattle.theory.specs.Ascending.{Ascending}
use Rattle.theory.specs.Nodes.{Node, bad, dead, leaf, bin, first, after}
use Rattle.theory.specs.ExpressionCharts.{vertex_of, edge, edges}
use Rattle.theory.proofs.Ascending.{one_list, ltb_order, member_at, sort→}
use Rattle.theory.proofs.Down.{first_at}
use Rattle.theory.proofs.ExpressionCharts.{transitions→, transitions←}
use Rattle.theory.proofs.Bounds.{first_leaf}
use Rattle.chart.specs.Numbered.{Lists, Numbered}
use Rattle.chart.proofs.Relations.{acts_member}
use Rattle.expression.specs.Table.{action_of, node, count, WellFormed}
use Rattle.expression.specs.Body.{chart_transitions, body_of}
use Rattle.expression.specs.Targets.{target_of}
use Rattle.expression.specs.Keys.{key_of, on_leaf, leaf_keys, keys_below, Keyed, Ranked, RankedLeaves}
use Rattle.expression.specs.Words.{LeafRanks, Worded}
use Rattle.expression.proofs.Table.{tree}
use Rattle.expression.proofs.View.{at_leaf_lem, leaf_action}
use Rattle.expression.proofs.KeyLaws.{target_le, leaves_half, keyed_ascend, keyed_few, keyed_most, rises, mem_at}
use Rattle.expression.proofs.Chart.{body_transitions}
use Rattle.expression.proofs.WordLaws.{off}

-- x is the key of a leaf below node n
abbrev KeyOfLeaf : List ℕ → ℕ → ℕ → Type 0
KeyOfLeaf s n x = (j : ℕ) × (a : ℕ) × (j < n) × (node s j ≡ leaf a) × (x ≡ key_of s j)

leaf_of : (s : List ℕ) (n x : ℕ) → Memᴰ x (leaf_keys s n) → KeyOfLeaf s n x
unfolding leaf_keys
leaf_of s zero x mem = absurd (Memᴰ.not-nil mem)
leaf_of s (suc n) x mem = go (node s n) refl mem (leaf_of s n x)
  where
    on : KeyOfLeaf s n x → KeyOfLeaf s (suc n) x
    on (j, a, h, e, q) = (j, a, omega (arith, h), e, q)

    go : (v : Node) → node s n ≡ v → Memᴰ x (on_leaf v (key_of s n) (leaf_keys s n)) → (Memᴰ x (leaf_keys s n) → KeyOfLeaf s n x) → KeyOfLeaf s (suc n) x
    go bad d m c = on (c m)
    go dead d m c = on (c m)
    go (leaf a) d m c = ⊎_elim (λ (e : x ≡ key_of s n). (n, a, omega arith, d, e)) (λ i. on (c i)) (Memᴰ.cases_cons m)
    go (bin o l r) d m c = on (c m)

-- a key stands at one place
one_place : (keys : List ℕ) (m : ℕ) → ((i j : ℕ) → i < j → j < m → get_or keys i 0 < get_or keys j 0) → (i j : ℕ) → i < m → j < m → get_or keys i 0 ≡ get_or keys j 0 → i ≡ j
one_place keys m rise i j h g e = elim (dec_lt i j) [
  | yes l ↦ absurd (omega (arith, rise i j l g, e))
  | no l ↦ elim (dec_lt j i) [
    | yes r ↦ absurd (omega (arith, rise j i r h, e))
    | no r ↦ omega (arith, l, r)
  ]
]

-- THE ANSWER, in any order
module _ (s : List ℕ) (w : WellFormed s) (keys : List ℕ) (m : ℕ) (ranks : List ℕ)
    (ranked : RankedLeaves s (count s) keys m ranks) where
  few : m ≤ 64
  few = let h = leaves_half s w in let l = ranked.many in omega arith

  -- a leaf's rank is that of its key
  leaf_rank : (j a : ℕ) → j < count s → node s j ≡ leaf a → (get_or ranks j 0 < m) × (get_or keys (get_or ranks j 0) 0 ≡ key_of s j)
  leaf_rank j a h e = let r = ranked.each j a h e in (r.within, r.at)

  keys_fit : Bytes s → (i : ℕ) → i < m → get_or keys i 0 < 65536
  unfolding key_of
  keys_fit bytes i h =
      let (j, a, g, e, q) = ranked.all i h in
      let k = rw q at (leaf_rank j a g e).1 in
      omega (arith, k, bytes (4 * j + 1), target_le s w j g, w.sized.few)

  pub leaf_ranks : LeafRanks s ranks
  leaf_ranks = record { each = λ j h e. let r = (leaf_rank j _ h (at_leaf_lem s j (w.good j h) e)).0 in let f = few in omega arith }

  -- the rank of a leaf among the first actions of node k is that of a key, and this is the leaf's action and target
  module _ (k j : ℕ) (h : k < count s) (mem : Memᴰ j (first (node s) k)) where
    rank_low : get_or ranks j 0 < m
    rank_low =
        let f = first_leaf (node s) (count s) (tree s w) j k h mem in
        (leaf_rank j f.0 f.2 f.1).0

    key_edge : (get_or keys (get_or ranks j 0) 0 / 256, get_or keys (get_or ranks j 0) 0 % 256) ≡ edge (node s) (count s) j
    unfolding key_of target_of
    key_edge =
        let (a, e, g) = first_leaf (node s) (count s) (tree s w) j k h mem in
        let t = target_le s w j g in
        let q = w.sized.few in
        let l = (leaf_action s j a e).1 in
        rw ((leaf_rank j a g e).1, e, l)
        (ap₂ (λ (x y : ℕ). (x, y))
        (quotient (action_of s j) (vertex_of (after (node s) (count s) j)) (omega arith))
        (remainder (action_of s j) (vertex_of (after (node s) (count s) j)) (omega arith)))
      where
        quotient : (x y : ℕ) → y < 256 → (256 * x + y) / 256 ≡ x
        quotient x y q = omega arith

        remainder : (x y : ℕ) → y < 256 → (256 * x + y) % 256 ≡ y
        remainder x y q = omega arith

  module _ (words : List ℕ) (worded : Worded s ranks words) where
    -- a leaf of rank i is among the first actions of the node of vertex u
    abbrev Bit : ℕ → ℕ → Type 0
    Bit u i = (k : ℕ) × (u ≡ suc k) × (k < count s) × (j : ℕ) × Memᴰ j (first (node s) k) × (get_or ranks j 0 ≡ i)

    bit→ : (u i : ℕ) → On (get_or words u 0) i → Bit u i
    bit→ zero i on = absurd (off i (rw worded.end at on))
    bit→ (suc k) i on = elim (dec_lt k (count s)) [
      | yes h ↦ let r = ((worded.each k h).exactly i).0 on in (k, refl, h, r.0, r.1, r.2)
      | no h ↦ absurd (off i (rw (worded.rest (suc k) (omega (arith, h))) at on))
    ]

    bit← : (u i : ℕ) → Bit u i → On (get_or words u 0) i
    bit← u i (k, e, h, j, mj, q) = rw e (((worded.each k h).exactly i).1 (j, mj, q))

    -- some bit of vertex u has the action a and the target t for its key
    Numbers : ℕ → ℕ → ℕ → Type 0
    Numbers u a t = (i : ℕ) × (i < m) × (get_or keys i 0 / 256 ≡ a) × (get_or keys i 0 % 256 ≡ t) × On (get_or words u 0) i

    step→ : (u a t : ℕ) → Memᴰ (u, a, t) (chart_transitions s) → Numbers u a t
    unfolding chart_transitions edges Numbers
    step→ u a t mem =
        let (k, h, e, me) = transitions→ (node s) (count s) (u, a, t) mem in
        let (j, mj, q) = Memᴰ.of_map (edge (node s) (count s)) (first (node s) k) me in
        let p = key_edge k j h mj ∙ q in
        (get_or ranks j 0, rank_low k j h mj, ap (λ (y : ℕ × ℕ). y.0) p, ap (λ (y : ℕ × ℕ). y.1) p, bit← u (get_or ranks j 0) (k, e, h, j, mj, refl))

    step← : (u a t : ℕ) → Numbers u a t → Memᴰ (u, a, t) (chart_transitions s)
    unfolding chart_transitions edges Numbers
    step← u a t (i, lt, ea, et, on) =
        let (k, e, h, j, mj, q) = bit→ u i on in
        let p : edge (node s) (count s) j ≡ (a, t) = sym (key_edge k j h mj) ∙ rw q (pair ea et) in
        rw e (transitions← (node s) (count s) k a t h (subst (λ (y : ℕ × ℕ). Memᴰ y (edges (node s) (count s) k)) p (Memᴰ.map (edge (node s) (count s)) mj)))
      where
        pair : {x y : ℕ} → x ≡ a → y ≡ t → ◌≡◌ {A = ℕ × ℕ} (x, y) (a, t)
        pair p q = cc

    -- a key is a step of its leaf
    key_used : (i : ℕ) → i < m → (u : ℕ) × On (get_or words u 0) i
    key_used i h =
        let (j, a, g, e, q) = ranked.all i h in
        let f = first_at (node s) (count s) (tree s w) j g (leaf a) e in
        (suc j, bit← (suc j) i (j, refl, g, j, subst (Memᴰ j) (sym f) (Memᴰ.head refl), q))

    pub lists : Bytes s → Lists (body_of s) keys words m
    unfolding Numbers
    lists bytes = record {
      listed = record {
        few = few;
        keys_long = ranked.long;
        words_long = worded.long;
        fit = keys_fit bytes;
        known = λ u i on. let (k, e, h, j, mj, q) = bit→ u i on in rw (← q) (rank_low k j h mj);
        used = key_used;
      };
      exactly = λ u a t. (
        (λ x. step→ u a t (rw (body_transitions s) at ((acts_member (body_of s) u a t).0 x))),
        (λ x. (acts_member (body_of s) u a t).1 (rw (body_transitions s) (step← u a t x))),
      );
    }

-- THE ANSWER, in order
module _ (s : List ℕ) (w : WellFormed s) (keys : List ℕ) (m : ℕ) (ranks : List ℕ)
    (keyed : Keyed s (count s) keys m) (sorted : Ranked s (count s) keys m ranks) where
  fits : m ≤ length keys
  fits = let f = keyed_few s (count s) keys m keyed in let n = w.sized.few in let l = keyed.long in omega arith

  keys_rise : (i j : ℕ) → i < j → j < m → get_or keys i 0 < get_or keys j 0
  keys_rise = rises keys m fits (keyed_ascend s (count s) keys m keyed)

  -- a key is that of a leaf
  key_leaf : (i : ℕ) → i < m → KeyOfLeaf s (count s) (get_or keys i 0)
  unfolding keys_below
  key_leaf i h =
      let l = length-take-le m keys fits in
      let key = get_or (take m keys) i 0 in
      let mem = subst (Memᴰ key) keyed.are (member_at ltb ltb_order 0 (take m keys) i (omega arith)) in
      let (j, a, g, e, q) = leaf_of s (count s) key (sort→ ltb key (leaf_keys s (count s)) mem) in
      (j, a, g, e, sym (get_or-take m keys i 0 h) ∙ q)

  pub ranked_leaves : RankedLeaves s (count s) keys m ranks
  ranked_leaves = record {
    long = keyed.long;
    many = keyed_most s (count s) keys m keyed;
    each = λ j a h e. (sorted.each j h).is_rank a e;
    all = λ i h.
        let (j, a, g, e, q) = key_leaf i h in
        let r = (sorted.each j g).is_rank a e in
        (j, a, g, e, one_place keys m keys_rise (get_or ranks j 0) i r.within h (r.at ∙ sym q));
  }

  pub numbered : (words : List ℕ) → Worded s ranks words → Bytes s → Numbered (body_of s) keys words m
  numbered words worded bytes =
      let L = lists s w keys m ranks ranked_leaves words worded bytes in
      record { coded = record { listed = L.listed; rising = keys_rise; rest = keyed.rest }; exactly = L.exactly }

-- NO OTHER ANSWER
ascends : (l : List ℕ) → ((i j : ℕ) → i < j → j < length l → get_or l i 0 < get_or l j 0) → Ascending ltb l
ascends [] r = tt
ascends (x ∷ []) r = (tt, tt)
ascends (x ∷ y ∷ l) r = (lt-ltb x y (r 0 1 (omega arith) (omega arith)), ascends (y ∷ l) (λ i j h g. r (suc i) (suc j) (omega arith) (omega arith)))

module _ {body keys words : List ℕ} {m : ℕ} (N : Numbered body keys words m) where
  many : length (take m keys) ≡ m
  many = length-take-le m keys (omega (arith, N.coded.listed.few, N.coded.listed.keys_long))

  at_key : (i : ℕ) → i < m → get_or (take m keys) i 0 ≡ get_or keys i 0
  at_key i h = get_or-take m keys i 0 h

  keys_ascend : Ascending ltb (take m keys)
  keys_ascend = ascends (take m keys) (λ i j h g.
      let l = many in
      let q : j < m = omega arith in
      omega (arith, at_key i (omega arith), at_key j q, N.coded.rising i j h q))

  module _ {keys' words' : List ℕ} {m' : ℕ} (N' : Numbered body keys' words' m') where
    -- a step of one answer is a step of the other
    step_there : (u i : ℕ) → On (get_or words u 0) i → (j : ℕ) × (j < m') × (get_or keys' j 0 ≡ get_or keys i 0) × On (get_or words' u 0) j
    step_there u i on =
        let x = get_or keys i 0 in
        let step = (N.exactly u (x / 256) (x % 256)).1 (i, N.coded.listed.known u i on, refl, refl, on) in
        let (j, h, ea, et, on') = (N'.exactly u (x / 256) (x % 256)).0 step in
        (j, h, omega (arith, ea, et), on')

    key_there : (x : ℕ) → Memᴰ x (take m keys) → Memᴰ x (take m' keys')
    key_there x mem =
        let (i, h, e) = mem_at x (take m keys) mem in
        let l = many in
        let g : i < m = omega arith in
        let (u, on) = N.coded.listed.used i g in
        let (j, q, d, on') = step_there u i on in
        let l' = length-take-le m' keys' (omega (arith, N'.coded.listed.few, N'.coded.listed.keys_long)) in
        subst (λ (y : ℕ). Memᴰ y (take m' keys')) (get_or-take m' keys' j 0 q ∙ d ∙ sym (at_key i g) ∙ e)
        (member_at ltb ltb_order 0 (take m' keys') j (omega (arith, q, l')))

module _ {body keys words keys' words' : List ℕ} {m m' : ℕ} (N : Numbered body keys words m) (N' : Numbered body keys' words' m') where
  same_keys : take m keys ≡ take m' keys'
  same_keys = one_list ltb ltb_order (take m keys) (take m' keys') (keys_ascend N) (keys_ascend N') (key_there N N') (key_there N' N)

  same_number : m ≡ m'
  same_number = sym (many N) ∙ ap length same_keys ∙ many N'

  same_key : (i : ℕ) → get_or keys i 0 ≡ get_or keys' i 0
  same_key i = elim (dec_lt i m) [
    | yes h ↦ sym (at_key N i h) ∙ ap (λ (l : List ℕ). get_or l i 0) same_keys ∙ at_key N' i (omega (arith, h, same_number))
    | no h ↦ N.coded.rest i (omega (arith, h)) ∙ sym (N'.coded.rest i (omega (arith, h, same_number)))
  ]

  bits_there : (u i : ℕ) → On (get_or words u 0) i → On (get_or words' u 0) i
  bits_there u i on =
      let (j, h, e, on') = step_there N N' u i on in
      let g = N.coded.listed.known u i on in
      let q = one_place keys' m' N'.coded.rising j i h (omega (arith, g, same_number)) (e ∙ same_key i) in
      rw q at on'

-- THE THEOREM: what `number_steps` answers is determined
pub numbered_one : {body keys words keys' words' : List ℕ} {m m' : ℕ} → Numbered body keys words m → Numbered body keys' words' m' → (keys ≡ keys') × (words ≡ words') × (m ≡ m')
numbered_one {body} {keys} {words} {keys'} {words'} N N' = (
  ext_get_or 0 keys keys' (N.coded.listed.keys_long ∙ sym N'.coded.listed.keys_long) (λ i h. same_key N N' i),
  ext_get_or 0 words words' (N.coded.listed.words_long ∙ sym N'.coded.listed.words_long) (λ u h.
      let a = subset_le (get_or words u 0) (get_or words' u 0) (bits_there N N' u) in
      let b = subset_le (get_or words' u 0) (get_or words u 0) (bits_there N' N u) in
      omega arith),
  same_number N N',
)
