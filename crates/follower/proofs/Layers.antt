-- The vertices by how many steps lead there from a set, one layer after the other.
use Prim.Native.Nat.{ℕ, suc, ◌+◌, ◌*◌, ◌≤◌, ◌<◌}
use mathlib.Core.Path.{◌≡◌, refl, sym, ◌∙◌, subst}
use mathlib.Core.Logic.{◌≢◌, inl, inr, ⊎_elim, by_cases}
use mathlib.Core.List.{List}
use native.Mathlib.Decide.{ℕ_discrete, dec_lt}
use native.Mathlib.Numerals.{add-one}
use native.Mathlib.Omega.{arith}
use lib.ListN.{length}
use Rattle.theory.specs.Systems.{System}
use Rattle.theory.specs.Ways.{ReachedIn, member, FirstIn}
use Rattle.theory.proofs.Ways.{ends_in_none, reached_none, reached_less, reached_ends, ends_reached, first_more, first_less}
use Rattle.bits.specs.declared.sets.Set.{Set}
use Rattle.bits.specs.Sets.{Has, empty_set, Empty, Members, Union, Difference}
use Rattle.bits.specs.Tables.{row_of, HasRow, put_row}
use Rattle.bits.proofs.Members.{has?}
use Rattle.bits.proofs.Gains.{put_long, put_here, put_other}
use Rattle.bits.proofs.Visits.{Visit, FromPast, visits_none, visits_more, visits_all}
use Rattle.chart.specs.Bodies.{vertices_of, WellFormed}
use Rattle.chart.specs.Systems.{system_of}
use Rattle.chart.specs.Images.{LeadsTo}
use Rattle.chart.proofs.Relations.{acts_member}
use Rattle.std.specs.Prelude.{Some, None}
use Rattle.follower.specs.Layers.{SomeEnds, ReadRows, Layered, LayersFrom, found, not_found}

-- THE TARGETS OF A LAYER: of its vertices that are left no longer
pub record Reading (b : List ℕ) (layer left : Set) (before : List ℕ) (all : Set) (rows : List ℕ) : Type 0 where
  pub long : length rows ≡ 256
  pub gathered : Members (FromPast (LeadsTo b) layer left) all
  pub each : (u : ℕ) → Has layer u → ¬ Has left u → Members (LeadsTo b u) (row_of rows u)
  pub others : (u : ℕ) → ¬ Has layer u → row_of rows u ≡ row_of before u

module _ {b : List ℕ} {layer : Set} where
  pub reading_none : {none_yet : Set} {rows : List ℕ} → length rows ≡ 256 → none_yet ≡ empty_set
      → Reading b layer layer rows none_yet rows
  reading_none l e = record {
    long = l;
    gathered = visits_none e;
    each = λ u h n. absurd (n h);
    others = λ u n. refl;
  }

  pub reading_more : {left fewer all targets more : Set} {u : ℕ} {before rows stored : List ℕ} → Reading b layer left before all rows
      → Visit layer left u fewer → Members (LeadsTo b u) targets → stored ≡ put_row rows u targets → Union all targets more
      → Reading b layer fewer before more stored
  reading_more {fewer = fewer} {targets = targets} {more = more} {u = u} {before = before} {rows = rows} R T Q P U =
      subst (Reading b layer fewer before more) (sym P) (record {
        long = put_long rows u targets ∙ R.long;
        gathered = visits_more T R.gathered Q U;
        each = λ v h n. by_cases (ℕ_discrete v u)
            (λ e. rw (e, put_here rows u targets fits) Q)
            (λ d. rw (put_other rows u targets v d) (R.each v h (λ g. n ((T.rest v).1 (g, d)))));
        others = λ v n.
            put_other rows u targets v (λ e. n (subst (Has layer) (sym e) (T.within u T.has))) ∙ R.others v n;
      })
    where
      fits : 2 * u + 2 ≤ length rows
      fits = omega (arith, R.long, T.has.below)

  pub reading_all : {left all : Set} {before rows : List ℕ} → Reading b layer left before all rows → Empty left
      → ReadRows b layer before all rows
  reading_all R E = record {
    long = R.long;
    all = visits_all E R.gathered;
    each = λ v h. R.each v h (E v);
    others = R.others;
  }

-- THE LAYERS. Some path of k steps or fewer leads from the set to x
pub record Within (b : List ℕ) (set : Set) (k x : ℕ) : Type 0 where
  pub steps : ℕ
  pub few : steps ≤ k
  pub reached : ReachedIn (system_of b) (Has set) steps x

-- the layers before k are in the table, with the rows of their vertices, and none has the end; layer k, and all up to it
pub record Layering (b : List ℕ) (set : Set) (k : ℕ) (layers rows : List ℕ) (layer seen : Set) : Type 0 where
  pub layers_long : length layers ≡ 256
  pub rows_long : length rows ≡ 256
  pub within : k ≤ vertices_of b
  pub at : Members (FirstIn (system_of b) (Has set) k) layer
  pub near : Members (Within b set k) seen
  pub before : (j : ℕ) → j < k → Members (FirstIn (system_of b) (Has set) j) (row_of layers j)
  pub row : (j u : ℕ) → j < k → HasRow layers j u → Members (LeadsTo b u) (row_of rows u)
  pub sooner : (j : ℕ) → j < k → ¬ SomeEnds b set j

module _ (b : List ℕ) where
  abbrev M : System
  M = system_of b

  -- from the set to the end in k steps
  module _ {set : Set} {k : ℕ} where
    to_end : SomeEnds b set k → ReachedIn M (Has set) k 0
    to_end (x, m, e) =
        let (z, q, r) = ends_reached M k (member m) e (omega arith) in
        subst (ReachedIn M (Has set) k) q r

    at_end_lem : ReachedIn M (Has set) k 0 → SomeEnds b set k
    at_end_lem r = reached_ends M k r ((ends_in_none M).1 refl) (omega arith)

  -- THE FIRST LAYER: the set
  pub layering_first : (set : Set) {layers rows : List ℕ} → length layers ≡ 256 → length rows ≡ 256
      → Layering b set 0 layers rows set set
  layering_first set l m = record {
    layers_long = l;
    rows_long = m;
    within = omega arith;
    at = record {
      exactly = λ w h. (
        λ g. record { holds = member g; lowest = λ k q. absurd (omega (arith, q)) },
        λ F. reached_none M F.holds,
      );
    };
    near = record {
      exactly = λ w h. (
        λ g. record { steps = 0; few = omega arith; reached = member g },
        λ n. let z : n.steps ≡ 0 = omega (arith, n.few) in
            reached_none M (subst (λ (k : ℕ). ReachedIn M (Has set) k w) z n.reached),
      );
    };
    before = λ j h. absurd (omega (arith, h));
    row = λ j u h. absurd (omega (arith, h));
    sooner = λ j h. absurd (omega (arith, h));
  }

  module _ (W : WellFormed b) {set layer seen : Set} {k : ℕ} {layers rows stored : List ℕ}
      (L : Layering b set k layers rows layer seen) (h : k < vertices_of b) (P : stored ≡ put_row layers k layer) where
    fits : 2 * k + 2 ≤ length layers
    fits = omega (arith, L.layers_long, h, W.header.vertices_high)

    stored_here : row_of stored k ≡ layer
    stored_here = subst (λ (t : List ℕ). row_of t k ≡ layer) (sym P) (put_here layers k layer fits)

    stored_other : (j : ℕ) → j ≢ k → row_of stored j ≡ row_of layers j
    stored_other j n = subst (λ (t : List ℕ). row_of t j ≡ row_of layers j) (sym P) (put_other layers k layer j n)

    stored_long : length stored ≡ 256
    stored_long = subst (λ (t : List ℕ). length t ≡ 256) (sym P) (put_long layers k layer ∙ L.layers_long)

    stored_rows : (j : ℕ) → j ≤ k → Members (FirstIn M (Has set) j) (row_of stored j)
    stored_rows j l = by_cases (ℕ_discrete j k)
        (λ e. rw (e, stored_here) L.at)
        (λ n. rw (stored_other j n) (L.before j (omega (arith, l, n))))

    -- A LAYER THAT HAS THE END is the last
    pub layering_ends : Has layer 0 → Layered b set k stored rows
    layering_ends g = record {
      layers_long = stored_long;
      rows_long = L.rows_long;
      nearest = record { holds = at_end_lem ((L.at.exactly 0 (omega arith)).0 g).holds; lowest = L.sooner };
      layer = stored_rows;
      row = λ j u m q. L.row j u m (rw (stored_other j (λ e. omega (arith, e, m))) at q);
    }

    -- THE NEXT LAYER: the targets of this one that are not in it or before it
    module _ {all next grown : Set} {read : List ℕ} (n : ¬ Has layer 0) (R : ReadRows b layer rows all read)
        (D : Difference all seen next) (U : Union seen next grown) where
      next_first : (u : ℕ) → Has next u → FirstIn M (Has set) (suc k) u
      next_first u g =
          let (p, q) = (D u).0 g in
          let (x, m, (a, s)) = (R.all.exactly u g.below).0 p in
          first_more M ((acts_member b x a u).0 s) ((L.at.exactly x m.below).0 m)
          (λ j l r. q ((L.near.exactly u g.below).1 (record { steps = j; few = l; reached = r })))

      first_next : (u : ℕ) → u < 128 → FirstIn M (Has set) (suc k) u → Has next u
      first_next u l F =
          let (x, a, r, t) = reached_less M F.holds in
          let s = (acts_member b x a u).1 t in
          let m : x < 128 = omega (arith, s.leaves, (W.each s.at s.within).from_high, W.header.vertices_high) in
          let p = (R.all.exactly u l).1 (x, (L.at.exactly x m).1 (first_less M F r t), (a, s)) in
          (D u).1 (p, λ g. let w = (L.near.exactly u l).0 g in F.lowest w.steps (omega (arith, w.few)) w.reached)

      read_row_lem : (j u : ℕ) → j < suc k → HasRow stored j u → Members (LeadsTo b u) (row_of read u)
      read_row_lem j u l q = by_cases (ℕ_discrete j k)
          (λ e. R.each u (rw stored_here at (subst (λ (i : ℕ). HasRow stored i u) e q)))
          (λ d. let m : j < k = omega (arith, l, d) in
          let o = rw (stored_other j d) at q in
          rw (R.others u (λ g. ((L.at.exactly u g.below).0 g).lowest j m (((L.before j m).exactly u g.below).0 o).holds))
          (L.row j u m o))

      pub layering_more : Layering b set (k + 1) stored read next grown
      layering_more = rw (add-one k) (record {
        layers_long = stored_long;
        rows_long = R.long;
        within = omega (arith, h);
        at = record { exactly = λ u l. (next_first u, first_next u l) };
        near = record { exactly = λ u l. (to u l, from u l) };
        before = λ j l. stored_rows j (omega (arith, l));
        row = read_row_lem;
        sooner = λ j l. by_cases (ℕ_discrete j k) (λ e. rw e misses) (λ d. L.sooner j (omega (arith, l, d)));
      })
        where
          misses : ¬ SomeEnds b set k
          misses e = n ((L.at.exactly 0 (omega arith)).1 (record { holds = to_end e; lowest = λ j l q. L.sooner j l (at_end_lem q) }))

          to : (u : ℕ) → u < 128 → Has grown u → Within b set (suc k) u
          to u l g = ⊎_elim
              (λ p. let w = (L.near.exactly u l).0 p in record { steps = w.steps; few = omega (arith, w.few); reached = w.reached })
              (λ p. record { steps = suc k; few = omega arith; reached = (next_first u p).holds })
              ((U u).0 g)

          from : (u : ℕ) → u < 128 → Within b set (suc k) u → Has grown u
          from u l w = (U u).1 (elim (has? seen u) [
            | yes g ↦ inl g
            | no g ↦ inr (first_next u l (last g))
          ])
            where
              far : ¬ Has seen u → (j : ℕ) → j ≤ k → ¬ ReachedIn M (Has set) j u
              far g j m r = g ((L.near.exactly u l).1 (record { steps = j; few = m; reached = r }))

              last : ¬ Has seen u → FirstIn M (Has set) (suc k) u
              last g = by_cases (dec_lt k w.steps)
                  (λ m. let z : w.steps ≡ suc k = omega (arith, m, w.few) in record {
                    holds = subst (λ (j : ℕ). ReachedIn M (Has set) j u) z w.reached;
                    lowest = λ j q. far g j (omega (arith, q));
                  })
                  (λ m. absurd (far g w.steps (omega (arith, m)) w.reached))

-- what is found of them, and that nothing is
pub layers_found : {b : List ℕ} {set : Set} {layers rows : List ℕ} {d : ℕ} → LayersFrom b set layers rows (Some d)
    → (d < vertices_of b) × Layered b set d layers rows
layers_found (found l L) = (l, L)

pub no_layer : {b : List ℕ} {set : Set} {layers rows : List ℕ} → LayersFrom b set layers rows None
    → (k : ℕ) → k < vertices_of b → ¬ SomeEnds b set k
no_layer (not_found n) = n
