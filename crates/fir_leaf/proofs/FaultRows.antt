-- Worked faults of leaf circuits, computed from texts: loops, clocks with two live statements or an index, an asynchronous init that reaches an input.
use Rattle.std.proofs.Common.{◌≡◌, ℕ, zero, suc, List, [], ◌∷◌, ◌++◌, true, false, refl, sym, subst, arith, inl, inr, nat_eq, length}
use Rattle.std.proofs.lemmas.Bool.{eq-eqb}
use Rattle.std.proofs.lemmas.Option.{same_Some}
use Rattle.std.specs.Prelude.{codes}
use Rattle.std.specs.Fmt.{digits}
use Rattle.fir_base.specs.Lists.{In, Distinct}
use Rattle.fir_ast.specs.declared.place.Place.{Place}
use Rattle.fir_ast.specs.Faults.{Fault}
use Rattle.fir_meaning.specs.SourceClocks.{clock_fault}
use Rattle.fir_meaning.specs.SourceInits.{init_fault}
use Rattle.fir_meaning.specs.SourceLoops.{loop_fault}
use Rattle.fir_bits.specs.Literals.{least_width}
use Rattle.fir_meaning.specs.Lack.{is_before}
use Rattle.fir_meaning.specs.working.TermReads.{multiples}
use Rattle.fir_meaning.specs.working.Choices.{Live, live_reads}
use Rattle.fir_meaning.proofs.SmallTrees.{at}
use Rattle.fir_meaning.specs.working.CircuitDependence.{CircuitDepends, IsWalk}
use Rattle.fir_leaf.specs.working.ClockFaults.{ShowsClockFault}
use Rattle.fir_meaning.specs.working.Designs.{elaborated}
use Rattle.fir_leaf.specs.working.InitFaults.{ShowsAsyncInit}
use Rattle.fir_meaning.specs.working.LoopFaults.{ShowsLoop}
use Rattle.fir_leaf.proofs.NamedTests.{are_distinct, distinct_by_test}
use Rattle.fir_leaf.proofs.RowTrees.{over_leaves}
use Rattle.fir_leaf.proofs.TextTrees as text

-- numbers are distinct by a test
pub distinct : (xs : List ℕ) → are_distinct nat_eq xs ≡ true → Distinct xs
distinct = distinct_by_test nat_eq (λ k. eq-eqb k k refl)

-- w <= w, w <= a and o <= w; the leaves are a, o and w. Under every choice w reads a alone, and o reads w
w_reads : (y : ℕ) → CircuitDepends (over_leaves text.overwritten) 2 y → y ≡ 0
unfolding elaborated
w_reads y h = only (subst (λ (l : Live). In (live_reads l) y) (sym (same_Some _ _ h.is_live.last)) h.read)
  where
    only : In {A = ℕ} (0 ∷ []) y → y ≡ 0
    only (inl e) = sym e
    only (inr n) = absurd n

o_reads : (y : ℕ) → CircuitDepends (over_leaves text.overwritten) 1 y → y ≡ 2
unfolding elaborated
o_reads y h = only (subst (λ (l : Live). In (live_reads l) y) (sym (same_Some _ _ h.is_live.last)) h.read)
  where
    only : In {A = ℕ} (2 ∷ []) y → y ≡ 2
    only (inl e) = sym e
    only (inr n) = absurd n

from_a : (ys : List ℕ) (final : ℕ) → IsWalk (over_leaves text.overwritten) 0 ys final → final ≡ 0
unfolding elaborated
from_a [] final h = sym h
from_a (y ∷ ys) final h = absurd h.0

behind_w : (y : ℕ) (ys : List ℕ) (final : ℕ) → IsWalk (over_leaves text.overwritten) 2 (y ∷ ys) final → final ≡ 0
behind_w y ys final h = from_a ys final (subst (λ (x : ℕ). IsWalk (over_leaves text.overwritten) x ys final) (w_reads y h.0) h.1)

from_w : (ys : List ℕ) → IsWalk (over_leaves text.overwritten) 2 ys 1 → ⊥
from_w [] h = absurd (omega (arith, h))
from_w (y ∷ ys) h = absurd (omega (arith, behind_w y ys 1 h))

-- no walk through w closes, nor any other
none_closes : (x y : ℕ) (ys : List ℕ) → IsWalk (over_leaves text.overwritten) x (y ∷ ys) x → ⊥
unfolding elaborated
none_closes zero y ys h = h.0
none_closes (suc zero) y ys h = from_w ys (subst (λ (x : ℕ). IsWalk (over_leaves text.overwritten) x ys 1) (o_reads y h.0) h.1)
none_closes (suc (suc zero)) y ys h = absurd (omega (arith, behind_w y ys 2 h))
none_closes (suc (suc (suc x))) y ys h = h.0

no_loop : (x : ℕ) (between : List ℕ) → IsWalk (over_leaves text.overwritten) x (between ++ x ∷ []) x → ⊥
no_loop x [] h = none_closes x x [] h
no_loop x (y ∷ ys) h = none_closes x y (ys ++ x ∷ []) h

overwritten_shows_no_loop : (f : Fault) → ShowsLoop (over_leaves text.overwritten) f → ⊥
overwritten_shows_no_loop f h = no_loop h.first h.between h.walk

-- w <= not(w) and o <= w; the leaves are a, o and w
inverted_shows_loop : ShowsLoop (over_leaves text.inverted) (loop_fault (at 5 10) (codes "w" ∷ codes "w" ∷ []))
unfolding elaborated
inverted_shows_loop = record {
  first = 2;
  between = [];
  walk = (record { live = _; is_live = record { choice = λ way. true; last = refl }; read = inl refl }, refl);
  distinct = ((λ m. m), tt);
  is = refl;
}

-- b.i takes x.d, which shows at once what stands in a memory of x at the address x.a, and that is b.o, which is not(b.i)
memory_shows_loop : ShowsLoop (over_leaves text.memory_loop)
    (loop_fault (at 23 10)
    (codes "b.i" ∷ codes "x.d" ∷ codes "x.m.r.data" ∷ codes "x.m.r.addr" ∷ codes "x.a" ∷ codes "b.o" ∷ codes "b.i" ∷ []))
unfolding elaborated least_width
memory_shows_loop = record {
  first = 2;
  between = 6 ∷ 10 ∷ 7 ∷ 5 ∷ 3 ∷ [];
  walk = (
    record { live = _; is_live = record { choice = λ way. true; last = refl }; read = inl refl },
    (
      record { live = _; is_live = record { choice = λ way. true; last = refl }; read = inl refl },
      (
        inl refl,
        (
          record { live = _; is_live = record { choice = λ way. true; last = refl }; read = inl refl },
          (
            record { live = _; is_live = record { choice = λ way. true; last = refl }; read = inl refl },
            (record { live = _; is_live = record { choice = λ way. true; last = refl }; read = inl refl }, refl),
          ),
        ),
      ),
    ),
  );
  distinct = distinct (2 ∷ 6 ∷ 10 ∷ 7 ∷ 5 ∷ 3 ∷ []) refl;
  is = refl;
}

-- v is invalid, v[0].b <= v[0].x.b, and v[i] <- v[j].x, by which first v[j].x.b takes v[i].b, and then v[i].x.b takes v[j].x.x.b; the leaves are i, j, v[0].b,
-- v[0].x.b and v[0].x.x.b. Each of the two has an outcome of its own: where the first hits and the second misses, v[0].x.b hangs on v[0].b
either_side_shows_loop : ShowsLoop (over_leaves text.either_side) (loop_fault (at 5 10) (codes "v[0].b" ∷ codes "v[0].x.b" ∷ codes "v[0].b" ∷ []))
unfolding elaborated multiples digits
either_side_shows_loop = record {
  first = 2;
  between = 3 ∷ [];
  walk = (
    record { live = _; is_live = record { choice = λ way. true; last = refl }; read = inl refl },
    (record { live = _; is_live = record { choice = λ way. nat_eq (length way) 5; last = refl }; read = inr (inr (inl refl)) }, refl),
  );
  distinct = distinct (2 ∷ 3 ∷ []) refl;
  is = refl;
}

-- in a when of s, w <= c, and else w <= d; the leaves are c, d, s and w
in_both_blocks_shows : ShowsClockFault (over_leaves text.in_both_blocks) (clock_fault (at 6 10) (codes "w") (at 8 7) (at 10 7))
unfolding elaborated
in_both_blocks_shows = record {
  leaf = 3;
  within = omega arith;
  shows = inr (record { is_clock = refl; is_sink = refl; none_picks = refl; first = _; second = _; rest = []; lives = refl; is = refl });
}

-- the only place of a list stands first
pub only_place : (p : Place) → is_before p p ≡ false → (q : Place) → In (p ∷ []) q → is_before q p ≡ false
only_place p e q (inl s) = rw (← s) e
only_place p e q (inr n) = absurd n

-- a node n = v[i] of clocks; the leaves are v[0], v[1], i and n
picked_node_shows : ShowsClockFault (over_leaves text.picked_node) (clock_fault (at 5 10) (codes "n") (at 5 16) (at 5 16))
unfolding elaborated
picked_node_shows = record {
  leaf = 3;
  within = omega arith;
  shows = inl (record { index = at 5 16; first = record { among = inl refl; none_before = only_place (at 5 16) refl }; is = refl });
}

-- the init of r reads a wire w <= a; the leaves are clock, a, rst, w and r
init_by_input_shows : ShowsAsyncInit (over_leaves text.init_by_input) (init_fault (at 7 9) (codes "w" ∷ codes "a" ∷ []))
unfolding elaborated
init_by_input_shows = record {
  leaf = 4;
  within = omega arith;
  clock = _;
  reset = _;
  is_register = refl;
  is_async = refl;
  first = 3;
  rest = 1 ∷ [];
  final = 1;
  read = inl refl;
  walk = (record { live = _; is_live = record { choice = λ way. true; last = refl }; read = inl refl }, refl);
  final_within = omega arith;
  ends = refl;
  distinct = distinct (3 ∷ 1 ∷ []) refl;
  is = refl;
}
