-- Further faults of clocks, computed from texts: what counts as live, which index stands first, a register's own clock, the ports of a memory, and a ring.
use Rattle.std.proofs.Common.{◌≡◌, ℕ, zero, suc, [], ◌∷◌, true, false, Some, None, refl, sym, subst, arith, ◌⊎◌, inl, inr}
use Rattle.std.proofs.lemmas.Option.{same_Some}
use Rattle.std.specs.Prelude.{codes}
use Rattle.fir_base.specs.Lists.{In}
use Rattle.fir_ast.specs.declared.place.Place.{Place}
use Rattle.fir_ast.specs.Faults.{Fault}
use Rattle.fir_meaning.specs.SourceClocks.{clock_fault}
use Rattle.fir_meaning.specs.SourceLoops.{loop_fault}
use Rattle.fir_meaning.specs.SourceMemoryClocks.{memory_clocks_fault}
use Rattle.fir_bits.specs.Literals.{least_width}
use Rattle.fir_meaning.specs.Lack.{is_before}
use Rattle.fir_meaning.specs.LeafPaths.{element, named, path_text}
use Rattle.fir_meaning.specs.working.LeafModules.{LeafModule}
use Rattle.fir_meaning.specs.working.TermReads.{multiples}
use Rattle.fir_meaning.proofs.SmallTrees.{at}
use Rattle.fir_leaf.specs.working.ClockRoots.{HasRoot}
use Rattle.fir_leaf.specs.working.ClockFaults.{ShowsClockFault, ShowsPickedClock, ShowsTwoLive}
use Rattle.fir_meaning.specs.working.Designs.{elaborated, module_of}
use Rattle.fir_meaning.specs.working.LoopFaults.{ShowsLoop}
use Rattle.fir_leaf.specs.working.MemoryClockFaults.{HasClock, ShowsMemoryClocks}
use Rattle.fir_leaf.specs.working.ModuleCircuits.{module_circuit}
use Rattle.fir_leaf.proofs.FaultRows.{distinct, only_place}
use Rattle.fir_leaf.proofs.RootClocks.{has_one_root}
use Rattle.fir_leaf.proofs.RowTrees.{modules_of, over_leaves}
use Rattle.fir_leaf.proofs.TextTrees as text

-- w is invalid, and in a when of s, w <= c: the invalid is one of the two; the leaves are c, s and w
invalid_first_shows : ShowsClockFault (over_leaves text.invalid_first) (clock_fault (at 5 10) (codes "w") (at 6 5) (at 8 7))
unfolding elaborated
invalid_first_shows = record {
  leaf = 2;
  within = omega arith;
  shows = inr (record { is_clock = refl; is_sink = refl; none_picks = refl; first = _; second = _; rest = []; lives = refl; is = refl });
}

-- w is invalid, and behind it w <= c: only the connect is live, and no E25 stands
none_picked : (x : ℕ) (f : Fault) → ShowsPickedClock (over_leaves text.invalid_covered) x f → ⊥
unfolding elaborated
none_picked zero f h = h.first.among
none_picked (suc zero) f h = h.first.among
none_picked (suc (suc zero)) f h = h.first.among
none_picked (suc (suc (suc x))) f h = h.first.among

none_has_two : (x : ℕ) (f : Fault) → ShowsTwoLive (over_leaves text.invalid_covered) x f → ⊥
unfolding elaborated
none_has_two zero f h = let e = h.is_sink in absurd cc
none_has_two (suc zero) f h = let e = h.is_sink in absurd cc
none_has_two (suc (suc zero)) f h = let e = h.lives in absurd cc
none_has_two (suc (suc (suc x))) f h = let e = h.is_sink in absurd cc

invalid_covered_shows_none : (f : Fault) → ShowsClockFault (over_leaves text.invalid_covered) f → ⊥
unfolding elaborated
invalid_covered_shows_none f h = go h.shows
  where
    go : ShowsPickedClock (over_leaves text.invalid_covered) h.leaf f ⊎ ShowsTwoLive (over_leaves text.invalid_covered) h.leaf f → ⊥
    go (inl p) = none_picked h.leaf f p
    go (inr t) = none_has_two h.leaf f t

-- z[j] <= v[i], where the elements are flipped clocks: the leaves of v are driven, yet the index of z stands first in the text. The leaves are i, j, z[0].c,
-- z[1].c, v[0].c and v[1].c
flipped_clocks_shows : ShowsClockFault (over_leaves text.flipped_clocks)
    (clock_fault (at 6 10) (path_text (named (codes "v") ∷ element 1 ∷ named (codes "c") ∷ [])) (at 7 7) (at 7 7))
unfolding elaborated multiples
flipped_clocks_shows = record {
  leaf = 5;
  within = omega arith;
  shows = inl (record { index = at 7 7; first = record { among = inr (inl refl); none_before = λ q m. behind q m }; is = refl });
}
  where
    behind : (q : Place) → In (at 7 15 ∷ at 7 7 ∷ []) q → is_before q (at 7 7) ≡ false
    behind q (inl e) = rw (← e) refl
    behind q (inr m) = only_place (at 7 7) refl q m

-- a register r with a field x, of an instance u, with v[i] as its clock, is told as u.r; the leaves are v[0], v[1], i, u.v[0], u.v[1], u.i and u.r.x
picked_register_shows : ShowsClockFault (over_leaves text.picked_register) (clock_fault (at 11 9) (codes "u.r") (at 11 30) (at 11 30))
unfolding elaborated
picked_register_shows = record {
  leaf = 6;
  within = omega arith;
  shows = inl (record { index = at 11 30; first = record { among = inl refl; none_before = only_place (at 11 30) refl }; is = refl });
}

-- a memory m of four ports: the clock of the first is invalid, those of the next two are c, and the last is a clock that an instance u gives. The leaves are c,
-- u.c, u.k, x, and of each port addr, en, clk and data
abbrev with_memory : LeafModule
with_memory = module_of (modules_of text.memory_clocks) 1

first_has_none : HasRoot (module_circuit with_memory) 6 None
unfolding least_width
first_has_none = record { walk = []; final = 6; chain = refl; ends = (record { live = _; only = refl; gives = refl }, refl) }

third_has : HasClock with_memory 14 0
unfolding least_width
third_has = record {
  walk = 0 ∷ [];
  final = 0;
  chain = (record { live = _; only = refl; gives = refl }, record { within = omega arith; is_clock = refl }, refl);
  ends = refl;
}

-- of an instance i
memory_clocks_shows
    : ShowsMemoryClocks with_memory (named (codes "i") ∷ []) (memory_clocks_fault (at 10 9) (codes "i.m") (codes "i.c") (codes "i.u.k"))
unfolding least_width
memory_clocks_shows = record {
  memory = _;
  declared = inl refl;
  name = _;
  is_name = refl;
  before = 6 ∷ [];
  one = 10;
  between = 14 ∷ [];
  other = 18;
  after = [];
  ports = refl;
  clock = 0;
  other_clock = 2;
  none_before = λ x root m h. none x root m h;
  one_has = record {
    walk = 3 ∷ 0 ∷ [];
    final = 0;
    chain = (
      record { live = _; only = refl; gives = refl },
      record { within = omega arith; is_clock = refl },
      (record { live = _; only = refl; gives = refl }, record { within = omega arith; is_clock = refl }, refl),
    );
    ends = refl;
  };
  same_between = λ x root m h. same x root m h;
  other_has = record {
    walk = 2 ∷ [];
    final = 2;
    chain = (record { live = _; only = refl; gives = refl }, record { within = omega arith; is_clock = refl }, refl);
    ends = refl;
  };
  differ = λ e. absurd (omega (arith, e));
  is = refl;
}
  where
    none : (x root : ℕ) → In (6 ∷ []) x → HasClock with_memory x root → ⊥
    none x root (inl e) h =
        let here : HasClock with_memory 6 root = subst (λ (y : ℕ). HasClock with_memory y root) (sym e) h in
        let same = has_one_root (module_circuit with_memory) 6 None (Some root) first_has_none here in
        absurd cc
    none x root (inr n) h = n

    same : (x root : ℕ) → In (14 ∷ []) x → HasClock with_memory x root → root ≡ 0
    same x root (inl e) h =
        let here : HasClock with_memory 14 root = subst (λ (y : ℕ). HasClock with_memory y root) (sym e) h in
        same_Some root 0 (has_one_root (module_circuit with_memory) 14 (Some root) (Some 0) here third_has)
    same x root (inr n) h = absurd n

-- w <= x and x <= w, of clocks
ring_is_loop : ShowsLoop (over_leaves text.clock_ring) (loop_fault (at 3 10) (codes "w" ∷ codes "x" ∷ codes "w" ∷ []))
unfolding elaborated
ring_is_loop = record {
  first = 0;
  between = 1 ∷ [];
  walk = (
    record { live = _; is_live = record { choice = λ way. true; last = refl }; read = inl refl },
    (record { live = _; is_live = record { choice = λ way. true; last = refl }; read = inl refl }, refl),
  );
  distinct = distinct (0 ∷ 1 ∷ []) refl;
  is = refl;
}
