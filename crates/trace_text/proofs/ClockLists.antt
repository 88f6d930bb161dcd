-- Clock lists that name clocks of the shape.
-- What the list names rises, and each of it is below the number of clocks.
use Rattle.std.proofs.Common.{◌≡◌, ℕ, ◌+◌, List, [], ◌∷◌, length, Bool, true, false, map, nat_lt, nat_le, if◌then◌else◌, refl, ◌||◌}
use Rattle.std.proofs.lemmas.Bool.{ltb-true, lt-ltb, leb-true}
use Rattle.fir_base.specs.Ticks.{AreClocks}
use Rattle.trace_text.specs.declared.fault.Cause.TheVariants.{Absent}
use Rattle.trace_text.specs.Spelling.{decimal_of, listed, are_rising, is_no_clock, are_clocks, is_clock_list, clocks_of, is_decimal}
use Rattle.std.specs.List.{list_all}
use Rattle.trace_text.specs.LineFaults.{unless, absent_clocks, absent_in_list}
use Rattle.fir_base.proofs.Tests.{both}
use Rattle.trace_text.proofs.EmptyLists.{parts, joined, passes, passed}

clocks_there : (low clocks place : ℕ) (ws : List (List ℕ)) → are_rising low (map decimal_of ws) ≡ true → absent_clocks clocks place ws ≡ [] → AreClocks low clocks (map decimal_of ws)
clocks_there low clocks place [] rising none = tt
clocks_there low clocks place (w ∷ ws) rising none =
    let r = both (nat_le low (decimal_of w)) (are_rising (decimal_of w + 1) (map decimal_of ws)) rising in
    let first = Absent place (length w) in
    let p = parts (unless (nat_lt (decimal_of w) clocks) first) (absent_clocks clocks (place + length w + 1) ws) none in (
      leb-true low (decimal_of w) r.0,
      ltb-true (decimal_of w) clocks (passes (nat_lt (decimal_of w) clocks) first p.0),
      clocks_there (decimal_of w + 1) clocks (place + length w + 1) ws r.1 p.1,
    )

-- and back
none_absent : (low clocks place : ℕ) (ws : List (List ℕ)) → AreClocks low clocks (map decimal_of ws) → absent_clocks clocks place ws ≡ []
none_absent low clocks place [] rise = refl
none_absent low clocks place (w ∷ ws) rise =
    let first = Absent place (length w) in
    joined (unless (nat_lt (decimal_of w) clocks) first) (absent_clocks clocks (place + length w + 1) ws)
    (passed (nat_lt (decimal_of w) clocks) first (lt-ltb (decimal_of w) clocks rise.1))
    (none_absent (decimal_of w + 1) clocks (place + length w + 1) ws rise.2)

-- at a list with the test of its form
there_at : (none : Bool) (clocks : ℕ) (ws : List (List ℕ)) → (none || are_clocks ws) ≡ true → (if none then [] else absent_clocks clocks 0 ws) ≡ []
    → AreClocks 0 clocks (if none then [] else map decimal_of ws)
there_at true clocks ws h k = tt
there_at false clocks ws h k = clocks_there 0 clocks 0 ws (both (list_all is_decimal ws) (are_rising 0 (map decimal_of ws)) h).1 k

none_at : (none : Bool) (clocks : ℕ) (ws : List (List ℕ)) → AreClocks 0 clocks (if none then [] else map decimal_of ws) → (if none then [] else absent_clocks clocks 0 ws) ≡ []
none_at true clocks ws h = refl
none_at false clocks ws h = none_absent 0 clocks 0 ws h

pub list_rises : (clocks : ℕ) (w : List ℕ) → is_clock_list w ≡ true → absent_in_list clocks w ≡ [] → AreClocks 0 clocks (clocks_of w)
list_rises clocks w h k = there_at (is_no_clock w) clocks (listed w) h k

pub none_absent_in : (clocks : ℕ) (w : List ℕ) → AreClocks 0 clocks (clocks_of w) → absent_in_list clocks w ≡ []
none_absent_in clocks w h = none_at (is_no_clock w) clocks (listed w) h
