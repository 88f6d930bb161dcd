-- The lines of ticks are those in which nothing is wrong.
-- Each word is spelled as its place needs, each clock is there, and each value fits its input.
use Rattle.std.proofs.Common.{◌≤◌, ◌≡◌, ℕ, ◌+◌, ◌^◌, ◌<◌, List, [], ◌∷◌, ◌++◌, length, Bool, true, map, nat_lt, nat_eq, refl, arith}
use Rattle.std.specs.List.{AllByRecursion}
use Rattle.std.proofs.lemmas.Bool.{ltb-true, lt-ltb, eqb-true, eq-eqb}
use Rattle.fir_base.specs.Ticks.{FitEach, AreClocks}
use Rattle.trace_text.specs.declared.fault.Cause.{Cause}
use Rattle.trace_text.specs.declared.fault.Cause.TheVariants.{Misspelled, Count, Wide}
use Rattle.trace_text.specs.Lines.{line_limit, words_of}
use Rattle.trace_text.specs.Spelling.{is_value, hexadecimal_of, is_clock_list, clocks_of}
use Rattle.trace_text.specs.Shapes.{TraceShape}
use Rattle.trace_text.specs.SpelledLines.{IsTickLine}
use Rattle.trace_text.specs.LineFaults.{unless, tick_count, misspelled_values, wide, wide_values, absent_in_list, tick_faults}
use Rattle.trace_text.specs.working.TickWords.{tick_of}
use Rattle.trace_text.proofs.EmptyLists.{parts, joined, passes, passed}
use Rattle.trace_text.proofs.ClockLists.{list_rises, none_absent_in}

abbrev IsValue : List ℕ → Type 0
IsValue w = is_value w ≡ true

pub values_spelled : (k : ℕ) (ws : List (List ℕ)) → misspelled_values k ws ≡ [] → AllByRecursion IsValue ws
values_spelled k [] h = tt
values_spelled k (w ∷ ws) h =
    let p = parts (unless (is_value w) (Misspelled k)) (misspelled_values (k + 1) ws) h in (
      passes (is_value w) (Misspelled k) p.0,
      values_spelled (k + 1) ws p.1,
    )

none_misspelled : (k : ℕ) (ws : List (List ℕ)) → AllByRecursion IsValue ws → misspelled_values k ws ≡ []
none_misspelled k [] h = refl
none_misspelled k (w ∷ ws) h =
    joined (unless (is_value w) (Misspelled k)) (misspelled_values (k + 1) ws) (passed (is_value w) (Misspelled k) h.0) (none_misspelled (k + 1) ws h.1)

-- a value that is not wide fits
pub word_fits : (k width : ℕ) (w : List ℕ) → wide k width w ≡ [] → hexadecimal_of w < 2 ^ width
word_fits k width w h = ltb-true (hexadecimal_of w) (2 ^ width) (passes (nat_lt (hexadecimal_of w) (2 ^ width)) (Wide k width) h)

pub not_wide : (k width : ℕ) (w : List ℕ) → hexadecimal_of w < 2 ^ width → wide k width w ≡ []
not_wide k width w h = passed (nat_lt (hexadecimal_of w) (2 ^ width)) (Wide k width) (lt-ltb (hexadecimal_of w) (2 ^ width) h)

values_fit : (k : ℕ) (widths : List ℕ) (ws : List (List ℕ)) → length ws ≡ length widths → wide_values k widths ws ≡ [] → FitEach widths (map hexadecimal_of ws)
values_fit k [] [] e h = tt
values_fit k [] (w ∷ ws) e h = absurd (omega arith)
values_fit k (width ∷ widths) [] e h = absurd (omega arith)
values_fit k (width ∷ widths) (w ∷ ws) e h =
    let p = parts (wide k width w) (wide_values (k + 1) widths ws) h in (word_fits k width w p.0, values_fit (k + 1) widths ws (omega arith) p.1)

none_wide : (k : ℕ) (widths : List ℕ) (ws : List (List ℕ)) → FitEach widths (map hexadecimal_of ws) → wide_values k widths ws ≡ []
none_wide k [] ws h = refl
none_wide k (width ∷ widths) [] h = refl
none_wide k (width ∷ widths) (w ∷ ws) h =
    joined (wide k width w) (wide_values (k + 1) widths ws) (not_wide k width w h.0) (none_wide (k + 1) widths ws h.1)

pub as_many : (widths : List ℕ) (ws : List (List ℕ)) → FitEach widths (map hexadecimal_of ws) → length ws ≡ length widths
as_many [] [] h = refl
as_many [] (w ∷ ws) h = absurd h
as_many (width ∷ widths) [] h = absurd h
as_many (width ∷ widths) (w ∷ ws) h = let e = as_many widths ws h.1 in omega arith

-- the parts of what is wrong with the words of a tick
module _ (shape : TraceShape) (w : List ℕ) (ws : List (List ℕ)) where
  abbrev counted : List Cause
  counted = tick_count (1 + length shape.inputs) (1 + length ws)

  abbrev listed : List Cause
  listed = unless (is_clock_list w) (Misspelled 1)

  abbrev spelled : List Cause
  spelled = misspelled_values 2 ws

  abbrev there : List Cause
  there = absent_in_list shape.clocks w

  abbrev fitting : List Cause
  fitting = wide_values 2 shape.inputs ws

  abbrev same_count : Bool
  same_count = nat_eq (1 + length ws) (1 + length shape.inputs)

  abbrev miscounted : Cause
  miscounted = Count (1 + length ws) (1 + length shape.inputs)

  pub tick_spelled : (line : List ℕ) → length line ≤ line_limit → words_of line ≡ w ∷ ws → tick_faults shape w ws ≡ [] → IsTickLine shape line (tick_of w ws)
  tick_spelled line short words h =
      let p = parts (counted ++ listed ++ spelled ++ there) fitting h in
      let q = parts (counted ++ listed ++ spelled) there p.0 in
      let r = parts (counted ++ listed) spelled q.0 in
      let s = parts counted listed r.0 in
      let e = eqb-true (1 + length ws) (1 + length shape.inputs) (passes same_count miscounted s.0) in
      let clocks = passes (is_clock_list w) (Misspelled 1) s.1 in
      record {
        short = short;
        clock_list = w;
        values = ws;
        words = words;
        clocks_spelled = clocks;
        clocks_are = refl;
        clocks_rise = list_rises shape.clocks w clocks q.1;
        values_spelled = values_spelled 2 ws r.1;
        values_are = refl;
        inputs_fit = values_fit 2 shape.inputs ws (omega arith) p.1;
      }

  pub tick_faultless : is_clock_list w ≡ true → AreClocks 0 shape.clocks (clocks_of w) → AllByRecursion IsValue ws → FitEach shape.inputs (map hexadecimal_of ws) → tick_faults shape w ws ≡ []
  tick_faultless clocks rise values fit =
      let e = as_many shape.inputs ws fit in
      let same : 1 + length ws ≡ 1 + length shape.inputs = omega arith in
      joined (counted ++ listed ++ spelled ++ there) fitting
      (joined (counted ++ listed ++ spelled) there
      (joined (counted ++ listed) spelled
      (joined counted listed
      (passed same_count miscounted (eq-eqb (1 + length ws) (1 + length shape.inputs) same))
      (passed (is_clock_list w) (Misspelled 1) clocks))
      (none_misspelled 2 ws values))
      (none_absent_in shape.clocks w rise))
      (none_wide 2 shape.inputs ws fit)
