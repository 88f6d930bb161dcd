-- Lines behind lines.
-- Skipped lines and the line of a tick may follow lines that are read.
use Rattle.std.proofs.Common.{◌≡◌, ℕ, List, [], ◌∷◌, ◌++◌, refl, ap, sym, subst, ◌∙◌, inl, inr, append_assoc}
use Rattle.std.proofs.lemmas.List.{append-nil}
use Rattle.std.specs.List.{AllByRecursion}
use Rattle.fir_base.specs.Ticks.{Tick}
use Rattle.trace_text.specs.Lines.{later_lines, AreTraceLines, bytes_behind, IsSkipped}
use Rattle.trace_text.specs.Shapes.{TraceShape}
use Rattle.trace_text.specs.SpelledLines.{IsTickLine}
use Rattle.trace_text.specs.TraceSpells.{AreInits, AreTicks, zeros, LinesSpell}

-- lines at the front of what stands behind other lines
pub lines_behind : (bytes : List ℕ) (xs ys : List (List ℕ)) → AreTraceLines bytes xs → AreTraceLines (bytes_behind bytes xs) ys → AreTraceLines bytes (xs ++ ys)
lines_behind bytes [] ys h k = k
lines_behind bytes (x ∷ xs) ys h k = (h.0, h.1, lines_behind (later_lines bytes) xs ys h.2 k)

pub behind-append : (bytes : List ℕ) (xs ys : List (List ℕ)) → bytes_behind bytes (xs ++ ys) ≡ bytes_behind (bytes_behind bytes xs) ys
behind-append bytes [] ys = refl
behind-append bytes (x ∷ xs) ys = behind-append (later_lines bytes) xs ys

module _ (shape : TraceShape) where
  -- skipped lines tell of no tick
  no_ticks : (skipped : List (List ℕ)) → AllByRecursion IsSkipped skipped → AreTicks shape skipped []
  no_ticks [] are_skipped = refl
  no_ticks (line ∷ skipped) are_skipped = inl (are_skipped.0, no_ticks skipped are_skipped.1)

  one_tick : (skipped : List (List ℕ)) (line : List ℕ) (tick : Tick) → AllByRecursion IsSkipped skipped → IsTickLine shape line tick
      → AreTicks shape (skipped ++ line ∷ []) (tick ∷ [])
  one_tick [] line tick are_skipped is = inr (tick, [], refl, is, refl)
  one_tick (first ∷ skipped) line tick are_skipped is = inl (are_skipped.0, one_tick skipped line tick are_skipped.1 is)

  more_ticks : (xs ys : List (List ℕ)) (ticks more : List Tick) → AreTicks shape xs ticks → AreTicks shape ys more → AreTicks shape (xs ++ ys) (ticks ++ more)
  more_ticks [] ys ticks more h k = rw h k
  more_ticks (line ∷ xs) ys ticks more (inl s) k = inl (s.0, more_ticks xs ys ticks more s.1 k)
  more_ticks (line ∷ xs) ys ticks more (inr t) k = inr (t.0, t.1 ++ more, ap (λ ts. ts ++ more) t.2, t.3, more_ticks xs ys t.1 more t.4 k)

  -- lines of ticks behind lines that spell a state and ticks
  spelled_more : (lines ys : List (List ℕ)) (init : List ℕ) (ticks more : List Tick) → LinesSpell shape lines init ticks → AreTicks shape ys more
      → LinesSpell shape (lines ++ ys) init (ticks ++ more)
  spelled_more lines ys init ticks more s k = record {
    front = s.front;
    back = s.back ++ ys;
    lines_are = ap (λ ls. ls ++ ys) s.lines_are ∙ append_assoc s.front s.back ys;
    inits = s.inits;
    ticks_are = more_ticks s.back ys ticks more s.ticks_are k;
  }

  pub spelled_tick : (lines skipped : List (List ℕ)) (line init : List ℕ) (ticks : List Tick) (tick : Tick) → LinesSpell shape lines init ticks
      → AllByRecursion IsSkipped skipped → IsTickLine shape line tick
      → LinesSpell shape (lines ++ (skipped ++ line ∷ [])) init (ticks ++ tick ∷ [])
  spelled_tick lines skipped line init ticks tick s are_skipped is = spelled_more lines (skipped ++ line ∷ []) init ticks (tick ∷ []) s (one_tick skipped line tick are_skipped is)

  pub spelled_skipped : (lines skipped : List (List ℕ)) (init : List ℕ) (ticks : List Tick) → LinesSpell shape lines init ticks
      → AllByRecursion IsSkipped skipped → LinesSpell shape (lines ++ skipped) init ticks
  spelled_skipped lines skipped init ticks s are_skipped =
      subst (LinesSpell shape (lines ++ skipped) init) (append-nil ticks) (spelled_more lines skipped init ticks [] s (no_ticks skipped are_skipped))

  pub spelled_inits : (lines : List (List ℕ)) (init : List ℕ) → AreInits shape lines (zeros shape) init → LinesSpell shape lines init []
  spelled_inits lines init inits = record { front = lines; back = []; lines_are = sym (append-nil lines); inits = inits; ticks_are = refl }
