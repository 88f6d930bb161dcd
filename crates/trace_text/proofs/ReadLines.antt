-- Lines that are read one after the other.
-- An init line may stand there while no tick came before it. The lines that are read so are those that part into init lines and ticks.
use Rattle.std.proofs.Common.{◌≡◌, ℕ, List, [], ◌∷◌, ◌++◌, Bool, true, false, refl, ◌⊎◌, inl, inr, ap, sym, subst}
use Rattle.std.specs.Prelude.{slice_set}
use Rattle.fir_base.specs.Ticks.{Tick}
use Rattle.trace_text.specs.Lines.{IsSkipped}
use Rattle.trace_text.specs.Shapes.{TraceShape}
use Rattle.trace_text.specs.SpelledLines.{IsInitLine, IsTickLine}
use Rattle.trace_text.specs.TraceSpells.{AreInits, AreTicks, zeros, LinesSpell}

-- the lines, after a tick or before all, give the initial state from the one before, and the ticks
abbrev pub AreRead : TraceShape → Bool → List (List ℕ) → List ℕ → List ℕ → List Tick → Type 0
AreRead shape after [] before init ticks = (before ≡ init) × (ticks ≡ [])
AreRead shape after (line ∷ lines) before init ticks =
    (IsSkipped line × AreRead shape after lines before init ticks)
    ⊎ (((after ≡ false) × (place : ℕ) × (value : ℕ) × IsInitLine shape line place value × AreRead shape false lines (slice_set before place value) init ticks)
    ⊎ ((tick : Tick) × (rest : List Tick) × (ticks ≡ tick ∷ rest) × IsTickLine shape line tick × AreRead shape true lines before init rest))

module _ (shape : TraceShape) where
  ticks_read : (after : Bool) (lines : List (List ℕ)) (before init : List ℕ) (ticks : List Tick) → before ≡ init → AreTicks shape lines ticks → AreRead shape after lines before init ticks
  ticks_read after [] before init ticks e t = (e, t)
  ticks_read after (line ∷ lines) before init ticks e (inl s) = inl (s.0, ticks_read after lines before init ticks e s.1)
  ticks_read after (line ∷ lines) before init ticks e (inr t) = inr (inr (t.0, t.1, t.2, t.3, ticks_read true lines before init t.1 e t.4))

  parts_read : (front back : List (List ℕ)) (before init : List ℕ) (ticks : List Tick) → AreInits shape front before init → AreTicks shape back ticks → AreRead shape false (front ++ back) before init ticks
  parts_read [] back before init ticks i t = ticks_read false back before init ticks i t
  parts_read (line ∷ front) back before init ticks (inl s) t = inl (s.0, parts_read front back before init ticks s.1 t)
  parts_read (line ∷ front) back before init ticks (inr i) t = inr (inl (refl, i.0, i.1, i.2, parts_read front back (slice_set before i.0 i.1) init ticks i.3 t))

  pub spelled_read : (lines : List (List ℕ)) (init : List ℕ) (ticks : List Tick) → LinesSpell shape lines init ticks → AreRead shape false lines (zeros shape) init ticks
  spelled_read lines init ticks s =
      subst (λ ls. AreRead shape false ls (zeros shape) init ticks) (sym s.lines_are) (parts_read s.front s.back (zeros shape) init ticks s.inits s.ticks_are)

  -- after a tick stand ticks alone
  pub only_ticks : (lines : List (List ℕ)) (before init : List ℕ) (ticks : List Tick) → AreRead shape true lines before init ticks → (before ≡ init) × AreTicks shape lines ticks
  only_ticks [] before init ticks r = r
  only_ticks (line ∷ lines) before init ticks (inl s) = let t = only_ticks lines before init ticks s.1 in (t.0, inl (s.0, t.1))
  only_ticks (line ∷ lines) before init ticks (inr (inl i)) = let e : true ≡ false = i.0 in absurd (cc)
  only_ticks (line ∷ lines) before init ticks (inr (inr r)) = let t = only_ticks lines before init r.1 r.4 in (t.0, inr (r.0, r.1, r.2, r.3, t.1))

  record Parted (lines : List (List ℕ)) (before init : List ℕ) (ticks : List Tick) : Type 0 where
    front : List (List ℕ)
    back : List (List ℕ)
    lines_are : lines ≡ front ++ back
    inits : AreInits shape front before init
    ticks_are : AreTicks shape back ticks

  read_parts : (lines : List (List ℕ)) (before init : List ℕ) (ticks : List Tick) → AreRead shape false lines before init ticks → Parted lines before init ticks
  read_parts [] before init ticks r = record { front = []; back = []; lines_are = refl; inits = r.0; ticks_are = r.1 }
  read_parts (line ∷ lines) before init ticks (inl s) =
      let p = read_parts lines before init ticks s.1 in
      record { front = line ∷ p.front; back = p.back; lines_are = ap (λ ls. line ∷ ls) p.lines_are; inits = inl (s.0, p.inits); ticks_are = p.ticks_are }
  read_parts (line ∷ lines) before init ticks (inr (inl i)) =
      let p = read_parts lines (slice_set before i.1 i.2) init ticks i.4 in
      record { front = line ∷ p.front; back = p.back; lines_are = ap (λ ls. line ∷ ls) p.lines_are; inits = inr (i.1, i.2, i.3, p.inits); ticks_are = p.ticks_are }
  read_parts (line ∷ lines) before init ticks (inr (inr r)) =
      let t = only_ticks lines before init r.1 r.4 in
      record { front = []; back = line ∷ lines; lines_are = refl; inits = t.0; ticks_are = inr (r.0, r.1, r.2, r.3, t.1) }

  pub read_spelled : (lines : List (List ℕ)) (init : List ℕ) (ticks : List Tick) → AreRead shape false lines (zeros shape) init ticks → LinesSpell shape lines init ticks
  read_spelled lines init ticks r =
      let p = read_parts lines (zeros shape) init ticks r in
      record { front = p.front; back = p.back; lines_are = p.lines_are; inits = p.inits; ticks_are = p.ticks_are }
