-- Lines are read in one way at most.
-- Two readings take each line for the same, and give the same initial state and ticks.
use Rattle.std.proofs.Common.{◌≡◌, ℕ, List, [], ◌∷◌, ◌++◌, Bool, true, false, refl, ◌⊎◌, inl, inr, ap, sym, ◌∙◌, subst}
use Rattle.std.specs.Prelude.{slice_set}
use Rattle.fir_base.specs.Ticks.{Tick}
use Rattle.trace_text.specs.Shapes.{TraceShape}
use Rattle.trace_text.specs.LineFaults.{line_faults}
use Rattle.trace_text.specs.BadLine.{are_some}
use Rattle.trace_text.proofs.JudgedLines.{Spelled, spelled_faultless}
use Rattle.trace_text.proofs.LineKinds.{skipped_no_init, skipped_no_tick, init_no_tick, one_init, one_tick}
use Rattle.trace_text.proofs.ReadLines.{AreRead}

-- what is known of the lines behind a line that two readings share
pub record BothSkip (shape : TraceShape) (after : Bool) (xs ys : List (List ℕ)) (b c init other : List ℕ) (ticks others : List Tick) : Type 0 where
  pub first : AreRead shape after xs b init ticks
  pub second : AreRead shape after ys c other others

pub record BothInit (shape : TraceShape) (after : Bool) (xs ys : List (List ℕ)) (b c init other : List ℕ) (ticks others : List Tick) : Type 0 where
  pub place : ℕ
  pub value : ℕ
  pub before : after ≡ false
  pub first : AreRead shape false xs (slice_set b place value) init ticks
  pub second : AreRead shape false ys (slice_set c place value) other others

pub record BothTick (shape : TraceShape) (xs ys : List (List ℕ)) (b c init other : List ℕ) (ticks others : List Tick) : Type 0 where
  pub tick : Tick
  pub rest : List Tick
  pub more : List Tick
  pub ticks_are : ticks ≡ tick ∷ rest
  pub others_are : others ≡ tick ∷ more
  pub first : AreRead shape true xs b init rest
  pub second : AreRead shape true ys c other more

module _ (shape : TraceShape) where
  pub alike : (after : Bool) (line : List ℕ) (xs ys : List (List ℕ)) (b c init other : List ℕ) (ticks others : List Tick)
      → AreRead shape after (line ∷ xs) b init ticks → AreRead shape after (line ∷ ys) c other others
      → BothSkip shape after xs ys b c init other ticks others ⊎ (BothInit shape after xs ys b c init other ticks others ⊎ BothTick shape xs ys b c init other ticks others)
  alike after line xs ys b c init other ticks others (inl s) (inl r) = inl (record { first = s.1; second = r.1 })
  alike after line xs ys b c init other ticks others (inl s) (inr (inl i)) = absurd (skipped_no_init shape line s.0 i.1 i.2 i.3)
  alike after line xs ys b c init other ticks others (inl s) (inr (inr t)) = absurd (skipped_no_tick shape line s.0 t.0 t.3)
  alike after line xs ys b c init other ticks others (inr (inl i)) (inl s) = absurd (skipped_no_init shape line s.0 i.1 i.2 i.3)
  alike after line xs ys b c init other ticks others (inr (inl i)) (inr (inl j)) =
      let e = one_init shape line i.1 j.1 i.2 j.2 i.3 j.3 in
      let moved : slice_set c i.1 i.2 ≡ slice_set c j.1 j.2 = rw (e.0, e.1) refl in
      inr (inl (record {
        place = i.1;
        value = i.2;
        before = i.0;
        first = i.4;
        second = subst (λ state. AreRead shape false ys state other others) (sym moved) j.4;
      }))
  alike after line xs ys b c init other ticks others (inr (inl i)) (inr (inr t)) = absurd (init_no_tick shape line i.1 i.2 i.3 t.0 t.3)
  alike after line xs ys b c init other ticks others (inr (inr t)) (inl s) = absurd (skipped_no_tick shape line s.0 t.0 t.3)
  alike after line xs ys b c init other ticks others (inr (inr t)) (inr (inl i)) = absurd (init_no_tick shape line i.1 i.2 i.3 t.0 t.3)
  alike after line xs ys b c init other ticks others (inr (inr t)) (inr (inr u)) =
      let e = one_tick shape line t.0 u.0 t.3 u.3 in
      inr (inr (record {
        tick = t.0;
        rest = t.1;
        more = u.1;
        ticks_are = t.2;
        others_are = u.2 ∙ ap (λ tick. tick ∷ u.1) (sym e);
        first = t.4;
        second = u.4;
      }))

  -- one initial state and one list of ticks
  pub one_reading : (after : Bool) (lines : List (List ℕ)) (before init other : List ℕ) (ticks others : List Tick)
      → AreRead shape after lines before init ticks → AreRead shape after lines before other others → (init ≡ other) × (ticks ≡ others)
  one_reading after [] before init other ticks others r s = (sym r.0 ∙ s.0, r.1 ∙ sym s.1)
  one_reading after (line ∷ lines) before init other ticks others r s =
      elim (alike after line lines lines before before init other ticks others r s) [
        | inl k ↦ one_reading after lines before init other ticks others k.first k.second
        | inr (inl k) ↦ one_reading false lines (slice_set before k.place k.value) init other ticks others k.first k.second
        | inr (inr k) ↦
            let t = one_reading true lines before init other k.rest k.more k.first k.second in
            (t.0, k.ticks_are ∙ ap (λ ts. k.tick ∷ ts) t.1 ∙ sym k.others_are)
      ]

-- whether a tick comes before what follows
abbrev pub follows : Bool → List Tick → Bool
follows after [] = after
follows after (tick ∷ ticks) = true

pub behind_a_tick : (ticks : List Tick) → follows true ticks ≡ true
behind_a_tick [] = refl
behind_a_tick (tick ∷ ticks) = refl

pub before_all : (ticks : List Tick) → follows false ticks ≡ are_some ticks
before_all [] = refl
before_all (tick ∷ ticks) = refl

read_kind : (shape : TraceShape) (after : Bool) (line : List ℕ) (back : List (List ℕ)) (before init : List ℕ) (ticks : List Tick) → AreRead shape after (line ∷ back) before init ticks → Spelled shape after line
read_kind shape after line back before init ticks (inl s) = inl s.0
read_kind shape after line back before init ticks (inr (inl i)) = inr (inl (i.0, (i.1, i.2, i.3)))
read_kind shape after line back before init ticks (inr (inr t)) = inr (inr (t.0, t.3))

-- nothing is wrong with a line that is read behind lines that are read too
pub read_faultless : (shape : TraceShape) (after : Bool) (front : List (List ℕ)) (line : List ℕ) (back : List (List ℕ)) (b c init other : List ℕ) (ticks others : List Tick)
    → AreRead shape after ((front ++ line ∷ []) ++ back) b init ticks → AreRead shape after front c other others → line_faults shape (follows after others) line ≡ []
read_faultless shape after [] line back b c init other ticks others r s =
    subst (λ ts. line_faults shape (follows after ts) line ≡ []) (sym s.1) (spelled_faultless shape after line (read_kind shape after line back b init ticks r))
read_faultless shape after (d ∷ front) line back b c init other ticks others r s =
    elim (alike shape after d ((front ++ line ∷ []) ++ back) front b c init other ticks others r s) [
      | inl k ↦ read_faultless shape after front line back b c init other ticks others k.first k.second
      | inr (inl k) ↦
          let h = read_faultless shape false front line back (slice_set b k.place k.value) (slice_set c k.place k.value) init other ticks others k.first k.second in
          subst (λ a. line_faults shape (follows a others) line ≡ []) (sym k.before) h
      | inr (inr k) ↦
          let h = read_faultless shape true front line back b c init other k.rest k.more k.first k.second in
          let g = subst (λ a. line_faults shape a line ≡ []) (behind_a_tick k.more) h in
          subst (λ ts. line_faults shape (follows after ts) line ≡ []) (sym k.others_are) g
    ]
