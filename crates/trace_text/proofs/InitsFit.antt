-- The state that init lines give fits the shape.
-- Zeros fit at any width, and an init line sets a word to a value that fits the width at its place.
use Rattle.std.proofs.Common.{◌≡◌, ℕ, zero, suc, ◌+◌, ◌^◌, ◌<◌, List, [], ◌∷◌, ◌++◌, length, refl, sym, subst, inl, inr, arith, Some, None, zero-add, suc-add}
use Rattle.std.specs.Prelude.{slice_set, replicate, unwrap_or}
use Rattle.std.specs.Str.{bytes_eq}
use Rattle.std.proofs.Math.ListN.{length-replicate}
use Rattle.std.proofs.lemmas.Nat.{pow_pos}
use Rattle.fir_base.specs.Ticks.{FitEach}
use Rattle.trace_text.specs.declared.shape.StateWord.{StateWord}
use Rattle.trace_text.specs.declared.shape.FoundWord.{FoundWord}
use Rattle.trace_text.specs.Spelling.{decimal_of}
use Rattle.trace_text.specs.Shapes.{TraceShape, size_of, state_widths, found_from, found}
use Rattle.trace_text.specs.working.Shapes.{IsShape}
use Rattle.trace_text.specs.SpelledLines.{IsInitLine}
use Rattle.trace_text.specs.TraceSpells.{AreInits, zeros}
use Rattle.fir_base.proofs.Tests.{chosen}

zeros_fit : (widths : List ℕ) → FitEach widths (replicate (length widths) 0)
zeros_fit [] = tt
zeros_fit (w ∷ ws) = (pow_pos w, zeros_fit ws)

-- the width that stands at a place
abbrev WidthAt : List ℕ → ℕ → ℕ → Type 0
WidthAt [] place width = ⊥
WidthAt (w ∷ ws) zero width = w ≡ width
WidthAt (w ∷ ws) (suc place) width = WidthAt ws place width

set_fits : (widths values : List ℕ) (place width value : ℕ) → FitEach widths values → WidthAt widths place width → value < 2 ^ width
    → FitEach widths (slice_set values place value)
set_fits [] values place width value fit at small = absurd at
set_fits (w ∷ ws) [] place width value fit at small = absurd fit
set_fits (w ∷ ws) (v ∷ vs) zero width value fit at small = (subst (λ n. value < 2 ^ n) (sym at) small, fit.1)
set_fits (w ∷ ws) (v ∷ vs) (suc place) width value fit at small = (fit.0, set_fits ws vs place width value fit.1 at small)

behind_front : (front widths : List ℕ) (place width : ℕ) → WidthAt widths place width → WidthAt (front ++ widths) (length front + place) width
behind_front [] widths place width at = rw zero-add at
behind_front (w ∷ ws) widths place width at = rw suc-add (behind_front ws widths place width at)

in_block : (count width : ℕ) (widths : List ℕ) (place : ℕ) → place < count → WidthAt (replicate count width ++ widths) place width
in_block zero width widths place h = absurd (omega arith)
in_block (suc count) width widths zero h = refl
in_block (suc count) width widths (suc place) h = in_block count width widths place (omega arith)

-- the words of a name have its width, each so many places behind the start
record HasWidth (state : List StateWord) (start : ℕ) (f : FoundWord) (address : ℕ) : Type 0 where
  offset : ℕ
  place : start + offset ≡ f.place + address
  at : WidthAt (state_widths state) offset f.width

abbrev word_of : StateWord → ℕ → FoundWord
word_of s place = record { place = place; width = s.width; depth = s.depth }

found_first : (s : StateWord) (state : List StateWord) (start : ℕ) (f : FoundWord) (address : ℕ) → word_of s start ≡ f → address < unwrap_or f.depth 1
    → HasWidth (s ∷ state) start f address
found_first s state start f address e h =
    let P : FoundWord → Type 0 = λ g. address < unwrap_or g.depth 1 in
    let within : address < size_of s = subst P (sym e) h in
    let here : HasWidth (s ∷ state) start (word_of s start) address = record {
      offset = address;
      place = refl;
      at = in_block (size_of s) s.width (state_widths state) address within;
    } in
    subst (λ g. HasWidth (s ∷ state) start g address) e here

found_later : (s : StateWord) (state : List StateWord) (start : ℕ) (f : FoundWord) (address : ℕ) → HasWidth state (start + size_of s) f address
    → HasWidth (s ∷ state) start f address
found_later s state start f address later =
    let at = behind_front (replicate (size_of s) s.width) (state_widths state) later.offset f.width later.at in record {
      offset = size_of s + later.offset;
      place = let e = later.place in omega arith;
      at = subst (λ n. WidthAt (state_widths (s ∷ state)) (n + later.offset) f.width) (length-replicate (size_of s) s.width) at;
    }

found_width : (state : List StateWord) (start : ℕ) (name : List ℕ) (f : FoundWord) (address : ℕ) → found_from start state name ≡ Some f
    → address < unwrap_or f.depth 1 → HasWidth state start f address
found_width [] start name f address e h = absurd (cc)
found_width (s ∷ state) start name f address e h =
    elim (chosen (bytes_eq s.name name) (Some (word_of s start)) (found_from (start + size_of s) state name) (Some f) e) [
      | inl a ↦ let same : word_of s start ≡ f = let g = a.1 in cc in found_first s state start f address same h
      | inr a ↦ found_later s state start f address (found_width state (start + size_of s) name f address a.1 h)
    ]

module _ (shape : TraceShape) where
  -- the address of a word that is found
  width_at : (name : List ℕ) (f : FoundWord) (address place : ℕ) → found shape name ≡ Some f → address < unwrap_or f.depth 1 → f.place + address ≡ place
      → WidthAt (state_widths shape.state) place f.width
  width_at name f address place e h is =
      let here = found_width shape.state 0 name f address e h in
      let same : here.offset ≡ place = let p = here.place in omega arith in
      subst (λ n. WidthAt (state_widths shape.state) n f.width) same here.at

  line_fits : (line before : List ℕ) (place value : ℕ) → IsInitLine shape line place value → FitEach (state_widths shape.state) before
      → FitEach (state_widths shape.state) (slice_set before place value)
  line_fits line before place value (inl i) fit =
      let at = width_at i.name (record { place = place; width = i.width; depth = None }) 0 place i.named (omega arith) (omega arith) in
      set_fits (state_widths shape.state) before place i.width value fit at i.fits
  line_fits line before place value (inr i) fit =
      let at = width_at i.name (record { place = i.first; width = i.width; depth = Some i.depth }) (decimal_of i.address) place i.named i.within i.place_is in
      set_fits (state_widths shape.state) before place i.width value fit at i.fits

  lines_fit : (lines : List (List ℕ)) (before after : List ℕ) → AreInits shape lines before after → FitEach (state_widths shape.state) before
      → FitEach (state_widths shape.state) after
  lines_fit [] before after inits fit = subst (FitEach (state_widths shape.state)) inits fit
  lines_fit (line ∷ lines) before after (inl s) fit = lines_fit lines before after s.1 fit
  lines_fit (line ∷ lines) before after (inr i) fit = lines_fit lines (slice_set before i.0 i.1) after i.3 (line_fits line before i.0 i.1 i.2 fit)

pub inits_fit : (shape : TraceShape) (lines : List (List ℕ)) (init : List ℕ) → IsShape shape → AreInits shape lines (zeros shape) init
    → FitEach (state_widths shape.state) init
inits_fit shape lines init is inits = lines_fit shape lines (zeros shape) init inits (zeros_fit (state_widths shape.state))
