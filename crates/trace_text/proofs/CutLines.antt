-- A front of lines is whole lines and a front of the next.
use Rattle.std.proofs.Common.{◌≡◌, ◌≢◌, ℕ, List, [], ◌∷◌, ◌++◌, Bool, refl, ◌⊎◌, inl, inr, sym, ap, ◌∙◌}
use Rattle.std.proofs.lemmas.List.{append_assoc}
use Rattle.fir_base.specs.Ticks.{TickResult}
use Rattle.fir_base.proofs.Empty.{empty_left}
use Rattle.trace_text.specs.RunLines.{shown_text, run_text}
use Rattle.trace_text.specs.working.CutLines.{AreCutLines, FrontsAreCutLines}

-- a front ends within the line
abbrev EndsWithin : List ℕ → List ℕ → Type 0
EndsWithin line front = (missing : List ℕ) × (missing ≢ []) × (line ≡ front ++ missing)

-- or goes on behind it
abbrev GoesOn : List ℕ → List ℕ → List ℕ → List ℕ → Type 0
GoesOn line rest front back = (more : List ℕ) × (front ≡ line ++ more) × (rest ≡ more ++ back)

ends_or_goes_on : (line rest front back : List ℕ) → line ++ rest ≡ front ++ back → EndsWithin line front ⊎ GoesOn line rest front back
ends_or_goes_on [] rest front back e = inr (front, refl, e)
ends_or_goes_on (x ∷ line) rest [] back e = let filled : x ∷ line ≢ [] = λ (f : x ∷ line ≡ []). cc in inl (x ∷ line, filled, refl)
ends_or_goes_on (x ∷ line) rest (y ∷ front) back e =
    let same : x ≡ y = cc in
    let later : line ++ rest ≡ front ++ back = cc in
    elim (ends_or_goes_on line rest front back later) [
      | inl w ↦ let l = w.2 in inl (w.0, w.1, (cc))
      | inr g ↦ let f = g.1 in inr (g.0, (cc), g.2)
    ]

module _ (outputs state : List ℕ) (with_state : Bool) where
  cut_at : (shown : List TickResult) (front back : List ℕ) → run_text outputs state with_state shown ≡ front ++ back
      → AreCutLines outputs state with_state shown front
  unfolding run_text
  cut_at [] front back e = record { done = []; later = []; parts = refl; cut = []; front_is = empty_left front back (sym e); is_cut = refl }
  cut_at (s ∷ shown) front back e =
      elim (ends_or_goes_on (shown_text outputs state with_state s) (run_text outputs state with_state shown) front back e) [
        | inl w ↦ record { done = []; later = s ∷ shown; parts = refl; cut = front; front_is = refl; is_cut = w }
        | inr g ↦
            let r = cut_at shown g.0 back g.2 in
            record {
              done = s ∷ r.done;
              later = r.later;
              parts = ap (λ rest. s ∷ rest) r.parts;
              cut = r.cut;
              front_is =
                  g.1 ∙ ap (λ more. shown_text outputs state with_state s ++ more) r.front_is
                  ∙ sym (append_assoc (shown_text outputs state with_state s) (run_text outputs state with_state r.done) r.cut);
              is_cut = r.is_cut;
            }
      ]

pub fronts_are_cut_lines : FrontsAreCutLines
fronts_are_cut_lines outputs state with_state shown front b = cut_at outputs state with_state shown front b.back b.parts
