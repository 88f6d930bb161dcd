use Rattle.std.proofs.Common.{◌≡◌, ℕ, List, [], ◌∷◌, drop, sym, ap, ◌⊎◌, inl, inr, subst}
use Rattle.fir_ast.specs.declared.place.Place.{Place}
use Rattle.fir_ast.specs.Faults.{Code, E04, E05, Fault}
use Rattle.fir_parse.specs.Lexemes.{Terminal}
use Rattle.fir_parse.specs.MissingForms.{IsMissing, word_at}
use Rattle.fir_parse.specs.TextFaults.{unsupported_fault, ShowsLimit, Shows}
use Rattle.fir_parse.specs.working.Laws.{EndsIn}
use Rattle.fir_parse.proofs.laws.unsupported_names_its_word.Goals as goal

-- the code of a fault past a limit is another
no_limit_shown : (front : List Terminal) (t : Terminal) (p : Place) (w : List ℕ) → ShowsLimit front t (unsupported_fault p w) → ⊥
no_limit_shown front t p w (inl (e, h)) = let codes_are = ap (λ (f : Fault). f.code) e in cc
no_limit_shown front t p w (inr (inl (e, h))) = let codes_are = ap (λ (f : Fault). f.code) e in cc
no_limit_shown front t p w (inr (inr (n, e, i, h))) = let codes_are = ap (λ (f : Fault). f.code) e in cc

named : (front : List Terminal) (t : Terminal) (p : Place) (w : List ℕ) → IsMissing front t p w → (t ≡ word_at w p) ⊎ EndsIn front (word_at w p)
named front t p w (inl (e, m)) = inl e
named front t p w (inr (before, e, m)) = inr (before, e)

pub returns : goal.returns
returns c end front back t p w (inl h) = let codes_are = ap (λ (f : Fault). f.code) h.0 in absurd (cc)
returns c end front back t p w (inr (inl (q, v, e, within, stops, m))) =
    let place : q ≡ p = sym (ap (λ (f : Fault). f.place) e) in
    let word : v ≡ w = sym (ap (λ (f : Fault). drop 12 f.evidence) e) in
    named front t p w (subst (λ x. IsMissing front t p x) word (subst (λ x. IsMissing front t x v) place m))
returns c end front back t p w (inr (inr h)) = absurd (no_limit_shown front t p w h)
