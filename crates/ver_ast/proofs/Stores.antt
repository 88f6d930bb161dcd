-- The words of a state that fits.
use Rattle.std.proofs.Common.{◌≡◌, ℕ, zero, suc, ◌^◌, ◌<◌, List, [], ◌∷◌, ◌++◌, refl, sym, inl, inr, subst}
use Rattle.std.specs.Prelude.{replicate, take, drop, slice_get, slice_index, Some}
use Rattle.std.specs.Str.{bytes_eq}
use Rattle.std.proofs.lemmas.Bool.{cond_both}
use Rattle.std.proofs.lemmas.Nat.{pow_pos}
use Rattle.fir_base.specs.Lists.{In, Distinct}
use Rattle.fir_base.specs.Ticks.{FitEach}
use Rattle.fir_base.proofs.Members.{in_map}
use Rattle.fir_base.proofs.SameNames.{name_is, name_same}
use Rattle.ver_ast.specs.Nets.{Variable, variable_names, variable_widths}
use Rattle.ver_ast.specs.Stores.{store_of, stored}

-- each word is below two to the power of the width
record AllFit (w : ℕ) (words : List ℕ) : Type 0 where
  pub each : (i x : ℕ) → slice_get words i ≡ Some x → x < 2 ^ w

fit_more : (w x : ℕ) (xs : List ℕ) → x < 2 ^ w → AllFit w xs → AllFit w (x ∷ xs)
fit_more w x xs h k = record { each = by }
  where
    by : (i y : ℕ) → slice_get (x ∷ xs) i ≡ Some y → y < 2 ^ w
    by zero y e = let same : x ≡ y = cc in subst (λ (z : ℕ). z < 2 ^ w) same h
    by (suc i) y e = k.each i y e

-- the first words, and those behind
fit_parts : (d w : ℕ) (ws state : List ℕ) → FitEach (replicate d w ++ ws) state → AllFit w (take d state) × FitEach ws (drop d state)
fit_parts zero w ws state h = (record { each = λ i x e. absurd (cc) }, h)
fit_parts (suc d) w ws [] h = absurd h
fit_parts (suc d) w ws (x ∷ xs) h = let rest = fit_parts d w ws xs h.1 in (fit_more w x (take d xs) h.0 rest.0, rest.1)

words_fit : (ks : List Variable) (state : List ℕ) → Distinct (variable_names ks) → FitEach (variable_widths ks) state → (k : Variable) → In ks k
    → AllFit k.width (store_of ks state k.name)
words_fit [] state d h k m = absurd m
words_fit (q ∷ qs) state d h k (inl e) =
    let parts = fit_parts q.depth q.width (variable_widths qs) state h in
    let here : AllFit q.width (store_of (q ∷ qs) state q.name) = rw (name_same q.name) parts.0 in
    subst (λ (p : Variable). AllFit p.width (store_of (q ∷ qs) state p.name)) e here
words_fit (q ∷ qs) state d h k (inr m) =
    let parts = fit_parts q.depth q.width (variable_widths qs) state h in
    cond_both (bytes_eq q.name k.name) (take q.depth state) (store_of qs (drop q.depth state) k.name) (λ (xs : List ℕ). AllFit k.width xs)
    (λ t. absurd (d.0 (subst (In (variable_names qs)) (sym (name_is q.name k.name t)) (in_map (λ (p : Variable). p.name) qs k m))))
    (λ _. words_fit qs (drop q.depth state) d.1 parts.1 k m)

pub word_fits : (ks : List Variable) (state : List ℕ) → Distinct (variable_names ks) → FitEach (variable_widths ks) state → (k : Variable) → In ks k → (i x : ℕ)
    → slice_get (store_of ks state k.name) i ≡ Some x → x < 2 ^ k.width
word_fits ks state d h k m = (words_fit ks state d h k m).each

first_fits : (w : ℕ) (words : List ℕ) → AllFit w words → slice_index words 0 < 2 ^ w
first_fits w [] h = pow_pos w
first_fits w (x ∷ xs) h = h.each 0 x refl

pub stored_fits : (ks : List Variable) (state : List ℕ) → Distinct (variable_names ks) → FitEach (variable_widths ks) state → (k : Variable) → In ks k
    → stored (store_of ks state) k.name < 2 ^ k.width
stored_fits ks state d h k m = first_fits k.width (store_of ks state k.name) (words_fit ks state d h k m)
