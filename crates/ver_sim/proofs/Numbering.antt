-- Names that have numbers: one more of them, and which have none.
use Rattle.std.proofs.Common.{◌≡◌, ℕ, List, [], ◌∷◌, ◌++◌, Bool, true, false, cond, length, refl, sym, ap, ◌∙◌, inl, inr, ◌⊎◌, ⊎_elim}
use Rattle.std.specs.Prelude.{slice_get, Option, Some, None, is_some}
use Rattle.std.specs.BTreeMap as tree
use Rattle.std.specs.Cmp.Lexicographic.{slice_cmp}
use Rattle.std.specs.Ordering.{nat_cmp}
use Rattle.std.specs.Str.{bytes_eq}
use Rattle.std.proofs.lemmas.Map.Text.{is_eq-slice_cmp}
use Rattle.fir_base.specs.Lists.{In}
use Rattle.fir_base.specs.Words.{is_among}
use Rattle.fir_base.proofs.Elements.{get_in}
use Rattle.fir_base.proofs.Members.{in_either}
use Rattle.fir_base.proofs.SameNames.{name_is, name_same}
use Rattle.fir_base.proofs.Writes.{push_left, push_end}
use Rattle.ver_ast.proofs.Chosen.{in_or_not, is_named}
use Rattle.ver_sim.specs.declared.names.Numbers.{Numbers}
use Rattle.ver_sim.specs.working.Names.{number_in, IsNumbering}

one_found : (b : Bool) (i k : ℕ) (old : Option ℕ) → cond b (Some i) old ≡ Some k → ((b ≡ true) × (i ≡ k)) ⊎ (old ≡ Some k)
one_found true i k old e = inl (refl, cc)
one_found false i k old e = inr e

one_missed : (b : Bool) (i : ℕ) (old : Option ℕ) → cond b (Some i) old ≡ None → (b ≡ false) × (old ≡ None)
one_missed true i old e = absurd (cc)
one_missed false i old e = (refl, e)

-- a name behind those that have numbers
pub numbering_more : (names : List (List ℕ)) (name : List ℕ) (old new : Numbers) (key : List ℕ) (i : ℕ)
    → tree.Updates (slice_cmp nat_cmp) old.numbers new.numbers key (Some i) → key ≡ name → i ≡ length names → IsNumbering names old
    → IsNumbering (names ++ name ∷ []) new
numbering_more names name old new key i u spelled last t =
    record { found = λ n k e. found n k (one_found (bytes_eq key n) i k (number_in old n) (sym (after n) ∙ e)); missed = λ n e m. missed n (one_missed (bytes_eq key n) i (number_in old n) (sym (after n) ∙ e)) (in_either names (name ∷ []) n m) }
  where
    after : (n : List ℕ) → number_in new n ≡ cond (bytes_eq key n) (Some i) (number_in old n)
    after n = u.0 n ∙ ap (λ (b : Bool). cond b (Some i) (number_in old n)) (is_eq-slice_cmp key n)

    found : (n : List ℕ) (k : ℕ) → ((bytes_eq key n ≡ true) × (i ≡ k)) ⊎ (number_in old n ≡ Some k) → slice_get (names ++ name ∷ []) k ≡ Some n
    found n k (inl h) =
        ap (slice_get (names ++ name ∷ [])) (sym h.1 ∙ last) ∙ push_end names name ∙ ap Some (sym spelled ∙ name_is key n h.0)
    found n k (inr h) = push_left names (name ∷ []) k n (t.found n k h)

    missed : (n : List ℕ) → (bytes_eq key n ≡ false) × (number_in old n ≡ None) → In names n ⊎ In (name ∷ []) n → ⊥
    missed n h (inl m) = t.missed n h.1 m
    missed n h (inr (inl e)) = let no-such : true ≡ false = sym (name_same key) ∙ ap (bytes_eq key) (spelled ∙ e) ∙ h.0 in cc
    missed n h (inr (inr m)) = m

-- whether a name has a number
pub has_among : (names : List (List ℕ)) (numbers : Numbers) → IsNumbering names numbers → (n : List ℕ) → is_some (number_in numbers n) ≡ is_among names n
has_among names numbers t n = by (number_in numbers n) refl
  where
    by : (o : Option ℕ) → number_in numbers n ≡ o → is_some o ≡ is_among names n
    by (Some i) e = sym (is_named names n (get_in names i n (t.found n i e)))
    by None e =
        ⊎_elim (λ (m : In names n). absurd (t.missed n e m)) (λ (f : is_among names n ≡ false). sym f) (in_or_not names n)
