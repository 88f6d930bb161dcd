-- What stands under numbers: its parts, and that it stands there whatever is put behind.
use Rattle.std.proofs.Common.{◌≡◌, ℕ, zero, suc, ◌+◌, ◌<◌, ◌≤◌, List, [], ◌∷◌, ◌++◌, length, Some, refl, ap, ◌∙◌, arith}
use Rattle.std.specs.Prelude.{slice_get}
use Rattle.std.proofs.lemmas.Option.{none-some, slice_get_within}
use Rattle.fir_base.proofs.Writes.{push_left}
use Rattle.fir_base.proofs.Elements.{there}
use Rattle.fir_meaning.specs.WidthExpressions.{Width}
use Rattle.fir_type_table.specs.working.Saturated.{saturated}
use Rattle.fir_width.specs.working.StandingWidths.{Has, Stands}

-- the second part of joined lists
get_right : {A : Type 0} → (xs ys : List A) (k : ℕ) → slice_get (xs ++ ys) (length xs + k) ≡ slice_get ys k
get_right [] ys k = let e : 0 + k ≡ k = omega arith in ap (slice_get ys) e
get_right (x ∷ xs) ys k = let e : suc (length xs) + k ≡ suc (length xs + k) = omega arith in ap (slice_get (x ∷ xs ++ ys)) e ∙ get_right xs ys k

-- a number keeps its expression
pub has_more : (meant more : List Width) (number : ℕ) (e : Width) → Has meant number e → Has (meant ++ more) number e
has_more meant more number e h = push_left meant more number e h

pub stands_more : (meant more : List Width) (first : ℕ) (es : List Width) → Stands meant first es → Stands (meant ++ more) first es
stands_more meant more first es h = record { each = λ i e is. has_more meant more (first + i) e (h.each i e is) }

-- the parts of what stands
pub stands_left : (meant : List Width) (first : ℕ) (es fs : List Width) → Stands meant first (es ++ fs) → Stands meant first es
stands_left meant first es fs h = record { each = λ i e is. h.each i e (push_left es fs i e is) }

pub stands_right : (meant : List Width) (first : ℕ) (es fs : List Width) → Stands meant first (es ++ fs) → Stands meant (first + length es) fs
stands_right meant first es fs h = record {
  each = λ i e is.
      let same : first + length es + i ≡ first + (length es + i) = omega arith in
      ap (slice_get meant) same ∙ h.each (length es + i) e (get_right es fs i ∙ is);
}

-- all that there is, but what is put behind it
pub stands_whole : (meant ws more : List Width) → meant ≡ ws ++ more → Stands meant 0 ws
stands_whole meant ws more same = record {
  each = λ i e is. let begins : 0 + i ≡ i = omega arith in ap (slice_get meant) begins ∙ ap (λ vs. slice_get vs i) same ∙ push_left ws more i e is;
}

-- what is put behind all
pub stands_pushed : (meant es : List Width) → Stands (meant ++ es) (length meant) es
stands_pushed meant es = record { each = λ i e is. get_right meant es i ∙ is }

-- a single one
pub stands_one : (meant : List Width) (number : ℕ) (e : Width) → Has meant number e → Stands meant number (e ∷ [])
stands_one meant number e h = record { each = at }
  where
    at : (i : ℕ) (f : Width) → slice_get (e ∷ []) i ≡ Some f → Has meant (number + i) f
    at zero f is = let same : number + 0 ≡ number = omega arith in ap (slice_get meant) same ∙ (h ∙ is)
    at (suc i) f is = absurd (none-some f is)

pub stands_head : (meant : List Width) (number : ℕ) (e : Width) (es : List Width) → Stands meant number (e ∷ es) → Has meant number e
stands_head meant number e es h = let same : number ≡ number + 0 = omega arith in ap (slice_get meant) same ∙ h.each 0 e refl

-- and nothing stands from any number on
pub stands_none : (meant : List Width) (number : ℕ) → Stands meant number []
stands_none meant number = record { each = λ i e is. absurd (none-some e is) }

-- all that stands has numbers of the list
pub has_within : (meant : List Width) (number : ℕ) (e : Width) → Has meant number e → number < length meant
has_within meant number e h = slice_get_within meant number e h

pub stands_within : (meant : List Width) (first i : ℕ) (es : List Width) → Stands meant first es → i < length es → first + i < length meant
stands_within meant first i es h within = let it = there es i within in has_within meant (first + i) it.0 (h.each i it.0 it.1)

-- a number that stands for a leaf does not stand still
pub stands_exact : (meant : List Width) (first : ℕ) (es : List Width) → length meant ≤ 18446744073709551615 → Stands meant first es
    → Stands meant (saturated first) es
stands_exact meant first es small stands = record {
  each = λ i e is.
      let at = stands.each i e is in
      let within = has_within meant (first + i) e at in
      let exact : saturated first ≡ first = omega (arith, within, small) in
      ap (λ n. slice_get meant (n + i)) exact ∙ at;
}
