-- The widths and the count that the lists of a net's leaves by number give are those that the leaves themselves give.
use Rattle.std.proofs.Common.{◌≡◌, ℕ, suc, ◌+◌, List, [], ◌∷◌, ◌++◌, Bool, true, false, length, map, refl, sym, ap, ap₂, ◌∙◌, arith, length-append}
use Rattle.std.specs.Prelude.{flat_map, nat_eq, if◌then◌else◌, cond, count_by}
use Rattle.std.proofs.lemmas.List.{map-append}
use Rattle.std.proofs.lemmas.List.Sums.{sum_by-cons}
use Rattle.fir_net.specs.declared.leaf.Role.{Role}
use Rattle.fir_net.specs.declared.leaf.Role.TheVariants as role
use Rattle.fir_net.specs.declared.leaf.Leaf.{Leaf}
use Rattle.fir_net.specs.working.Values.{leaf_width}
use Rattle.fir_net.specs.working.Settled.{with_bits, input_number, clock_number, numbers_by}
use Rattle.fir_tick.specs.working.StateWords.{input_width, input_widths, is_clock}

-- the width of a leaf, where it has bits
abbrev width_with_bits : ℕ → List ℕ
width_with_bits width = if nat_eq width 0 then [] else (width ∷ [])

-- in place of the number of a leaf stands its width
record IsWidthOf (number : Role → ℕ → ℕ → List ℕ) (width_of : Role → ℕ → List ℕ) : Type 0 where
  pub each : (f : ℕ → ℕ) (r : Role) (w k : ℕ) → f k ≡ w → map f (number r w k) ≡ width_of r w

bits_widths : (f : ℕ → ℕ) (w k : ℕ) → f k ≡ w → map f (with_bits w k) ≡ width_with_bits w
bits_widths f w k e = by (nat_eq w 0)
  where
    by : (t : Bool) → map f (if t then [] else (k ∷ [])) ≡ (if t then [] else (w ∷ []))
    by true = refl
    by false = ap (λ v. v ∷ []) e

inputs_are : IsWidthOf input_number input_width
inputs_are = record { each = each }
  where
    each : (f : ℕ → ℕ) (r : Role) (w k : ℕ) → f k ≡ w → map f (input_number r w k) ≡ input_width r w
    each f role.Input w k e = bits_widths f w k e
    each f r w k e = refl

-- leaves that are numbered from k on, and whose widths f has by number
numbered : (number : Role → ℕ → ℕ → List ℕ) (width_of : Role → ℕ → List ℕ) → IsWidthOf number width_of → (f : ℕ → ℕ) (k : ℕ) (ls : List Leaf) → ((i : ℕ) → f (k + i) ≡ leaf_width ls i)
    → map f (numbers_by number k ls) ≡ flat_map (λ l. width_of l.role l.width) ls
numbered number width_of is f k [] e = refl
numbered number width_of is f k (l ∷ ls) e =
    map-append f (number l.role l.width k) (numbers_by number (k + 1) ls)
    ∙ ap₂ (λ (x y : List ℕ). x ++ y) (is.each f l.role l.width k here) (numbered number width_of is f (k + 1) ls behind)
  where
    here : f k ≡ l.width
    here = ap f (let s : k ≡ k + 0 = omega arith in s) ∙ e 0

    behind : (i : ℕ) → f (k + 1 + i) ≡ leaf_width ls i
    behind i = ap f (let s : k + 1 + i ≡ k + suc i = omega arith in s) ∙ e (suc i)

at_front : (ls : List Leaf) (i : ℕ) → leaf_width ls (0 + i) ≡ leaf_width ls i
at_front ls i = ap (leaf_width ls) (let s : 0 + i ≡ i = omega arith in s)

pub input_widths_are : (ls : List Leaf) → input_widths ls ≡ map (leaf_width ls) (numbers_by input_number 0 ls)
input_widths_are ls = sym (numbered input_number input_width inputs_are (leaf_width ls) 0 ls (at_front ls))

one_clock : (r : Role) (w k : ℕ) → cond (is_clock r) 1 0 ≡ length (clock_number r w k)
one_clock role.Clock w k = refl
one_clock r w k = refl

clocks_from : (k : ℕ) (ls : List Leaf) → count_by (λ l. is_clock l.role) ls ≡ length (numbers_by clock_number k ls)
clocks_from k [] = refl
clocks_from k (l ∷ ls) =
    sum_by-cons (λ (x : Leaf). cond (is_clock x.role) 1 0) l ls ∙ ap₂ (λ (m n : ℕ). m + n) (one_clock l.role l.width k) (clocks_from (k + 1) ls)
    ∙ sym (length-append (clock_number l.role l.width k) (numbers_by clock_number (k + 1) ls))

pub clock_count_is : (ls : List Leaf) → count_by (λ l. is_clock l.role) ls ≡ length (numbers_by clock_number 0 ls)
clock_count_is ls = clocks_from 0 ls
