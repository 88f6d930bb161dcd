-- What a name stands for lies within the state.
-- The words of a name are among the words of the state, and their width is one of a shape.
use Rattle.std.proofs.Common.{◌≡◌, ℕ, ◌+◌, ◌≤◌, List, [], ◌∷◌, length, Some, None, inl, inr, ap, arith, unwrap_or, sum_by, length-append}
use Rattle.std.specs.List.{AllByRecursion}
use Rattle.std.specs.Prelude.{replicate}
use Rattle.std.specs.Str.{bytes_eq}
use Rattle.std.proofs.lemmas.List.{length-replicate}
use Rattle.std.proofs.lemmas.List.Sums.{sum_by-cons}
use Rattle.trace_text.specs.declared.shape.StateWord.{StateWord}
use Rattle.trace_text.specs.declared.shape.FoundWord.{FoundWord}
use Rattle.trace_text.specs.working.Shapes.{IsStateWord, array_size}
use Rattle.trace_text.specs.Shapes.{size_of, state_widths, found_from}
use Rattle.fir_base.proofs.Tests.{chosen}

abbrev here : ℕ → StateWord → FoundWord
here place s = record { place = place; width = s.width; depth = s.depth }

-- how many words stand under a name that was found
abbrev pub count_of : FoundWord → ℕ
count_of f = unwrap_or f.depth 1

more_widths : (s : StateWord) (ss : List StateWord) → length (state_widths (s ∷ ss)) ≡ size_of s + length (state_widths ss)
more_widths s ss = omega (arith, length-append (replicate (size_of s) s.width) (state_widths ss), length-replicate (size_of s) s.width)

-- the words of the name are among those of the state
pub found_within : (place : ℕ) (ss : List StateWord) (name : List ℕ) (f : FoundWord) → found_from place ss name ≡ Some f → f.place + count_of f ≤ place + length (state_widths ss)
found_within place [] name f h = absurd (cc)
found_within place (s ∷ ss) name f h =
    let n = more_widths s ss in
    elim (chosen (bytes_eq s.name name) (Some (here place s)) (found_from (place + size_of s) ss name) (Some f) h) [
      | inl a ↦
          let e : here place s ≡ f = let k = a.1 in cc in
          let m = ap (λ g. g.place + count_of g) e in
          omega arith
      | inr a ↦ let m = found_within (place + size_of s) ss name f a.1 in omega arith
    ]

pub found_narrow : (place : ℕ) (ss : List StateWord) (name : List ℕ) (f : FoundWord) → AllByRecursion IsStateWord ss → found_from place ss name ≡ Some f → f.width ≤ 128
found_narrow place [] name f all h = absurd (cc)
found_narrow place (s ∷ ss) name f all h =
    elim (chosen (bytes_eq s.name name) (Some (here place s)) (found_from (place + size_of s) ss name) (Some f) h) [
      | inl a ↦
          let e : here place s ≡ f = let k = a.1 in cc in
          let m = ap (λ g. g.width) e in
          let narrow = all.0.narrow in
          omega arith
      | inr a ↦ found_narrow (place + size_of s) ss name f all.1 a.1
    ]

pub one_or_array : (s : StateWord) → size_of s ≤ 1 + array_size s
one_or_array s = elim s.depth as (λ d. unwrap_or d 1 ≤ 1 + unwrap_or d 0) [ None ↦ omega arith | Some d ↦ omega arith ]

-- registers are as many as there are names at most, and arrays have few words
pub few_widths : (ss : List StateWord) → length (state_widths ss) ≤ length ss + sum_by array_size ss
few_widths [] = omega arith
few_widths (s ∷ ss) =
    let n = more_widths s ss in
    let m = one_or_array s in
    let k = few_widths ss in
    let e = sum_by-cons array_size s ss in
    omega arith
