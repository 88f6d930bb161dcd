-- What the writes of arrays leave of the words of the state: their numbers; and their widths, which stay.
use Rattle.std.proofs.Common.{◌≡◌, ℕ, zero, suc, ◌+◌, List, [], ◌∷◌, set, Bool, true, false, ◌&&◌, nat_eq, nat_lt, if◌then◌else◌, refl, sym, ap, ◌∙◌}
use Rattle.std.specs.Prelude.{slice_get, Some}
use Rattle.std.specs.List.{AllByRecursion}
use Rattle.std.proofs.lemmas.Bool.{and_parts}
use Rattle.std.proofs.lemmas.List.{map-set}
use Rattle.fir_bits.specs.Values.{BitVector}
use Rattle.fir_net.specs.declared.net.FlatNet.{FlatNet}
use Rattle.fir_net.specs.working.Next.{ticks}
use Rattle.fir_work.specs.working.Numbers.{number_at}
use Rattle.fir_work.specs.working.Tasks.{worked}
use Rattle.fir_tick.specs.declared.write_plans.WritePlan.{WritePlan}
use Rattle.fir_tick.specs.working.ArrayWrites.{is_written, one_written, written}
use Rattle.fir_tick.specs.working.Passes.{vector_of}
use Rattle.fir_tick.specs.working.Views.{numbers, widths}

-- what stands there already changes nothing
pub set_same : {A : Type 0} → (xs : List A) (i : ℕ) (x : A) → slice_get xs i ≡ Some x → set xs i x ≡ xs
set_same [] i x e = refl
set_same (y ∷ xs) zero x e = let same : y ≡ x = cc in ap (λ (z : _). z ∷ xs) (sym same)
set_same (y ∷ xs) (suc i) x e = ap (λ (zs : List _). y ∷ zs) (set_same xs i x e)

module _ (net : FlatNet) (ns named : List ℕ) where
  -- the same of numbers
  abbrev pub one_put : WritePlan → List ℕ → List ℕ
  one_put p words = if is_written ns named p then set words (p.span.begin + number_at ns p.address) (worked net p.given ns) else words

  abbrev pub put_all : List WritePlan → List ℕ → List ℕ
  put_all [] words = words
  put_all (p ∷ ps) words = put_all ps (one_put p words)

  one_numbers : (p : WritePlan) (vs : List BitVector) → numbers (one_written net ns named p vs) ≡ one_put p (numbers vs)
  one_numbers p vs = by (is_written ns named p)
    where
      place : ℕ
      place = p.span.begin + number_at ns p.address

      by : (b : Bool) → numbers (if b then set vs place (vector_of p.width (worked net p.given ns)) else vs) ≡ (if b then set (numbers vs) place (worked net p.given ns) else numbers vs)
      by true = map-set (λ (v : BitVector). v.number) vs place (vector_of p.width (worked net p.given ns))
      by false = refl

  pub written_numbers : (ps : List WritePlan) (vs : List BitVector) → numbers (written net ns named ps vs) ≡ put_all ps (numbers vs)
  written_numbers [] vs = refl
  written_numbers (p ∷ ps) vs = written_numbers ps (one_written net ns named p vs) ∙ ap (put_all ps) (one_numbers p vs)

  -- a word that is written has the width of the write
  pub record KeepsWidth (ws : List ℕ) (p : WritePlan) : Type 0 where
    pub keeps : nat_lt (number_at ns p.address) p.span.words ≡ true → slice_get ws (p.span.begin + number_at ns p.address) ≡ Some p.width

  one_widths : (ws : List ℕ) (p : WritePlan) (vs : List BitVector) → KeepsWidth ws p → widths vs ≡ ws → widths (one_written net ns named p vs) ≡ ws
  one_widths ws p vs k e = by (is_written ns named p) refl
    where
      place : ℕ
      place = p.span.begin + number_at ns p.address

      by : (b : Bool) → is_written ns named p ≡ b → widths (if b then set vs place (vector_of p.width (worked net p.given ns)) else vs) ≡ ws
      by true is =
          let within = (and_parts (nat_eq (number_at ns p.condition) 1) (nat_lt (number_at ns p.address) p.span.words) (and_parts (ticks named p.clock) (nat_eq (number_at ns p.condition) 1 && nat_lt (number_at ns p.address) p.span.words) is).1).1 in
          map-set (λ (v : BitVector). v.width) vs place (vector_of p.width (worked net p.given ns)) ∙ ap (λ (us : List ℕ). set us place p.width) e ∙ set_same ws place p.width (k.keeps within)
      by false is = e

  pub written_widths : (ws : List ℕ) (ps : List WritePlan) (vs : List BitVector) → AllByRecursion (KeepsWidth ws) ps → widths vs ≡ ws → widths (written net ns named ps vs) ≡ ws
  written_widths ws [] vs h e = e
  written_widths ws (p ∷ ps) vs h e = written_widths ws ps (one_written net ns named p vs) h.1 (one_widths ws p vs h.0 e)
