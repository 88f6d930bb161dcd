-- The groups of faults of passes one behind the other: which are clear where both are, and that the first fault of either pass is the first of both.
use Rattle.std.proofs.Common.{◌≡◌, ℕ, ◌+◌, ◌<◌, ◌≤◌, [], subst, arith, ⊎_elim}
use Rattle.std.proofs.lemmas.Bool.{cases_lt}
use Rattle.fir_ast.specs.Circuits.{CircuitTree}
use Rattle.fir_ast.specs.Faults.{Fault}
use Rattle.fir_pass.specs.declared.alternative.Either.{Either}
use Rattle.fir_pass.specs.declared.alternative.Either.TheVariants.{One, Two}
use Rattle.fir_pass.specs.Groups.{in_order, IsClear}
use Rattle.fir_pass.specs.Law.{AreClear, IsFirst}
use Rattle.fir_pass.specs.Meaning.{Meaning}
use Rattle.fir_pass.specs.working.Either.{reported_by}
use Rattle.fir_meaning.specs.SourceMeaning.{circuit_meaning}
use Rattle.fir_meaning.specs.working.Stages.{IsClearOf, IsFirstOf}
use Rattle.fir_compile.specs.working.Told.{told_by}

pub one_clear : (k : ℕ) (m : Meaning) → IsClear (m.group k) → AreClear k k m
one_clear k m clear j low high = let same : k ≡ j = omega (arith, low, high) in subst (λ i. IsClear (m.group i)) same clear

pub both_clear : (from middle upto : ℕ) (m : Meaning) → AreClear from middle m → AreClear (middle + 1) upto m → AreClear from upto m
both_clear from middle upto m first second k low high =
    ⊎_elim (λ (past : middle < k). second k (omega (arith, past)) high) (λ (within : k ≤ middle). first k low within) (cases_lt middle k)

module _ (from middle upto : ℕ) (low : from ≤ middle) (high : middle ≤ upto) (m : Meaning) (f : Fault) where
  pub first_of_one : IsFirst from middle m f → IsFirst from upto m f
  first_of_one first = record { low = first.low; high = omega (arith, first.high, high); told = first.told; stands = first.stands; clear = first.clear }

  pub first_of_two : AreClear from middle m → IsFirst (middle + 1) upto m f → IsFirst from upto m f
  first_of_two clear first = record {
    low = omega (arith, first.low, low);
    high = first.high;
    told = first.told;
    stands = first.stands;
    clear = λ k above below.
        ⊎_elim (λ (past : middle < k). first.clear k (omega (arith, past)) below) (λ (within : k ≤ middle). clear k above within) (cases_lt middle k);
  }

-- the second pass may itself be two
pub first_of_both : {A B : Type 0} → (from middle upto : ℕ) → from ≤ middle → middle ≤ upto → (c : CircuitTree) (told_one : A → Fault) (told_two : B → Fault)
    (second : CircuitTree → B → Type 0) → ((b : B) → second c b → IsFirstOf (middle + 1) upto c (told_two b)) → (f : Either A B)
    → reported_by (IsClearOf from middle) (λ c a. IsFirstOf from middle c (told_one a)) second c f → IsFirstOf from upto c (told_by told_one told_two f)
first_of_both from middle upto low high c told_one told_two second behind (One a) first =
    first_of_one from middle upto low high (circuit_meaning c) (told_one a) first
first_of_both from middle upto low high c told_one told_two second behind (Two b) h =
    first_of_two from middle upto low high (circuit_meaning c) (told_two b) h.0 (behind b h.1)

nothing : IsClear (in_order [])
nothing f there = absurd there

module _ (c : CircuitTree) where
  -- the text has no group among those of the circuit
  clear_text : IsClearOf 0 0 c
  unfolding circuit_meaning
  clear_text = one_clear 0 (circuit_meaning c) nothing

  pub clear_all : IsClearOf 1 13 c → IsClearOf 0 13 c
  clear_all clear = both_clear 0 0 13 (circuit_meaning c) clear_text clear
