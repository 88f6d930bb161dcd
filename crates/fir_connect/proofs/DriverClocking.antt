-- What drives a clock leaf gives the clock that the statements store there.
use Rattle.std.proofs.Common.{◌≡◌, ℕ, Option, unwrap_or, refl, sym, ap, ◌∙◌}
use Rattle.fir_meaning.specs.working.Choices.{last_all}
use Rattle.fir_meaning.specs.LeafTypes.{LeafType, a_clock}
use Rattle.fir_meaning.specs.working.TermValues.{clock_of}
use Rattle.fir_meaning.specs.working.Terms.{Term}
use Rattle.fir_leaf.proofs.LiveStores.{stored_is_live}
use Rattle.fir_leaf.specs.working.ValueChoices.{choice_of_all}
use Rattle.fir_leaf_types.specs.working.TypedBlocks.{MayGive}
use Rattle.fir_connect.specs.working.NetTerms.{NetTerm}
use Rattle.fir_connect.specs.working.NetValues.{term_clock}
use Rattle.fir_connect.specs.working.LoweredLaws.{types_of}
use Rattle.fir_connect.specs.working.Drivers.{start}
use Rattle.fir_connect.specs.working.DriverLaws.{DriverClocks}
use Rattle.fir_connect.proofs.DriverChoices.{Measures, is_worth_all, stored_over}
use Rattle.fir_connect.proofs.GivenTerms.{given_clock, of_given}
use Rattle.fir_connect.proofs.LoweredClocks.{lowered_clocks}

module _ (held : ℕ → LeafType) (numbers : ℕ → ℕ) (clocks : ℕ → Option ℕ) (x : ℕ) (is : held x ≡ a_clock) where
  abbrev gives : Term → Option ℕ
  gives e = clock_of (types_of held) (record { numbers = numbers; clocks = clocks }) e

  abbrev measure : NetTerm → Option ℕ
  measure t = term_clock (types_of held) numbers clocks t

  measures : Measures held numbers x (λ t. Unit {0}) measure gives
  measures = record {
    sound = λ c a b first second. tt;
    side = λ c a b first second. refl;
    given_sound = λ e may. tt;
    given_measure =
        of_given (types_of held) x (λ e. MayGive held e (held x)) (λ e t. measure t ≡ gives e) refl
        (λ e some may. lowered_clocks held numbers clocks e (given_clock held e some (rw is at may)));
  }

pub driver_clocks : DriverClocks
driver_clocks held depth numbers clocks b x is_register typed is =
    let holds = types_of held in
    let first = start holds is_register x in
    let live = last_all (depth x) x b 0 (choice_of_all holds numbers x b) in
    let old = term_clock holds numbers clocks first in
    (is_worth_all held numbers x (λ t. Unit {0}) (measure held numbers clocks x is) (gives held numbers clocks x is)
    (measures held numbers clocks x is) (depth x) b 0 first typed tt).worth
    ∙ stored_over (gives held numbers clocks x is) live old
    ∙ ap (λ o. unwrap_or o old) (sym (stored_is_live (Option ℕ) holds depth numbers (λ y t. gives held numbers clocks x is t) x b))
