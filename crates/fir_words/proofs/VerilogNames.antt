-- What `vsim` asks for, whatever the names of its files, and wherever `--state` and an order stand.
use Rattle.std.proofs.Common.{◌≡◌, ◌∙◌, ◌<◌, ◌^◌, ℕ, zero, suc, List, [], ◌∷◌, Bool, true, false, Option, Some, None, refl, ap}
use Rattle.std.specs.Prelude.{codes, decimal, map, option_map}
use Rattle.clap.specs.Words.{Shape, Text}
use Rattle.clap.specs.Walk.{finished, walked}
use Rattle.clap.specs.Faults.{defaults_fault}
use Rattle.fir_words.specs.Commands.{Command, command_in, command_of, flag, name_of_file, number_of, option_with_value, verilog_simulation_of, vsim}
use Rattle.fir_words.specs.working.Laws.{AsksFor, PlainVerilogIsTaken, begins_with_dash, order_words, placed, state_words}
use Rattle.fir_words.proofs.Numbers.{decimal_is_plain, decimal_spells}
use Rattle.fir_words.proofs.PlainNames.{leaf_with, state, words_ask}
use Rattle.fir_words.proofs.PlainWords.{ArePlain, Word, end_by, given, level_by, plain, text_of}

abbrev leaf : Shape
leaf = leaf_with (codes "vsim") (name_of_file (codes "file") ∷ name_of_file (codes "trace") ∷ flag (codes "state") ∷ option_with_value (codes "order") ∷ [])

abbrev found_by : List Word → Option Command
found_by words = command_in (codes "vsim") (finished leaf.rules (end_by leaf.rules words))

module _ (program verilog trace : Text) (n : ℕ) (is_plain : begins_with_dash verilog ≡ false) (is_plain_trace : begins_with_dash trace ≡ false)
    (small : n < 2 ^ 32) where
  vsim_asks : (words : List Word) → ArePlain words → level_by leaf words ≡ [] → command_of (program ∷ codes "vsim" ∷ map text_of words) ≡ found_by words
  unfolding walked
  vsim_asks words are_plain none = words_ask (codes "vsim") leaf refl refl refl program words are_plain none

  -- what is asked for by two files and the text of a number
  abbrev asked_with : Bool → Option Command
  asked_with with_state =
      option_map vsim (option_map (λ order. verilog_simulation_of verilog trace with_state order) (option_map (λ m. Some m) (number_of (decimal n))))

  asks_order : (with_state : Bool) (words : List Word) → ArePlain words → level_by leaf words ≡ [] → found_by words ≡ asked_with with_state
      → command_of (program ∷ codes "vsim" ∷ map text_of words) ≡ Some (vsim (verilog_simulation_of verilog trace with_state (Some n)))
  asks_order with_state words are_plain none is =
      vsim_asks words are_plain none ∙ is
      ∙ ap (λ (number : Option ℕ). option_map vsim (option_map (λ order. verilog_simulation_of verilog trace with_state order) (option_map (λ m. Some m) number)))
      (decimal_spells n small)

  abbrev file : Word
  file = plain verilog

  abbrev last : Word
  last = plain trace

  abbrev order : Word
  order = given (codes "--order")

  abbrev number : Word
  number = plain (decimal n)

  digits : begins_with_dash (decimal n) ≡ false
  digits = decimal_is_plain n small

  abbrev files : List (List Text)
  files = (verilog ∷ []) ∷ (trace ∷ []) ∷ []

  asks_alone : AsksFor program files (verilog_simulation_of verilog trace false None)
  unfolding walked defaults_fault
  asks_alone = vsim_asks (file ∷ last ∷ []) (is_plain, (is_plain_trace, tt)) refl

  asks_state : (i : ℕ) → AsksFor program (placed i state_words files) (verilog_simulation_of verilog trace true None)
  unfolding walked defaults_fault
  asks_state zero = vsim_asks (state ∷ file ∷ last ∷ []) (tt, (is_plain, (is_plain_trace, tt))) refl
  asks_state (suc zero) = vsim_asks (file ∷ state ∷ last ∷ []) (is_plain, (tt, (is_plain_trace, tt))) refl
  asks_state (suc (suc i)) = vsim_asks (file ∷ last ∷ state ∷ []) (is_plain, (is_plain_trace, (tt, tt))) refl

  asks_number : (i : ℕ) → AsksFor program (placed i (order_words n) files) (verilog_simulation_of verilog trace false (Some n))
  unfolding walked defaults_fault
  asks_number zero = asks_order false (order ∷ number ∷ file ∷ last ∷ []) (tt, (digits, (is_plain, (is_plain_trace, tt)))) refl refl
  asks_number (suc zero) = asks_order false (file ∷ order ∷ number ∷ last ∷ []) (is_plain, (tt, (digits, (is_plain_trace, tt)))) refl refl
  asks_number (suc (suc i)) = asks_order false (file ∷ last ∷ order ∷ number ∷ []) (is_plain, (is_plain_trace, (tt, (digits, tt)))) refl refl

  -- the state before the groups of an order and the files, between them, and behind
  asks_both : (i j : ℕ) → AsksFor program (placed i state_words (placed j (order_words n) files)) (verilog_simulation_of verilog trace true (Some n))
  unfolding walked defaults_fault
  asks_both zero zero = asks_order true (state ∷ order ∷ number ∷ file ∷ last ∷ []) (tt, (tt, (digits, (is_plain, (is_plain_trace, tt))))) refl refl
  asks_both zero (suc zero) = asks_order true (state ∷ file ∷ order ∷ number ∷ last ∷ []) (tt, (is_plain, (tt, (digits, (is_plain_trace, tt))))) refl refl
  asks_both zero (suc (suc j)) = asks_order true (state ∷ file ∷ last ∷ order ∷ number ∷ []) (tt, (is_plain, (is_plain_trace, (tt, (digits, tt))))) refl refl
  asks_both (suc zero) zero = asks_order true (order ∷ number ∷ state ∷ file ∷ last ∷ []) (tt, (digits, (tt, (is_plain, (is_plain_trace, tt))))) refl refl
  asks_both (suc zero) (suc zero) = asks_order true (file ∷ state ∷ order ∷ number ∷ last ∷ []) (is_plain, (tt, (tt, (digits, (is_plain_trace, tt))))) refl refl
  asks_both (suc zero) (suc (suc j)) =
      asks_order true (file ∷ state ∷ last ∷ order ∷ number ∷ []) (is_plain, (tt, (is_plain_trace, (tt, (digits, tt))))) refl refl
  asks_both (suc (suc zero)) zero = asks_order true (order ∷ number ∷ file ∷ state ∷ last ∷ []) (tt, (digits, (is_plain, (tt, (is_plain_trace, tt))))) refl refl
  asks_both (suc (suc zero)) (suc zero) =
      asks_order true (file ∷ order ∷ number ∷ state ∷ last ∷ []) (is_plain, (tt, (digits, (tt, (is_plain_trace, tt))))) refl refl
  asks_both (suc (suc zero)) (suc (suc j)) =
      asks_order true (file ∷ last ∷ state ∷ order ∷ number ∷ []) (is_plain, (is_plain_trace, (tt, (tt, (digits, tt))))) refl refl
  asks_both (suc (suc (suc i))) zero = asks_order true (order ∷ number ∷ file ∷ last ∷ state ∷ []) (tt, (digits, (is_plain, (is_plain_trace, (tt, tt))))) refl refl
  asks_both (suc (suc (suc i))) (suc zero) =
      asks_order true (file ∷ order ∷ number ∷ last ∷ state ∷ []) (is_plain, (tt, (digits, (is_plain_trace, (tt, tt))))) refl refl
  asks_both (suc (suc (suc i))) (suc (suc j)) =
      asks_order true (file ∷ last ∷ order ∷ number ∷ state ∷ []) (is_plain, (is_plain_trace, (tt, (digits, (tt, tt))))) refl refl

pub plain_verilog_is_taken : PlainVerilogIsTaken
plain_verilog_is_taken program verilog trace n is_plain is_plain_trace small = (
  asks_alone program verilog trace n is_plain is_plain_trace small,
  asks_state program verilog trace n is_plain is_plain_trace small,
  asks_number program verilog trace n is_plain is_plain_trace small,
  asks_both program verilog trace n is_plain is_plain_trace small,
)
