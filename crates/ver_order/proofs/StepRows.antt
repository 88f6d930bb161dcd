-- Steps and rounds of small trees, computed by the checker.
use Rattle.std.proofs.Common.{◌≡◌, ℕ, zero, suc, ◌<◌, List, [], ◌∷◌, refl, sym, inl, inr, subst, arith}
use Rattle.std.specs.Prelude.{codes, map, Some, None, false, true, if◌then◌else◌}
use Rattle.std.specs.Str.{bytes_eq}
use Rattle.fir_base.specs.Lists.{In}
use Rattle.fir_base.specs.Ticks.{Env}
use Rattle.fir_base.specs.declared.direction.Direction.{Direction}
use Rattle.fir_base.specs.declared.direction.Direction.TheVariants.{Input, Output}
use Rattle.fir_base.proofs.Members.{in_left}
use Rattle.ver_ast.specs.declared.tree.Verilog.{Verilog}
use Rattle.ver_ast.specs.declared.tree.Port.{Port}
use Rattle.ver_ast.specs.declared.tree.Item.{Item}
use Rattle.ver_ast.specs.declared.tree.Item.TheVariants as item
use Rattle.ver_ast.specs.declared.tree.Rhs.TheVariants as rhs
use Rattle.ver_ast.specs.declared.tree.BinaryOp.TheVariants as binary
use Rattle.ver_ast.specs.Atoms.{net}
use Rattle.ver_ast.specs.Nets.{variables}
use Rattle.ver_ast.specs.Stores.{store_of}
use Rattle.ver_ast.specs.Processes.{processes, process_targets}
use Rattle.ver_order.specs.Steps.{steps}
use Rattle.ver_order.specs.working.Rounds.{IsRound, HasRounds}
use Rattle.ver_order.specs.Rounds.{repeated_steps, process_count}

abbrev bits : Direction → List ℕ → Port
bits d n = record { is_clock = false; direction = d; width = 4; name = n }

-- target = source
abbrev copy : List ℕ → List ℕ → Item
copy target source = item.Assign (record { target = target; rhs = rhs.Atom (net source) })

-- ---- a chain against the order of the text: d = c, c = b, b = a

abbrev pub chain : Verilog
chain = record {
  name = codes "T";
  ports = bits Input (codes "a") ∷ bits Output (codes "d") ∷ [];
  items =
      item.Wire (record { width = 4; name = codes "b" })
      ∷ item.Wire (record { width = 4; name = codes "c" })
      ∷ copy (codes "d") (codes "c")
      ∷ copy (codes "c") (codes "b")
      ∷ copy (codes "b") (codes "a")
      ∷ [];
  places = [];
}

abbrev pub four : ℕ → ℕ → ℕ → ℕ → Env
four a b c d name =
    if bytes_eq name (codes "a") then a else (if bytes_eq name (codes "b") then b else (if bytes_eq name (codes "c") then c else (if bytes_eq name (codes "d") then d else 0)))

abbrev four_names : List (List ℕ)
four_names = codes "a" ∷ codes "b" ∷ codes "c" ∷ codes "d" ∷ []

-- a, b, c and d after these steps, from 9, 1, 2 and 3
abbrev shown_after : List ℕ → List ℕ
shown_after list = map (steps chain (store_of [] []) list (four 9 1 2 3)) four_names

in_text_order : process_targets (processes chain) ≡ codes "d" ∷ codes "c" ∷ codes "b" ∷ []
in_text_order = refl

before_all : shown_after [] ≡ 9 ∷ 1 ∷ 2 ∷ 3 ∷ []
unfolding steps
before_all = refl

one_step : shown_after (2 ∷ []) ≡ 9 ∷ 9 ∷ 2 ∷ 3 ∷ []
unfolding steps
one_step = refl

-- each step reads what those before it left
along_the_chain : shown_after (2 ∷ 1 ∷ 0 ∷ []) ≡ 9 ∷ 9 ∷ 9 ∷ 9 ∷ []
unfolding steps
along_the_chain = refl

one_round : shown_after (0 ∷ 1 ∷ 2 ∷ []) ≡ 9 ∷ 9 ∷ 1 ∷ 2 ∷ []
unfolding steps
one_round = refl

two_rounds : shown_after (0 ∷ 1 ∷ 2 ∷ 0 ∷ 1 ∷ 2 ∷ []) ≡ 9 ∷ 9 ∷ 9 ∷ 1 ∷ []
unfolding steps
two_rounds = refl

three_rounds : shown_after (0 ∷ 1 ∷ 2 ∷ 0 ∷ 1 ∷ 2 ∷ 0 ∷ 1 ∷ 2 ∷ []) ≡ 9 ∷ 9 ∷ 9 ∷ 9 ∷ []
unfolding steps
three_rounds = refl

more_rounds : shown_after (0 ∷ 1 ∷ 2 ∷ 0 ∷ 1 ∷ 2 ∷ 0 ∷ 1 ∷ 2 ∷ 1 ∷ 0 ∷ 2 ∷ []) ≡ 9 ∷ 9 ∷ 9 ∷ 9 ∷ []
unfolding steps
more_rounds = refl

-- there is no process 3
past_the_last : shown_after (3 ∷ 2 ∷ 7 ∷ []) ≡ 9 ∷ 9 ∷ 2 ∷ 3 ∷ []
unfolding steps
past_the_last = refl

two_turns : map (repeated_steps chain (store_of [] []) (0 ∷ 1 ∷ 2 ∷ []) 2 (four 9 1 2 3)) four_names ≡ 9 ∷ 9 ∷ 9 ∷ 1 ∷ []
unfolding repeated_steps steps
two_turns = refl

three_turns : map (repeated_steps chain (store_of [] []) (0 ∷ 1 ∷ 2 ∷ []) 3 (four 9 1 2 3)) four_names ≡ 9 ∷ 9 ∷ 9 ∷ 9 ∷ []
unfolding repeated_steps steps
three_turns = refl

-- ---- a right side without a value, and a clock output, which is no process

abbrev quotient : Verilog
quotient = record {
  name = codes "T";
  ports =
      record { is_clock = true; direction = Input; width = 1; name = codes "k" }
      ∷ record { is_clock = true; direction = Output; width = 1; name = codes "o" }
      ∷ bits Input (codes "a")
      ∷ bits Input (codes "b")
      ∷ bits Output (codes "d")
      ∷ [];
  items =
      copy (codes "o") (codes "k")
      ∷ item.Assign (record { target = codes "d"; rhs = rhs.Binary (net (codes "a")) binary.Div (net (codes "b")) })
      ∷ [];
  places = [];
}

abbrev quotient_after : ℕ → ℕ → List ℕ
quotient_after a b = map (steps quotient (store_of [] []) (0 ∷ []) (four a b 0 3)) four_names

one_process : process_count quotient ≡ 1
one_process = refl

quotient_shown : quotient_after 9 2 ≡ 9 ∷ 2 ∷ 0 ∷ 4 ∷ []
unfolding steps
quotient_shown = refl

no_value_is_zero : quotient_after 9 0 ≡ 9 ∷ 0 ∷ 0 ∷ 0 ∷ []
unfolding steps
no_value_is_zero = refl

-- ---- words: a register without a block shows its word and is no process; one with an asynchronous block takes a step to show it

abbrev words_tree : Verilog
words_tree = record {
  name = codes "T";
  ports = record { is_clock = false; direction = Input; width = 1; name = codes "a" } ∷ bits Output (codes "d") ∷ [];
  items =
      item.Reg (record { width = 4; name = codes "b" })
      ∷ item.Reg (record { width = 4; name = codes "c" })
      ∷ item.Array (record { width = 4; last = 1; name = codes "m" })
      ∷ item.Resetting (record { reset = codes "a"; tested = codes "a"; target = codes "c"; value = record { width = 4; number = Some 8 }; edge = None })
      ∷ item.Assign (record { target = codes "d"; rhs = rhs.Word (codes "m") (net (codes "b")) })
      ∷ [];
  places = [];
}

-- b and c hold 1 and 2, and m holds 6 and 7
abbrev words_after : List ℕ → ℕ → ℕ → List ℕ
words_after list a b = map (steps words_tree (store_of (variables words_tree) (1 ∷ 2 ∷ 6 ∷ 7 ∷ [])) list (four a b 0 0)) four_names

two_processes : process_targets (processes words_tree) ≡ codes "d" ∷ codes "c" ∷ []
two_processes = refl

word_shown : words_after (0 ∷ []) 0 1 ≡ 0 ∷ 1 ∷ 0 ∷ 7 ∷ []
unfolding steps
word_shown = refl

no_word_is_zero : words_after (0 ∷ []) 0 2 ≡ 0 ∷ 2 ∷ 0 ∷ 0 ∷ []
unfolding steps
no_word_is_zero = refl

stored_while_idle : words_after (1 ∷ []) 0 1 ≡ 0 ∷ 1 ∷ 2 ∷ 0 ∷ []
unfolding steps
stored_while_idle = refl

constant_while_reset : words_after (1 ∷ []) 1 1 ≡ 1 ∷ 1 ∷ 8 ∷ 0 ∷ []
unfolding steps
constant_while_reset = refl

-- ---- rounds

below_two : (k : ℕ) → k < 2 → (P : ℕ → Type 0) → P 0 → P 1 → P k
below_two zero h P p q = p
below_two (suc zero) h P p q = q
below_two (suc (suc k)) h P p q = absurd (omega (arith, h))

in_any_order : IsRound 2 (1 ∷ 1 ∷ 0 ∷ [])
in_any_order k h = below_two k h (In (1 ∷ 1 ∷ 0 ∷ [])) (inr (inr (inl refl))) (inl refl)

none_left_out : IsRound 2 (1 ∷ 1 ∷ []) → ⊥
none_left_out h = no_zero (h 0 (omega arith))
  where
    no_zero : In {A = ℕ} (1 ∷ 1 ∷ []) 0 → ⊥
    no_zero (inl e) = absurd (omega (arith, e))
    no_zero (inr (inl e)) = absurd (omega (arith, e))
    no_zero (inr (inr m)) = m

-- 1 1 0 and 1 0
two_with_more_within : HasRounds 2 2 (1 ∷ 1 ∷ 0 ∷ 1 ∷ 0 ∷ [])
two_with_more_within = (1 ∷ 1 ∷ 0 ∷ [], 1 ∷ 0 ∷ [], refl, in_any_order, (1 ∷ 0 ∷ [], [], refl, flipped, tt))
  where
    flipped : IsRound 2 (1 ∷ 0 ∷ [])
    flipped k h = below_two k h (In (1 ∷ 0 ∷ [])) (inr (inl refl)) (inl refl)

-- what is left out of a list is left out of each of its rounds
no_round_of_one : HasRounds 2 1 (1 ∷ 1 ∷ []) → ⊥
no_round_of_one h = none_left_out (λ k l. subst (λ (list : List ℕ). In list k) (sym h.2) (in_left h.0 h.1 k (h.3 k l)))
