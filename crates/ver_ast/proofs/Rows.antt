-- Small trees, and values at the edges of right sides, computed by the checker.
use Rattle.std.proofs.Common.{◌≡◌, ℕ, List, [], ◌∷◌, Option, Some, None, refl}
use Rattle.std.specs.Prelude.{codes, map, true, false, if◌then◌else◌}
use Rattle.std.specs.Str.{bytes_eq}
use Rattle.fir_base.specs.Ticks.{Env}
use Rattle.fir_base.specs.declared.direction.Direction.{Direction}
use Rattle.fir_base.specs.declared.direction.Direction.TheVariants.{Input, Output}
use Rattle.ver_ast.specs.declared.tree.Verilog.{Verilog}
use Rattle.ver_ast.specs.declared.tree.Port.{Port}
use Rattle.ver_ast.specs.declared.tree.Write.{Write}
use Rattle.ver_ast.specs.declared.tree.Item.TheVariants as item
use Rattle.ver_ast.specs.declared.tree.Rhs.{Rhs}
use Rattle.ver_ast.specs.declared.tree.Rhs.TheVariants as rhs
use Rattle.ver_ast.specs.declared.tree.UnaryOp.TheVariants as unary
use Rattle.ver_ast.specs.declared.tree.BinaryOp.{BinaryOp}
use Rattle.ver_ast.specs.declared.tree.SignedOp.{SignedOp}
use Rattle.ver_ast.specs.declared.tree.BinaryOp.TheVariants as binary
use Rattle.ver_ast.specs.declared.tree.SignedOp.TheVariants as signed
use Rattle.ver_ast.specs.Atoms.{net, constant}
use Rattle.ver_ast.specs.Nets.{SizedNet, variables}
use Rattle.ver_ast.specs.Stores.{Store, store_of}
use Rattle.ver_ast.specs.SideValues.{rhs_value}
use Rattle.ver_ast.specs.Next.{v_next}
use Rattle.ver_ast.specs.Processes.{processes, wanted}
use Rattle.ver_ast.specs.ClockOutputs.{clocks_shown}

-- ---- right sides, with a and b of 4 bits, and an array m of three words

abbrev sized : List SizedNet
sized = (codes "a", 4) ∷ (codes "b", 4) ∷ []

abbrev two : ℕ → ℕ → Env
two a b name = if bytes_eq name (codes "a") then a else b

abbrev three_words : Store
three_words name = if bytes_eq name (codes "m") then (5 ∷ 6 ∷ 7 ∷ []) else []

-- the value of a right side whose target has 4 bits
abbrev value_at : ℕ → ℕ → Rhs → Option ℕ
value_at a b = rhs_value sized three_words (two a b) 4

abbrev of_both : BinaryOp → Rhs
of_both op = rhs.Binary (net (codes "a")) op (net (codes "b"))

abbrev of_signed : SignedOp → Rhs
of_signed op = rhs.Signed (net (codes "a")) op (net (codes "b"))

sum_wraps : value_at 15 1 (of_both binary.Add) ≡ Some 0
sum_wraps = refl

difference_wraps : value_at 0 1 (of_both binary.Sub) ≡ Some 15
difference_wraps = refl

product_wraps : value_at 15 15 (of_both binary.Mul) ≡ Some 1
product_wraps = refl

no_quotient_by_zero : value_at 7 0 (of_both binary.Div) ≡ None
no_quotient_by_zero = refl

no_remainder_by_zero : value_at 7 0 (of_both binary.Rem) ≡ None
no_remainder_by_zero = refl

-- -8 by 0
no_signed_quotient_by_zero : value_at 8 0 (of_signed signed.Div) ≡ None
no_signed_quotient_by_zero = refl

no_signed_remainder_by_zero : value_at 8 0 (of_signed signed.Rem) ≡ None
no_signed_remainder_by_zero = refl

-- -8 by -1 is 8, which 4 bits do not hold; the remainder is 0
signed_quotient_too_large : value_at 8 15 (of_signed signed.Div) ≡ None
signed_quotient_too_large = refl

signed_remainder_of_the_same : value_at 8 15 (of_signed signed.Rem) ≡ Some 0
signed_remainder_of_the_same = refl

-- -7 by 2 is -3, and the remainder is -1
towards_zero : value_at 9 2 (of_signed signed.Div) ≡ Some 13
towards_zero = refl

sign_of_the_first : value_at 9 2 (of_signed signed.Rem) ≡ Some 15
sign_of_the_first = refl

-- -8 is less than 7, and 8 is not
signed_less : value_at 8 7 (of_signed signed.Lt) ≡ Some 1
signed_less = refl

not_less : value_at 8 7 (of_both binary.Lt) ≡ Some 0
not_less = refl

shifted_out_up : value_at 15 9 (of_both binary.Shl) ≡ Some 0
shifted_out_up = refl

shifted_out_down : value_at 15 9 (of_both binary.Shr) ≡ Some 0
shifted_out_down = refl

-- of -8 the sign is left
shifted_out_signed : value_at 8 9 (rhs.SignedShift (net (codes "a")) (net (codes "b"))) ≡ Some 15
shifted_out_signed = refl

complement_of_none : value_at 0 0 (rhs.Unary unary.Not (net (codes "a"))) ≡ Some 15
complement_of_none = refl

all_ones : value_at 15 0 (rhs.Unary unary.And (net (codes "a"))) ≡ Some 1
all_ones = refl

last_word : value_at 2 0 (rhs.Word (codes "m") (net (codes "a"))) ≡ Some 7
last_word = refl

no_word_past_the_last : value_at 3 0 (rhs.Word (codes "m") (net (codes "a"))) ≡ None
no_word_past_the_last = refl

-- ---- an asynchronous block: r is 9 while n is 1, and takes 5 at an edge of c

abbrev clock : Direction → List ℕ → Port
clock d n = record { is_clock = true; direction = d; width = 1; name = n }

abbrev bit : List ℕ → Port
bit n = record { is_clock = false; direction = Input; width = 1; name = n }

abbrev reset_tree : Verilog
reset_tree = record {
  name = codes "T";
  ports = clock Input (codes "c") ∷ bit (codes "n") ∷ [];
  items =
      item.Reg (record { width = 4; name = codes "r" })
      ∷ item.Resetting (record {
        reset = codes "n";
        tested = codes "n";
        target = codes "r";
        value = record { width = 4; number = Some 9 };
        edge = Some (record { clock = codes "c"; target = codes "r"; source = constant 4 5 });
      })
      ∷ [];
  places = [];
}

-- the clock has the number 0
abbrev reset_env : ℕ → Env
reset_env n name = if bytes_eq name (codes "n") then n else 0

abbrev after_tick : ℕ → List ℕ → Option (List ℕ)
after_tick n rising = v_next reset_tree (3 ∷ []) (record { inputs = n ∷ []; clocks = rising }) (reset_env n)

-- what r shows, whose word is 3: the constant as soon as n is 1, before any edge
abbrev shown : ℕ → List (Option ℕ)
shown n = map (wanted reset_tree (store_of (variables reset_tree) (3 ∷ [])) (reset_env n)) (processes reset_tree)

shown_at_once : shown 1 ≡ Some 9 ∷ []
shown_at_once = refl

shown_while_idle : shown 0 ≡ Some 3 ∷ []
shown_while_idle = refl

reset_at_an_edge : after_tick 1 (0 ∷ []) ≡ Some (9 ∷ [])
reset_at_an_edge = refl

reset_without_an_edge : after_tick 1 [] ≡ Some (9 ∷ [])
reset_without_an_edge = refl

taken_at_an_edge : after_tick 0 (0 ∷ []) ≡ Some (5 ∷ [])
taken_at_an_edge = refl

kept_without_an_edge : after_tick 0 [] ≡ Some (3 ∷ [])
kept_without_an_edge = refl

-- ---- two writes of one block to three words

abbrev write : ℕ → ℕ → ℕ → Write
write condition index source = record { condition = constant 1 condition; array = codes "m"; index = constant 3 index; source = constant 4 source }

abbrev writing_tree : Write → Write → Verilog
writing_tree first second = record {
  name = codes "T";
  ports = clock Input (codes "c") ∷ [];
  items = item.Array (record { width = 4; last = 2; name = codes "m" }) ∷ item.Writing (record { clock = codes "c"; writes = first ∷ second ∷ [] }) ∷ [];
  places = [];
}

abbrev words_after : List ℕ → Write → Write → Option (List ℕ)
words_after rising first second = v_next (writing_tree first second) (0 ∷ 0 ∷ 0 ∷ []) (record { inputs = []; clocks = rising }) (λ name. 0)

later_write_wins : words_after (0 ∷ []) (write 1 1 7) (write 1 1 8) ≡ Some (0 ∷ 8 ∷ 0 ∷ [])
later_write_wins = refl

write_without_condition : words_after (0 ∷ []) (write 1 1 7) (write 0 1 8) ≡ Some (0 ∷ 7 ∷ 0 ∷ [])
write_without_condition = refl

no_write_without_an_edge : words_after [] (write 1 1 7) (write 1 3 8) ≡ Some (0 ∷ 0 ∷ 0 ∷ [])
no_write_without_an_edge = refl

no_state_behind_a_write_past_the_end : words_after (0 ∷ []) (write 1 1 7) (write 1 3 8) ≡ None
no_state_behind_a_write_past_the_end = refl

past_the_end_without_condition : words_after (0 ∷ []) (write 1 2 7) (write 0 3 8) ≡ Some (0 ∷ 0 ∷ 7 ∷ [])
past_the_end_without_condition = refl

-- ---- clock outputs: o shows the second clock, q none

abbrev clock_tree : Verilog
clock_tree = record {
  name = codes "T";
  ports =
      clock Input (codes "c") ∷ clock Output (codes "o") ∷ clock Input (codes "d") ∷ clock Output (codes "q") ∷ [];
  items =
      item.Assign (record { target = codes "q"; rhs = rhs.Atom (constant 1 0) })
      ∷ item.Assign (record { target = codes "o"; rhs = rhs.Atom (net (codes "d")) })
      ∷ [];
  places = [];
}

clocks_are_shown : clocks_shown clock_tree ≡ Some 1 ∷ None ∷ []
clocks_are_shown = refl
