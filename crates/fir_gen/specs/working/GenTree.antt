-- The tree of the circuit `Gen`, wherever its parts stand.
-- `at` gives the places: of the head's parts and register 0 under the number 0, of each later register's under its own number, of the last line's under the
-- number of registers.
use Rattle.std.specs.Prelude.{ℕ, zero, suc, ◌+◌, ◌-◌, List, [], ◌∷◌, Bool, false, Option, Some, None, codes}
use Rattle.fir_base.specs.declared.direction.Direction.TheVariants.{Input, Output}
use Rattle.fir_bits.specs.declared.operators.PrimOp.TheVariants.{Add, Bits, Tail, Xor}
use Rattle.fir_ast.specs.declared.place.Place.{Place}
use Rattle.fir_ast.specs.Types.{DataType, clock, uint}
use Rattle.fir_ast.specs.Expressions.{Expression, Expressions, expression, literal, no_expressions, no_parts, operation, reference}
use Rattle.fir_ast.specs.Statements.{Block, PlacedName, Reset, SinkReference, Statement, connect, done, register, then, when}
use Rattle.fir_ast.specs.Circuits.{CircuitTree, ModuleTree, PortTree}
use Rattle.fir_gen.specs.GenText.{register_name}

-- 16 bits, in which all but the reset is kept
abbrev pub word_type : DataType
word_type = uint (Some 16)

abbrev pub named_at : Place → List ℕ → PlacedName
named_at p name = record { place = p; name = name }

abbrev pub plain : Place → List ℕ → Expression
plain p name = reference p name no_parts

abbrev pub plain_sink : Place → List ℕ → SinkReference
plain_sink p name = record { place = p; name = name; parts = no_parts }

abbrev pub two : Expression → Expression → Expressions
two a b = expression a (expression b no_expressions)

-- the sum of 16 bits, without its carry
abbrev pub sum_at : Place → Place → Expression → Expression → Expression
sum_at p q a b = operation p Tail (expression (operation q Add (two a b) []) no_expressions) (1 ∷ [])

abbrev pub port_at : Place → Place → List ℕ → DataType → PortTree
port_at p q name t = record { direction = Input; named = named_at p name; type_place = q; data_type = t }

module _ (at : ℕ → ℕ → Place) where
  abbrev pub ports : List PortTree
  ports =
      port_at (at 0 3) (at 0 4) (codes "clock") clock ∷ port_at (at 0 5) (at 0 6) (codes "reset") (uint (Some 1))
      ∷ port_at (at 0 7) (at 0 8) (codes "x") word_type
      ∷ record { direction = Output; named = named_at (at 0 9) (codes "y"); type_place = at 0 10; data_type = word_type } ∷ []

  -- a register, with places under its number
  abbrev pub register_at : ℕ → Statement
  register_at k =
      register (at k 11) (named_at (at k 12) (register_name k)) (at k 13) word_type (plain (at k 14) (codes "clock"))
      (Some (record {
        place = at k 15;
        condition = plain (at k 16) (codes "reset");
        init = literal (record { place = at k 17; signed = false; width = Some 16; negative = false; magnitude = k });
      }))

  abbrev pub first_connect : Statement
  first_connect =
      connect (at 0 18) (plain_sink (at 0 18) (register_name 0))
      (sum_at (at 0 19) (at 0 20) (plain (at 0 21) (register_name 0)) (plain (at 0 22) (codes "x")))

  -- what drives the register behind that of this number
  abbrev pub step_condition : ℕ → Expression
  step_condition j = operation (at (j + 1) 19) Bits (expression (plain (at (j + 1) 20) (codes "x")) no_expressions) (0 ∷ 0 ∷ [])

  abbrev pub xor_connect : ℕ → Statement
  xor_connect j =
      connect (at (j + 1) 21) (plain_sink (at (j + 1) 21) (register_name (j + 1)))
      (operation (at (j + 1) 22) Xor (two (plain (at (j + 1) 23) (register_name j)) (plain (at (j + 1) 24) (register_name (j + 1)))) [])

  abbrev pub sum_connect : ℕ → Statement
  sum_connect j =
      connect (at (j + 1) 25) (plain_sink (at (j + 1) 25) (register_name (j + 1)))
      (sum_at (at (j + 1) 26) (at (j + 1) 27) (plain (at (j + 1) 28) (register_name (j + 1))) (plain (at (j + 1) 29) (register_name j)))

  abbrev pub step_when : ℕ → Statement
  step_when j = when (at (j + 1) 18) (step_condition j) ((then) (xor_connect j) done) ((then) (sum_connect j) done)

  abbrev pub last_connect : ℕ → Statement
  last_connect n = connect (at n 30) (plain_sink (at n 30) (codes "y")) (plain (at n 31) (register_name (n - 1)))

  -- so many registers more, behind that of a number, and then the rest
  unfoldable pub steps : ℕ → ℕ → Block → Block
  steps j zero rest = rest
  steps j (suc count) rest = (then) (register_at (j + 1)) ((then) (step_when j) (steps (j + 1) count rest))

  abbrev pub body : ℕ → Block
  body n = (then) (register_at 0) ((then) first_connect (steps 0 (n - 1) ((then) (last_connect n) done)))

  abbrev pub gen_module : ℕ → ModuleTree
  gen_module n = record { place = at 0 1; named = named_at (at 0 2) (codes "Gen"); ports = ports; body = body n }

  -- of so many registers, one at least
  abbrev pub gen_tree : ℕ → CircuitTree
  gen_tree n = record { named = named_at (at 0 0) (codes "Gen"); modules = gen_module n ∷ [] }
