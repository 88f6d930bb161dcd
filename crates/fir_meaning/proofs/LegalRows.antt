-- Worked circuits, computed: inputs without a width, integers and widths that an operation may not have, and conditions.
use Rattle.std.proofs.Common.{◌≡◌, List, [], ◌∷◌, true, false, Some, None, refl}
use Rattle.std.specs.Prelude.{codes}
use Rattle.fir_bits.specs.declared.operators.PrimOp.TheVariants as op
use Rattle.fir_ast.specs.Types.{DataType, uint, sint, clock, reset, async_reset, bundle, vector, no_fields}
use Rattle.fir_ast.specs.Expressions.{mux, validif}
use Rattle.fir_ast.specs.Statements.{register, when, done}
use Rattle.fir_ast.specs.Circuits.{PortTree, CircuitTree}
use Rattle.fir_meaning.specs.LeafPaths.{named, element}
use Rattle.fir_meaning.specs.WidthRules.{AreWidths}
use Rattle.fir_meaning.specs.SizeFaults.{no_port_width, wrong_integers, wrong_literal, wrong_condition}
use Rattle.fir_meaning.specs.LegalFaults.{legal_faults}
use Rattle.fir_meaning.proofs.SmallTrees.{at, name_at, input, output, part_of, ref, uint_literal, one, wire_at, node_at, assign, block, module_at, circuit, main_only}
use Rattle.fir_meaning.proofs.LeastRows.{no_rules}

-- an input of the main module without a width
abbrev no_width : CircuitTree
no_width = main_only (input 3 11 (codes "a") (uint None) ∷ output 4 12 (codes "o") (uint (Some 1)) ∷ []) (assign 5 5 (codes "o") (uint_literal 5 10 (Some 1) 0) ∷ [])

pub no_width_fault : legal_faults no_width (λ k. 0) ≡ no_port_width (at 3 11) (named (codes "a") ∷ []) ∷ []
no_width_fault = refl

-- a flipped leaf of an output is an input, a flipped leaf of an input is none, and a vector of length 0 has none
abbrev turned_ports : List PortTree
turned_ports =
    output 3 12 (codes "o") (bundle (part_of true (codes "x") (sint None) (part_of false (codes "y") (uint None) no_fields)))
    ∷ input 4 11 (codes "i") (bundle (part_of true (codes "x") (sint None) (part_of false (codes "y") (vector (uint None) 2) no_fields)))
    ∷ input 5 11 (codes "v") (vector (uint None) 0) ∷ []

pub turned_faults : legal_faults (main_only turned_ports []) (λ k. 0)
    ≡ no_port_width (at 3 12) (named (codes "o") ∷ named (codes "x") ∷ [])
    ∷ no_port_width (at 4 11) (named (codes "i") ∷ named (codes "y") ∷ element 0 ∷ []) ∷ []
turned_faults = refl

-- of the main module alone
pub other_faults : legal_faults (circuit (module_at 2 10 (codes "M") turned_ports [] ∷ module_at 6 10 (codes "T") [] [] ∷ [])) (λ k. 0) ≡ []
other_faults = refl

-- a clock and resets have no width
pub kinds_faults : legal_faults
    (main_only (input 3 11 (codes "c") clock ∷ input 4 11 (codes "r") reset ∷ input 5 11 (codes "s") async_reset ∷ input 6 11 (codes "w") (uint (Some 3)) ∷ []) [])
    (λ k. 0) ≡ []
kinds_faults = refl

-- a condition of two bits
abbrev condition : CircuitTree
condition =
    main_only (input 3 11 (codes "a") (uint (Some 2)) ∷ output 4 12 (codes "o") (uint (Some 1)) ∷ [])
    (assign 5 5 (codes "o") (uint_literal 5 10 (Some 1) 0)
    ∷ when (at 6 5) (ref 6 10 (codes "a")) (block (assign 7 7 (codes "o") (uint_literal 7 12 (Some 1) 1) ∷ [])) done ∷ [])

pub condition_fault : legal_faults condition (λ k. 0) ≡ wrong_condition (at 6 10) 2 ∷ []
condition_fault = refl

-- a leaf without a rule has width 0
abbrev unruled : CircuitTree
unruled = main_only [] (wire_at 3 5 (codes "u") (uint None) ∷ when (at 4 5) (ref 4 10 (codes "u")) done done ∷ [])

pub unruled_widths : AreWidths unruled (λ k. 0)
unruled_widths = no_rules

pub unruled_fault : legal_faults unruled (λ k. 0) ≡ wrong_condition (at 4 10) 0 ∷ []
unruled_fault = refl

-- behind the faults inside a condition, at one place too, and before those of the arms
abbrev ordered : CircuitTree
ordered =
    main_only (input 3 11 (codes "a") (uint (Some 2)) ∷ output 4 12 (codes "o") (uint (Some 1)) ∷ [])
    (assign 5 5 (codes "o")
    (mux (at 5 10) (one 5 14 op.Bits (ref 5 19 (codes "a")) (3 ∷ 0 ∷ [])) (one 5 29 op.Tail (ref 5 34 (codes "a")) (9 ∷ [])) (ref 5 41 (codes "a"))) ∷ [])

pub ordered_faults : legal_faults ordered (λ k. 0)
    ≡ wrong_integers (at 5 14) op.Bits (2 ∷ 3 ∷ 0 ∷ []) ∷ wrong_condition (at 5 14) 4 ∷ wrong_integers (at 5 29) op.Tail (2 ∷ 9 ∷ []) ∷ []
ordered_faults = refl

-- the condition of a reset is tested where it is a UInt
abbrev with_reset : DataType → CircuitTree
with_reset t =
    main_only (input 3 11 (codes "clock") clock ∷ input 4 11 (codes "rst") t ∷ [])
    (register (at 5 5) (name_at 5 9 (codes "r")) (at 5 13) (uint (Some 4)) (ref 5 22 (codes "clock"))
    (Some (record { place = at 5 29; condition = ref 5 46 (codes "rst"); init = uint_literal 5 51 (Some 4) 20 })) ∷ [])

pub wide_reset : legal_faults (with_reset (uint (Some 2))) (λ k. 0) ≡ wrong_condition (at 5 46) 2 ∷ wrong_literal (at 5 51) 4 false 20 ∷ []
wide_reset = refl

pub plain_reset : legal_faults (with_reset reset) (λ k. 0) ≡ wrong_literal (at 5 51) 4 false 20 ∷ []
plain_reset = refl

pub async_fault : legal_faults (with_reset async_reset) (λ k. 0) ≡ wrong_literal (at 5 51) 4 false 20 ∷ []
async_fault = refl

-- a Reset counts as one bit in operators
abbrev converted : DataType → CircuitTree
converted t = main_only (input 3 11 (codes "a") t ∷ []) (node_at 4 10 (codes "n") (one 4 14 op.AsAsyncReset (one 4 27 op.AsUInt (ref 4 34 (codes "a")) []) []) ∷ [])

pub reset_converted : legal_faults (converted reset) (λ k. 0) ≡ []
reset_converted = refl

pub async_converted : legal_faults (converted async_reset) (λ k. 0) ≡ []
async_converted = refl

pub wide_converted : legal_faults (converted (uint (Some 2))) (λ k. 0) ≡ wrong_integers (at 4 14) op.AsAsyncReset (2 ∷ []) ∷ []
wide_converted = refl

-- the condition of a validif, before what it lets through
abbrev let_through : CircuitTree
let_through =
    main_only (input 3 11 (codes "a") (uint (Some 2)) ∷ [])
    (node_at 4 10 (codes "n") (validif (at 4 14) (ref 4 22 (codes "a")) (one 4 25 op.Head (ref 4 30 (codes "a")) (3 ∷ []))) ∷ [])

pub let_through_faults : legal_faults let_through (λ k. 0) ≡ wrong_condition (at 4 22) 2 ∷ wrong_integers (at 4 25) op.Head (2 ∷ 3 ∷ []) ∷ []
let_through_faults = refl
