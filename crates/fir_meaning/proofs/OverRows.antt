-- Worked circuits, computed: what is over 128 bits.
use Rattle.std.proofs.Common.{◌≡◌, List, [], ◌∷◌, false, Some, refl}
use Rattle.std.specs.Prelude.{codes}
use Rattle.fir_bits.specs.declared.operators.PrimOp.TheVariants as op
use Rattle.fir_bits.specs.Literals.{least_width}
use Rattle.fir_ast.specs.Types.{uint, bundle, vector, no_fields}
use Rattle.fir_ast.specs.Expressions.{Expression, no_parts, subaccess, mux, validif}
use Rattle.fir_ast.specs.Statements.{Statement, MemoryPart, instance, memory, when, invalid, data_type, depth, reader}
use Rattle.fir_ast.specs.Circuits.{PortTree, CircuitTree}
use Rattle.fir_meaning.specs.LeafPaths.{named, element}
use Rattle.fir_meaning.specs.WidthExpressions.{known, pair, guarded as guarded_width, width_under}
use Rattle.fir_meaning.specs.WidthRules.{rules, AreWidths}
use Rattle.fir_meaning.specs.SizeFaults.{word_over, leaf_over}
use Rattle.fir_meaning.specs.OverFaults.{over_faults}
use Rattle.fir_meaning.proofs.SmallTrees.{at, name_at, input, output, part_of, ref, picked_of, field_of, uint_literal, one, two, wire_at, node_at, assign_to, assign, block, module_at, circuit, main_only}
use Rattle.fir_meaning.proofs.WidthRows.{growing}
use Rattle.fir_meaning.proofs.LeastRows.{grown, only, one_rule}

-- a register that grows by one each tick: its leaf first, then each read of it, and the sum
pub growing_over : over_faults growing grown
    ≡ leaf_over (at 5 9) (named (codes "r") ∷ []) ∷ leaf_over (at 6 10) (named (codes "r") ∷ []) ∷ leaf_over (at 7 5) (named (codes "r") ∷ [])
    ∷ leaf_over (at 7 14) (named (codes "r") ∷ []) ∷ word_over (at 7 10) (codes "add") ∷ []
growing_over = refl

-- operands of 128 bits
abbrev wide_ports : List PortTree
wide_ports =
    input 3 11 (codes "a") (uint (Some 128)) ∷ input 4 11 (codes "b") (uint (Some 128)) ∷ output 5 12 (codes "o") (uint (Some 128))
    ∷ input 6 11 (codes "i") (uint (Some 1)) ∷ []

-- a sum of 129 bits; the operation on it is over too
abbrev wide : CircuitTree
wide = main_only wide_ports (assign 7 5 (codes "o") (one 7 10 op.Tail (two 7 15 op.Add (ref 7 19 (codes "a")) (ref 7 22 (codes "b"))) (1 ∷ [])) ∷ [])

pub wide_rules : rules wide ≡ []
wide_rules = refl

pub wide_over : over_faults wide (λ k. 0) ≡ word_over (at 7 15) (codes "add") ∷ word_over (at 7 10) (codes "tail") ∷ []
wide_over = refl

-- a literal
abbrev wide_literal : CircuitTree
wide_literal = main_only wide_ports (assign 7 5 (codes "o") (uint_literal 7 10 (Some 129) 1) ∷ [])

pub wide_literal_over : over_faults wide_literal (λ k. 0) ≡ word_over (at 7 10) (codes "literal") ∷ []
wide_literal_over = refl

-- a vector of length 0, and one statement behind it
abbrev with_empty : List Statement → CircuitTree
with_empty body = main_only wide_ports (wire_at 7 10 (codes "v") (vector (uint (Some 200)) 0) ∷ body)

-- alone it has no leaf
pub empty_over : over_faults (with_empty []) (λ k. 0) ≡ []
empty_over = refl

-- a read of it is over
abbrev read_empty : CircuitTree
read_empty = with_empty (assign 8 5 (codes "o") (picked_of 8 10 (codes "v") (ref 8 12 (codes "i"))) ∷ [])

pub read_empty_rules : rules read_empty ≡ []
read_empty_rules = refl

pub read_empty_over : over_faults read_empty (λ k. 0) ≡ leaf_over (at 8 10) (named (codes "v") ∷ element 0 ∷ []) ∷ []
read_empty_over = refl

-- the leaf of a node stands before its expression
abbrev node_empty : CircuitTree
node_empty = with_empty (node_at 8 10 (codes "n") (picked_of 8 14 (codes "v") (ref 8 16 (codes "i"))) ∷ [])

pub node_empty_widths : AreWidths node_empty (only 5 200)
node_empty_widths = one_rule 5 200

pub node_empty_over : over_faults node_empty (only 5 200)
    ≡ leaf_over (at 8 10) (named (codes "n") ∷ []) ∷ leaf_over (at 8 14) (named (codes "v") ∷ element 0 ∷ []) ∷ []
node_empty_over = refl

-- as a sink it stands at its first token
abbrev sink_empty : CircuitTree
sink_empty = with_empty (assign_to 8 5 (codes "v") (subaccess (at 8 6) (ref 8 7 (codes "i")) no_parts) (ref 8 13 (codes "i")) ∷ [])

pub sink_empty_rules : rules sink_empty ≡ []
sink_empty_rules = refl

pub sink_empty_over : over_faults sink_empty (λ k. 0) ≡ leaf_over (at 8 5) (named (codes "v") ∷ element 0 ∷ []) ∷ []
sink_empty_over = refl

-- an index that is over makes nothing else over
abbrev wide_index : CircuitTree
wide_index =
    main_only wide_ports
    (wire_at 7 10 (codes "v") (vector (uint (Some 4)) 2)
    ∷ assign 8 5 (codes "o") (picked_of 8 10 (codes "v") (two 8 12 op.Cat (ref 8 16 (codes "a")) (ref 8 19 (codes "b")))) ∷ [])

pub wide_index_over : over_faults wide_index (λ k. 0) ≡ word_over (at 8 12) (codes "cat") ∷ []
wide_index_over = refl

-- a reference is over by its own leaf alone
abbrev narrow_field : CircuitTree
narrow_field =
    main_only wide_ports
    (wire_at 7 10 (codes "p") (bundle (part_of false (codes "x") (uint (Some 1)) (part_of false (codes "y") (vector (uint (Some 200)) 2) no_fields)))
    ∷ assign 8 5 (codes "o") (field_of 8 10 (codes "p") (codes "x")) ∷ [])

pub narrow_field_over : over_faults narrow_field (λ k. 0) ≡ leaf_over (at 7 10) (named (codes "p") ∷ named (codes "y") ∷ element 0 ∷ []) ∷ []
narrow_field_over = refl

-- a port of an instance counts at the instance, beside the module's port at its declaration
abbrev parent_first : CircuitTree
parent_first =
    circuit
    (module_at 2 10 (codes "T") [] (instance (at 3 5) (name_at 3 10 (codes "i")) (name_at 3 15 (codes "M")) ∷ [])
    ∷ module_at 4 10 (codes "M") (input 5 11 (codes "x") (uint (Some 200)) ∷ []) [] ∷ [])

pub parent_first_over : over_faults parent_first (λ k. 0)
    ≡ leaf_over (at 3 10) (named (codes "i") ∷ named (codes "x") ∷ []) ∷ leaf_over (at 5 11) (named (codes "x") ∷ []) ∷ []
parent_first_over = refl

-- a memory; without ports its array is left
abbrev with_memory : List MemoryPart → CircuitTree
with_memory parts = main_only [] (memory (at 3 5) (name_at 3 9 (codes "m")) (depth (at 4 7) 4 ∷ parts) ∷ [])

abbrev wide_words : MemoryPart
wide_words = data_type (at 5 7) (at 5 20) (uint (Some 200))

pub array_over : over_faults (with_memory (wide_words ∷ [])) (λ k. 0) ≡ leaf_over (at 3 9) (named (codes "m") ∷ []) ∷ []
array_over = refl

pub array_field_over : over_faults (with_memory (data_type (at 5 7) (at 5 20) (bundle (part_of false (codes "x") (uint (Some 200)) no_fields)) ∷ [])) (λ k. 0)
    ≡ leaf_over (at 3 9) (named (codes "m") ∷ named (codes "x") ∷ []) ∷ []
array_field_over = refl

pub reader_over : over_faults (with_memory (wide_words ∷ reader (at 6 7) (name_at 6 17 (codes "r") ∷ []) ∷ [])) (λ k. 0)
    ≡ leaf_over (at 3 9) (named (codes "m") ∷ named (codes "r") ∷ named (codes "data") ∷ []) ∷ []
unfolding least_width
reader_over = refl

-- where a condition is over so is each leaf; the word is told once
abbrev wide_condition : Expression
wide_condition = two 9 20 op.Cat (ref 9 24 (codes "a")) (ref 9 27 (codes "b"))

abbrev guarded : Expression → CircuitTree
guarded e =
    main_only wide_ports
    (wire_at 7 10 (codes "p") (bundle (part_of false (codes "x") (uint (Some 1)) (part_of false (codes "y") (uint (Some 1)) no_fields)))
    ∷ wire_at 8 10 (codes "q") (bundle (part_of false (codes "x") (uint (Some 1)) (part_of false (codes "y") (uint (Some 1)) no_fields)))
    ∷ assign 9 5 (codes "q") e ∷ [])

pub mux_over : over_faults (guarded (mux (at 9 16) wide_condition (ref 9 31 (codes "p")) (ref 9 34 (codes "p")))) (λ k. 0)
    ≡ word_over (at 9 20) (codes "cat") ∷ word_over (at 9 16) (codes "mux") ∷ []
mux_over = refl

pub validif_over : over_faults (guarded (validif (at 9 12) wide_condition (ref 9 31 (codes "p")))) (λ k. 0)
    ≡ word_over (at 9 20) (codes "cat") ∷ word_over (at 9 12) (codes "validif") ∷ []
validif_over = refl

-- of a node too
abbrev guarded_node : CircuitTree
guarded_node =
    main_only wide_ports
    (wire_at 7 10 (codes "p") (bundle (part_of false (codes "x") (uint (Some 1)) (part_of false (codes "y") (uint (Some 1)) no_fields)))
    ∷ node_at 9 10 (codes "n") (validif (at 9 12) wide_condition (ref 9 31 (codes "p"))) ∷ [])

pub guarded_node_rules : rules guarded_node
    ≡ record { number = 6; at_least = guarded_width (pair op.Cat false (known 128) (known 128)) (known 1) }
    ∷ record { number = 7; at_least = guarded_width (pair op.Cat false (known 128) (known 128)) (known 1) } ∷ []
guarded_node_rules = refl

pub guarded_width_over : width_under (guarded_width (pair op.Cat false (known 128) (known 128)) (known 1)) (λ k. 0) ≡ 129
guarded_width_over = refl

pub guarded_node_over : over_faults guarded_node (λ k. 129)
    ≡ leaf_over (at 9 10) (named (codes "n") ∷ named (codes "x") ∷ []) ∷ leaf_over (at 9 10) (named (codes "n") ∷ named (codes "y") ∷ [])
    ∷ word_over (at 9 20) (codes "cat") ∷ word_over (at 9 12) (codes "validif") ∷ []
guarded_node_over = refl

-- an AsyncReset leaf has one bit, also where the operation that drives it is over
abbrev async_node : CircuitTree
async_node = main_only wide_ports (node_at 9 10 (codes "n") (one 9 14 op.AsAsyncReset wide_condition []) ∷ [])

pub async_node_rules : rules async_node ≡ []
async_node_rules = refl

pub async_node_over : over_faults async_node (λ k. 0) ≡ word_over (at 9 20) (codes "cat") ∷ word_over (at 9 14) (codes "asAsyncReset") ∷ []
async_node_over = refl

-- a memory of vectors of length 0 has no leaf
abbrev empty_words : MemoryPart
empty_words = data_type (at 5 7) (at 5 20) (vector (uint (Some 200)) 0)

pub empty_array_over : over_faults (with_memory (empty_words ∷ [])) (λ k. 0) ≡ []
empty_array_over = refl

-- in both blocks of a when, and as what is invalid
abbrev inside : CircuitTree
inside =
    with_empty
    (when (at 8 5) (ref 8 10 (codes "i"))
    (block (invalid (at 9 7) (record { place = at 9 7; name = codes "v"; parts = subaccess (at 9 8) (ref 9 9 (codes "i")) no_parts }) ∷ []))
    (block (wire_at 11 12 (codes "u") (uint (Some 300)) ∷ [])) ∷ [])

pub inside_over : over_faults inside (λ k. 0)
    ≡ leaf_over (at 9 7) (named (codes "v") ∷ element 0 ∷ []) ∷ leaf_over (at 11 12) (named (codes "u") ∷ []) ∷ []
inside_over = refl
