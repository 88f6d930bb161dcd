-- The shape of the traces of a tree has the widths of the tree.
use Rattle.std.proofs.Common.{◌≡◌, ℕ, ◌+◌, List, [], ◌∷◌, ◌++◌, map, length, replicate, refl, sym, ap, ◌∙◌}
use Rattle.std.specs.Prelude.{Option, Some, None, IfSome, flat_map}
use Rattle.fir_base.specs.Ticks.{Shape}
use Rattle.trace_text.specs.declared.shape.StateWord.{StateWord}
use Rattle.trace_text.specs.Shapes.{TraceShape, plain, size_of, state_widths}
use Rattle.ver_ast.specs.declared.tree.Verilog.{Verilog}
use Rattle.ver_ast.specs.declared.tree.Item.{Item}
use Rattle.ver_ast.specs.declared.tree.Item.TheVariants as item
use Rattle.ver_ast.specs.Nets.{Variable, variables, variable_widths, reg_net, reg_variable, regs, item_array, arrays, shape, input_nets, widths_of, clocks}
use Rattle.ver_sim.specs.TraceShapes.{reg_word, array_word, trace_shape}
use Rattle.ver_sim.proofs.PairLists.{flat_map-append}

register_widths : (is : List Item) → state_widths (flat_map reg_word is) ≡ variable_widths (map reg_variable (flat_map reg_net is))
register_widths [] = refl
register_widths (item.Reg n ∷ is) = ap (λ ws. n.width ∷ ws) (register_widths is)
register_widths (item.Wire n ∷ is) = register_widths is
register_widths (item.Array a ∷ is) = register_widths is
register_widths (item.Assign a ∷ is) = register_widths is
register_widths (item.Always b ∷ is) = register_widths is
register_widths (item.Resetting b ∷ is) = register_widths is
register_widths (item.Writing b ∷ is) = register_widths is

array_widths : (is : List Item) → state_widths (flat_map array_word is) ≡ variable_widths (flat_map item_array is)
array_widths [] = refl
array_widths (item.Array a ∷ is) = ap (λ ws. replicate (a.last + 1) a.width ++ ws) (array_widths is)
array_widths (item.Wire n ∷ is) = array_widths is
array_widths (item.Reg n ∷ is) = array_widths is
array_widths (item.Assign a ∷ is) = array_widths is
array_widths (item.Always b ∷ is) = array_widths is
array_widths (item.Resetting b ∷ is) = array_widths is
array_widths (item.Writing b ∷ is) = array_widths is

both_widths : (v : Verilog) → state_widths (trace_shape v).state ≡ variable_widths (variables v)
both_widths v =
    flat_map-append (λ (s : StateWord). replicate (size_of s) s.width) (flat_map reg_word v.items) (flat_map array_word v.items)
    ∙ ap (λ (ws : List ℕ). ws ++ state_widths (flat_map array_word v.items)) (register_widths v.items)
    ∙ ap (λ (ws : List ℕ). variable_widths (map reg_variable (regs v)) ++ ws) (array_widths v.items)
    ∙ sym (flat_map-append (λ (k : Variable). replicate k.depth k.width) (map reg_variable (regs v)) (arrays v))

abbrev with_state : Verilog → List ℕ → Shape
with_state v ws = record { inputs = widths_of (input_nets v); clocks = length (clocks v); state = ws }

pub plain_shape : (v : Verilog) → plain (trace_shape v) ≡ shape v
plain_shape v = ap (with_state v) (both_widths v)

pub some_plain : (v : Verilog) (o : Option TraceShape) → IfSome o (λ (s : TraceShape). s ≡ trace_shape v) → IfSome o (λ (s : TraceShape). plain s ≡ shape v)
some_plain v None h = h
some_plain v (Some s) h = ap plain h ∙ plain_shape v
