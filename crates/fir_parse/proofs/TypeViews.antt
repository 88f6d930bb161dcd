-- What each form of a type of the code stands for.
use Rattle.std.proofs.Common.{◌≡◌, ℕ, Option, map, sym, ap, ◌∙◌, Vec, Box, Global}
use Rattle.fir_ast.specs.declared.types.Field.{Field}
use Rattle.fir_ast.specs.declared.types.Ty.{Ty, fold-roll-Ty}
use Rattle.fir_ast.specs.declared.types.Ty.TheVariants as code
use Rattle.fir_ast.specs.declared.types.Ty.TheOpen as layer
use Rattle.fir_ast.specs.Types.{DataType, uint, sint, clock, reset, async_reset, bundle, vector, Fields}
use Rattle.fir_ast.specs.working.BundleText.{field_of}
use Rattle.fir_ast.specs.View.{fields_of}
use Rattle.fir_ast.specs.working.TypeViews.{type_of, type_step, field_step}

pub uint_view : (w : Option ℕ) → type_of (code.UInt w) ≡ uint w
uint_view w = ap type_of (sym (code.rolls-UInt w)) ∙ fold-roll-Ty DataType (Fields → Fields) type_step field_step (layer.UInt w)

pub sint_view : (w : Option ℕ) → type_of (code.SInt w) ≡ sint w
sint_view w = ap type_of (sym (code.rolls-SInt w)) ∙ fold-roll-Ty DataType (Fields → Fields) type_step field_step (layer.SInt w)

pub clock_view : type_of code.Clock ≡ clock
clock_view = ap type_of (sym code.rolls-Clock) ∙ fold-roll-Ty DataType (Fields → Fields) type_step field_step layer.Clock

pub reset_view : type_of code.Reset ≡ reset
reset_view = ap type_of (sym code.rolls-Reset) ∙ fold-roll-Ty DataType (Fields → Fields) type_step field_step layer.Reset

pub async_reset_view : type_of code.AsyncReset ≡ async_reset
async_reset_view = ap type_of (sym code.rolls-AsyncReset) ∙ fold-roll-Ty DataType (Fields → Fields) type_step field_step layer.AsyncReset

pub bundle_view : (fs : Vec Field Global) → type_of (code.Bundle fs) ≡ bundle (fields_of (map field_of fs.items))
bundle_view fs = ap type_of (sym (code.rolls-Bundle fs)) ∙ fold-roll-Ty DataType (Fields → Fields) type_step field_step (layer.Bundle fs)

pub vector_view : (t : Box Ty Global) (n : ℕ) → type_of (code.Vector t n) ≡ vector (type_of t.value) n
vector_view t n = ap type_of (sym (code.rolls-Vector t n)) ∙ fold-roll-Ty DataType (Fields → Fields) type_step field_step (layer.Vector t n)
