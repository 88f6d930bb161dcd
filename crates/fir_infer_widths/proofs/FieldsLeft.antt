-- The fields of a type that is written, one by one, and its elements.
use Rattle.std.proofs.Common.{◌≡◌, ℕ, ◌+◌, ◌<◌, List, map, drop, get_or, length, sym, ap, ◌∙◌, Box, Global}
use Rattle.std.specs.Option.{option_or}
use Rattle.std.specs.Prelude.{Option}
use Rattle.std.proofs.lemmas.List.{drop_more}
use Rattle.fir_ast.specs.declared.types.Field.{Field}
use Rattle.fir_ast.specs.declared.types.Ty.{Ty, fold-roll-Ty}
use Rattle.fir_ast.specs.declared.types.Ty.TheVariants as code
use Rattle.fir_ast.specs.declared.types.Ty.TheOpen as layer
use Rattle.fir_ast.specs.Types.{DataType, vector, Fields, field}
use Rattle.fir_ast.specs.View.{fields_of}
use Rattle.fir_ast.specs.working.TypeViews.{type_step, field_step, type_of}
use Rattle.fir_ast.specs.working.BundleText.{field_of}
use Rattle.fir_ast.proofs.Fields.{field_of-is}
use Rattle.fir_meaning.specs.LeafPaths.{LeafPath, named}
use Rattle.fir_meaning.specs.SharedLeaves.{shared_count}
use Rattle.fir_infer_widths.specs.working.FirstLeaves.{first_where}
use Rattle.fir_infer_widths.specs.working.NumberedLeaves.{numbered_under, numbered_leaves, numbered_field_leaves}
use Rattle.fir_infer_widths.proofs.FirstLeaves.{Test, where_joined}

pub vector_view : (t : Box Ty Global) (n : ℕ) → type_of (code.Vector t n) ≡ vector (type_of t.value) n
vector_view t n = ap type_of (sym (code.rolls-Vector t n)) ∙ fold-roll-Ty DataType (Fields → Fields) type_step field_step (layer.Vector t n)

-- the fields from number i on
abbrev pub fields_from : List Field → ℕ → Fields
fields_from fs i = fields_of (map field_of (drop i fs))

fields_next : (fs : List Field) (i : ℕ) (f : Field) → i < length fs → f ≡ get_or fs i f
    → fields_from fs i ≡ field f.place f.flip f.name f.type_place (type_of f.ty) (fields_from fs (i + 1))
fields_next fs i f h e =
    ap (λ l. fields_of (map field_of l)) (drop_more fs i f h) ∙ ap (λ x. field_of x (fields_from fs (i + 1))) (sym e) ∙ field_of-is f (fields_from fs (i + 1))

pub next_field : (test : Test) (fs : List Field) (i n : ℕ) (f : Field) (w : Option LeafPath)
    → w ≡ first_where test (numbered_field_leaves n (fields_from fs i)) → i < length fs → f ≡ get_or fs i f
    → w ≡ option_or (first_where test (map (numbered_under f.flip (named f.name)) (numbered_leaves n (type_of f.ty))))
    (first_where test (numbered_field_leaves (n + shared_count (type_of f.ty)) (fields_from fs (i + 1))))
next_field test fs i n f w so_far within at =
    so_far ∙ ap (λ gs. first_where test (numbered_field_leaves n gs)) (fields_next fs i f within at)
    ∙ where_joined test (map (numbered_under f.flip (named f.name)) (numbered_leaves n (type_of f.ty)))
    (numbered_field_leaves (n + shared_count (type_of f.ty)) (fields_from fs (i + 1)))
