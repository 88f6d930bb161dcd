-- The text of a bundle's fields grows with each field.
use Rattle.std.proofs.Common.{◌≡◌, ℕ, ◌+◌, ◌<◌, ◌≤◌, zero, suc, List, [], ◌∷◌, ◌++◌, map, take, get_or, length, refl, sym, ap, ◌∙◌, append_assoc, arith}
use Rattle.std.specs.Prelude.{codes}
use Rattle.std.proofs.lemmas.List.{append-nil, take_more}
use Rattle.fir_ast.specs.declared.types.Field.{Field, fold_out-Field}
use Rattle.fir_ast.specs.Types.{DataType, Fields, no_fields, field}
use Rattle.fir_ast.specs.View.{fields_of}
use Rattle.fir_ast.specs.working.TypeViews.{type_step, field_step, type_of}
use Rattle.fir_ast.specs.Texts.{flip_text, type_text, next_fields_text}
use Rattle.fir_ast.specs.working.BundleText.{bundle_text, field_of}

pub field_of-is : (f : Field) (rest : Fields) → field_of f rest ≡ field f.place f.flip f.name f.type_place (type_of f.ty) rest
field_of-is f rest = ap (λ (g : Fields → Fields). g rest) (fold_out-Field DataType (Fields → Fields) type_step field_step f)

-- one field
abbrev pub field_text : Field → List ℕ
field_text f = flip_text f.flip ++ f.name ++ codes ": " ++ type_text (type_of f.ty)

abbrev fields_in : List Field → Fields
fields_in fs = fields_of (map field_of fs)

first_text : (f : Field) (rest : Fields) → bundle_text (field_of f rest) ≡ field_text f ++ next_fields_text rest
first_text f rest = ap bundle_text (field_of-is f rest)

next_text : (f : Field) (rest : Fields) → next_fields_text (field_of f rest) ≡ codes ", " ++ (field_text f ++ next_fields_text rest)
next_text f rest = ap next_fields_text (field_of-is f rest)

next_push : (fs : List Field) (f : Field) → next_fields_text (fields_in (fs ++ f ∷ [])) ≡ next_fields_text (fields_in fs) ++ (codes ", " ++ field_text f)
next_push [] f = next_text f no_fields ∙ ap (λ l. codes ", " ++ l) (append-nil (field_text f))
next_push (x ∷ fs) f =
    let before = codes ", " ++ field_text x in
    let more = next_fields_text (fields_in fs) in
    next_text x (fields_in (fs ++ f ∷ [])) ∙ ap (λ l. before ++ l) (next_push fs f) ∙ sym (append_assoc before more (codes ", " ++ field_text f))
    ∙ ap (λ l. l ++ (codes ", " ++ field_text f)) (sym (next_text x (fields_in fs)))

bundle_push : (x : Field) (fs : List Field) (f : Field) → bundle_text (fields_in (x ∷ (fs ++ f ∷ []))) ≡ bundle_text (fields_in (x ∷ fs)) ++ (codes ", " ++ field_text f)
bundle_push x fs f =
    first_text x (fields_in (fs ++ f ∷ [])) ∙ ap (λ l. field_text x ++ l) (next_push fs f) ∙ sym (append_assoc (field_text x) (next_fields_text (fields_in fs)) (codes ", " ++ field_text f))
    ∙ ap (λ l. l ++ (codes ", " ++ field_text f)) (sym (first_text x (fields_in fs)))

-- the first field
pub bundle_first : (fs : List Field) (i : ℕ) (f : Field) → i < length fs → i ≤ 0 → f ≡ get_or fs i f → bundle_text (fields_in (take (i + 1) fs)) ≡ bundle_text (fields_in (take i fs)) ++ ([] ++ field_text f)
bundle_first (x ∷ fs) zero f h z e = first_text x no_fields ∙ append-nil (field_text x) ∙ ap field_text (sym e)
bundle_first [] zero f h z e = absurd (omega arith)
bundle_first fs (suc i) f h z e = absurd (omega arith)

-- a field behind another
pub bundle_next : (fs : List Field) (i : ℕ) (f : Field) → i < length fs → 0 < i → f ≡ get_or fs i f → bundle_text (fields_in (take (i + 1) fs)) ≡ bundle_text (fields_in (take i fs)) ++ (codes ", " ++ field_text f)
bundle_next (x ∷ fs) (suc i) f h z e =
    let more : take (suc i + 1) (x ∷ fs) ≡ x ∷ (take i fs ++ f ∷ []) = take_more (x ∷ fs) (suc i) f h ∙ ap (λ y. x ∷ (take i fs ++ y ∷ [])) (sym e) in
    ap (λ l. bundle_text (fields_in l)) more ∙ bundle_push x (take i fs) f
bundle_next fs zero f h z e = absurd (omega arith)
bundle_next [] i f h z e = absurd (omega arith)

-- a field written behind the fields before it
pub field_written : (start b0 b1 comma label type a0 a1 a2 a3 : List ℕ) → a0 ≡ start ++ b0 → a1 ≡ a0 ++ comma → a2 ≡ a1 ++ label → a3 ≡ a2 ++ type → b1 ≡ b0 ++ (comma ++ (label ++ type)) → a3 ≡ start ++ b1
field_written start b0 b1 comma label type a0 a1 a2 a3 e0 e1 e2 e3 more = rw (e3, e2, e1, e0, more) (simp append_assoc)
