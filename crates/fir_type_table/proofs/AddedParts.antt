-- Parts whose types stand in a table that grows, and masks of them.
use Rattle.std.proofs.Common.{◌≡◌, ℕ, ◌<◌, ◌≤◌, List, [], ◌∷◌, ◌++◌, map, length, refl, sym, ap, ◌∙◌, append_assoc, append-nil, length-append, arith}
use Rattle.std.specs.Prelude.{Some, None, unwrap_or}
use Rattle.std.specs.List.{All}
use Rattle.std.proofs.lemmas.List.{map-append}
use Rattle.std.proofs.lemmas.List.Elements.{All-push}
use Rattle.std.proofs.lemmas.Option.{slice_get_within}
use Rattle.fir_ast.specs.Types.{DataType, uint, Fields, field}
use Rattle.fir_ast.specs.View.{fields_of}
use Rattle.fir_ast.specs.working.TypeViews.{type_step, field_step, type_of}
use Rattle.fir_ast.specs.working.BundleText.{field_of}
use Rattle.fir_ast.specs.declared.types.Field.{Field, fold_out-Field}
use Rattle.fir_meaning.specs.MemoryTypes.{mask_type, mask_fields}
use Rattle.fir_type_table.specs.declared.entry.Part.{Part}
use Rattle.fir_type_table.specs.declared.entry.Entry.{Entry}
use Rattle.fir_type_table.specs.working.Tables.{Adds, type_at, part_of, part_fields, types_of}
use Rattle.fir_type_table.proofs.TableTypes.{type_at_left, all_first, all_rest}

pub adds_then : (old tab new : List Entry) (n : ℕ) (t u : DataType) (more : List DataType) → types_of tab ≡ types_of old ++ more → Adds tab new n t → t ≡ u
    → Adds old new n u
adds_then old tab new n t u more grown adds same = record {
  more = more ++ adds.more;
  grown = adds.grown ∙ ap (λ l. l ++ adds.more) grown ∙ append_assoc (types_of old) more adds.more;
  held = adds.held ∙ ap Some same;
}

part_grown : (ts more : List DataType) (p : Part) → p.ty.number < length ts → part_of (ts ++ more) p ≡ part_of ts p
part_grown ts more p below = ap (λ t. field p.place p.flip p.name p.type_place t) (type_at_left ts more p.ty.number below)

parts_grown : (ts more : List DataType) (ps : List Part) → All (λ p. p.ty.number < length ts) ps → map (part_of (ts ++ more)) ps ≡ map (part_of ts) ps
parts_grown ts more [] below = refl
parts_grown ts more (p ∷ ps) below =
    let P : Part → Type 0 = λ x. x.ty.number < length ts in
    ap (λ f. f ∷ map (part_of (ts ++ more)) ps) (part_grown ts more p (all_first P p ps below))
    ∙ ap (λ fs. part_of ts p ∷ fs) (parts_grown ts more ps (all_rest P p ps below))

-- the parts so far are these fields
pub record AddsMapped (old new : List Entry) (parts : List Part) (made : List (Fields → Fields)) : Type 0 where
  pub more : List DataType
  pub grown : types_of new ≡ types_of old ++ more
  pub below : All (λ p. p.ty.number < length (types_of new)) parts
  pub fields : map (part_of (types_of new)) parts ≡ made

pub adds_none : (old : List Entry) (parts : List Part) → parts ≡ [] → AddsMapped old old parts []
adds_none old parts none = rw none (record { more = []; grown = sym (append-nil (types_of old)); below = λ k d lt. absurd (omega arith); fields = refl })

pub adds_part : (old tab new : List Entry) (parts : List Part) (p : Part) (made : List (Fields → Fields)) (f : Fields → Fields) (t : DataType)
    → AddsMapped old tab parts made → Adds tab new p.ty.number t → field p.place p.flip p.name p.type_place t ≡ f
    → AddsMapped old new (parts ++ p ∷ []) (made ++ f ∷ [])
adds_part old tab new parts p made f t so_far adds same =
    let longer : length (types_of tab) ≤ length (types_of new) =
    omega (arith, ap length adds.grown, length-append (types_of tab) adds.more) in
    let P : Part → Type 0 = λ x. x.ty.number < length (types_of new) in
    let widened : All P parts = λ k d lt. let h = so_far.below k d lt in omega arith in
    let held : type_at (types_of new) p.ty.number ≡ t = ap (λ o. unwrap_or o (uint None)) adds.held in
    let kept : map (part_of (types_of new)) parts ≡ made =
    ap (λ l. map (part_of l) parts) adds.grown ∙ parts_grown (types_of tab) adds.more parts so_far.below ∙ so_far.fields in
    let last : part_of (types_of new) p ≡ f = ap (λ u. field p.place p.flip p.name p.type_place u) held ∙ same in
    record {
      more = so_far.more ++ adds.more;
      grown = adds.grown ∙ ap (λ l. l ++ adds.more) so_far.grown ∙ append_assoc (types_of old) so_far.more adds.more;
      below = All-push P parts p widened (slice_get_within (types_of new) p.ty.number t adds.held);
      fields = map-append (part_of (types_of new)) parts (p ∷ []) ∙ ap (λ l. l ++ part_of (types_of new) p ∷ []) kept ∙ ap (λ g. made ++ g ∷ []) last;
    }

-- a part, and the fields of the mask
abbrev pub mask_part : List DataType → Part → Fields → Fields
mask_part ts p rest = field p.place p.flip p.name p.type_place (mask_type (type_at ts p.ty.number)) rest

pub masks_are : (ts : List DataType) (ps : List Part) → fields_of (map (mask_part ts) ps) ≡ mask_fields (part_fields ts ps)
masks_are ts [] = refl
masks_are ts (p ∷ ps) = ap (field p.place p.flip p.name p.type_place (mask_type (type_at ts p.ty.number))) (masks_are ts ps)

pub field_made : (f : Field) (p : Part) → p.place ≡ f.place → p.flip ≡ f.flip → p.name ≡ f.name → p.type_place ≡ f.type_place
    → field p.place p.flip p.name p.type_place (type_of f.ty) ≡ field_of f
field_made f p place flip name begins =
    rw (place, flip, name, begins) (sym (fold_out-Field DataType (Fields → Fields) type_step field_step f))
