-- The side of a reference, by its note.
use Rattle.std.proofs.Common.{◌≡◌, ℕ, ◌+◌, ◌<◌, ◌^◌, List, ◌∷◌, length, get_or, Option, Some, None, refl, sym, ap, ◌∙◌, arith}
use Rattle.std.specs.Prelude.{option_map, slice_get}
use Rattle.fir_ast.specs.Types.{DataType}
use Rattle.fir_ast.specs.Statements.{SinkReference}
use Rattle.fir_meaning.specs.Reaching.{Reached}
use Rattle.fir_meaning.specs.TypeKinds.{bare}
use Rattle.fir_meaning.specs.TypedScopes.{TypedScope}
use Rattle.fir_meaning.specs.SizedScopes.{SizedScope, sink_expression, sized_in, sized_part, sized_type}
use Rattle.fir_meaning.specs.working.WellTyped.{Reaches}
use Rattle.fir_meaning.specs.WidthExpressions.{Rule, Width}
use Rattle.fir_meaning.proofs.FoundTypes.{found_sink}
use Rattle.fir_type_table.specs.working.Saturated.{saturated}
use Rattle.fir_types.specs.declared.note.LeafRange.{LeafRange as RangeOfCode}
use Rattle.fir_types.specs.declared.note.Note.{Note as NoteOfCode}
use Rattle.fir_types.specs.declared.note.Note.TheVariants as code
use Rattle.fir_types.specs.working.Notes.{LeafRange, Note, of_reference, position_of, range_behind, range_where, reference_note, root_range, whole_range}
use Rattle.fir_types.specs.working.Noted.{note_seen, range_seen, saturated_note, saturated_range}
use Rattle.fir_types.specs.working.Seen.{found_type}
use Rattle.fir_infer_widths.specs.declared.ground.Ground.{Ground}
use Rattle.fir_width.specs.declared.side.Side.{Side}
use Rattle.fir_infer_widths.specs.declared.walk.Walk.{Walk}
use Rattle.fir_width.specs.working.FlatWidths.{flat}
use Rattle.fir_infer_widths.specs.working.Scenes.{AllStand}
use Rattle.fir_width.specs.working.Sides.{IsSide}
use Rattle.fir_infer_widths.specs.working.Walks.{Enters, types_in}
use Rattle.fir_infer_widths.proofs.NotesAhead.{first_seen}
use Rattle.fir_infer_widths.proofs.KnownSides.{root_stands}
use Rattle.fir_infer_widths.proofs.RangeSides.{ReachStands, parts_declare, parts_reached, stands_saturated}

-- what the note of a reference is that reaches something
record Ranges (meant : List Width) (firsts : List ℕ) (typed : TypedScope) (sized : SizedScope) (s : SinkReference) (r : Reached) : Type 0 where
  range : LeafRange
  note : reference_note typed s ≡ of_reference (Some range)
  first : ℕ
  begins : slice_get firsts range.declaration ≡ Some first
  leaves : ReachStands meant first range (sized_part (sized_in sized s.name) s.parts) r

ranges : (meant : List Width) (firsts : List ℕ) (typed : TypedScope) (sized : SizedScope) (s : SinkReference) (r : Reached) → AllStand meant firsts typed sized → Reaches typed s r
    → Ranges meant firsts typed sized s r
ranges meant firsts typed sized s r stand reaches =
    let root = root_stands meant firsts typed sized stand s.name reaches.0 reaches.1 in
    let whole = whole_range (position_of typed s.name) reaches.0.data_type in
    let begins : root.name.first + 0 ≡ root.name.first = omega arith in
    let range = range_behind whole s.parts in
    record {
      range = range;
      note =
          ap (λ x. of_reference (range_where x (option_map (λ y. range_behind y s.parts) (root_range typed s.name)))) (ap (λ x. x.has) (found_sink typed s r reaches))
          ∙ ap (λ x. of_reference (option_map (λ y. range_behind y s.parts) x)) root.range;
      first = root.name.first;
      begins = ap (slice_get firsts) (parts_declare whole s.parts) ∙ root.name.position;
      leaves =
          parts_reached meant typed root.name.first whole (sized_in sized s.name) reaches.0 r s.parts
          (record { data_type = refl; leaves = record { shape = root.name.shape; stands = rw begins root.name.stands } }) reaches.2;
    }

-- the code's range is that range, with numbers that stand still
record RangeRead (ts : List DataType) (own : RangeOfCode) (range : LeafRange) : Type 0 where
  declaration : own.declaration ≡ range.declaration
  data_type : found_type ts own.found ≡ range.data_type
  shared_offset : own.shared_offset ≡ saturated range.shared_offset

range_read : (ts : List DataType) (own : RangeOfCode) (n : Note) (range : LeafRange) → n ≡ of_reference (Some range)
    → note_seen ts (code.Reference (Some own)) ≡ saturated_note n → RangeRead ts own range
range_read ts own n range is seen =
    let both : of_reference (Some (range_seen ts own)) ≡ of_reference (Some (saturated_range range)) = seen ∙ ap saturated_note is in
    let same : range_seen ts own ≡ saturated_range range = cc in
    record {
      declaration = ap (λ (x : LeafRange). x.declaration) same;
      data_type = ap (λ (x : LeafRange). x.data_type) same;
      shared_offset = ap (λ (x : LeafRange). x.shared_offset) same;
    }

named_side : (ts : List DataType) (meant : List Width) (firsts : List ℕ) (typed : TypedScope) (sized : SizedScope) (s : SinkReference) (r : Reached) → AllStand meant firsts typed sized
    → length meant < 2 ^ 64 → Reaches typed s r → (own : RangeOfCode) → note_seen ts (code.Reference (Some own)) ≡ saturated_note (reference_note typed s) → (side : Side)
    → ((first : ℕ) → slice_get firsts own.declaration ≡ Some first → side ≡ record { found = own.found; first = saturated (first + own.shared_offset) })
    → IsSide ts meant side (sized_type sized (sink_expression s))
named_side ts meant firsts typed sized s r stand small reaches own seen side is =
    let known = ranges meant firsts typed sized s r stand reaches in
    let read = range_read ts own (reference_note typed s) known.range known.note seen in
    let here = is known.first (ap (slice_get firsts) read.declaration ∙ known.begins) in
    rw here record {
      shape = known.leaves.leaves.shape ∙ ap bare (sym (read.data_type ∙ known.leaves.data_type));
      stands =
          rw read.shared_offset
          (stands_saturated meant (flat (sized_part (sized_in sized s.name) s.parts)) known.first known.range.shared_offset small known.leaves.leaves.stands);
    }

-- and None is not the note of a reference that reaches something
no_nothing : (ts : List DataType) (meant : List Width) (firsts : List ℕ) (typed : TypedScope) (sized : SizedScope) (s : SinkReference) (r : Reached) → AllStand meant firsts typed sized
    → Reaches typed s r → note_seen ts (code.Reference None) ≡ saturated_note (reference_note typed s) → ⊥
no_nothing ts meant firsts typed sized s r stand reaches seen =
    let known = ranges meant firsts typed sized s r stand reaches in
    let both : of_reference None ≡ of_reference (Some (saturated_range known.range)) = seen ∙ ap saturated_note known.note in
    cc

-- in front of the note of a reference
pub side_ahead : (g : Ground) (meant : List Width) (rules : List Rule) (typed : TypedScope) (sized : SizedScope) (s : SinkReference) (r : Reached) (rest : List Note) (walk : Walk)
    → Enters g typed sized meant rules (reference_note typed s ∷ rest) walk → length meant < 2 ^ 64 → Reaches typed s r → (x : NoteOfCode) (o : Option RangeOfCode)
    → x ≡ get_or walk.notes.now 0 x → x ≡ code.Reference o → (side : Side)
    → ((own : RangeOfCode) (first : ℕ) → o ≡ Some own → slice_get g.first_leaves.now own.declaration ≡ Some first
    → side ≡ record { found = own.found; first = saturated (first + own.shared_offset) })
    → IsSide (types_in g) meant side (sized_type sized (sink_expression s))
side_ahead g meant rules typed sized s r rest walk enters small reaches x o item is side told =
    by o (ap (note_seen (types_in g)) (sym is) ∙ first_seen (types_in g) walk.notes.now (reference_note typed s) rest enters.ahead x item) told
  where
    by : (o : Option RangeOfCode) → note_seen (types_in g) (code.Reference o) ≡ saturated_note (reference_note typed s)
        → ((own : RangeOfCode) (first : ℕ) → o ≡ Some own → slice_get g.first_leaves.now own.declaration ≡ Some first
        → side ≡ record { found = own.found; first = saturated (first + own.shared_offset) })
        → IsSide (types_in g) meant side (sized_type sized (sink_expression s))
    by None seen told = absurd (no_nothing (types_in g) meant g.first_leaves.now typed sized s r enters.stand reaches seen)
    by (Some own) seen told =
        named_side (types_in g) meant g.first_leaves.now typed sized s r enters.stand small reaches own seen side (λ first at. told own first refl at)
