-- Notes of expressions that are passed, one behind the other.
use Rattle.std.proofs.Common.{◌≡◌, ℕ, ◌+◌, ◌<◌, List, ◌++◌, map, drop, length, get_or, Option, Some, None, refl, ap, subst, ◌∙◌, append_assoc, inl, inr, ◌⊎◌, Vec, Box, Global}
use Rattle.std.specs.Prelude.{option_map}
use Rattle.fir_bits.specs.declared.operators.PrimOp.{PrimOp}
use Rattle.fir_ast.specs.declared.expressions.Expr.{Expr}
use Rattle.fir_ast.specs.declared.expressions.Expr.TheVariants as code_expr
use Rattle.fir_ast.specs.declared.expressions.Literal.{Literal}
use Rattle.fir_ast.specs.declared.place.Place.{Place}
use Rattle.fir_ast.specs.Types.{DataType}
use Rattle.fir_ast.specs.Expressions.{Expression, Parts, Expressions, expression}
use Rattle.fir_ast.specs.Statements.{SinkReference}
use Rattle.fir_ast.specs.working.Views.{expr_of, expressions_of}
use Rattle.fir_names.proofs.FirstMentions.{views_left}
use Rattle.fir_ast.proofs.TreeViews.{mux_view, operation_view, validif_view}
use Rattle.fir_types.proofs.PartViews.{literal_view}
use Rattle.fir_meaning.specs.ExpressionTypes.{expression_type, reaching}
use Rattle.fir_meaning.specs.TypedScopes.{TypedScope}
use Rattle.fir_types.specs.declared.note.Note.{Note as NoteOfCode}
use Rattle.fir_types.specs.declared.note.Note.TheVariants as code
use Rattle.fir_types.specs.declared.note.LeafRange.{LeafRange as RangeOfCode}
use Rattle.fir_types.specs.working.Notes.{LeafRange, Note, of_expression, of_reference, expression_notes, notes_of_each, part_notes, range_behind, range_where, root_range}
use Rattle.fir_types.specs.working.Noted.{note_seen, range_seen, saturated_note}
use Rattle.fir_types.specs.working.Seen.{seen}
use Rattle.fir_types.specs.declared.found.Found.{Found}
use Rattle.fir_infer_resets.specs.declared.meets.Walk.{Walk}
use Rattle.fir_infer_resets.specs.working.Meets.{Ahead, IsNoReference}
use Rattle.fir_infer_resets.specs.working.Passes.{Passes, PassesExpression, PassesType}

-- an expression that is no reference
abbrev pub IsValue : Expr → Type 0
IsValue x =
    ((l : Literal) × (x ≡ code_expr.Literal l))
    ⊎ (((p : Place) × (op : PrimOp) × (es : Vec Expr Global) × (ks : Vec ℕ Global) × (x ≡ code_expr.Op p op es ks))
    ⊎ (((p : Place) × (c : Box Expr Global) × (a : Box Expr Global) × (b : Box Expr Global) × (x ≡ code_expr.Mux p c a b))
    ⊎ ((p : Place) × (c : Box Expr Global) × (a : Box Expr Global) × (x ≡ code_expr.Validif p c a))))

pub value_no_reference : (x : Expr) → IsValue x → IsNoReference (expr_of x)
value_no_reference x (inl h) = rw (ap expr_of h.1 ∙ literal_view h.0) tt
value_no_reference x (inr (inl h)) = rw (ap expr_of h.4 ∙ operation_view h.0 h.1 h.2 h.3) tt
value_no_reference x (inr (inr (inl h))) = rw (ap expr_of h.4 ∙ mux_view h.0 h.1 h.2 h.3) tt
value_no_reference x (inr (inr (inr h))) = rw (ap expr_of h.3 ∙ validif_view h.0 h.1 h.2) tt

-- what its note has of a reference
abbrev pub range_of_reference : TypedScope → SinkReference → Option LeafRange
range_of_reference scope s = range_where (reaching scope s).has (option_map (λ r. range_behind r s.parts) (root_range scope s.name))

-- what is found in a note
pub range_in : (ts : List DataType) (own : NoteOfCode) (meant : Option LeafRange) (range : Option RangeOfCode) → own ≡ code.Reference range
    → Some (note_seen ts own) ≡ Some (saturated_note (of_reference meant)) → of_reference (option_map (range_seen ts) range) ≡ saturated_note (of_reference meant)
range_in ts own meant range is h = let k = ap (note_seen ts) is in cc

pub no_range : (ts : List DataType) (own : NoteOfCode) (meant : Option LeafRange) (f : Option Found) → own ≡ code.Expression f
    → Some (note_seen ts own) ≡ Some (saturated_note (of_reference meant)) → ⊥
no_range ts own meant f is h = let k = ap (note_seen ts) is in cc

pub type_in : (ts : List DataType) (own : NoteOfCode) (t : Option DataType) (f : Option Found) → own ≡ code.Expression f
    → Some (note_seen ts own) ≡ Some (saturated_note (of_expression t)) → seen ts f ≡ t
type_in ts own t f is h = let k = ap (note_seen ts) is in cc

pub no_type : (ts : List DataType) (own : NoteOfCode) (t : Option DataType) (r : Option RangeOfCode) → own ≡ code.Reference r
    → Some (note_seen ts own) ≡ Some (saturated_note (of_expression t)) → ⊥
no_type ts own t r is h = let k = ap (note_seen ts) is in cc

-- there is a note where one is to come
pub a_note : {A : Type 0} → (note : A) → None ≡ Some note → ⊥
a_note note h = cc

-- nothing is passed, and then more
pub passes_none : (ts : List DataType) (rest : List Note) (walk : Walk) → Ahead ts walk.notes.now rest → Passes ts rest walk walk
passes_none ts rest walk ahead = record { ahead = ahead; declared = refl; meets = refl }

pub passes_then : (ts : List DataType) (one two : List Note) (first second third : Walk) → Passes ts one first second → Passes ts two second third → Passes ts two first third
passes_then ts one two first second third a b = record { ahead = b.ahead; declared = b.declared ∙ a.declared; meets = b.meets ∙ a.meets }

-- the same notes
pub ahead_same : (ts : List DataType) (notes : List NoteOfCode) (a b : List Note) → a ≡ b → Ahead ts notes a → Ahead ts notes b
ahead_same ts notes a b same h = subst (Ahead ts notes) same h

pub ahead_behind : (ts : List DataType) (notes : List NoteOfCode) (a b rest : List Note) → Ahead ts notes ((a ++ b) ++ rest) → Ahead ts notes (a ++ (b ++ rest))
ahead_behind ts notes a b rest h = ahead_same ts notes ((a ++ b) ++ rest) (a ++ (b ++ rest)) (append_assoc a b rest) h

pub ahead_two : (ts : List DataType) (notes : List NoteOfCode) (a b c rest : List Note) → Ahead ts notes (((a ++ b) ++ c) ++ rest) → Ahead ts notes (a ++ (b ++ (c ++ rest)))
ahead_two ts notes a b c rest h = ahead_same ts notes (((a ++ b) ++ c) ++ rest) (a ++ (b ++ (c ++ rest))) (simp append_assoc) h

pub ahead_three : (ts : List DataType) (notes : List NoteOfCode) (a b c d rest : List Note) → Ahead ts notes ((((a ++ b) ++ c) ++ d) ++ rest)
    → Ahead ts notes (a ++ (b ++ (c ++ (d ++ rest))))
ahead_three ts notes a b c d rest h = ahead_same ts notes ((((a ++ b) ++ c) ++ d) ++ rest) (a ++ (b ++ (c ++ (d ++ rest)))) (simp append_assoc) h

-- a form is passed, whose operands are
pub passes_form : (ts : List DataType) (scope : TypedScope) (e : Expression) (rest behind : List Note) (found : Option Found) (first second third : Walk)
    → Passes ts behind first second → PassesType ts (expression_type scope e).has rest found second third → PassesExpression ts scope e rest found first third
passes_form ts scope e rest behind found first second third a b =
    record { is = λ _. b.is; passes = passes_then ts behind rest first second third a b.passes }

-- operands that are left, of which the next is passed
pub operands_left : (operands : List Expr) (i : ℕ) (x : Expr) → i < length operands → x ≡ get_or operands i x
    → expressions_of (map expr_of (drop i operands)) ≡ expression (expr_of x) (expressions_of (map expr_of (drop (i + 1) operands)))
operands_left operands i x within at = ap expressions_of (views_left expr_of operands i x within at)

pub operand_passed : (ts : List DataType) (scope : TypedScope) (left : Expressions) (e : Expression) (es : Expressions) (rest : List Note) (found : Option Found) (first second third : Walk)
    → left ≡ expression e es → Passes ts (notes_of_each scope left ++ rest) first second
    → ((behind : List Note) → Ahead ts second.notes.now (expression_notes scope e ++ behind) → PassesExpression ts scope e behind found second third)
    → Passes ts (notes_of_each scope es ++ rest) first third
operand_passed ts scope left e es rest found first second third is a next =
    let before = subst (λ x. Passes ts (notes_of_each scope x ++ rest) first second) is a in
    let k = next (notes_of_each scope es ++ rest) (ahead_behind ts second.notes.now (expression_notes scope e) (notes_of_each scope es) rest before.ahead) in
    passes_then ts (notes_of_each scope (expression e es) ++ rest) (notes_of_each scope es ++ rest) first second third before k.passes

-- and parts
pub part_passed : (ts : List DataType) (scope : TypedScope) (left : Parts) (part : Parts → Parts) (ps : Parts) (rest : List Note) (first second third : Walk)
    → left ≡ part ps → Passes ts (part_notes scope left ++ rest) first second
    → (Ahead ts second.notes.now (part_notes scope (part ps) ++ rest) → Passes ts (part_notes scope ps ++ rest) second third)
    → Passes ts (part_notes scope ps ++ rest) first third
part_passed ts scope left part ps rest first second third is a next =
    let before = subst (λ x. Passes ts (part_notes scope x ++ rest) first second) is a in
    passes_then ts (part_notes scope (part ps) ++ rest) (part_notes scope ps ++ rest) first second third before (next before.ahead)
