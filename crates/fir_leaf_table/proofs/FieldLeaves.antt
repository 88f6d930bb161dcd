-- Leaves that are pushed field by field.
use Rattle.std.proofs.Common.{◌≡◌, ℕ, ◌+◌, List, [], ◌++◌, length, map, Bool, refl, sym, ap, ◌∙◌, subst, append_assoc}
use Rattle.std.proofs.lemmas.List.{append-nil, map-append}
use Rattle.fir_ast.specs.declared.place.Place.{Place}
use Rattle.fir_ast.specs.Circuits.{CircuitTree}
use Rattle.fir_ast.specs.Types.{DataType, Fields, no_fields, field, bundle}
use Rattle.fir_meaning.specs.SharedLeaves.{shared_count}
use Rattle.fir_meaning.specs.SizedTypes.{Sized, SizedFields, bare_type, bare_type_fields}
use Rattle.fir_meaning.specs.TypeKinds.{bare, bare_fields}
use Rattle.fir_meaning.specs.TypeLeaves.{field_leaves, turned}
use Rattle.fir_meaning.specs.WidthExpressions.{Widths}
use Rattle.fir_meaning.specs.WidthRules.{AreWidths}
use Rattle.fir_width.specs.working.DeclaredWidths.{leaf_widths}
use Rattle.fir_width.specs.working.FlatWidths.{flat, flat_fields}
use Rattle.fir_width.specs.working.StandingWidths.{Stands}
use Rattle.fir_width.proofs.FlatShapes.{flat_counted}
use Rattle.fir_width.proofs.StandingWidths.{stands_left, stands_right}
use Rattle.fir_meaning.specs.LeafTypes.{LeafType}
use Rattle.fir_meaning.specs.HeldTypes.{held_field_types, held_types}
use Rattle.fir_leaf_table.specs.declared.type_leaves.TypeLeaf.{TypeLeaf as LeafOfCode}
use Rattle.fir_leaf_table.specs.working.PushedTypeLeaves.{Pushes}
use Rattle.fir_leaf_circuit.specs.working.Seen.{type_seen}
use Rattle.fir_leaf_table.specs.working.TypedLeaves.{flips_of, flips_seen, holds_seen}
use Rattle.fir_leaf_table.proofs.TurnedLeaves.{turned_field}
use Rattle.fir_leaf_table.proofs.TypeShapes.{has_shape, have_shape}

-- what is left of a sized type stands from the number on
pub record SizedLeft (c : CircuitTree) (w : Widths) (left : Fields) (number : ℕ) (done whole : List LeafType) : Type 0 where
  pub rest : SizedFields
  pub shape : bare_type_fields rest ≡ bare_fields left
  pub stands : Stands (leaf_widths c) number (flat_fields rest)
  pub same : done ++ held_field_types w rest ≡ whole

-- how far the fields are pushed
pub record PushesSoFar (c : CircuitTree) (flip : Bool) (whole left : Fields) (first number : ℕ) (old now : List LeafOfCode) : Type 0 where
  pub more : List LeafOfCode
  pub grown : now ≡ old ++ more
  pub flips : flips_seen more ++ map (turned flip) (flips_of (field_leaves left)) ≡ map (turned flip) (flips_of (field_leaves whole))
  pub holds : (ss : SizedFields) (w : Widths) → bare_type_fields ss ≡ bare_fields whole → Stands (leaf_widths c) first (flat_fields ss)
      → AreWidths c w
      → SizedLeft c w left number (holds_seen more) (held_field_types w ss)

pub fields_begin : (c : CircuitTree) (flip : Bool) (whole : Fields) (first : ℕ) (old : List LeafOfCode)
    → PushesSoFar c flip whole whole first first old old
fields_begin c flip whole first old = record {
  more = [];
  grown = sym (append-nil old);
  flips = refl;
  holds = λ ss w shape stands are. record { rest = ss; shape = shape; stands = stands; same = refl };
}

-- one field more of a sized type
sized_next : (c : CircuitTree) (w : Widths) (p : Place) (f : Bool) (x : List ℕ) (begins : Place) (t : DataType) (rest : Fields) (number next : ℕ)
    (done own whole : List LeafType) → next ≡ number + shared_count t
    → ((s : Sized) → bare_type s ≡ bare t → Stands (leaf_widths c) number (flat s) → own ≡ held_types w s)
    → SizedLeft c w (field p f x begins t rest) number done whole → SizedLeft c w rest next (done ++ own) whole
sized_next c w p f x begins t rest number next done own whole moved held left =
    let of = have_shape (field p f x begins (bare t) (bare_fields rest)) left.rest left.shape in
    let stood : Stands (leaf_widths c) number (flat of.0 ++ flat_fields of.1) =
    subst (λ ss. Stands (leaf_widths c) number (flat_fields ss)) of.2 left.stands in
    let counted : number + length (flat of.0) ≡ next = ap (λ n. number + n) (flat_counted of.0 t of.3) ∙ sym moved in
    record {
      rest = of.1;
      shape = of.4;
      stands =
          subst (λ n. Stands (leaf_widths c) n (flat_fields of.1)) counted
          (stands_right (leaf_widths c) number (flat of.0) (flat_fields of.1) stood);
      same =
          append_assoc done own (held_field_types w of.1)
          ∙ ap (λ hs. done ++ (hs ++ held_field_types w of.1))
          (held of.0 of.3 (stands_left (leaf_widths c) number (flat of.0) (flat_fields of.1) stood))
          ∙ ap (λ ss. done ++ held_field_types w ss) (sym of.2) ∙ left.same;
    }

pub fields_next : (c : CircuitTree) (flip : Bool) (whole : Fields) (p : Place) (f : Bool) (x : List ℕ) (begins : Place) (t : DataType) (rest : Fields)
    (first number next : ℕ) (old now new : List LeafOfCode) → next ≡ number + shared_count t
    → PushesSoFar c flip whole (field p f x begins t rest) first number old now → Pushes c (turned flip f) t number now new
    → PushesSoFar c flip whole rest first next old new
fields_next c flip whole p f x begins t rest first number next old now new moved so_far one = record {
  more = so_far.more ++ one.more;
  grown = one.grown ∙ ap (λ ls. ls ++ one.more) so_far.grown ∙ append_assoc old so_far.more one.more;
  flips =
      let left = map (turned flip) (flips_of (field_leaves rest)) in
      ap (λ bs. bs ++ left) (map-append (λ (l : LeafOfCode). l.flip) so_far.more one.more)
      ∙ append_assoc (flips_seen so_far.more) (flips_seen one.more) left
      ∙ ap (λ bs. flips_seen so_far.more ++ (bs ++ left)) one.are.flips
      ∙ ap (λ bs. flips_seen so_far.more ++ bs) (sym (turned_field flip p f x begins t rest)) ∙ so_far.flips;
  holds = λ ss w shape stands are.
      subst (λ hs. SizedLeft c w rest next hs (held_field_types w ss))
      (sym (map-append (λ (l : LeafOfCode). type_seen l.holds) so_far.more one.more))
      (sized_next c w p f x begins t rest number next (holds_seen so_far.more) (holds_seen one.more) (held_field_types w ss) moved
      (λ s same stood. one.are.holds s w same stood are) (so_far.holds ss w shape stands are));
}

pub fields_end : (c : CircuitTree) (flip : Bool) (whole : Fields) (first number : ℕ) (old now : List LeafOfCode)
    → PushesSoFar c flip whole no_fields first number old now → Pushes c flip (bundle whole) first old now
fields_end c flip whole first number old now so_far = record {
  more = so_far.more;
  grown = so_far.grown;
  are = record {
    flips = sym (append-nil (flips_seen so_far.more)) ∙ so_far.flips;
    holds = λ s w shape stands are.
        let of = has_shape (bundle (bare_fields whole)) s shape in
        let left = so_far.holds of.0 w of.2 (subst (λ u. Stands (leaf_widths c) first (flat u)) of.1 stands) are in
        let none = have_shape no_fields left.rest left.shape in
        sym (append-nil (holds_seen so_far.more)) ∙ ap (λ ss. holds_seen so_far.more ++ held_field_types w ss) (sym none) ∙ left.same
        ∙ ap (held_types w) (sym of.1);
  };
}
