-- Leaves that are pushed hold what the sized type holds.
use Rattle.std.proofs.Common.{◌≡◌, ℕ, zero, suc, ◌-◌, ◌<◌, List, [], ◌∷◌, ◌++◌, length, map, drop, Bool, true, false, Option, Some, None, refl, sym, ap, ◌∙◌, subst, arith, append_assoc}
use Rattle.std.specs.Prelude.{slice_get}
use Rattle.std.proofs.lemmas.List.{append-nil, drop_at}
use Rattle.fir_ast.specs.Circuits.{CircuitTree}
use Rattle.fir_ast.specs.Types.{DataType, uint, sint, clock, reset, async_reset, vector}
use Rattle.fir_meaning.specs.ExpressionTypes.{number_data_type}
use Rattle.fir_meaning.specs.SizedTypes.{Sized, bare_type}
use Rattle.fir_meaning.specs.TypeKinds.{bare}
use Rattle.fir_meaning.specs.TypeLeaves.{leaf_count, turned, type_leaves}
use Rattle.fir_meaning.specs.WidthExpressions.{Width, Widths, width_under}
use Rattle.fir_meaning.specs.WidthRules.{AreWidths}
use Rattle.fir_type_table.specs.working.Saturated.{saturated}
use Rattle.fir_type_table.specs.working.Tables.{shown}
use Rattle.fir_types.proofs.BareTypes.{shown_bare}
use Rattle.fir_width.specs.working.DeclaredWidths.{leaf_widths}
use Rattle.fir_width.specs.working.FlatWidths.{flat}
use Rattle.fir_width.specs.working.StandingWidths.{Stands}
use Rattle.fir_width.proofs.StandingWidths.{stands_head}
use Rattle.fir_meaning.specs.HeldTypes.{held_types, repeated}
use Rattle.fir_meaning.specs.LeafTypes.{number}
use Rattle.fir_leaf.proofs.LeafPlaces.{leaves_counted}
use Rattle.fir_leaf_circuit.specs.declared.leaf.LeafType.{LeafType as TypeOfCode}
use Rattle.fir_leaf_circuit.specs.declared.leaf.LeafType.TheVariants.{Number, Clock}
use Rattle.fir_leaf_table.specs.declared.type_leaves.TypeLeaf.{TypeLeaf as LeafOfCode}
use Rattle.fir_leaf_table.specs.working.PushedTypeLeaves.{AreLeavesBelow, Pushes}
use Rattle.fir_leaf_circuit.specs.working.Seen.{type_seen}
use Rattle.fir_leaf_table.specs.working.TypedLeaves.{flips_of}
use Rattle.fir_leaf_table.proofs.TurnedLeaves.{flips_repeated, shown_flips, turned_once}
use Rattle.fir_leaf_table.proofs.TypeShapes.{empty_list, has_shape, held_none, map_repeated}

module _ (c : CircuitTree) (flip : Bool) (first : ℕ) (old new : List LeafOfCode) where
  -- a single leaf
  pushes_one : (t : DataType) (holds : TypeOfCode) → flips_of (type_leaves t) ≡ false ∷ []
      → ((s : Sized) (w : Widths) → bare_type s ≡ bare t → Stands (leaf_widths c) first (flat s) → AreWidths c w
      → held_types w s ≡ type_seen holds ∷ [])
      → new ≡ old ++ record { flip = flip; holds = holds } ∷ [] → Pushes c flip t first old new
  pushes_one t holds one held grown = record {
    more = record { flip = flip; holds = holds } ∷ [];
    grown = grown;
    are = record {
      flips = ap (λ b. b ∷ []) (sym (turned_once flip)) ∙ ap (map (turned flip)) (sym one);
      holds = λ s w shape stands are. sym (held s w shape stands are);
    };
  }

  -- a number whose width is that of its leaf
  pub pushes_number : (is_signed : Bool) (width : ℕ)
      → ((e : Width) (w : Widths) → slice_get (leaf_widths c) first ≡ Some e → AreWidths c w → width ≡ width_under e w)
      → new ≡ old ++ record { flip = flip; holds = Number (record { signed = is_signed; width = width }) } ∷ []
      → (written : Option ℕ) → Pushes c flip (number_data_type is_signed written) first old new
  pushes_number true width is grown written =
      pushes_one (sint written) (Number (record { signed = true; width = width })) refl
      (λ s w shape stands are.
      let of = has_shape (sint None) s shape in
      let stood = subst (λ u. Stands (leaf_widths c) first (flat u)) of.1 stands in
      ap (held_types w) of.1
      ∙ ap (λ k. number (record { signed = true; width = k }) ∷ []) (sym (is of.0 w (stands_head (leaf_widths c) first of.0 [] stood) are)))
      grown
  pushes_number false width is grown written =
      pushes_one (uint written) (Number (record { signed = false; width = width })) refl
      (λ s w shape stands are.
      let of = has_shape (uint None) s shape in
      let stood = subst (λ u. Stands (leaf_widths c) first (flat u)) of.1 stands in
      ap (held_types w) of.1
      ∙ ap (λ k. number (record { signed = false; width = k }) ∷ []) (sym (is of.0 w (stands_head (leaf_widths c) first of.0 [] stood) are)))
      grown

  pub pushes_clock : (t : DataType) → t ≡ clock → new ≡ old ++ record { flip = flip; holds = Clock } ∷ [] → Pushes c flip t first old new
  pushes_clock t is grown =
      rw is (pushes_one clock Clock refl (λ s w shape stands are. let of = has_shape clock s shape in ap (held_types w) of.1) grown)

  pub pushes_reset : (t : DataType) → t ≡ reset
      → new ≡ old ++ record { flip = flip; holds = Number (record { signed = false; width = 1 }) } ∷ []
      → Pushes c flip t first old new
  pushes_reset t is grown =
      rw is
      (pushes_one reset (Number (record { signed = false; width = 1 })) refl
      (λ s w shape stands are. let of = has_shape reset s shape in ap (held_types w) of.1)
      grown)

  pub pushes_async : (t : DataType) → t ≡ async_reset
      → new ≡ old ++ record { flip = flip; holds = Number (record { signed = false; width = 1 }) } ∷ []
      → Pushes c flip t first old new
  pushes_async t is grown =
      rw is
      (pushes_one async_reset (Number (record { signed = false; width = 1 })) refl
      (λ s w shape stands are. let of = has_shape async_reset s shape in ap (held_types w) of.1) grown)

-- none
pub pushes_none : (c : CircuitTree) (flip : Bool) (t : DataType) (first : ℕ) (old : List LeafOfCode) → saturated (leaf_count t) ≡ 0
    → Pushes c flip t first old old
pushes_none c flip t first old none =
    let empty : leaf_count t ≡ 0 = omega arith in record {
      more = [];
      grown = sym (append-nil old);
      are = record {
        flips = ap (λ ls. map (turned flip) (flips_of ls)) (sym (empty_list (type_leaves t) (leaves_counted t ∙ empty)));
        holds = λ s w shape stands are. sym (held_none w t s empty shape);
      };
    }

-- with its widths or without
pub pushes_shown : (c : CircuitTree) (flip is_bare : Bool) (t : DataType) (first : ℕ) (old new : List LeafOfCode) → Pushes c flip t first old new
    → Pushes c flip (shown is_bare t) first old new
pushes_shown c flip is_bare t first old new pushes = record {
  more = pushes.more;
  grown = pushes.grown;
  are = record {
    flips = pushes.are.flips ∙ ap (map (turned flip)) (sym (shown_flips is_bare t));
    holds = λ s w shape stands are. pushes.are.holds s w (shape ∙ shown_bare is_bare t) stands are;
  };
}

-- those of the first element, and so often again
all_elements : {A : Type 0} → (n : ℕ) (xs : List A) → 0 < n → xs ++ repeated (n - 1) xs ≡ repeated n xs
all_elements zero xs some = absurd (omega arith)
all_elements (suc n) xs some = let less : suc n - 1 ≡ n = omega arith in ap (λ k. xs ++ repeated k xs) less

pub pushes_elements : (c : CircuitTree) (flip : Bool) (t : DataType) (n first start : ℕ) (old mid new : List LeafOfCode) → 0 < n
    → start ≡ length old
    → Pushes c flip t first old mid → new ≡ mid ++ repeated (n - 1) (drop start mid) → Pushes c flip (vector t n) first old new
pushes_elements c flip t n first start old mid new some from one grown =
    let own = one.more in
    let tail : drop start mid ≡ own = ap (drop start) one.grown ∙ drop_at old own start (sym from) in record {
      more = repeated n own;
      grown = grown ∙ ap (λ xs. mid ++ repeated (n - 1) xs) tail ∙ ap (λ xs. xs ++ repeated (n - 1) own) one.grown
          ∙ append_assoc old own (repeated (n - 1) own) ∙ ap (λ xs. old ++ xs) (all_elements n own some);
      are = record {
        flips =
            map_repeated (λ (l : LeafOfCode). l.flip) n own ∙ ap (repeated n) one.are.flips
            ∙ sym (map_repeated (turned flip) n (flips_of (type_leaves t)))
            ∙ ap (map (turned flip)) (sym (flips_repeated 0 n (type_leaves t)));
        holds = λ s w shape stands are.
            let of = has_shape (vector (bare t) n) s shape in
            let stood = subst (λ u. Stands (leaf_widths c) first (flat u)) of.1 stands in
            map_repeated (λ (l : LeafOfCode). type_seen l.holds) n own ∙ ap (repeated n) (one.are.holds of.0 w of.2 stood are)
            ∙ ap (held_types w) (sym of.1);
      };
    }

-- where none stand before
pub alone : (c : CircuitTree) (flip : Bool) (t : DataType) (first : ℕ) (old ls : List LeafOfCode) → old ≡ [] → Pushes c flip t first old ls
    → AreLeavesBelow c flip t first ls
alone c flip t first old ls none pushes = rw (pushes.grown, none) pushes.are
