-- What a search of the whole graph marks is what is inferred.
use Rattle.std.proofs.Common.{◌≡◌, ℕ, zero, suc, List, [], ◌∷◌, Bool, Some, refl, sym, ap, ◌∙◌, subst}
use Rattle.std.specs.Prelude.{slice_get}
use Rattle.std.proofs.lemmas.Option.{none-some, same_Some}
use Rattle.fir_ast.specs.Circuits.{CircuitTree}
use Rattle.fir_meaning.specs.working.NameGroups.{HasNames}
use Rattle.fir_meaning.specs.TypeGroup.{type_faults}
use Rattle.fir_infer_resets.specs.declared.item.End.{End as EndOfCode}
use Rattle.fir_infer_resets.specs.declared.joined.Joined.{Joined}
use Rattle.fir_infer_resets.specs.working.BuiltGraphs.{HasKind}
use Rattle.fir_infer_resets.specs.working.FoundKinds.{AreKinds, IsClassMarked}
use Rattle.fir_infer_resets.specs.working.Holding.{AreEnds, IsEnd}
use Rattle.fir_reset.specs.working.Inferred.{AreInferred, leaf_number}
use Rattle.fir_reset.specs.working.LeafClasses.{class_of}
use Rattle.fir_infer_resets.specs.working.MarkedLeaves.{IsMarkedLeaf, AreMarkedLeaves}
use Rattle.fir_infer_resets.specs.working.ResetGraphs.{IsFound}
use Rattle.fir_meaning.specs.ResetItems.{End}
use Rattle.fir_meaning.specs.ResetWalks.{IsLeafOf, IsReset}
use Rattle.fir_infer_resets.specs.working.WholeGraphs.{IsWhole}
use Rattle.fir_infer_resets.proofs.BuiltKinds.{are_kinds}
use Rattle.fir_infer_resets.proofs.ClassesOfLeaves.{leaves_have_classes}
use Rattle.fir_infer_resets.proofs.EndKinds.{reset_kind}
use Rattle.fir_reset.proofs.NumberedClasses.{one_class, one_number}
use Rattle.fir_infer_resets.proofs.SharedClasses.{others_share}
use Rattle.fir_infer_resets.proofs.StepTexts.{end_beside}

-- the end of a number, where the code has one
meant_beside : (owns : List EndOfCode) (es : List End) → AreEnds owns es → (x : ℕ) (own : EndOfCode) → slice_get owns x ≡ Some own → (e : End) × (slice_get es x ≡ Some e) × IsEnd own e
meant_beside [] [] h x own is = absurd (none-some own is)
meant_beside [] (f ∷ es) h x own is = absurd h
meant_beside (o ∷ owns) [] h x own is = absurd h
meant_beside (o ∷ owns) (f ∷ es) h zero own is = (f, refl, subst (λ p. IsEnd p f) (same_Some o own is) h.0)
meant_beside (o ∷ owns) (f ∷ es) h (suc x) own is = meant_beside owns es h.1 x own is

module _ (c : CircuitTree) (names : HasNames c) (clear : type_faults c ≡ []) (joined : Joined) (whole : IsWhole c joined) (marks : List Bool)
    (found : IsFound joined.graph.items joined.kinds.items marks) where
  ends : List End
  ends = whole.holds.ends

  kinds : AreKinds c whole.holds.ends marks
  kinds =
      are_kinds c whole.listed whole.holds.ends joined.graph.items joined.kinds.items marks (leaves_have_classes c names clear) (others_share c names clear) whole.all whole.holds.built
      found

  module _ (e : End) (number : ℕ) (leaf : IsLeafOf c e) (resets : IsReset e) (numbered : leaf_number c e.item ≡ Some number) where
    -- a marked Reset of its class has its number
    marked_leaf : (k : _) → class_of c e.item ≡ Some k → IsClassMarked c whole.holds.ends marks k → IsMarkedLeaf c joined.ends.items marks number
    marked_leaf k class m =
        let own = end_beside joined.ends.items whole.holds.ends whole.holds.are m.number m.end m.is in
        let other = whole.holds.built.leaves m.number m.end m.is m.resets in
        record {
          at = m.number;
          own = own.0;
          is = own.1;
          resets = reset_kind m.end own.0.kind own.2.kind m.resets;
          marked = m.marked;
          numbered = ap (leaf_number c) own.2.item ∙ one_number c names clear m.end e other leaf (m.of_class ∙ sym class) ∙ numbered;
        }

    -- and one of its number is of its class
    class_marked : (k : _) → class_of c e.item ≡ Some k → IsMarkedLeaf c joined.ends.items marks number → IsClassMarked c whole.holds.ends marks k
    class_marked k class m =
        let meant = meant_beside joined.ends.items whole.holds.ends whole.holds.are m.at m.own m.is in
        let is_reset : IsReset meant.0 = subst (HasKind meant.0) m.resets meant.2.kind in
        let other = whole.holds.built.leaves m.at meant.0 meant.1 is_reset in
        let number_is : leaf_number c meant.0.item ≡ Some number = ap (leaf_number c) (sym meant.2.item) ∙ m.numbered in
        record {
          number = m.at;
          end = meant.0;
          is = meant.1;
          resets = is_reset;
          of_class = one_class c names clear meant.0 e number other leaf number_is numbered ∙ class;
          marked = m.marked;
        }

  pub inferred : (map : List Bool) → AreMarkedLeaves c joined.ends.items marks map → AreInferred c map
  inferred map are = record {
    each = λ e number leaf resets numbered.
        let class = (leaves_have_classes c names clear).has e leaf in
        let kind = kinds.kinds e class.0 leaf resets class.1 in (
          (λ a. (are number).1 (marked_leaf e number leaf resets numbered class.0 class.1 (kind.0 a))),
          (λ h. kind.1 (class_marked e number leaf resets numbered class.0 class.1 ((are number).0 h))),
        );
    clear = kinds.clear;
  }
