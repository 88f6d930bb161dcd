use Rattle.std.proofs.Common.{◌≡◌, ◌+◌, ◌-◌, ◌*◌, ◌^◌, ◌<◌, ◌++◌}
use Rattle.fir_ast.specs.Types.{vector}
use Rattle.fir_type_table.specs.working.Tables.{members_at, type_at, types_of}
use Rattle.fir_leaf_text.specs.working.TypePaths.{texts_behind, type_paths}
use Rattle.fir_leaf_text.proofs.TypeTexts.{PutsTo, elements_from, field_texts}
use Rattle.fir_leaf_text.proofs.type_texts.+texts.Given as goal

abbrev pub decreases-push_type_texts : goal.decreases-push_type_texts
decreases-push_type_texts l = 2 * l.id.number + 1

abbrev pub decreases-push_field_texts : goal.decreases-push_field_texts
decreases-push_field_texts l = 2 * l.id.number

abbrev pub decreases-push_element_texts : goal.decreases-push_element_texts
decreases-push_element_texts l = 2 * l.element.number + 2

abbrev pub invariant-push_field_texts-loop-name : goal.invariant-push_field_texts-loop-name
invariant-push_field_texts-loop-name l = record {
  stays : l.path.items ≡ l.initial.path.items;
  small : l.leaf < 2 ^ 64 - 1;
  so_far :
      PutsTo (types_of l.table) (members_at l.table l.id.number) l.initial.path.items
      (l.initial.texts.items ++ field_texts (types_of l.table) l.initial.path.items (members_at l.table l.id.number)) l.leaf l.texts.items;
}

abbrev pub decreases-push_field_texts-loop-name : goal.decreases-push_field_texts-loop-name
decreases-push_field_texts-loop-name l = 2 ^ 64 - l.leaf

abbrev pub invariant-push_element_texts-loop-index : goal.invariant-push_element_texts-loop-index
invariant-push_element_texts-loop-index l = record {
  stays : l.path.items ≡ l.initial.path.items;
  left :
      l.texts.items ++ elements_from (type_at (types_of l.table) l.element.number) l.length l.initial.path.items l.index
      ≡ l.initial.texts.items ++ texts_behind l.initial.path.items (type_paths (vector (type_at (types_of l.table) l.element.number) l.length));
}
