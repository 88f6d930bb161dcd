-- A walk over the fields of a memory: all that they give is what was given so far, and what those give that are left.
use Rattle.std.proofs.Common.{◌≡◌, ℕ, ◌+◌, ◌<◌, ◌≤◌, List, ◌++◌, map, flat_map, drop, length, get_or, Bool, sym, ap, ◌∙◌, append_assoc, append-nil}
use Rattle.std.specs.Prelude.{Option, is_some, option_to_list}
use Rattle.std.proofs.lemmas.List.{drop_all}
use Rattle.fir_ast.specs.declared.statements.MemoryField.{MemoryField}
use Rattle.fir_ast.specs.Statements.{MemoryPart}
use Rattle.fir_ast.specs.working.Views.{memory_part_of}
use Rattle.fir_names.proofs.FirstMentions.{views_left}

pub record Left {A : Type 0} (give : MemoryPart → List A) (so_far : List A) (fields : List MemoryField) (i : ℕ) : Type 0 where
  pub are : flat_map give (map memory_part_of fields) ≡ so_far ++ flat_map give (map memory_part_of (drop i fields))

-- behind one more field
pub left_next : {A : Type 0} (give : MemoryPart → List A) (so_far : List A) (fields : List MemoryField) (i : ℕ) (f : MemoryField) → i < length fields
    → f ≡ get_or fields i f → Left give so_far fields i → Left give (so_far ++ give (memory_part_of f)) fields (i + 1)
left_next give so_far fields i f within at left = record {
  are =
      left.are ∙ ap (λ parts. so_far ++ flat_map give parts) (views_left memory_part_of fields i f within at)
      ∙ sym (append_assoc so_far (give (memory_part_of f)) (flat_map give (map memory_part_of (drop (i + 1) fields))));
}

-- at the end
pub left_none : {A : Type 0} (give : MemoryPart → List A) (so_far : List A) (fields : List MemoryField) (i : ℕ) → length fields ≤ i → Left give so_far fields i
    → flat_map give (map memory_part_of fields) ≡ so_far
left_none give so_far fields i past left =
    left.are ∙ ap (λ fs. so_far ++ flat_map give (map memory_part_of fs)) (drop_all i fields past) ∙ append-nil so_far

-- one was given so far, or none, as a flag tells
pub record Met {A : Type 0} (give : MemoryPart → List A) (is_met : Bool) (fields : List MemoryField) (i : ℕ) : Type 0 where
  pub so_far : Option A
  pub flag : is_some so_far ≡ is_met
  pub left : Left give (option_to_list so_far) fields i
