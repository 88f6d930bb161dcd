-- What is found of the module of a number.
use Rattle.std.proofs.Common.{◌≡◌, ℕ, zero, suc, ◌<◌, ◌≤◌, List, [], ◌∷◌, map, length, Vec, Global, Option, Some, refl, sym, ap, ◌∙◌, get_or, arith}
use Rattle.std.specs.Prelude.{slice_get, option_map}
use Rattle.std.proofs.lemmas.Option.{none-some, same_Some, slice_get-map, slice_get_within}
use Rattle.fir_base.proofs.Elements.{beside, there}
use Rattle.fir_ast.specs.Circuits.{CircuitTree, ModuleTree}
use Rattle.fir_meaning.specs.ComponentTypes.{typed_scope}
use Rattle.fir_meaning.specs.Visibility.{declarations}
use Rattle.fir_meaning.specs.SizedDeclarations.{NumberedModule, Numbering, all_port_numbers, behind_module, first_numbers, modules_from, numbered_modules}
use Rattle.fir_type_table.specs.working.Saturated.{saturated}
use Rattle.fir_type_table.specs.working.Tables.{types_of}
use Rattle.fir_types.specs.declared.findings.Findings.{Findings}
use Rattle.fir_types.specs.declared.found.Found.{Found}
use Rattle.fir_types.specs.declared.note.Note.{Note as NoteOfCode}
use Rattle.fir_types.specs.working.LeafNumbers.{NextLeaf, first_leaves, first_leaves_from, leaves_behind}
use Rattle.fir_types.specs.working.ModuleNotes.{circuit_notes, module_notes}
use Rattle.fir_types.specs.working.Noted.{note_seen, saturated_note}
use Rattle.fir_types.specs.working.Seen.{seen}
use Rattle.fir_types.specs.working.TypedModules.{IsTyped}

-- the numbered module of a module
numbered_at : (modules : List ModuleTree) (numbers : Numbering) (ms : List ModuleTree) (k : ℕ) (m : ModuleTree) → slice_get ms k ≡ Some m
    → (n : NumberedModule) × (slice_get (modules_from modules numbers ms) k ≡ Some n) × (n.modules ≡ modules) × (n.inside ≡ m)
numbered_at modules numbers [] k m at = absurd (none-some m at)
numbered_at modules numbers (x ∷ ms) zero m at = (record { modules = modules; inside = x; start = numbers }, refl, refl, same_Some x m at)
numbered_at modules numbers (x ∷ ms) (suc k) m at = numbered_at modules (behind_module modules numbers x) ms k m at

-- the numbered module of a number
pub numbered_module : (c : CircuitTree) (k : ℕ) (m : ModuleTree) → slice_get c.modules k ≡ Some m
    → (n : NumberedModule) × (slice_get (numbered_modules c) k ≡ Some n) × (n.modules ≡ c.modules) × (n.inside ≡ m)
numbered_module c k m at = numbered_at c.modules (first_numbers c.modules) c.modules k m at

pub numbered_long : (modules : List ModuleTree) (numbers : Numbering) (ms : List ModuleTree) → length (modules_from modules numbers ms) ≡ length ms
numbered_long modules numbers [] = refl
numbered_long modules numbers (x ∷ ms) = ap suc (numbered_long modules (behind_module modules numbers x) ms)

-- each module has the numbers of its first leaves
leaves_long : (modules : List ModuleTree) (next : NextLeaf) (ms : List ModuleTree) → length (first_leaves_from modules next ms) ≡ length ms
leaves_long modules next [] = refl
leaves_long modules next (x ∷ ms) = ap suc (leaves_long modules (leaves_behind next (declarations x) (typed_scope modules (declarations x))) ms)

-- what is found of the module of a number
pub record FoundOf (c : CircuitTree) (found : Findings) (k : ℕ) (m : ModuleTree) : Type 0 where
  pub declared : Vec (Option Found) Global
  pub declared_at : slice_get found.declared.items k ≡ Some declared
  pub types : map (seen (types_of found.table)) declared.items ≡ map (λ k. k.data_type) (typed_scope c.modules (declarations m))
  pub notes : Vec NoteOfCode Global
  pub notes_at : slice_get found.notes.items k ≡ Some notes
  pub noted : map (note_seen (types_of found.table)) notes.items ≡ map saturated_note (module_notes c.modules m)
  pub leaves : Vec ℕ Global
  pub leaves_at : slice_get found.first_leaves.items k ≡ Some leaves
  pub first : slice_get (map (map saturated) (first_leaves c)) k ≡ Some leaves.items

pub found_of : (c : CircuitTree) (found : Findings) → IsTyped c found → (k : ℕ) (m : ModuleTree) → slice_get c.modules k ≡ Some m → FoundOf c found k m
found_of c found typed k m at =
    let ts = types_of found.table in
    let types = beside (λ (v : Vec (Option Found) Global). map (seen ts) v.items) (λ (m : ModuleTree). map (λ k. k.data_type) (typed_scope c.modules (declarations m)))
    found.declared.items c.modules typed.types k m at in
    let noted = beside (λ (v : Vec NoteOfCode Global). map (note_seen ts) v.items) (map saturated_note) found.notes.items (circuit_notes c) typed.notes k (module_notes c.modules m)
    (slice_get-map (module_notes c.modules) c.modules k ∙ ap (option_map (module_notes c.modules)) at) in
    let within : k < length (first_leaves c) = (let long = leaves_long c.modules (record { port = 0; body = all_port_numbers c.modules }) c.modules in let short = slice_get_within c.modules k m at in omega (arith, long, short)) in
    let first = there (first_leaves c) k within in
    let leaves = beside (λ (v : Vec ℕ Global). v.items) (map saturated) found.first_leaves.items (first_leaves c) typed.leaves k first.0 first.1 in
    record {
      declared = types.0;
      declared_at = types.1;
      types = types.2;
      notes = noted.0;
      notes_at = noted.1;
      noted = noted.2;
      leaves = leaves.0;
      leaves_at = leaves.1;
      first = slice_get-map (map saturated) (first_leaves c) k ∙ ap (option_map (map saturated)) first.1 ∙ ap Some (sym leaves.2);
    }

-- what is read at an index
pub read_is : {A : Type 0} (xs : List A) (i : ℕ) (x y : A) → x ≡ get_or xs i x → slice_get xs i ≡ Some y → x ≡ y
read_is [] i x y at is = absurd (none-some y is)
read_is (z ∷ xs) zero x y at is = at ∙ same_Some z y is
read_is (z ∷ xs) (suc i) x y at is = read_is xs i x y at is
