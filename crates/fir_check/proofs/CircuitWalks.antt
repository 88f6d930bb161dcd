-- How far a walk has come in the modules of a circuit, and what it comes to.
use Rattle.std.proofs.Common.{◌≡◌, ℕ, zero, suc, ◌+◌, ◌<◌, ◌≤◌, List, [], ◌∷◌, ◌++◌, map, flat_map, length, slice_get, Some, Vec, Global, Ok, refl, sym, ap, subst, ◌∙◌, take, drop, get_or, arith}
use Rattle.std.specs.Prelude.{Option}
use Rattle.std.proofs.lemmas.List.{map-append, map_more, take_all}
use Rattle.fir_base.specs.declared.refused.Refused.{Refused}
use Rattle.fir_base.proofs.Elements.{get_in}
use Rattle.fir_base.proofs.Empty.{empty_left, empty_right}
use Rattle.fir_ast.specs.declared.circuit.Circuit.{Circuit}
use Rattle.fir_ast.specs.declared.circuit.Module.{Module}
use Rattle.fir_ast.specs.declared.fault.FirFault.{FirFault}
use Rattle.fir_ast.specs.Types.{DataType}
use Rattle.fir_ast.specs.Circuits.{ModuleTree}
use Rattle.fir_ast.specs.working.Views.{circuit_of, module_of}
use Rattle.fir_ast.specs.Faults.{Fault}
use Rattle.fir_meaning.specs.Mentions.{module_names}
use Rattle.fir_meaning.specs.working.NameGroups.{HasNames}
use Rattle.fir_meaning.specs.Visibility.{declarations}
use Rattle.fir_meaning.specs.ComponentTypes.{typed_scope}
use Rattle.fir_meaning.specs.TypeGroup.{module_type_faults, type_faults}
use Rattle.fir_names.specs.declared.names.Names.{Names}
use Rattle.fir_names.specs.working.Tabulated.{Tabulates}
use Rattle.fir_names.proofs.FirstMentions.{views_left}
use Rattle.fir_names.proofs.ModulesThere.{instance_number}
use Rattle.fir_type_table.specs.declared.entry.Entry.{Entry}
use Rattle.fir_type_table.specs.declared.kind.TypeId.{TypeId}
use Rattle.fir_type_table.specs.working.Saturated.{saturated}
use Rattle.fir_type_table.specs.working.Tables.{types_of}
use Rattle.fir_types.specs.declared.found.Found.{Found}
use Rattle.fir_types.specs.declared.scope.Scope.{Scope}
use Rattle.fir_types.specs.working.Judged.{IsFirstOf}
use Rattle.fir_types.specs.declared.findings.Findings.{Findings}
use Rattle.fir_types.specs.declared.note.Note.{Note}
use Rattle.fir_types.specs.working.LeafNumbers.{first_leaves}
use Rattle.fir_types.specs.working.ModuleNotes.{module_notes}
use Rattle.fir_types.specs.working.Noted.{Noted, note_seen, saturated_note}
use Rattle.fir_types.specs.working.TypedModules.{HasModule, HasModules, HasNotes, IsTyped, JudgesModule, declared_types, found_notes, found_types}
use Rattle.fir_types.specs.working.Walked.{HoldsBundles, IsOfModule}
use Rattle.fir_check.proofs.CheckedForms.{first_left, first_right}
use Rattle.fir_types.proofs.ModuleItems.{module_there}
use Rattle.fir_types.proofs.GrownScopes.{all_held, all_seen}
use Rattle.fir_check.proofs.NotedWalks.{noted_grown}
use Rattle.fir_check.proofs.StatementFaults.{both_clear}

joined : {A : Type 0} (xs : List A) (i : ℕ) → take i xs ++ drop i xs ≡ xs
joined [] zero = refl
joined [] (suc i) = refl
joined (x ∷ xs) zero = refl
joined (x ∷ xs) (suc i) = ap (λ ys. x ∷ ys) (joined xs i)

split : (xs : List Module) (i : ℕ) (x : Module) → i < length xs → x ≡ get_or xs i x
    → map module_of xs ≡ map module_of (take i xs) ++ module_of x ∷ map module_of (drop (i + 1) xs)
split xs i x within at =
    sym (ap (map module_of) (joined xs i)) ∙ map-append module_of (take i xs) (drop i xs)
    ∙ ap (λ ms. map module_of (take i xs) ++ ms) (views_left module_of xs i x within at)

-- faults over modules
clear_more : (f : ModuleTree → List Fault) (ms : List ModuleTree) (m : ModuleTree) → flat_map f ms ≡ [] → f m ≡ [] → flat_map f (ms ++ m ∷ []) ≡ []
clear_more f [] m h k = ap (λ fs. fs ++ []) k
clear_more f (x ∷ ms) m h k =
    both_clear (f x) (flat_map f (ms ++ m ∷ [])) (empty_left (f x) (flat_map f ms) h) (clear_more f ms m (empty_right (f x) (flat_map f ms) h) k)

first_within : (f : ModuleTree → List Fault) (front back : List ModuleTree) (m : ModuleTree) (e : Refused FirFault) → flat_map f front ≡ [] → IsFirstOf (f m) e
    → IsFirstOf (flat_map f (front ++ m ∷ back)) e
first_within f [] back m e h k = first_left (f m) (flat_map f back) e k
first_within f (x ∷ front) back m e h k =
    first_right (f x) (flat_map f (front ++ m ∷ back)) e (empty_left (f x) (flat_map f front) h)
    (first_within f front back m e (empty_right (f x) (flat_map f front) h) k)

-- types of modules
module_grown : (ts more : List DataType) (modules : List ModuleTree) (m : ModuleTree) (found : List (Option Found)) → HasModule ts modules m found
    → HasModule (ts ++ more) modules m found
module_grown ts more modules m found h =
    record { types = all_seen ts more found h.held ∙ h.types; held = all_held ts more found h.held }

modules_grown : (ts more : List DataType) (modules ms : List ModuleTree) (vs : List (Vec (Option Found) Global)) → HasModules ts modules ms vs
    → HasModules (ts ++ more) modules ms vs
modules_grown ts more modules [] [] h = tt
modules_grown ts more modules (m ∷ ms) (v ∷ vs) h = (module_grown ts more modules m v.items h.0, modules_grown ts more modules ms vs h.1)
modules_grown ts more modules [] (v ∷ vs) h = absurd h
modules_grown ts more modules (m ∷ ms) [] h = absurd h

modules_more : (ts : List DataType) (modules ms : List ModuleTree) (vs : List (Vec (Option Found) Global)) (m : ModuleTree) (v : Vec (Option Found) Global)
    → HasModules ts modules ms vs → HasModule ts modules m v.items → HasModules ts modules (ms ++ m ∷ []) (vs ++ v ∷ [])
modules_more ts modules [] [] m v h k = (k, tt)
modules_more ts modules (x ∷ ms) (w ∷ vs) m v h k = (h.0, modules_more ts modules ms vs m v h.1 k)
modules_more ts modules [] (w ∷ vs) m v h k = absurd h
modules_more ts modules (x ∷ ms) [] m v h k = absurd h

types_all : (ts : List DataType) (modules ms : List ModuleTree) (vs : List (Vec (Option Found) Global)) → HasModules ts modules ms vs
    → found_types ts vs ≡ map (λ m. map (λ k. k.data_type) (typed_scope modules (declarations m))) ms
types_all ts modules [] [] h = refl
types_all ts modules (m ∷ ms) (v ∷ vs) h =
    ap (λ x. x ∷ found_types ts vs) h.0.types ∙ ap (λ xs. map (λ k. k.data_type) (typed_scope modules (declarations m)) ∷ xs) (types_all ts modules ms vs h.1)
types_all ts modules [] (v ∷ vs) h = absurd h
types_all ts modules (m ∷ ms) [] h = absurd h

-- notes of modules
notes_grown : (ts more : List DataType) (modules ms : List ModuleTree) (vs : List (Vec Note Global)) → HasNotes ts modules ms vs → HasNotes (ts ++ more) modules ms vs
notes_grown ts more modules [] [] h = tt
notes_grown ts more modules (m ∷ ms) (v ∷ vs) h = (noted_grown ts more [] v.items (module_notes modules m) h.0, notes_grown ts more modules ms vs h.1)
notes_grown ts more modules [] (v ∷ vs) h = absurd h
notes_grown ts more modules (m ∷ ms) [] h = absurd h

notes_more : (ts : List DataType) (modules ms : List ModuleTree) (vs : List (Vec Note Global)) (m : ModuleTree) (v : Vec Note Global)
    → HasNotes ts modules ms vs → Noted ts [] v.items (module_notes modules m) → HasNotes ts modules (ms ++ m ∷ []) (vs ++ v ∷ [])
notes_more ts modules [] [] m v h k = (k, tt)
notes_more ts modules (x ∷ ms) (w ∷ vs) m v h k = (h.0, notes_more ts modules ms vs m v h.1 k)
notes_more ts modules [] (w ∷ vs) m v h k = absurd h
notes_more ts modules (x ∷ ms) [] m v h k = absurd h

notes_all : (ts : List DataType) (modules ms : List ModuleTree) (vs : List (Vec Note Global)) → HasNotes ts modules ms vs
    → found_notes ts vs ≡ map (map saturated_note) (map (module_notes modules) ms)
notes_all ts modules [] [] h = refl
notes_all ts modules (m ∷ ms) (v ∷ vs) h =
    ap (λ x. x ∷ found_notes ts vs) (ap (map (note_seen ts)) h.0.grown ∙ h.0.are)
    ∙ ap (λ xs. map saturated_note (module_notes modules m) ∷ xs) (notes_all ts modules ms vs h.1)
notes_all ts modules [] (v ∷ vs) h = absurd h
notes_all ts modules (m ∷ ms) [] h = absurd h

-- how far a walk has come
pub record ModulesTyped (modules front : List ModuleTree) (bundles : List TypeId) (table : List Entry) (declared : List (Vec (Option Found) Global))
    (notes : List (Vec Note Global)) : Type 0 where
  pub clear : flat_map (module_type_faults modules) front ≡ []
  pub has : HasModules (types_of table) modules front declared
  pub noted : HasNotes (types_of table) modules front notes
  pub holds : HoldsBundles (types_of table) bundles modules

pub modules_first : (modules : List ModuleTree) (bundles : List TypeId) (table : List Entry) (declared : List (Vec (Option Found) Global)) (notes : List (Vec Note Global))
    → declared ≡ [] → notes ≡ [] → HoldsBundles (types_of table) bundles modules → ModulesTyped modules [] bundles table declared notes
modules_first modules bundles table declared notes none no_notes holds = record { clear = refl; has = rw none tt; noted = rw no_notes tt; holds = holds }

module _ (c : Circuit) (items : List Module) (same : items ≡ c.modules.items) (i : ℕ) where
  abbrev modules : List ModuleTree
  modules = (circuit_of c).modules

  abbrev front : ℕ → List ModuleTree
  front k = map module_of (take k c.modules.items)

  front_more : (m : Module) → i < length items → m ≡ get_or items i m → front (i + 1) ≡ front i ++ module_of m ∷ []
  front_more m within at =
      sym (ap (λ xs. map module_of (take (i + 1) xs)) same) ∙ map_more module_of items i m within
      ∙ ap (λ x. map module_of (take i items) ++ module_of x ∷ []) (sym at)
      ∙ ap (λ xs. map module_of (take i xs) ++ module_of m ∷ []) same

  pub of_module : (names : Names) (m : Module) → i < length items → m ≡ get_or items i m → HasNames (circuit_of c)
      → Tabulates (module_names (circuit_of c)) names (declarations (module_of m)) → IsOfModule modules names (declarations (module_of m))
  of_module names m within at clear tabulated = record {
    tabulated = tabulated;
    there = λ d name among is.
        instance_number (circuit_of c) clear.names (module_of m) d name (get_in modules i (module_of m) (module_there c items same i m within at)) among is;
  }

  pub modules_next : (bundles lent : List TypeId) → lent ≡ bundles → (table : List Entry) (declared after : List (Vec (Option Found) Global)) (notes later : List (Vec Note Global))
      (m : Module) (scope : Scope) (own : Vec Note Global)
      → i < length items → m ≡ get_or items i m → ModulesTyped modules (front i) bundles table declared notes
      → JudgesModule modules lent (types_of table) (module_of m) (Ok (scope, own)) → after ≡ declared ++ scope.declared ∷ [] → later ≡ notes ++ own ∷ []
      → ModulesTyped modules (front (i + 1)) bundles scope.table after later
  modules_next bundles lent given table declared after notes later m scope own within at typed judged pushed noted =
      let grown : HasModules (types_of scope.table) modules (front i) declared =
      rw judged.3.grown (modules_grown (types_of table) judged.3.more modules (front i) declared typed.has) in
      let still : HasNotes (types_of scope.table) modules (front i) notes =
      rw judged.3.grown (notes_grown (types_of table) judged.3.more modules (front i) notes typed.noted) in
      rw (front_more m within at, pushed, noted) record {
        clear = clear_more (module_type_faults modules) (front i) (module_of m) typed.clear judged.0;
        has = modules_more (types_of scope.table) modules (front i) declared (module_of m) scope.declared grown judged.1;
        noted = notes_more (types_of scope.table) modules (front i) notes (module_of m) own still judged.4;
        holds = subst (λ ids. HoldsBundles (types_of scope.table) ids modules) given judged.2;
      }

  pub module_fails : (bundles : List TypeId) (table : List Entry) (declared : List (Vec (Option Found) Global)) (notes : List (Vec Note Global)) (m : Module) (e : Refused FirFault)
      → i < length items → m ≡ get_or items i m → ModulesTyped modules (front i) bundles table declared notes
      → IsFirstOf (module_type_faults modules (module_of m)) e → IsFirstOf (type_faults (circuit_of c)) e
  module_fails bundles table declared notes m e within at typed h =
      let whole : modules ≡ front i ++ module_of m ∷ map module_of (drop (i + 1) items) =
      sym (ap (map module_of) same) ∙ split items i m within at ∙ ap (λ xs. map module_of (take i xs) ++ module_of m ∷ map module_of (drop (i + 1) items)) same in
      subst (λ ms. IsFirstOf (flat_map (module_type_faults modules) ms) e) (sym whole)
      (first_within (module_type_faults modules) (front i) (map module_of (drop (i + 1) items)) (module_of m) e typed.clear h)

  all_passed : length items ≤ i → front i ≡ modules
  all_passed past = ap (map module_of) (sym (ap (take i) same) ∙ take_all i items past ∙ same)

  pub types_found : (bundles : List TypeId) (table : List Entry) (declared : List (Vec (Option Found) Global)) (notes : List (Vec Note Global)) → length items ≤ i
      → ModulesTyped modules (front i) bundles table declared notes → found_types (types_of table) declared ≡ declared_types (circuit_of c)
  types_found bundles table declared notes past typed =
      types_all (types_of table) modules (front i) declared typed.has ∙ ap (map (λ m. map (λ k. k.data_type) (typed_scope modules (declarations m)))) (all_passed past)

  pub modules_all : (bundles : List TypeId) (found : Findings) → length items ≤ i
      → ModulesTyped modules (front i) bundles found.table found.declared.items found.notes.items
      → map (λ v. v.items) found.first_leaves.items ≡ map (map saturated) (first_leaves (circuit_of c)) → IsTyped (circuit_of c) found
  modules_all bundles found past typed leaves =
      let all = all_passed past in
      record {
        clear = sym (ap (flat_map (module_type_faults modules)) all) ∙ typed.clear;
        types = types_found bundles found.table found.declared.items found.notes.items past typed;
        notes = notes_all (types_of found.table) modules (front i) found.notes.items typed.noted ∙ ap (λ ms. map (map saturated_note) (map (module_notes modules) ms)) all;
        leaves = leaves;
      }
