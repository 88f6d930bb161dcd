-- How far a walk has come in the fields of a bundle, in the fields of a memory or among ports, whose names are one namespace.
-- What is left has the first fault of the whole, behind the names that are held.
use Rattle.std.proofs.Common.{◌≡◌, ℕ, ◌+◌, ◌<◌, List, [], ◌∷◌, ◌++◌, map, drop, length, get_or, refl, sym, ap, ◌∙◌}
use Rattle.std.specs.Prelude.{Some, None}
use Rattle.fir_ast.specs.declared.types.Field.{Field}
use Rattle.fir_ast.specs.declared.statements.Ident.{Ident}
use Rattle.fir_ast.specs.declared.statements.MemoryField.{MemoryField}
use Rattle.fir_ast.specs.Statements.{MemoryPart, PlacedName}
use Rattle.fir_ast.specs.View.{fields_of}
use Rattle.fir_ast.specs.working.TypeViews.{type_of}
use Rattle.fir_ast.specs.working.Views.{memory_part_of, named_of}
use Rattle.fir_ast.specs.working.BundleText.{field_of}
use Rattle.fir_ast.proofs.Fields.{field_of-is}
use Rattle.fir_ast.specs.Faults.{Fault}
use Rattle.fir_pass.specs.Groups.{first_of}
use Rattle.fir_meaning.specs.Mentions.{Mention, data_mentions, declares, field_mentions, memory_mentions, placed_name, port_mentions, ports_of, type_mentions}
use Rattle.fir_meaning.specs.NameGroups.{faults_in}
use Rattle.fir_resolve.specs.declared.namespace.Namespace.{Namespace}
use Rattle.fir_resolve.specs.working.Namespaces.{Holds}
use Rattle.fir_names.proofs.FirstMentions.{mentions_behind, mentions_front, views_left}

-- behind the names at the start stands the whole, and behind those that are held what is left
pub record At {A : Type 0} (walk : List PlacedName → A → List Mention) (namespace : Namespace) (start : List PlacedName) (whole left : A) : Type 0 where
  pub before : List PlacedName
  pub held : Holds namespace before
  pub same : first_of (faults_in (walk start whole)) ≡ first_of (faults_in (walk before left))

-- what stands next mentions these, and declares those
pub record Next {A : Type 0} (walk : List PlacedName → A → List Mention) (left rest : A) (step : List PlacedName → List Mention) (more : List PlacedName) : Type 0 where
  pub is : (before : List PlacedName) → walk before left ≡ step before ++ walk (before ++ more) rest

abbrev pub at_start : {A : Type 0} (walk : List PlacedName → A → List Mention) (namespace : Namespace) (start : List PlacedName) (whole : A)
    → Holds namespace start → At walk namespace start whole whole
at_start walk namespace start whole h = record { before = start; held = h; same = refl }

abbrev pub at_next : {A : Type 0} (walk : List PlacedName → A → List Mention) (old new : Namespace) (start : List PlacedName) (whole left rest : A)
    (step : List PlacedName → List Mention) (more : List PlacedName) → Next walk left rest step more
    → ((before : List PlacedName) → Holds old before → None ≡ first_of (faults_in (step before)))
    → ((before : List PlacedName) → Holds old before → Holds new (before ++ more))
    → At walk old start whole left → At walk new start whole rest
at_next walk old new start whole left rest step more next clear holds a = record {
  before = a.before ++ more;
  held = holds a.before a.held;
  same = a.same ∙ ap (λ ms. first_of (faults_in ms)) (next.is a.before) ∙ mentions_behind (step a.before) (walk (a.before ++ more) rest) (clear a.before a.held);
}

pub at_found : {A : Type 0} (walk : List PlacedName → A → List Mention) (namespace : Namespace) (start : List PlacedName) (whole left rest : A)
    (step : List PlacedName → List Mention) (more : List PlacedName) (x : Fault) → Next walk left rest step more
    → ((before : List PlacedName) → Holds namespace before → Some x ≡ first_of (faults_in (step before)))
    → At walk namespace start whole left → Some x ≡ first_of (faults_in (walk start whole))
at_found walk namespace start whole left rest step more x next found a =
    mentions_front (step a.before) (walk (a.before ++ more) rest) x (found a.before a.held) ∙ sym (a.same ∙ ap (λ ms. first_of (faults_in ms)) (next.is a.before))

-- a bundle's field, a memory's field and a port stand next
abbrev pub field_step : Field → List PlacedName → List Mention
field_step f before = declares before (placed_name f.place f.name) ∷ type_mentions (type_of f.ty)

pub fields_next : (fields : List Field) (i : ℕ) (f : Field) → i < length fields → f ≡ get_or fields i f
    → Next field_mentions (fields_of (map field_of (drop i fields))) (fields_of (map field_of (drop (i + 1) fields))) (field_step f) (placed_name f.place f.name ∷ [])
fields_next fields i f within at = record {
  is = λ before.
      ap (λ l. field_mentions before (fields_of l)) (views_left field_of fields i f within at)
      ∙ ap (field_mentions before) (field_of-is f (fields_of (map field_of (drop (i + 1) fields))));
}

abbrev pub memory_step : MemoryPart → List PlacedName → List Mention
memory_step m before = data_mentions m ++ port_mentions before (ports_of m)

pub memory_next : (fields : List MemoryField) (i : ℕ) (f : MemoryField) → i < length fields → f ≡ get_or fields i f
    → Next memory_mentions (map memory_part_of (drop i fields)) (map memory_part_of (drop (i + 1) fields)) (memory_step (memory_part_of f)) (ports_of (memory_part_of f))
memory_next fields i f within at = record { is = λ before. ap (memory_mentions before) (views_left memory_part_of fields i f within at) }

abbrev pub port_step : PlacedName → List PlacedName → List Mention
port_step n before = declares before n ∷ []

pub ports_next : (ports : List Ident) (i : ℕ) (p : Ident) → i < length ports → p ≡ get_or ports i p
    → Next port_mentions (map named_of (drop i ports)) (map named_of (drop (i + 1) ports)) (port_step (named_of p)) (named_of p ∷ [])
ports_next ports i p within at = record { is = λ before. ap (port_mentions before) (views_left named_of ports i p within at) }
