-- The module of an instance, by its number.
use Rattle.std.proofs.Common.{◌≡◌, ℕ, suc, ◌+◌, List, [], ◌∷◌, ◌++◌, length, Bool, true, false, Option, Some, None, unwrap_or, refl, sym, ap, ◌∙◌, subst, inl, arith, append_assoc}
use Rattle.std.specs.Prelude.{if◌then◌else◌, option_map, slice_get}
use Rattle.std.specs.Str.{bytes_eq}
use Rattle.std.proofs.lemmas.Option.{none-some, same_Some}
use Rattle.fir_base.specs.Lists.{In}
use Rattle.fir_base.proofs.Elements.{get_behind}
use Rattle.fir_base.proofs.Members.{in_right}
use Rattle.fir_ast.specs.Circuits.{CircuitTree, ModuleTree}
use Rattle.fir_ast.specs.Statements.{PlacedName}
use Rattle.fir_meaning.specs.Components.{Declaration, instance}
use Rattle.fir_meaning.specs.ResetJoins.{numbered_module}
use Rattle.fir_meaning.specs.Visibility.{Before, declaration_at, declarations}
use Rattle.fir_names.specs.declared.declaration.Component.TheVariants as code
use Rattle.fir_names.specs.declared.declaration.Declaration.{Declaration as Entry}
use Rattle.fir_names.specs.working.ModuleOrder.{find_number}
use Rattle.fir_names.specs.working.Numbered.{names_of}
use Rattle.fir_names.specs.working.Tabulated.{entry_at, entry_of}
use Rattle.fir_names.proofs.TablesByNumber.{entry_read}
use Rattle.fir_reset.proofs.ModuleNumbers.{is_numbered}
use Rattle.fir_meaning.specs.ModuleScenes.{Scene}
use Rattle.fir_leaf_table.specs.declared.frame.Frame.{Frame}
use Rattle.fir_leaf_table.specs.working.Frames.{Frames, IsDeclaredAt}

-- a module of a name, with its number
abbrev NumberedFrom : ℕ → List ModuleTree → List ℕ → ℕ → Type 0
NumberedFrom i modules name k = (child : ModuleTree) × (numbered_module i modules name ≡ Some (i + k, child))

numbered_from : (i : ℕ) (modules : List ModuleTree) (name : List ℕ) (k : ℕ) → find_number (names_of modules) name ≡ Some k → NumberedFrom i modules name k
numbered_from i [] name k e = absurd (none-some k e)
numbered_from i (m ∷ ms) name k e = either (bytes_eq m.named.name name) (find_number (names_of ms) name) (λ j h. numbered_from (suc i) ms name j h) e
  where
    either : (b : Bool) (o : Option ℕ) → ((j : ℕ) → o ≡ Some j → NumberedFrom (suc i) ms name j) → (if b then Some 0 else option_map (λ j. j + 1) o) ≡ Some k
        → (child : ModuleTree) × ((if b then Some (i, m) else numbered_module (suc i) ms name) ≡ Some (i + k, child))
    either true o later e =
        let zeros : 0 ≡ k = same_Some 0 k e in
        let here : i ≡ i + k = omega arith in
        (m, ap (λ (n : ℕ). Some (n, m)) here)
    either false None later e = absurd (none-some k e)
    either false (Some j) later e =
        let next : j + 1 ≡ k = same_Some (j + 1) k e in
        let there : suc i + j ≡ i + k = omega arith in
        let one = later j refl in
        (one.0, one.1 ∙ ap (λ (n : ℕ). Some (n, one.0)) there)

-- what is known of an instance
pub record InstanceFacts (frame : Frame) (c : CircuitTree) (name : List ℕ) (position : ℕ) : Type 0 where
  pub number : ℕ
  pub child : ModuleTree
  pub entry : Entry
  pub found : entry_at frame.names.now position ≡ Some entry
  pub component : entry.component ≡ code.Instance number
  pub numbered : numbered_module 0 c.modules name ≡ Some (number, child)

pub instance_facts : (frame : Frame) (c : CircuitTree) (s : Scene) (before : Before) (n : PlacedName) (name : List ℕ) (position : ℕ)
    → Frames frame c s → IsDeclaredAt s before n (instance name) position → InstanceFacts frame c name position
instance_facts frame c s before n name position frames h =
    let whole = declarations s.own.inside in
    let d : Declaration = declaration_at before n (instance name) in
    let rest = h.begins.0 in
    let whole_is : whole ≡ before.declared ++ d ∷ rest = h.begins.1 ∙ append_assoc before.declared (d ∷ []) rest in
    let among : In whole d = subst (λ ds. In ds d) (sym whole_is) (in_right before.declared (d ∷ rest) d (inl refl)) in
    let there = frames.names.there d name among refl in
    let number = there.0 in
    let numbered = numbered_from 0 c.modules name number there.1 in
    let at : slice_get whole position ≡ Some d =
    ap (slice_get whole) h.counted ∙ ap (λ ds. slice_get ds (length before.declared)) whole_is ∙ get_behind before.declared rest d in
    let zeros : 0 + number ≡ number = omega arith in
    record {
      number = number;
      child = numbered.0;
      entry = entry_of (names_of c.modules) position d;
      found = entry_read (names_of c.modules) frame.names.now whole frames.names.tabulated position d at;
      component = ap (λ o. code.Instance (unwrap_or o 0)) there.1;
      numbered = numbered.1 ∙ ap (λ (k : ℕ). Some (k, numbered.0)) zeros;
    }

-- the module of an instance is the one of its number
pub module_at : (modules : List ModuleTree) (name : List ℕ) (number : ℕ) (child : ModuleTree) → numbered_module 0 modules name ≡ Some (number, child)
    → slice_get modules number ≡ Some child
module_at modules name number child numbered =
    let h = is_numbered 0 modules name (number, child) numbered in
    let same : number ≡ h.behind = omega (arith, h.number) in
    ap (slice_get modules) same ∙ h.there
