-- The instances of a module's text are declarations of the module: each has a module of the circuit, and what has one name is of one module.
use Rattle.std.proofs.Common.{◌≡◌, ℕ, suc, ◌+◌, List, [], ◌∷◌, ◌++◌, map, Bool, true, false, if◌then◌else◌, Option, Some, None, option_map, refl, sym, ap, ◌∙◌, subst, inl, ⊎_elim}
use Rattle.std.specs.Str.{bytes_eq}
use Rattle.std.proofs.lemmas.Option.{none-some, same_Some}
use Rattle.fir_base.specs.Lists.{In, Distinct}
use Rattle.fir_base.proofs.Members.{in_either, in_left, in_right}
use Rattle.fir_ast.specs.Statements.{Statement, wire, register, node, instance, memory, when, connect, partial_connect, invalid, skip, Block, done, then}
use Rattle.fir_ast.specs.Circuits.{ModuleTree, CircuitTree}
use Rattle.fir_meaning.specs.Components.{Declaration, Declarations, find}
use Rattle.fir_meaning.specs.Components as component
use Rattle.fir_meaning.specs.working.NameGroups.{HasNames}
use Rattle.fir_meaning.specs.ResetJoins.{numbered_module}
use Rattle.fir_meaning.specs.Visibility.{Before, opened, reopened, behind, behind_block, declarations}
use Rattle.fir_meaning.proofs.FoundDeclarations.{Once, once_found}
use Rattle.fir_names.specs.working.ModuleOrder.{find_number}
use Rattle.fir_names.proofs.BehindStatements.{adds_block}
use Rattle.fir_names.proofs.ModulesThere.{instance_number}
use Rattle.fir_meaning.specs.ModuleScenes.{Scene, behind_all_ports}
use Rattle.fir_leaf.proofs.DeclaredLeaves.{IsOwn}
use Rattle.fir_meaning.specs.SourceDesigns.{InstanceOf, instances_of, instances_of_block}
use Rattle.fir_design.proofs.DeclaredInstances.{instance_within}
use Rattle.fir_design.proofs.FineScenes.{IsFineScene}
use Rattle.fir_design.proofs.KnownDeclarations.{known_names}
use Rattle.fir_design.proofs.SourceInstances.{AreFound}

-- an instance's declaration, within some whens
abbrev pub IsDeclaredIn : Declarations → InstanceOf → Type 0
IsDeclaredIn ds i = (depth : ℕ) × In ds (instance_within i.named i.other.name depth)

kept_behind : (before : Before) (b : Block) (i : InstanceOf) → IsDeclaredIn before.declared i → IsDeclaredIn (behind_block before b).declared i
kept_behind before b i d =
    let a = adds_block before b in
    let x = instance_within i.named i.other.name d.0 in
    (d.0, subst (λ ds. In ds x) (sym a.declared) (in_left before.declared a.added x d.1))

mutual
  statement_declares : (s : Statement) (before : Before) (i : InstanceOf) → In (instances_of s) i → IsDeclaredIn (behind before s).declared i
  statement_declares (instance p n other) before i m =
      ⊎_elim
      (λ (e : record { named = n; other = other } ≡ i).
      subst (IsDeclaredIn (before.declared ++ instance_within n other.name before.depth ∷ [])) e (
        before.depth,
        in_right before.declared (instance_within n other.name before.depth ∷ []) (instance_within n other.name before.depth) (inl refl),
      ))
      (λ (x : ⊥). absurd x) m
  statement_declares (when p c a b) before i m =
      let inside = behind_block (opened before) a in
      ⊎_elim
      (λ (l : In (instances_of_block a) i). kept_behind (reopened before inside) b i (block_declares a (opened before) i l))
      (λ (r : In (instances_of_block b) i). block_declares b (reopened before inside) i r)
      (in_either (instances_of_block a) (instances_of_block b) i m)
  statement_declares (wire p n b t) before i m = absurd m
  statement_declares (register p n b t c r) before i m = absurd m
  statement_declares (node p n e) before i m = absurd m
  statement_declares (memory p n parts) before i m = absurd m
  statement_declares (connect p s e) before i m = absurd m
  statement_declares (partial_connect p s e) before i m = absurd m
  statement_declares (invalid p s) before i m = absurd m
  statement_declares (skip p) before i m = absurd m

  block_declares : (b : Block) (before : Before) (i : InstanceOf) → In (instances_of_block b) i → IsDeclaredIn (behind_block before b).declared i
  block_declares done before i m = absurd m
  block_declares ((then) s b) before i m =
      ⊎_elim
      (λ (l : In (instances_of s) i). kept_behind (behind before s) b i (statement_declares s before i l))
      (λ (r : In (instances_of_block b) i). block_declares b (behind before s) i r)
      (in_either (instances_of s) (instances_of_block b) i m)

-- the instances of a scene's module
abbrev pub instances_in : Scene → List InstanceOf
instances_in s = instances_of_block s.own.inside.body

pub instance_declared_in : (s : Scene) (i : InstanceOf) → In (instances_in s) i → IsDeclaredIn (declarations s.own.inside) i
instance_declared_in s i m = block_declares s.own.inside.body (behind_all_ports s.own.inside) i m

-- a name that has a number has a module
numbered_there : (ms : List ModuleTree) (name : List ℕ) (from k : ℕ) → find_number (map (λ (m : ModuleTree). m.named) ms) name ≡ Some k
    → (child : ℕ × ModuleTree) × (numbered_module from ms name ≡ Some child)
numbered_there [] name from k e = absurd (none-some k e)
numbered_there (m ∷ ms) name from k e = by (bytes_eq m.named.name name) refl e (λ j. numbered_there ms name (suc from) j)
  where
    rest : (o : Option ℕ) → option_map (λ j. j + 1) o ≡ Some k → (j : ℕ) × (o ≡ Some j)
    rest None h = absurd (none-some k h)
    rest (Some j) h = (j, refl)

    by : (b : Bool) → bytes_eq m.named.name name ≡ b
        → (if b then Some 0 else option_map (λ j. j + 1) (find_number (map (λ (x : ModuleTree). x.named) ms) name)) ≡ Some k
        → ((j : ℕ) → find_number (map (λ (x : ModuleTree). x.named) ms) name ≡ Some j
        → (child : ℕ × ModuleTree) × (numbered_module (suc from) ms name ≡ Some child))
        → (child : ℕ × ModuleTree) × ((if b then Some (from, m) else numbered_module (suc from) ms name) ≡ Some child)
    by true t h more = ((from, m), refl)
    by false t h more = let r = rest (find_number (map (λ (x : ModuleTree). x.named) ms) name) h in more r.0 r.1

-- each instance has a module of the circuit
pub instances_found : (c : CircuitTree) (s : Scene) → HasNames c → IsOwn c.modules s.own
    → AreFound s.own.modules (declarations s.own.inside) (instances_in s)
instances_found c s names own i m =
    let d = instance_declared_in s i m in
    let k = instance_number c names.names s.own.inside (instance_within i.named i.other.name d.0) i.other.name own.inside d.1 refl in
    let r = numbered_there c.modules i.other.name 0 k.0 k.1 in
    (r.0, ap (λ ms. numbered_module 0 ms i.other.name) own.modules ∙ r.1)

-- what has one name is of one module
pub one_module : (s : Scene) → IsFineScene s → (i j : InstanceOf) → In (instances_in s) i → In (instances_in s) j
    → i.named.name ≡ j.named.name
    → i.other.name ≡ j.other.name
one_module s f i j mi mj e =
    let all = declarations s.own.inside in
    let once : Once all = record { once = subst Distinct (known_names s.own.modules all) f.fine.names } in
    let di = instance_declared_in s i mi in
    let dj = instance_declared_in s j mj in
    let a = instance_within i.named i.other.name di.0 in
    let b = instance_within j.named j.other.name dj.0 in
    let same : a ≡ b = same_Some a b (sym (once_found all once a di.1) ∙ ap (find all) e ∙ once_found all once b dj.1) in
    let components : component.instance i.other.name ≡ component.instance j.other.name = ap (λ (d : Declaration). d.component) same in
    cc
