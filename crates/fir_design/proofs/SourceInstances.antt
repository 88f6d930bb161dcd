-- The instances of a module's text beside those of its statements over leaves, in order: of one name and of one module.
use Rattle.std.proofs.Common.{◌≡◌, ℕ, ◌+◌, List, [], ◌∷◌, ◌++◌, length, map, slice_get, Bool, Option, Some, None, refl, sym, ap, ◌∙◌, subst, append_assoc, inl, inr}
use Rattle.std.specs.Prelude.{slice_index_or}
use Rattle.std.proofs.lemmas.List.{append-nil}
use Rattle.std.proofs.lemmas.Option.{none-some}
use Rattle.fir_base.specs.Lists.{In}
use Rattle.fir_base.proofs.Elements.{get_behind}
use Rattle.fir_base.proofs.Members.{in_left, in_right}
use Rattle.fir_ast.specs.Statements.{PlacedName, Statement, wire, register, node, instance, memory, when, connect, partial_connect, invalid, skip, Block, done, then}
use Rattle.fir_ast.specs.Circuits.{ModuleTree}
use Rattle.fir_meaning.specs.Components.{Declaration, Declarations}
use Rattle.fir_meaning.specs.Components as component
use Rattle.fir_meaning.specs.ExpressionTypes.{expression_type}
use Rattle.fir_meaning.specs.ResetJoins.{numbered_module}
use Rattle.fir_meaning.specs.TypeGroup.{scope_at}
use Rattle.fir_meaning.specs.TypeLeaves.{leaf_count}
use Rattle.fir_meaning.specs.Visibility.{Before, declaration_at, with_declaration, opened, reopened, behind, behind_block}
use Rattle.fir_names.proofs.BehindStatements.{adds_block}
use Rattle.fir_meaning.specs.working.DesignPaths.{no_name}
use Rattle.fir_meaning.specs.working.Leafed.{target_of}
use Rattle.fir_meaning.specs.working.LeafPairs.{leaf_pairs, partial_leaf_pairs}
use Rattle.fir_meaning.specs.working.LeafedBlocks.{instance_block, leafed, leafed_all, sides}
use Rattle.fir_meaning.specs.FoundTypes.{type_where}
use Rattle.fir_meaning.specs.SourceDesigns.{InstanceOf, instances_of, instances_of_block}
use Rattle.fir_design.proofs.DeclaredInstances.{Grows}
use Rattle.fir_design.proofs.DrivingBlocks.{pairs_none, invalid_none}
use Rattle.fir_design.proofs.HeldInstances.{Held, all_held_in, held_joined}
use Rattle.fir_design.proofs.KnownDeclarations.{known_long}
use Rattle.fir_design.proofs.OwnNames.{name_declared}

-- what is declared before a block is what is declared behind it, without the rest
pub grows_before : (before : Before) (b : Block) (all : Declarations) → Grows (behind_block before b).declared all → Grows before.declared all
grows_before before b all g =
    let a = adds_block before b in
    (a.added ++ g.0, sym (append_assoc before.declared a.added g.0) ∙ ap (λ ds. ds ++ g.0) (sym a.declared) ∙ g.1)

-- the name of the declaration behind so many
abbrev pub declared_as : Declarations → ℕ → List ℕ
declared_as all x = (slice_index_or (map (λ (d : Declaration). d.named) all) x no_name).name

-- an instance's declaration has its name
pub declared_name : (modules : List ModuleTree) (all : Declarations) (before : Before) (n : PlacedName) (name : List ℕ)
    → Grows (with_declaration before n (component.instance name)).declared all → declared_as all (length (scope_at modules before)) ≡ n.name
declared_name modules all before n name g =
    let d = declaration_at before n (component.instance name) in
    let whole : before.declared ++ d ∷ g.0 ≡ all = sym (append_assoc before.declared (d ∷ []) g.0) ∙ g.1 in
    ap (declared_as all) (known_long modules before.declared)
    ∙ ap (λ (m : PlacedName). m.name)
    (name_declared all (length before.declared) d
    (ap (λ ds. slice_get ds (length before.declared)) (sym whole) ∙ get_behind before.declared g.0 d))

module _ (modules : List ModuleTree) (all : Declarations) where
  pub record IsSame (h : Held) (i : InstanceOf) : Type 0 where
    pub name : declared_as all h.own.declaration ≡ i.named.name
    pub child : ModuleTree
    pub found : numbered_module 0 modules i.other.name ≡ Some (h.own.module_number, child)

  -- one by one
  abbrev pub AreSame : List Held → List InstanceOf → Type 0
  AreSame [] [] = Unit {0}
  AreSame (h ∷ hs) (i ∷ is) = IsSame h i × AreSame hs is
  AreSame _ _ = ⊥

  same_joined : (hs gs : List Held) (is js : List InstanceOf) → AreSame hs is → AreSame gs js → AreSame (hs ++ gs) (is ++ js)
  same_joined [] gs [] js a b = b
  same_joined [] gs (i ∷ is) js a b = absurd a
  same_joined (h ∷ hs) gs [] js a b = absurd a
  same_joined (h ∷ hs) gs (i ∷ is) js a b = (a.0, same_joined hs gs is js a.1 b)

  none_same : (hs : List Held) → hs ≡ [] → AreSame hs []
  none_same hs e = rw e tt

  -- each has its one beside it
  pub instance_beside : (hs : List Held) (is : List InstanceOf) → AreSame hs is → (h : Held) → In hs h
      → (i : InstanceOf) × In is i × IsSame h i
  instance_beside [] is a h m = absurd m
  instance_beside (x ∷ hs) [] a h m = absurd a
  instance_beside (x ∷ hs) (i ∷ is) a h (inl e) = (i, inl refl, subst (λ y. IsSame y i) e a.0)
  instance_beside (x ∷ hs) (i ∷ is) a h (inr m) = let r = instance_beside hs is a.1 h m in (r.0, inr r.1, r.2)

  pub held_beside : (hs : List Held) (is : List InstanceOf) → AreSame hs is → (i : InstanceOf) → In is i → (h : Held) × In hs h × IsSame h i
  held_beside hs [] a i m = absurd m
  held_beside [] (x ∷ is) a i m = absurd a
  held_beside (h ∷ hs) (x ∷ is) a i (inl e) = (h, inl refl, subst (λ y. IsSame h y) e a.0)
  held_beside (h ∷ hs) (x ∷ is) a i (inr m) = let r = held_beside hs is a.1 i m in (r.0, inr r.1, r.2)

  -- each has a module
  abbrev pub AreFound : List InstanceOf → Type 0
  AreFound is = (i : InstanceOf) → In is i → (child : ℕ × ModuleTree) × (numbered_module 0 modules i.other.name ≡ Some child)

  one_same : (before : Before) (n other : PlacedName) (k : ℕ) → declared_as all (length (scope_at modules before)) ≡ n.name
      → (child : ℕ × ModuleTree) → numbered_module 0 modules other.name ≡ Some child → (o : Option (ℕ × ModuleTree))
      → numbered_module 0 modules other.name ≡ o
      → AreSame (all_held_in k (instance_block (scope_at modules before) o)) (record { named = n; other = other } ∷ [])
  one_same before n other k name child found None e = absurd (none-some child (sym e ∙ found))
  one_same before n other k name child found (Some c) e = (record { name = name; child = c.1; found = e }, tt)

  module _ (may : ℕ → Bool) where
    mutual
      statement_same : (s : Statement) (before : Before) (k : ℕ) → Grows (behind before s).declared all → AreFound (instances_of s)
          → AreSame (all_held_in k (leafed modules may before s)) (instances_of s)
      statement_same (instance p n other) before k g found =
          let child = found (record { named = n; other = other }) (inl refl) in
          one_same before n other k (declared_name modules all before n other.name g) child.0 child.1 (numbered_module 0 modules other.name) refl
      statement_same (when p c a b) before k g found =
          let second = reopened before (behind_block (opened before) a) in
          let one = all_held_in (k + 1) (leafed_all modules may (opened before) a) in
          let other = all_held_in (k + 1) (leafed_all modules may second b) in
          subst (λ hs. AreSame hs (instances_of_block a ++ instances_of_block b)) (sym (append-nil (one ++ other)))
          (same_joined one other (instances_of_block a) (instances_of_block b)
          (block_same a (opened before) (k + 1) (grows_before second b all g)
          (λ i m. found i (in_left (instances_of_block a) (instances_of_block b) i m)))
          (block_same b second (k + 1) g (λ i m. found i (in_right (instances_of_block a) (instances_of_block b) i m))))
      statement_same (connect p s e) before k g found =
          let scope = scope_at modules before in
          none_same _ (pairs_none k p (sides scope s e) (leaf_pairs (target_of scope s).data_type (type_where (expression_type scope e).has)))
      statement_same (partial_connect p s e) before k g found =
          let scope = scope_at modules before in
          none_same _ (pairs_none k p (sides scope s e) (partial_leaf_pairs (target_of scope s).data_type (type_where (expression_type scope e).has)))
      statement_same (invalid p s) before k g found =
          let r = target_of (scope_at modules before) s in none_same _ (invalid_none may k p r 0 (leaf_count r.data_type))
      statement_same (wire p n b t) before k g found = tt
      statement_same (register p n b t c r) before k g found = tt
      statement_same (node p n e) before k g found = tt
      statement_same (memory p n parts) before k g found = tt
      statement_same (skip p) before k g found = tt

      pub block_same : (b : Block) (before : Before) (k : ℕ) → Grows (behind_block before b).declared all → AreFound (instances_of_block b)
          → AreSame (all_held_in k (leafed_all modules may before b)) (instances_of_block b)
      block_same done before k g found = tt
      block_same ((then) s b) before k g found =
          let next = behind before s in
          subst (λ hs. AreSame hs (instances_of s ++ instances_of_block b))
          (sym (held_joined k (leafed modules may before s) (leafed_all modules may next b)))
          (same_joined (all_held_in k (leafed modules may before s)) (all_held_in k (leafed_all modules may next b))
          (instances_of s) (instances_of_block b)
          (statement_same s before k (grows_before next b all g) (λ i m. found i (in_left (instances_of s) (instances_of_block b) i m)))
          (block_same b next k g (λ i m. found i (in_right (instances_of s) (instances_of_block b) i m))))
