-- The leaves of a module that are no ports: a source among them is a leaf of an instance, and what a leaf of an instance is and holds is said by the instance.
use Rattle.std.proofs.Common.{◌≡◌, ℕ, suc, ◌+◌, ◌-◌, ◌<◌, ◌≤◌, List, [], ◌∷◌, ◌++◌, map, flat_map, length, slice_get, Bool, true, false, if◌then◌else◌, Option, Some, None, refl, sym, ap, ◌∙◌, subst, append_assoc, append-nil, inl, arith, length-append}
use Rattle.std.specs.List.{AllByRecursion}
use Rattle.std.proofs.lemmas.List.{get_or-append-add}
use Rattle.std.proofs.lemmas.Option.{none-some, same_Some}
use Rattle.fir_base.specs.Lists.{In}
use Rattle.fir_base.proofs.Each.{all_at, all_joined}
use Rattle.fir_base.proofs.Elements.{get_behind}
use Rattle.fir_base.proofs.Members.{in_left, in_right}
use Rattle.fir_ast.specs.Circuits.{CircuitTree, ModuleTree}
use Rattle.fir_ast.specs.declared.place.Place.{Place}
use Rattle.fir_ast.specs.Statements.{MemoryPart, PlacedName, Statement, wire, register, node, instance, memory, when, connect, partial_connect, invalid, skip, Block, done, then}
use Rattle.fir_meaning.specs.Components.{Component, Declaration, Declarations}
use Rattle.fir_meaning.specs.Components as component
use Rattle.fir_meaning.specs.ComponentTypes.{instance_type}
use Rattle.fir_meaning.specs.FoundTypes.{leaves_of_data}
use Rattle.fir_meaning.specs.HeldTypes.{held_types}
use Rattle.fir_meaning.specs.LeafPaths.{named}
use Rattle.fir_meaning.specs.LeafTypes.{LeafType}
use Rattle.fir_meaning.specs.MemoryTypes.{memory_bundle, memory_type}
use Rattle.fir_meaning.specs.ModuleScenes.{Declared, Scene, behind_all_ports, held_by_declared, scope_before, type_of_declared}
use Rattle.fir_meaning.specs.ResetJoins.{numbered_module}
use Rattle.fir_meaning.specs.SizedDeclarations.{sized_instance}
use Rattle.fir_meaning.specs.SourceDesigns.{instances_of, instances_of_block}
use Rattle.fir_meaning.specs.TypeGroup.{scope_at}
use Rattle.fir_meaning.specs.TypeLeaves.{TypeLeaf, leaf_count, type_leaves}
use Rattle.fir_meaning.specs.Visibility.{Before, at_head, behind, behind_block, declaration_at, declarations, opened, reopened, with_declaration}
use Rattle.fir_meaning.specs.working.Leafed.{terms}
use Rattle.fir_meaning.specs.working.LeafedBlocks.{instance_block, leafed, leafed_all, term_at}
use Rattle.fir_meaning.specs.working.LeafedModules.{declared_leaves, driven_leaves, instance_place, instance_role, leafed_module, leaves_from, leaves_in, leaves_in_block, leaves_of_ports, memory_before, module_leaves, register_role, role_in}
use Rattle.fir_meaning.specs.working.LeafMemories.{LeafMemory, array_count, memory_roles, port_kinds_of}
use Rattle.fir_meaning.specs.working.LeafModules.{LeafDeclared, Role, computed, leaf_at, may_drive, no_leaf, pipe, reading, sink, source}
use Rattle.fir_meaning.specs.working.NameGroups.{HasNames}
use Rattle.fir_meaning.specs.working.WellTyped.{AreLegal, IsLegal, MemoryIsLegal}
use Rattle.fir_leaf.proofs.DeclaredLeaves.{IsOwn}
use Rattle.fir_leaf.proofs.DrivenFlips.{beside_flip, flips, memory_flips, roles_pass}
use Rattle.fir_leaf.proofs.OncePaths.{at_in}
use Rattle.fir_design.proofs.DeclaredInstances.{Grows, instance_within}
use Rattle.fir_design.proofs.FineScenes.{IsFineScene}
use Rattle.fir_design.proofs.FoundInstances.{instances_found}
use Rattle.fir_design.proofs.HeldInstances.{Held, all_held_in, held_joined}
use Rattle.fir_design.proofs.KnownDeclarations.{known_long}
use Rattle.fir_design.proofs.SourceInstances.{AreFound, grows_before}

-- a leaf of an instance of that name, by its number in the type and what the type holds
pub record IsHeldAs (s : Scene) (n : PlacedName) (name : List ℕ) (l : LeafDeclared) : Type 0 where
  pub number : ℕ
  pub leaf : TypeLeaf
  pub leaf_is : slice_get (leaves_of_data (instance_type s.own.modules name)) number ≡ Some leaf
  pub holds_is : slice_get (held_types s.widths (sized_instance s.own.modules name)) number ≡ Some l.holds
  pub path : l.path ≡ named n.name ∷ leaf.path
  pub role : may_drive l.role ≡ false → l.role ≡ source

pub record IsOfInstance (s : Scene) (all : Declarations) (hs : List Held) (l : LeafDeclared) : Type 0 where
  pub given :
      (n : PlacedName) (name : List ℕ) (depth : ℕ) → slice_get all l.declaration ≡ Some (instance_within n name depth) → IsHeldAs s n name l
  pub from : l.role ≡ source → (h : Held) × In hs h × (h.own.declaration ≡ l.declaration)

-- a test that tells sources, and what is no leaf of a memory, by b
abbrev says : Bool → Role → Bool
says b sink = true
says b (reading r) = false
says b (pipe r x u) = false
says b _ = b

-- no leaf of a memory is a source
memory_given : (m : LeafMemory) (n : PlacedName) (parts : List MemoryPart) → m.ports ≡ flat_map port_kinds_of parts → m.data_leaves ≡ array_count parts
    → MemoryIsLegal parts → (k : ℕ) (l : TypeLeaf) → slice_get (leaves_of_data (memory_type n.place parts)) k ≡ Some l
    → role_in (memory_roles m) k l ≡ source → ⊥
memory_given m n parts ports many legal k l e is =
    let yes = beside_flip (says true) (memory_roles m) ls (passes true) k l there in
    let no = beside_flip (says false) (memory_roles m) ls (passes false) k l there in
    let both : says true (role_in (memory_roles m) k l) ≡ says false (role_in (memory_roles m) k l) = yes ∙ sym no in
    let wrong : true ≡ false = ap (says true) (sym is) ∙ both ∙ ap (says false) is in
    absurd (cc)
  where
    ls : List TypeLeaf
    ls = type_leaves (memory_bundle n.place parts legal.word_type legal.words)

    type_is : memory_type n.place parts ≡ Some (memory_bundle n.place parts legal.word_type legal.words)
    type_is = rw (legal.one_data, legal.one_depth) refl

    there : slice_get (type_leaves (memory_bundle n.place parts legal.word_type legal.words)) k ≡ Some l
    there = ap (λ o. slice_get (leaves_of_data o) k) (sym type_is) ∙ e

    leaves : m.data_leaves ≡ leaf_count legal.word_type
    leaves = many ∙ rw legal.one_data refl

    passes : (b : Bool) → map (says b) (memory_roles m) ≡ flips (type_leaves (memory_bundle n.place parts legal.word_type legal.words))
    passes b =
        roles_pass (says b) refl (λ r. refl) (λ r c u. refl) m m.first m.ports
        ∙ rw (ports, leaves) (sym (memory_flips n.place legal.word_type legal.words legal.passive parts))

instance_source : (k : ℕ) (l : TypeLeaf) → may_drive (instance_role k l) ≡ false → instance_role k l ≡ source
instance_source k l e = by l.flip e
  where
    by : (b : Bool) → may_drive (if b then sink else source) ≡ false → (if b then sink else source) ≡ source
    by true e = absurd (cc)
    by false e = refl

module _ (s : Scene) (all : Declarations) where
  abbrev Are : List Held → List LeafDeclared → Type 0
  Are hs = AllByRecursion (IsOfInstance s all hs)

  are_more : (hs gs : List Held) → ((h : Held) → In hs h → In gs h) → (ls : List LeafDeclared) → AllByRecursion (IsOfInstance s all hs) ls
      → AllByRecursion (IsOfInstance s all gs) ls
  are_more hs gs f [] a = tt
  are_more hs gs f (l ∷ ls) a = (
    record { given = a.0.given; from = λ e. let h = a.0.from e in (h.0, f h.0 h.1, h.2) },
    are_more hs gs f ls a.1,
  )

  module _ (before : Before) (n : PlacedName) (c : Component) (g : Grows (with_declaration before n c).declared all) (place : TypeLeaf → Place)
      (role_of : ℕ → TypeLeaf → Role) (hs : List Held) where
    abbrev here : Declared
    here = record { named = n; component = c; before = before }

    declared_there : slice_get all (length before.declared) ≡ Some (declaration_at before n c)
    declared_there =
        let d = declaration_at before n c in
        ap (λ ds. slice_get ds (length before.declared)) (sym (sym (append_assoc before.declared (d ∷ []) g.0) ∙ g.1))
        ∙ get_behind before.declared g.0 d

    -- what is asked of the leaf of a number, in its type and among what that holds
    record Fits (k : ℕ) (l : TypeLeaf) (t : LeafType) : Type 0 where
      given :
          (name : List ℕ) → c ≡ component.instance name
          → (slice_get (leaves_of_data (instance_type s.own.modules name)) k ≡ Some l)
          × (slice_get (held_types s.widths (sized_instance s.own.modules name)) k ≡ Some t)
          × (may_drive (role_of k l) ≡ false → role_of k l ≡ source)
      from : role_of k l ≡ source → (h : Held) × In hs h × (h.own.declaration ≡ length before.declared)

    one_of : (k : ℕ) (l : TypeLeaf) (t : LeafType) → Fits k l t
        → IsOfInstance s all hs
        (record {
          place = place l;
          declaration = length before.declared;
          instances = 0;
          path = named n.name ∷ l.path;
          holds = t;
          depth = before.depth;
          role = role_of k l;
        })
    one_of k l t f = record {
      given = λ m name depth e.
          let same : declaration_at before n c ≡ instance_within m name depth =
          same_Some (declaration_at before n c) (instance_within m name depth) (sym declared_there ∙ e) in
          let is = f.given name (ap (λ (d : Declaration). d.component) same) in
          record {
            number = k;
            leaf = l;
            leaf_is = is.0;
            holds_is = is.1;
            path = ap (λ (d : Declaration). named d.named.name ∷ l.path) same;
            role = is.2;
          };
      from = f.from;
    }

    each_of : (k : ℕ) (ls : List TypeLeaf) (ts : List LeafType)
        → ((j : ℕ) (l : TypeLeaf) (t : LeafType) → slice_get ls j ≡ Some l → slice_get ts j ≡ Some t → Fits (k + j) l t)
        → AllByRecursion (IsOfInstance s all hs) (leaves_from (record { named = n; component = c; before = before }) place role_of k ls ts)
    each_of k [] ts f = tt
    each_of k (l ∷ ls) [] f = tt
    each_of k (l ∷ ls) (t ∷ ts) f =
        let first : k + 0 ≡ k = omega arith in (
          one_of k l t (rw first at (f 0 l t refl refl)),
          each_of (suc k) ls ts (λ j x u e h. let next : suc k + j ≡ k + suc j = omega arith in rw next (f (suc j) x u e h)),
        )

    declared_of :
        ((j : ℕ) (l : TypeLeaf) (t : LeafType)
        → slice_get (leaves_of_data (type_of_declared s (record { named = n; component = c; before = before }))) j ≡ Some l
        → slice_get (held_by_declared s (record { named = n; component = c; before = before })) j ≡ Some t → Fits j l t)
        → AllByRecursion (IsOfInstance s all hs) (declared_leaves s (record { named = n; component = c; before = before }) place role_of)
    declared_of f =
        each_of 0 (leaves_of_data (type_of_declared s here)) (held_by_declared s here)
        (λ j l t e h. let none : 0 + j ≡ j = omega arith in rw none (f j l t e h))

  -- of what is no instance and gives no source
  other_of : (before : Before) (n : PlacedName) (c : Component) → Grows (with_declaration before n c).declared all → (place : TypeLeaf → Place)
      (role_of : ℕ → TypeLeaf → Role) (hs : List Held) → ((name : List ℕ) → c ≡ component.instance name → ⊥)
      → ((j : ℕ) (l : TypeLeaf) → slice_get (leaves_of_data (type_of_declared s (record { named = n; component = c; before = before }))) j ≡ Some l
      → role_of j l ≡ source → ⊥)
      → AllByRecursion (IsOfInstance s all hs) (declared_leaves s (record { named = n; component = c; before = before }) place role_of)
  other_of before n c g place role_of hs none no_source =
      declared_of before n c g place role_of hs
      (λ j l t e h. record { given = λ name i. absurd (none name i); from = λ i. absurd (no_source j l e i) })

  module _ (may : ℕ → Bool) where
    -- an instance is among those of its statement
    instance_there : (before : Before) (k : ℕ) (o : Option (ℕ × ModuleTree)) (child : ℕ × ModuleTree) → o ≡ Some child
        → (h : Held) × In (all_held_in k (instance_block (scope_at s.own.modules before) o)) h × (h.own.declaration ≡ length before.declared)
    instance_there before k None child e = absurd (none-some child e)
    instance_there before k (Some x) child e =
        let scope = scope_at s.own.modules before in (
          record { depth = k; own = record { declaration = length scope; module_number = x.0; first = _ } },
          inl refl,
          known_long s.own.modules before.declared,
        )

    mutual
      statement_of : (x : Statement) (before : Before) (k : ℕ) → Grows (behind before x).declared all → IsLegal s.own.modules before x
          → AreFound s.own.modules all (instances_of x)
          → AllByRecursion (IsOfInstance s all (all_held_in k (leafed s.own.modules may before x))) (leaves_in s before x)
      statement_of (wire p n begins t) before k g h found =
          other_of before n (component.wire t) g (λ l. n.place) (λ k l. sink) [] (λ name e. absurd (cc)) (λ j l e i. absurd (cc))
      statement_of (register p n begins t c r) before k g h found =
          other_of before n (component.register t) g (λ l. n.place) (register_role s before n t c r) [] (λ name e. absurd (cc)) (λ j l e i. absurd (cc))
      statement_of (node p n e) before k g h found =
          other_of before n (component.node e) g (λ l. n.place) (λ k l. computed (term_at (terms (scope_before s before) e) k)) [] (λ name e. absurd (cc))
          (λ j l e i. absurd (cc))
      statement_of (memory p n parts) before k g h found =
          let m = memory_before s before n parts in
          other_of before n (component.memory parts) g (λ l. n.place) (role_in (memory_roles m)) [] (λ name e. absurd (cc))
          (memory_given m n parts refl refl h)
      statement_of (instance p n other) before k g h found =
          let child = found (record { named = n; other = other }) (inl refl) in
          let o = numbered_module 0 s.own.modules other.name in
          let there = instance_there before k o child.0 child.1 in
          declared_of before n (component.instance other.name) g (instance_place n o) instance_role
          (all_held_in k (instance_block (scope_at s.own.modules before) o))
          (λ j l t e i. record {
            given = λ name same.
                let names : other.name ≡ name = cc in (
                  ap (λ x. slice_get (leaves_of_data (instance_type s.own.modules x)) j) (sym names) ∙ e,
                  ap (λ x. slice_get (held_types s.widths (sized_instance s.own.modules x)) j) (sym names) ∙ i,
                  instance_source j l,
                );
            from = λ is. there;
          })
      statement_of (when p c a b) before k g h found =
          let first = opened before in
          let second = reopened before (behind_block first a) in
          let us = all_held_in (k + 1) (leafed_all s.own.modules may first a) in
          let vs = all_held_in (k + 1) (leafed_all s.own.modules may second b) in
          all_joined (IsOfInstance s all ((us ++ vs) ++ [])) (leaves_in_block s first a) (leaves_in_block s second b)
          (are_more us ((us ++ vs) ++ []) (λ x i. in_left (us ++ vs) [] x (in_left us vs x i)) (leaves_in_block s first a)
          (block_of a first (k + 1) (grows_before second b all g) h.2 (λ x i. found x (in_left (instances_of_block a) (instances_of_block b) x i))))
          (are_more vs ((us ++ vs) ++ []) (λ x i. in_left (us ++ vs) [] x (in_right us vs x i)) (leaves_in_block s second b)
          (block_of b second (k + 1) g h.3 (λ x i. found x (in_right (instances_of_block a) (instances_of_block b) x i))))
      statement_of (connect p d e) before k g h found = tt
      statement_of (partial_connect p d e) before k g h found = tt
      statement_of (invalid p d) before k g h found = tt
      statement_of (skip p) before k g h found = tt

      block_of : (y : Block) (before : Before) (k : ℕ) → Grows (behind_block before y).declared all → AreLegal s.own.modules before y
          → AreFound s.own.modules all (instances_of_block y)
          → AllByRecursion (IsOfInstance s all (all_held_in k (leafed_all s.own.modules may before y))) (leaves_in_block s before y)
      block_of done before k g h found = tt
      block_of ((then) x rest) before k g h found =
          let next = behind before x in
          let us = all_held_in k (leafed s.own.modules may before x) in
          let vs = all_held_in k (leafed_all s.own.modules may next rest) in
          subst (λ hs. AllByRecursion (IsOfInstance s all hs) (leaves_in s before x ++ leaves_in_block s next rest))
          (sym (held_joined k (leafed s.own.modules may before x) (leafed_all s.own.modules may next rest)))
          (all_joined (IsOfInstance s all (us ++ vs)) (leaves_in s before x) (leaves_in_block s next rest)
          (are_more us (us ++ vs) (λ y i. in_left us vs y i) (leaves_in s before x)
          (statement_of x before k (grows_before next rest all g) h.0 (λ y i. found y (in_left (instances_of x) (instances_of_block rest) y i))))
          (are_more vs (us ++ vs) (λ y i. in_right us vs y i) (leaves_in_block s next rest)
          (block_of rest next k g h.1 (λ y i. found y (in_right (instances_of x) (instances_of_block rest) y i)))))

-- so are all leaves of a module that are no ports
pub own_leaf : (c : CircuitTree) (s : Scene) → HasNames c → IsOwn c.modules s.own → IsFineScene s → (x : ℕ) → (leafed_module s).port_leaves ≤ x
    → x < length (module_leaves s)
    → IsOfInstance s (declarations s.own.inside) (all_held_in 0 (leafed_module s).body) (leaf_at (module_leaves s) x)
own_leaf c s names own f x le lt =
    let all = declarations s.own.inside in
    let head = behind_all_ports s.own.inside in
    let ports = leaves_of_ports s at_head s.own.inside.ports in
    let others = leaves_in_block s head s.own.inside.body in
    let hs = all_held_in 0 (leafed_module s).body in
    let each = block_of s all (driven_leaves s) s.own.inside.body head 0 ([], append-nil all) f.legal (instances_found c s names own) in
    let k = x - length ports in
    let is : length ports + (x - length ports) ≡ x = omega (arith, le) in
    let inside : x - length ports < length others = omega (arith, lt, le, length-append ports others) in
    let there : leaf_at (module_leaves s) x ≡ leaf_at others k = ap (leaf_at (module_leaves s)) (sym is) ∙ get_or-append-add ports others k no_leaf in
    all_at (IsOfInstance s all hs) others each (leaf_at (module_leaves s) x) (subst (In others) (sym there) (at_in others no_leaf k inside))
