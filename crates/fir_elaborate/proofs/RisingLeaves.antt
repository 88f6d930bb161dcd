-- The leaves of a module stand in the order of its declarations, and so do its arrays.
use Rattle.std.proofs.Common.{◌≡◌, ℕ, zero, suc, ◌<◌, ◌≤◌, List, [], ◌∷◌, ◌++◌, get_or, length, refl, sym, ◌∙◌, ◌+◌, arith, length-append, inl, inr}
use Rattle.fir_base.specs.Lists.{In}
use Rattle.fir_ast.specs.declared.place.Place.{Place}
use Rattle.fir_ast.specs.Circuits.{PortTree}
use Rattle.fir_ast.specs.Statements.{PlacedName, Statement, wire, register, node, instance, memory, when, connect, partial_connect, invalid, skip, Block, done, then}
use Rattle.fir_meaning.specs.Components as component
use Rattle.fir_meaning.specs.Components.{Component}
use Rattle.fir_meaning.specs.TypeLeaves.{TypeLeaf}
use Rattle.fir_meaning.specs.Visibility.{Before, at_head, behind, behind_block, declaration_at, opened, reopened, with_declaration}
use Rattle.fir_meaning.specs.working.LeafModules.{Role, leaf_at, no_leaf}
use Rattle.fir_leaf.specs.working.DesignStates.{array_at, no_array}
use Rattle.fir_meaning.specs.ModuleScenes.{Scene, behind_all_ports}
use Rattle.fir_meaning.specs.working.LeafedModules.{arrays_in, arrays_in_block, declared_leaves, leafed_module, leaves_in, leaves_in_block, leaves_of_ports, module_leaves}
use Rattle.fir_design.proofs.ArrayRuns.{array_declaration, block_run as array_block_run, memory_declares, statement_run as array_statement_run}
use Rattle.fir_design.proofs.InstanceStatements.{longer_block, longer_statement}
use Rattle.fir_design.proofs.LeafRuns.{block_run, declaration_of, one_declares, ports_run, statement_run}

-- each is of the declaration of the one before it or of a later one, and the first of one from a number on
module _ {A : Type 0} (place : A → ℕ) where
  abbrev Rise : ℕ → List A → Type 0
  Rise from [] = Unit {0}
  Rise from (x ∷ xs) = (from ≤ place x) × Rise (place x) xs

  rise_lower : (from between : ℕ) (xs : List A) → from ≤ between → Rise between xs → Rise from xs
  rise_lower from between [] le h = tt
  rise_lower from between (x ∷ xs) le h = let first = h.0 in (omega (arith, le, first), h.1)

  rise_joined : (from between : ℕ) (xs ys : List A) → from ≤ between → ((x : A) → In xs x → place x < between)
      → Rise from xs → Rise between ys → Rise from (xs ++ ys)
  rise_joined from between [] ys le below h k = rise_lower from between ys le k
  rise_joined from between (x ∷ xs) ys le below h k =
      let lt = below x (inl refl) in
      (h.0, rise_joined (place x) between xs ys (omega (arith, lt)) (λ l i. below l (inr i)) h.1 k)

  rise_alike : (from : ℕ) (xs : List A) → ((x : A) → In xs x → place x ≡ from) → Rise from xs
  rise_alike from [] same = tt
  rise_alike from (x ∷ xs) same =
      let here = same x (inl refl) in
      (omega (arith, here), rise_alike (place x) xs (λ y i. same y (inr i) ∙ sym here))

  -- one by one
  rise_from : (d : A) (from : ℕ) (xs : List A) → Rise from xs → (y : ℕ) → y < length xs → from ≤ place (get_or xs y d)
  rise_from d from [] h y lt = absurd (omega (arith, lt))
  rise_from d from (x ∷ xs) h zero lt = h.0
  rise_from d from (x ∷ xs) h (suc y) lt =
      let first = h.0 in
      let rest = rise_from d (place x) xs h.1 y (omega (arith, lt)) in
      omega (arith, first, rest)

  rise_at : (d : A) (from : ℕ) (xs : List A) → Rise from xs → (x y : ℕ) → x ≤ y → y < length xs
      → place (get_or xs x d) ≤ place (get_or xs y d)
  rise_at d from [] h x y le lt = absurd (omega (arith, lt))
  rise_at d from (l ∷ ls) h zero zero le lt = omega arith
  rise_at d from (l ∷ ls) h zero (suc y) le lt = rise_from d (place l) ls h.1 y (omega (arith, lt))
  rise_at d from (l ∷ ls) h (suc x) zero le lt = absurd (omega (arith, le))
  rise_at d from (l ∷ ls) h (suc x) (suc y) le lt = rise_at d (place l) ls h.1 x y (omega (arith, le)) (omega (arith, lt))

module _ (s : Scene) where
  declared_rise : (before : Before) (n : PlacedName) (c : Component) (place : TypeLeaf → Place) (role_of : ℕ → TypeLeaf → Role)
      → Rise declaration_of (length before.declared) (declared_leaves s (record { named = n; component = c; before = before }) place role_of)
  declared_rise before n c place role_of = rise_alike declaration_of (length before.declared) _ (one_declares s before n c place role_of)

  mutual
    statement_rise : (x : Statement) (before : Before) → Rise declaration_of (length before.declared) (leaves_in s before x)
    statement_rise (wire p n begins t) before = declared_rise before n (component.wire t) _ _
    statement_rise (register p n begins t c r) before = declared_rise before n (component.register t) _ _
    statement_rise (node p n e) before = declared_rise before n (component.node e) _ _
    statement_rise (instance p n other) before = declared_rise before n (component.instance other.name) _ _
    statement_rise (memory p n parts) before = declared_rise before n (component.memory parts) _ _
    statement_rise (when p c a b) before =
        let inside = behind_block (opened before) a in
        let second = reopened before inside in
        rise_joined declaration_of (length before.declared) (length inside.declared) (leaves_in_block s (opened before) a) (leaves_in_block s second b)
        (longer_block (opened before) a) (block_run s a (opened before)).high (block_rise a (opened before)) (block_rise b second)
    statement_rise (connect p d e) before = tt
    statement_rise (partial_connect p d e) before = tt
    statement_rise (invalid p d) before = tt
    statement_rise (skip p) before = tt

    block_rise : (b : Block) (before : Before) → Rise declaration_of (length before.declared) (leaves_in_block s before b)
    block_rise done before = tt
    block_rise ((then) x b) before =
        let next = behind before x in
        rise_joined declaration_of (length before.declared) (length next.declared) (leaves_in s before x) (leaves_in_block s next b) (longer_statement before x)
        (statement_run s x before).high (statement_rise x before) (block_rise b next)

  ports_rise : (ps : List PortTree) (before : Before) → Rise declaration_of (length before.declared) (leaves_of_ports s before ps)
  ports_rise [] before = tt
  ports_rise (p ∷ ps) before =
      let c = component.port p.direction p.data_type in
      let next = with_declaration before p.named c in
      let more : length next.declared ≡ length before.declared + 1 = length-append before.declared (declaration_at before p.named c ∷ []) in
      rise_joined declaration_of (length before.declared) (length next.declared) _ (leaves_of_ports s next ps) (omega (arith, more))
      (λ l i. let here = one_declares s before p.named c _ _ l i in omega (arith, here, more)) (declared_rise before p.named c _ _)
      (ports_rise ps next)

  leaves_rise : Rise declaration_of 0 (module_leaves s)
  leaves_rise =
      let head = behind_all_ports s.own.inside in
      rise_joined declaration_of 0 (length head.declared) (leaves_of_ports s at_head s.own.inside.ports) (leaves_in_block s head s.own.inside.body) (omega arith)
      (ports_run s s.own.inside.ports at_head).high (ports_rise s.own.inside.ports at_head) (block_rise s.own.inside.body head)

  mutual
    statement_arrays_rise : (x : Statement) (before : Before) → Rise array_declaration (length before.declared) (arrays_in s before x)
    statement_arrays_rise (memory p n parts) before =
        rise_alike array_declaration (length before.declared) (arrays_in s before (memory p n parts)) (memory_declares s before n parts)
    statement_arrays_rise (when p c a b) before =
        let inside = behind_block (opened before) a in
        let second = reopened before inside in
        rise_joined array_declaration (length before.declared) (length inside.declared) (arrays_in_block s (opened before) a) (arrays_in_block s second b)
        (longer_block (opened before) a) (array_block_run s a (opened before)).high (block_arrays_rise a (opened before)) (block_arrays_rise b second)
    statement_arrays_rise (wire p n begins t) before = tt
    statement_arrays_rise (register p n begins t c r) before = tt
    statement_arrays_rise (node p n e) before = tt
    statement_arrays_rise (instance p n other) before = tt
    statement_arrays_rise (connect p d e) before = tt
    statement_arrays_rise (partial_connect p d e) before = tt
    statement_arrays_rise (invalid p d) before = tt
    statement_arrays_rise (skip p) before = tt

    block_arrays_rise : (b : Block) (before : Before) → Rise array_declaration (length before.declared) (arrays_in_block s before b)
    block_arrays_rise done before = tt
    block_arrays_rise ((then) x b) before =
        let next = behind before x in
        rise_joined array_declaration (length before.declared) (length next.declared) (arrays_in s before x) (arrays_in_block s next b)
        (longer_statement before x) (array_statement_run s x before).high (statement_arrays_rise x before) (block_arrays_rise b next)

pub leaves_in_order : (s : Scene) (x y : ℕ) → x ≤ y → y < length (module_leaves s)
    → (leaf_at (module_leaves s) x).declaration ≤ (leaf_at (module_leaves s) y).declaration
leaves_in_order s = rise_at declaration_of no_leaf 0 (module_leaves s) (leaves_rise s)

pub arrays_in_order : (s : Scene) (x y : ℕ) → x ≤ y → y < length (leafed_module s).arrays
    → (array_at (leafed_module s).arrays x).declaration ≤ (array_at (leafed_module s).arrays y).declaration
arrays_in_order s =
    let head = behind_all_ports s.own.inside in
    rise_at array_declaration no_array (length head.declared) (leafed_module s).arrays (block_arrays_rise s s.own.inside.body head)
