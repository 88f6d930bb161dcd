-- The leaves and the arrays that a statement or a block declares are as many as its declarations have.
use Rattle.std.proofs.Common.{◌≡◌, ℕ, ◌+◌, List, [], ◌∷◌, ◌++◌, map, length, refl, ap, ◌∙◌, arith, length-append}
use Rattle.fir_ast.specs.declared.place.Place.{Place}
use Rattle.fir_ast.specs.Circuits.{PortTree}
use Rattle.fir_ast.specs.Statements.{PlacedName, Statement, wire, register, node, instance, memory, when, connect, partial_connect, invalid, skip, Block, done, then}
use Rattle.fir_meaning.specs.Components.{Component, Declaration, Declarations}
use Rattle.fir_meaning.specs.Components as component
use Rattle.fir_meaning.specs.ComponentTypes.{known_as, typed_scope}
use Rattle.fir_meaning.specs.Costs.{sum_of}
use Rattle.fir_meaning.specs.ResetJoins.{numbered_module}
use Rattle.fir_meaning.specs.TypeLeaves.{TypeLeaf}
use Rattle.fir_meaning.specs.Visibility.{Before, behind, behind_block, behind_ports, declaration_at, opened, reopened, with_declaration}
use Rattle.fir_meaning.proofs.KnownNames.{typed_more}
use Rattle.fir_meaning.specs.working.LeafMemories.{arrays_of, memory_roles}
use Rattle.fir_meaning.specs.working.Leafed.{terms}
use Rattle.fir_meaning.specs.working.LeafedBlocks.{term_at}
use Rattle.fir_meaning.specs.working.LeafModules.{LeafArray, LeafDeclared, Role, computed, sink}
use Rattle.fir_meaning.specs.ModuleScenes.{Scene, scope_before}
use Rattle.fir_meaning.specs.working.LeafedModules.{arrays_in, arrays_in_block, declared_leaves, instance_place, instance_role, leaves_in, leaves_in_block, leaves_of_ports, memory_before, port_role, register_role, role_in}
use Rattle.fir_meaning.specs.working.Targets.{leaves_so_far}
use Rattle.fir_design.proofs.CountedLeaves.{declared_long, memory_long}
use Rattle.fir_design.proofs.KnownDeclarations.{far_more}

-- how many arrays are declared
abbrev pub arrays_so_far : Declarations → ℕ
arrays_so_far ds = sum_of (map (λ (d : Declaration). arrays_of d.component) ds)

arrays_more : (ds : Declarations) (d : Declaration) → arrays_so_far (ds ++ d ∷ []) ≡ arrays_so_far ds + arrays_of d.component
arrays_more [] d = omega arith
arrays_more (x ∷ ds) d = omega (arith, arrays_more ds d)

-- so many more behind than before
pub record IsCounted (s : Scene) (before after : Declarations) (ls : List LeafDeclared) (xs : List LeafArray) : Type 0 where
  pub leaves : leaves_so_far (typed_scope s.own.modules before) + length ls ≡ leaves_so_far (typed_scope s.own.modules after)
  pub arrays : arrays_so_far before + length xs ≡ arrays_so_far after

counted_none : (s : Scene) (ds : Declarations) → IsCounted s ds ds [] []
counted_none s ds = record { leaves = omega arith; arrays = omega arith }

counted_both : (s : Scene) (one two three : Declarations) (ls ms : List LeafDeclared) (xs ys : List LeafArray) → IsCounted s one two ls xs
    → IsCounted s two three ms ys → IsCounted s one three (ls ++ ms) (xs ++ ys)
counted_both s one two three ls ms xs ys h k = record {
  leaves = omega (arith, h.leaves, k.leaves, length-append ls ms);
  arrays = omega (arith, h.arrays, k.arrays, length-append xs ys);
}

module _ (s : Scene) (none : s.own.start.scope ≡ []) where
  counted_one : (before : Before) (n : PlacedName) (c : Component) (place : TypeLeaf → Place) (role_of : ℕ → TypeLeaf → Role)
      (xs : List LeafArray) → length xs ≡ arrays_of c
      → IsCounted s before.declared (with_declaration before n c).declared
      (declared_leaves s (record { named = n; component = c; before = before }) place role_of) xs
  counted_one before n c place role_of xs many =
      let scope = scope_before s before in
      let d = declaration_at before n c in
      let more : leaves_so_far (scope_before s (with_declaration before n c)) ≡ leaves_so_far scope + _ =
      ap leaves_so_far (typed_more s.own.modules [] before.declared d) ∙ far_more scope (known_as s.own.modules scope d) in
      record {
        leaves = omega (arith, more, declared_long s none (record { named = n; component = c; before = before }) place role_of);
        arrays = omega (arith, arrays_more before.declared d, many);
      }

  pub ports_counted : (ps : List PortTree) (before : Before)
      → IsCounted s before.declared (behind_ports before ps).declared (leaves_of_ports s before ps) []
  ports_counted [] before = counted_none s before.declared
  ports_counted (p ∷ ps) before =
      let c = component.port p.direction p.data_type in
      let next = with_declaration before p.named c in
      counted_both s before.declared next.declared (behind_ports next ps).declared _ (leaves_of_ports s next ps) [] []
      (counted_one before p.named c (λ l. p.named.place) (λ k l. port_role p.direction l) [] refl) (ports_counted ps next)

  mutual
    pub statement_counted : (x : Statement) (before : Before)
        → IsCounted s before.declared (behind before x).declared (leaves_in s before x) (arrays_in s before x)
    statement_counted (wire p n begins t) before = counted_one before n (component.wire t) (λ l. n.place) (λ k l. sink) [] refl
    statement_counted (register p n begins t c r) before =
        counted_one before n (component.register t) (λ l. n.place) (register_role s before n t c r) [] refl
    statement_counted (node p n e) before =
        counted_one before n (component.node e) (λ l. n.place) (λ k l. computed (term_at (terms (scope_before s before) e) k)) [] refl
    statement_counted (instance p n other) before =
        counted_one before n (component.instance other.name) (instance_place n (numbered_module 0 s.own.modules other.name)) instance_role [] refl
    statement_counted (memory p n parts) before =
        let m = memory_before s before n parts in
        counted_one before n (component.memory parts) (λ l. n.place) (role_in (memory_roles m)) (arrays_in s before (memory p n parts))
        (memory_long s none m parts)
    statement_counted (when p c a b) before =
        let first = opened before in
        let second = reopened before (behind_block first a) in
        counted_both s before.declared second.declared (behind_block second b).declared (leaves_in_block s first a) (leaves_in_block s second b)
        (arrays_in_block s first a) (arrays_in_block s second b) (block_counted a first) (block_counted b second)
    statement_counted (connect p d e) before = counted_none s before.declared
    statement_counted (partial_connect p d e) before = counted_none s before.declared
    statement_counted (invalid p d) before = counted_none s before.declared
    statement_counted (skip p) before = counted_none s before.declared

    pub block_counted : (b : Block) (before : Before)
        → IsCounted s before.declared (behind_block before b).declared (leaves_in_block s before b) (arrays_in_block s before b)
    block_counted done before = counted_none s before.declared
    block_counted ((then) x b) before =
        let next = behind before x in
        counted_both s before.declared next.declared (behind_block next b).declared (leaves_in s before x) (leaves_in_block s next b)
        (arrays_in s before x) (arrays_in_block s next b) (statement_counted x before) (block_counted b next)
