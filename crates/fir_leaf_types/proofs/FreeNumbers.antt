-- The unknowns that connects may drive are of ports or of declarations that are no nodes; those of a node are in no other declaration.
use Rattle.std.proofs.Common.{◌≡◌, ℕ, ◌+◌, ◌<◌, ◌≤◌, List, [], ◌∷◌, ◌++◌, Option, Some, None, refl, sym, ap, ◌∙◌, subst, inl, inr, ◌⊎◌, arith, append_assoc}
use Rattle.fir_base.specs.Lists.{In}
use Rattle.fir_ast.specs.Types.{DataType}
use Rattle.fir_ast.specs.Statements.{PlacedName, Statement, wire, register, node, instance, memory, when, connect, partial_connect, invalid, skip, Block, done, then}
use Rattle.fir_ast.specs.Circuits.{PortTree, CircuitTree}
use Rattle.fir_meaning.specs.Components.{Component, Declaration, Declarations}
use Rattle.fir_meaning.specs.Components as component
use Rattle.fir_meaning.specs.ComponentTypes.{known_as, port_fields}
use Rattle.fir_meaning.specs.MemoryTypes.{memory_type}
use Rattle.fir_meaning.specs.SharedLeaves.{shared_count, shared_field_count}
use Rattle.fir_meaning.specs.TypeGroup.{scope_at}
use Rattle.fir_meaning.specs.TypeKinds.{is_passive}
use Rattle.fir_meaning.specs.SizedTypes.{numbered, node_type}
use Rattle.fir_meaning.specs.SizedMemories.{as_written}
use Rattle.fir_meaning.specs.SizedScopes.{SizedName, sized_type}
use Rattle.fir_meaning.specs.SizedDeclarations.{Numbering, NumberedModule, all_port_numbers, numbered_modules, numbered_with, numbers_at, sized_at, sized_component, sized_declared}
use Rattle.fir_meaning.specs.Visibility.{Before, declaration_at, with_declaration, opened, reopened, behind, behind_block, behind_ports, at_head, declarations}
use Rattle.fir_meaning.specs.working.WellTyped.{IsLegal, AreLegal}
use Rattle.fir_meaning.proofs.FoundTypes.{found_type}
use Rattle.fir_meaning.proofs.KnownNames.{typed_more}
use Rattle.fir_meaning.proofs.SizedExpressions.{sized_as_typed}
use Rattle.fir_meaning.proofs.SizedShapes.{renumbered_bare}
use Rattle.fir_leaf_types.proofs.DeclarationsGrow.{Grows, grows_block, grows_through}
use Rattle.fir_leaf_types.proofs.DeclarationsStandTyped.{numbered_more}
use Rattle.fir_leaf_types.proofs.OwnedNumbers.{Owned, Within, none_owned, numbered_owned, owned_else}
use Rattle.fir_leaf_types.proofs.NumberPlaces.{Taken}
use Rattle.fir_leaf_types.proofs.PortNumbers.{instance_owned, ports_in_front}
use Rattle.fir_leaf_types.proofs.ReferencesOwned.{EntryOwned, ScopeOwned, ends_written, scope_owned_more}

abbrev pub IsOther : Component → Type 0
IsOther (component.node e) = ⊥
IsOther _ = Unit {0}

module _ (c : CircuitTree) where
  pub record OfOther (j : ℕ) : Type 0 where
    pub inside : NumberedModule
    pub is_in : In (numbered_modules c) inside
    pub front : Declarations
    pub own : Declaration
    pub taken : Taken inside front own j
    pub other : IsOther own.component

  abbrev pub Free : ℕ → Type 0
  Free j = (j < all_port_numbers c.modules) ⊎ OfOther j

  module _ (m : NumberedModule) (is_in : In (numbered_modules c) m) (all_modules : m.modules ≡ c.modules) (none : m.start.scope ≡ []) where
    abbrev pub OwnedAt : Before → Type 0
    OwnedAt before = ScopeOwned (Free) (scope_at m.modules before) (sized_at m before)

    pub taken_at : (before : Before) (n : PlacedName) (d : Component) (j : ℕ) → Grows (with_declaration before n d).declared (declarations m.inside)
        → (numbers_at m before).next ≤ j → j < (numbers_at m (with_declaration before n d)).next → Taken m before.declared (declaration_at before n d) j
    taken_at before n d j g from below =
        let same = ap (λ (x : Numbering). x.next) (numbered_more m.modules m.start before.declared (declaration_at before n d)) in
        record {
          rest = g.0;
          all = sym (append_assoc before.declared (declaration_at before n d ∷ []) g.0) ∙ g.1;
          taken = record { from = from; below = omega (arith, below, same) };
        }

    owned_more : (before : Before) (n : PlacedName) (d : Component) → OwnedAt before
        → EntryOwned Free (known_as m.modules (scope_at m.modules before) (declaration_at before n d))
        (record { name = n.name; sized = sized_component m.modules (numbers_at m before) n.place d })
        → OwnedAt (with_declaration before n d)
    owned_more before n d h own =
        let k = known_as m.modules (scope_at m.modules before) (declaration_at before n d) in
        let s : SizedName = record { name = n.name; sized = sized_component m.modules (numbers_at m before) n.place d } in
        subst (λ ks. ScopeOwned Free ks (sized_at m (with_declaration before n d))) (sym (typed_more m.modules [] before.declared (declaration_at before n d)))
        (subst (λ (x : Numbering). ScopeOwned Free (scope_at m.modules before ++ k ∷ []) x.scope)
        (sym (numbered_more m.modules m.start before.declared (declaration_at before n d)))
        (scope_owned_more Free (scope_at m.modules before) (sized_at m before) k s h own))

    -- what a body declares with numbers of its own
    body_owned : (before : Before) (n : PlacedName) (d : Component) (t : DataType) → IsOther d
        → Grows (with_declaration before n d).declared (declarations m.inside)
        → (numbers_at m (with_declaration before n d)).next ≡ (numbers_at m before).next + shared_count t
        → Owned Free (numbered (Some (numbers_at m before).next) t)
    body_owned before n d t other g next =
        owned_else (Within (numbers_at m before).next (shared_count t)) Free (numbered (Some (numbers_at m before).next) t)
        (λ j h.
        inr
        (record {
          inside = m;
          is_in = is_in;
          front = before.declared;
          own = declaration_at before n d;
          taken = taken_at before n d j g h.0 (omega (arith, h.1, next));
          other = other;
        }))
        (numbered_owned (numbers_at m before).next t)

    pub next_of : (before : Before) (n : PlacedName) (d : Component) (k : ℕ)
        → (numbered_with m.modules (numbers_at m before) (declaration_at before n d)).next ≡ k → (numbers_at m (with_declaration before n d)).next ≡ k
    next_of before n d k e = ap (λ (x : Numbering). x.next) (numbered_more m.modules m.start before.declared (declaration_at before n d)) ∙ e

    pub register_owned : (before : Before) (n : PlacedName) (t : DataType)
        → Grows (with_declaration before n (component.register t)).declared (declarations m.inside)
        → Owned Free (sized_declared m before n (component.register t))
    register_owned before n t g =
        body_owned before n (component.register t) t tt g (next_of before n (component.register t) ((numbers_at m before).next + shared_count t) refl)

    written_owned : (o : Option DataType) → Owned Free (as_written o)
    written_owned None = tt
    written_owned (Some t) = none_owned Free t

    ports_owned : (ps : List PortTree) (before : Before) → (numbers_at m before).port + shared_field_count (port_fields ps) ≤ all_port_numbers c.modules
        → OwnedAt before → OwnedAt (behind_ports before ps)
    ports_owned [] before within h = h
    ports_owned (p ∷ ps) before within h =
        let d = component.port p.direction p.data_type in
        let next = with_declaration before p.named d in
        let after = ap (λ (x : Numbering). x.port) (numbered_more m.modules m.start before.declared (declaration_at before p.named d)) in
        let own : Owned Free (numbered (Some (numbers_at m before).port) p.data_type) =
        owned_else (Within (numbers_at m before).port (shared_count p.data_type)) Free (numbered (Some (numbers_at m before).port) p.data_type)
        (λ j k. inl (omega (arith, k.1, within))) (numbered_owned (numbers_at m before).port p.data_type) in
        ports_owned ps next (omega (arith, within, after)) (owned_more before p.named d h (record { name = refl; owned = inl own }))

    mutual
      pub owned_behind : (x : Statement) (before : Before) → Grows (behind before x).declared (declarations m.inside) → IsLegal m.modules before x
          → OwnedAt before
          → OwnedAt (behind before x)
      owned_behind (wire p n begins t) before g legal h =
          owned_more before n (component.wire t) h
          (record {
            name = refl;
            owned =
                inl (body_owned before n (component.wire t) t tt g (next_of before n (component.wire t) ((numbers_at m before).next + shared_count t) refl));
          })
      owned_behind (register p n begins t x r) before g legal h =
          owned_more before n (component.register t) h (record { name = refl; owned = inl (register_owned before n t g) })
      owned_behind (node p n e) before g legal h =
          let scope = scope_at m.modules before in
          let k = (numbers_at m before).next in
          let s = sized_type (sized_at m before) e in
          owned_more before n (component.node e) h
          (record {
            name = refl;
            owned =
                inr
                (record {
                  flow = refl;
                  passive = λ t has.
                      let same : Some legal.0 ≡ Some t = sym (ap (λ x. x.has) (found_type scope e legal.0 legal.1)) ∙ has in
                      let is : legal.0 ≡ t = cc in
                      ap is_passive (sym is) ∙ legal.2;
                  shape = λ t has. renumbered_bare k s t (sized_as_typed m.modules m.start before.declared e t none has);
                  ends = ends_written (Some k) (node_type s);
                });
          })
      owned_behind (instance p n other) before g legal h =
          owned_more before n (component.instance other.name) h
          (record {
            name = refl;
            owned =
                inl
                (owned_else (Within 0 (all_port_numbers m.modules)) Free (sized_declared m before n (component.instance other.name))
                (λ j k.
                let all : all_port_numbers m.modules ≡ all_port_numbers c.modules = ap all_port_numbers all_modules in
                inl (omega (arith, k.1, all)))
                (instance_owned 0 m.modules other.name));
          })
      owned_behind (memory p n parts) before g legal h =
          owned_more before n (component.memory parts) h (record { name = refl; owned = inl (written_owned (memory_type n.place parts)) })
      owned_behind (when p x a b) before g legal h =
          let inside = behind_block (opened before) a in
          owned_block b (reopened before inside) g legal.3
          (owned_block a (opened before)
          (grows_through inside.declared (behind_block (reopened before inside) b).declared (declarations m.inside) (grows_block b (reopened before inside)) g)
          legal.2 h)
      owned_behind (connect p d e) before g legal h = h
      owned_behind (partial_connect p d e) before g legal h = h
      owned_behind (invalid p d) before g legal h = h
      owned_behind (skip p) before g legal h = h

      pub owned_block : (b : Block) (before : Before) → Grows (behind_block before b).declared (declarations m.inside) → AreLegal m.modules before b
          → OwnedAt before
          → OwnedAt (behind_block before b)
      owned_block done before g legal h = h
      owned_block ((then) x b) before g legal h =
          owned_block b (behind before x) g legal.1
          (owned_behind x before
          (grows_through (behind before x).declared (behind_block (behind before x) b).declared (declarations m.inside) (grows_block b (behind before x)) g)
          legal.0 h)

    -- before the statements of a module
    pub owned_head : OwnedAt (behind_ports at_head m.inside.ports)
    owned_head = ports_owned m.inside.ports at_head (ports_in_front c m is_in) (subst (ScopeOwned Free []) (sym none) tt)
