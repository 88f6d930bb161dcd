-- A declaration has as its depth the number of whens round it.
use Rattle.std.proofs.Common.{◌≡◌, ℕ, ◌+◌, List, [], ◌∷◌, refl, sym, ap, ◌∙◌, inl, inr, ⊎_elim}
use Rattle.fir_base.specs.Lists.{In}
use Rattle.fir_base.proofs.Members.{in_either, in_right}
use Rattle.fir_ast.specs.Circuits.{PortTree}
use Rattle.fir_ast.specs.Statements.{PlacedName, Statement, wire, register, node, instance, memory, when, connect, partial_connect, invalid, skip, Block, done, then}
use Rattle.fir_meaning.specs.Components.{Component, Declaration, Declarations, find}
use Rattle.fir_meaning.specs.Components as component
use Rattle.fir_meaning.specs.LeafPaths.{LeafPath, named}
use Rattle.fir_meaning.specs.Visibility.{Before, at_head, behind, behind_block, behind_ports, declaration_at, declarations, opened, reopened, with_declaration}
use Rattle.fir_meaning.specs.ModuleScenes.{Scene, behind_all_ports}
use Rattle.fir_meaning.specs.SourceFacts.{depth_of, source_depth}
use Rattle.fir_meaning.proofs.FoundDeclarations.{Once, once_found}
use Rattle.fir_meaning.proofs.GrownDeclarations.{Included, grows_block, grows_ports}
use Rattle.fir_source_laws.specs.working.DepthLaws.{DepthsAreWhens, Within, names_within, names_within_block}

-- a declaration of a name at a depth
pub record DeclaredAt (ds : Declarations) (name : List ℕ) (depth : ℕ) : Type 0 where
  pub declaration : Declaration
  pub among : In ds declaration
  pub name_is : declaration.named.name ≡ name
  pub depth_is : declaration.depth ≡ depth

more_declared : (ds es : Declarations) (name : List ℕ) (depth : ℕ) → Included ds es → DeclaredAt ds name depth → DeclaredAt es name depth
more_declared ds es name depth all h = record {
  declaration = h.declaration;
  among = all.each h.declaration h.among;
  name_is = h.name_is;
  depth_is = h.depth_is;
}

-- behind a statement the depth is what it was
depth_behind : (x : Statement) (before : Before) → (behind before x).depth ≡ before.depth
depth_behind (wire p n begins t) before = refl
depth_behind (register p n begins t c r) before = refl
depth_behind (node p n e) before = refl
depth_behind (instance p n other) before = refl
depth_behind (memory p n parts) before = refl
depth_behind (when p c a b) before = refl
depth_behind (connect p sink e) before = refl
depth_behind (partial_connect p sink e) before = refl
depth_behind (invalid p sink) before = refl
depth_behind (skip p) before = refl

one_declared : (before : Before) (n : PlacedName) (c : Component) (k : ℕ) (w : Within) → before.depth ≡ k
    → In (record { name = n.name; whens = k } ∷ []) w → DeclaredAt (with_declaration before n c).declared w.name w.whens
one_declared before n c k w h (inl e) = record {
  declaration = declaration_at before n c;
  among = in_right before.declared (declaration_at before n c ∷ []) (declaration_at before n c) (inl refl);
  name_is = ap (λ (z : Within). z.name) e;
  depth_is = h ∙ ap (λ (z : Within). z.whens) e;
}
one_declared before n c k w h (inr m) = absurd m

mutual
  in_statement : (x : Statement) (before : Before) (k : ℕ) (w : Within) → before.depth ≡ k → In (names_within k x) w
      → DeclaredAt (behind before x).declared w.name w.whens
  in_statement (wire p n begins t) before k w h m = one_declared before n (component.wire t) k w h m
  in_statement (register p n begins t c r) before k w h m = one_declared before n (component.register t) k w h m
  in_statement (node p n e) before k w h m = one_declared before n (component.node e) k w h m
  in_statement (instance p n other) before k w h m = one_declared before n (component.instance other.name) k w h m
  in_statement (memory p n parts) before k w h m = one_declared before n (component.memory parts) k w h m
  in_statement (when p c a b) before k w h m =
      let inside = behind_block (opened before) a in
      ⊎_elim
      (λ (l : In (names_within_block (k + 1) a) w).
      more_declared inside.declared (behind_block (reopened before inside) b).declared w.name w.whens (grows_block b (reopened before inside))
      (in_block a (opened before) (k + 1) w (ap (λ d. d + 1) h) l))
      (λ (r : In (names_within_block (k + 1) b) w). in_block b (reopened before inside) (k + 1) w (ap (λ d. d + 1) h) r)
      (in_either (names_within_block (k + 1) a) (names_within_block (k + 1) b) w m)
  in_statement (connect p sink e) before k w h m = absurd m
  in_statement (partial_connect p sink e) before k w h m = absurd m
  in_statement (invalid p sink) before k w h m = absurd m
  in_statement (skip p) before k w h m = absurd m

  in_block : (b : Block) (before : Before) (k : ℕ) (w : Within) → before.depth ≡ k → In (names_within_block k b) w
      → DeclaredAt (behind_block before b).declared w.name w.whens
  in_block done before k w h m = absurd m
  in_block ((then) x b) before k w h m =
      ⊎_elim
      (λ (l : In (names_within k x) w).
      more_declared (behind before x).declared (behind_block (behind before x) b).declared w.name w.whens (grows_block b (behind before x))
      (in_statement x before k w h l))
      (λ (r : In (names_within_block k b) w). in_block b (behind before x) k w (depth_behind x before ∙ h) r)
      (in_either (names_within k x) (names_within_block k b) w m)

in_ports : (ps : List PortTree) (before : Before) (p : PortTree) → In ps p → DeclaredAt (behind_ports before ps).declared p.named.name before.depth
in_ports [] before p m = absurd m
in_ports (d ∷ ds) before p (inr m) = in_ports ds (with_declaration before d.named (component.port d.direction d.data_type)) p m
in_ports (d ∷ ds) before p (inl e) =
    let here = with_declaration before d.named (component.port d.direction d.data_type) in
    more_declared here.declared (behind_ports here ds).declared p.named.name before.depth (grows_ports ds here) (record {
      declaration = declaration_at before d.named (component.port d.direction d.data_type);
      among = in_right before.declared _ (declaration_at before d.named (component.port d.direction d.data_type)) (inl refl);
      name_is = ap (λ (z : PortTree). z.named.name) e;
      depth_is = refl;
    })

depth_ports : (ps : List PortTree) (before : Before) → (behind_ports before ps).depth ≡ before.depth
depth_ports [] before = refl
depth_ports (p ∷ ps) before = depth_ports ps (with_declaration before p.named (component.port p.direction p.data_type))

depth_is : (s : Scene) (name : List ℕ) (k : ℕ) (q : LeafPath) → Once (declarations s.own.inside)
    → DeclaredAt (declarations s.own.inside) name k → source_depth s (named name ∷ q) ≡ k
depth_is s name k q once h =
    ap (λ n. depth_of (find (declarations s.own.inside) n)) (sym h.name_is)
    ∙ ap depth_of (once_found (declarations s.own.inside) once h.declaration h.among) ∙ h.depth_is

pub depths_are_whens : DepthsAreWhens
depths_are_whens s distinct =
    let head = behind_all_ports s.own.inside in
    let once : Once (declarations s.own.inside) = record { once = distinct } in (
      λ w q m.
          depth_is s w.name w.whens q once (in_block s.own.inside.body head 0 w (depth_ports s.own.inside.ports at_head) m),
      λ p q m.
          depth_is s p.named.name 0 q once
          (more_declared head.declared (declarations s.own.inside) p.named.name 0 (grows_block s.own.inside.body head)
          (in_ports s.own.inside.ports at_head p m)),
    )
