-- The ports of a module are its first declarations, so the entry of a port has the port's number.
use Rattle.std.proofs.Common.{◌≡◌, ℕ, suc, List, [], ◌∷◌, ◌++◌, Bool, true, false, if◌then◌else◌, length, map, slice_get, Some, None, Option, option_map, refl, sym, ap, subst, ◌∙◌, append_assoc, append-nil, arith}
use Rattle.std.specs.Str.{bytes_eq}
use Rattle.std.specs.List.{AllByRecursion}
use Rattle.std.proofs.lemmas.List.{length_push}
use Rattle.std.proofs.lemmas.Option.{none-some, same_Some, slice_get-map}
use Rattle.fir_base.specs.declared.direction.Direction.{Direction}
use Rattle.fir_base.proofs.Each.{all_joined}
use Rattle.fir_base.proofs.Elements.{get_behind}
use Rattle.fir_ast.specs.Statements.{PlacedName, Statement, wire, register, node, instance, memory, when, connect, partial_connect, invalid, skip, Block, done, then}
use Rattle.fir_ast.specs.declared.circuit.Circuit.{Circuit}
use Rattle.fir_ast.specs.declared.circuit.Module.{Module}
use Rattle.fir_ast.specs.working.Views.{circuit_of, module_of, port_of}
use Rattle.fir_ast.specs.Circuits.{PortTree, ModuleTree}
use Rattle.fir_meaning.specs.Components.{Component, Declaration, Declarations}
use Rattle.fir_meaning.specs.Components as component
use Rattle.fir_meaning.specs.Mentions.{module_names}
use Rattle.fir_meaning.specs.Visibility.{Before, declaration_at, with_declaration, opened, reopened, behind, behind_block, behind_ports, at_head, declarations}
use Rattle.fir_names.specs.declared.declaration.Declaration.{Declaration as Entry}
use Rattle.fir_names.specs.declared.declaration.Component.{Component as ComponentOfCode}
use Rattle.fir_names.specs.declared.declaration.Component.TheVariants as code
use Rattle.fir_names.specs.declared.names.Names.{Names}
use Rattle.fir_names.specs.working.PortNames.{find_port}
use Rattle.fir_names.specs.working.IsNamed.{IsNamed}
use Rattle.fir_names.specs.working.Numbered.{component_of}
use Rattle.fir_names.specs.working.Tabulated.{Tabulates, entry_of, entry_named, found}
use Rattle.fir_names.proofs.TablesByNumber.{table_there}

abbrev is_port : Component → Bool
is_port (component.port d t) = true
is_port _ = false

abbrev IsInner : Declaration → Type 0
IsInner d = is_port d.component ≡ false

-- no port is declared from the one place to the other
record Adds (before after : Before) : Type 0 where
  ds : Declarations
  is : after.declared ≡ before.declared ++ ds
  inner : AllByRecursion IsInner ds

adds_none : (before : Before) → Adds before before
adds_none before = record { ds = []; is = sym (append-nil before.declared); inner = tt }

adds_one : (before : Before) (n : PlacedName) (c : Component) → is_port c ≡ false → Adds before (with_declaration before n c)
adds_one before n c h = record { ds = declaration_at before n c ∷ []; is = refl; inner = (h, tt) }

adds_both : (before between after : Before) → Adds before between → Adds between after → Adds before after
adds_both before between after one other = record {
  ds = one.ds ++ other.ds;
  is = other.is ∙ ap (λ (l : Declarations). l ++ other.ds) one.is ∙ append_assoc before.declared one.ds other.ds;
  inner = all_joined IsInner one.ds other.ds one.inner other.inner;
}

mutual
  adds_behind : (s : Statement) (before : Before) → Adds before (behind before s)
  adds_behind (wire p n begins t) before = adds_one before n (component.wire t) refl
  adds_behind (register p n begins t c r) before = adds_one before n (component.register t) refl
  adds_behind (node p n e) before = adds_one before n (component.node e) refl
  adds_behind (instance p n m) before = adds_one before n (component.instance m.name) refl
  adds_behind (memory p n parts) before = adds_one before n (component.memory parts) refl
  adds_behind (when p c a b) before =
      let inside = behind_block (opened before) a in
      let one = adds_block a (opened before) in
      let other = adds_block b (reopened before inside) in
      record {
        ds = one.ds ++ other.ds;
        is = other.is ∙ ap (λ (l : Declarations). l ++ other.ds) one.is ∙ append_assoc before.declared one.ds other.ds;
        inner = all_joined IsInner one.ds other.ds one.inner other.inner;
      }
  adds_behind (connect p sink e) before = adds_none before
  adds_behind (partial_connect p sink e) before = adds_none before
  adds_behind (invalid p sink) before = adds_none before
  adds_behind (skip p) before = adds_none before

  adds_block : (b : Block) (before : Before) → Adds before (behind_block before b)
  adds_block done before = adds_none before
  adds_block ((then) s b) before =
      adds_both before (behind before s) (behind_block (behind before s) b) (adds_behind s before) (adds_block b (behind before s))

abbrev behind_port : Before → PortTree → Before
behind_port before p = with_declaration before p.named (component.port p.direction p.data_type)

abbrev ports_declared : Before → List PortTree → Declarations
ports_declared before [] = []
ports_declared before (p ∷ ps) =
    declaration_at before p.named (component.port p.direction p.data_type) ∷ ports_declared (behind_port before p) ps

ports_added : (before : Before) (ps : List PortTree) → (behind_ports before ps).declared ≡ before.declared ++ ports_declared before ps
ports_added before [] = sym (append-nil before.declared)
ports_added before (p ∷ ps) =
    ports_added (behind_port before p) ps
    ∙ append_assoc before.declared (declaration_at before p.named (component.port p.direction p.data_type) ∷ []) (ports_declared (behind_port before p) ps)

-- the port of an entry
abbrev port_at : List PortTree → ComponentOfCode → ℕ → Option PortTree
port_at ports (code.Port d) position = slice_get ports position
port_at ports _ position = None

abbrev pub port_by : List PortTree → Option Entry → Option PortTree
port_by ports None = None
port_by ports (Some e) = port_at ports e.component e.position

by_either : (ports : List PortTree) (b : Bool) (x y : Option Entry) (p q : Option PortTree) → port_by ports x ≡ p → port_by ports y ≡ q
    → port_by ports (if b then x else y) ≡ (if b then p else q)
by_either ports true x y p q h k = h
by_either ports false x y p q h k = k

either_none : (b : Bool) → ◌≡◌ {A = Option PortTree} (if b then None else None) None
either_none true = refl
either_none false = refl

module _ (modules : List PlacedName) where
  no_port : (ports : List PortTree) (c : Component) (position : ℕ) → is_port c ≡ false → port_at ports (component_of modules c) position ≡ None
  no_port ports (component.port d t) position h = cc
  no_port ports (component.wire t) position h = refl
  no_port ports (component.register t) position h = refl
  no_port ports (component.node e) position h = refl
  no_port ports (component.instance name) position h = refl
  no_port ports (component.memory parts) position h = refl

  inner_entry : (ports : List PortTree) (position : ℕ) (ds : Declarations) (name : List ℕ) → AllByRecursion IsInner ds
      → port_by ports (entry_named modules position ds name) ≡ None
  inner_entry ports position [] name h = refl
  inner_entry ports position (d ∷ ds) name h =
      by_either ports (bytes_eq d.named.name name) (Some (entry_of modules position d)) (entry_named modules (suc position) ds name) None None
      (no_port ports d.component position h.0) (inner_entry ports (suc position) ds name h.1)
      ∙ either_none (bytes_eq d.named.name name)

  ports_entry : (front ps : List PortTree) (before : Before) (rest : Declarations) (name : List ℕ) → AllByRecursion IsInner rest
      → port_by (front ++ ps) (entry_named modules (length front) (ports_declared before ps ++ rest) name) ≡ find_port ps name
  ports_entry front [] before rest name h = inner_entry (front ++ []) (length front) rest name h
  ports_entry front (p ∷ ps) before rest name h =
      let behind = ports_declared (behind_port before p) ps ++ rest in
      let more : length (front ++ p ∷ []) ≡ suc (length front) = omega (arith, length_push front p) in
      let next = ports_entry (front ++ p ∷ []) ps (behind_port before p) rest name h in
      let there : port_by (front ++ p ∷ ps) (entry_named modules (suc (length front)) behind name) ≡ find_port ps name =
      subst (λ (k : ℕ). port_by (front ++ p ∷ ps) (entry_named modules k behind name) ≡ find_port ps name) more
      (subst (λ (l : List PortTree). port_by l (entry_named modules (length (front ++ p ∷ [])) behind name) ≡ find_port ps name)
      (append_assoc front (p ∷ []) ps) next) in
      by_either (front ++ p ∷ ps) (bytes_eq p.named.name name)
      (Some (entry_of modules (length front) (declaration_at before p.named (component.port p.direction p.data_type))))
      (entry_named modules (suc (length front)) behind name) (Some p) (find_port ps name) (get_behind front ps p) there

  -- the port that a table has under a name is the first port of the name
  pub port_found : (m : ModuleTree) (t : Names) (name : List ℕ) → Tabulates modules t (declarations m)
      → port_by m.ports (found t name) ≡ find_port m.ports name
  port_found m t name h =
      let body = adds_block m.body (behind_ports at_head m.ports) in
      let all = body.is ∙ ap (λ (l : Declarations). l ++ body.ds) (ports_added at_head m.ports) in
      ap (port_by m.ports) (h.by_name name ∙ ap (λ (ds : Declarations). entry_named modules 0 ds name) all)
      ∙ ports_entry [] m.ports at_head body.ds name body.inner

not_port : (ports : List PortTree) (c : ComponentOfCode) (position : ℕ) → ((d : Direction) → c ≡ code.Port d → ⊥) → port_at ports c position ≡ None
not_port ports (code.Port d) position h = absurd (h d refl)
not_port ports code.Wire position h = refl
not_port ports code.Register position h = refl
not_port ports code.Node position h = refl
not_port ports (code.Instance k) position h = refl
not_port ports code.Memory position h = refl

-- in a circuit whose names are there
module _ (c : Circuit) (tables : List Names) (order : List ℕ) (named : IsNamed (circuit_of c) tables order) (k : ℕ) (name : List ℕ) (m : ModuleTree)
    (is : slice_get (map module_of c.modules.items) k ≡ Some m) where
  no_table : slice_get tables k ≡ None → ⊥
  no_table none =
      let t = table_there (module_names (circuit_of c)) tables (map module_of c.modules.items) named.tabulated k m is in
      none-some t.0 (sym none ∙ t.1)

  port_is : (t : Names) → slice_get tables k ≡ Some t → port_by m.ports (found t name) ≡ find_port m.ports name
  port_is t at =
      let u = table_there (module_names (circuit_of c)) tables (map module_of c.modules.items) named.tabulated k m is in
      let same = same_Some u.0 t (sym u.1 ∙ at) in
      subst (λ (x : Names). port_by m.ports (found x name) ≡ find_port m.ports name) same (port_found (module_names (circuit_of c)) m u.0 name u.2)

  pub without_table : slice_get tables k ≡ None → None ≡ find_port m.ports name
  without_table none = absurd (no_table none)

  pub without_entry : (t : Names) → slice_get tables k ≡ Some t → found t name ≡ None → None ≡ find_port m.ports name
  without_entry t at none = ap (port_by m.ports) (sym none) ∙ port_is t at

  pub without_port : (t : Names) → slice_get tables k ≡ Some t → (e : Entry) → found t name ≡ Some e → ((d : Direction) → e.component ≡ code.Port d → ⊥)
      → None ≡ find_port m.ports name
  without_port t at e there other = sym (not_port m.ports e.component e.position other) ∙ ap (port_by m.ports) (sym there) ∙ port_is t at

  pub without_module : slice_get c.modules.items k ≡ None → None ≡ find_port m.ports name
  without_module none = absurd (none-some m (sym (slice_get-map module_of c.modules.items k ∙ ap (option_map module_of) none) ∙ is))

  pub with_port : (t : Names) → slice_get tables k ≡ Some t → (e : Entry) → found t name ≡ Some e → (d : Direction) → e.component ≡ code.Port d
      → (part : Module) → slice_get c.modules.items k ≡ Some part → option_map port_of (slice_get part.ports.items e.position) ≡ find_port m.ports name
  with_port t at e there d port part here =
      let same : module_of part ≡ m = same_Some (module_of part) m (sym (slice_get-map module_of c.modules.items k ∙ ap (option_map module_of) here) ∙ is) in
      sym (slice_get-map port_of part.ports.items e.position)
      ∙ ap (λ (x : ModuleTree). slice_get x.ports e.position) same
      ∙ ap (λ (x : ComponentOfCode). port_at m.ports x e.position) (sym port)
      ∙ ap (port_by m.ports) (sym there)
      ∙ port_is t at
