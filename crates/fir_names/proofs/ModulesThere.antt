-- Where no fault of the first group stands, each module has a name of its own and each instance a module.
use Rattle.std.proofs.Common.{◌≡◌, ℕ, zero, suc, ◌+◌, ◌<◌, List, [], ◌∷◌, ◌++◌, true, false, length, slice_get, Some, None, Option, option_map, refl, sym, ap, subst, ⊎_elim, ◌∙◌, append_assoc, add-one, add-zero, arith}
use Rattle.std.specs.Str.{bytes_eq}
use Rattle.std.specs.List.{AllByRecursion}
use Rattle.std.proofs.lemmas.List.{length_push, length-map}
use Rattle.std.proofs.lemmas.Option.{none-some, same_Some, slice_get_within}
use Rattle.fir_base.specs.Lists.{In}
use Rattle.fir_base.proofs.Each.{all_at, all_joined}
use Rattle.fir_base.proofs.Empty.{empty_left, empty_right}
use Rattle.fir_base.proofs.SameNames.{name_is, name_same}
use Rattle.fir_base.proofs.Tests.{chosen}
use Rattle.fir_ast.specs.Statements.{PlacedName, Statement, wire, register, node, instance, memory, when, connect, partial_connect, invalid, skip, Block, done, then}
use Rattle.fir_ast.specs.Circuits.{PortTree, ModuleTree, CircuitTree}
use Rattle.fir_pass.specs.Groups.{IsClear}
use Rattle.fir_meaning.specs.Components.{Component, Declaration, find_name}
use Rattle.fir_meaning.specs.Components as component
use Rattle.fir_meaning.specs.Visibility.{Before, declaration_at, with_declaration, opened, reopened, behind, behind_block, behind_ports, at_head, declarations}
use Rattle.fir_meaning.specs.Mentions.{declares, instantiates, expression_mentions, mentions, names_declared, block_mentions, ports_mentions, module_mentions, modules_mentions, module_names, circuit_mentions}
use Rattle.fir_meaning.specs.NameGroups.{second_faults, missing_faults, mention_faults, faults_in, name_group}
use Rattle.fir_meaning.proofs.OnceDeclared.{clear_left, clear_right}
use Rattle.fir_meaning.proofs.OneLookUp.{clear_module, emptied}
use Rattle.fir_names.specs.working.ModuleOrder.{find_number}
use Rattle.fir_names.specs.working.Numbered.{names_of}

-- numbers of names
shifted : (found : Option ℕ) (k : ℕ) → option_map (λ j. j + 1) found ≡ Some k → (j : ℕ) × (found ≡ Some j) × (k ≡ suc j)
shifted None k h = absurd (none-some k h)
shifted (Some j) k h = (j, refl, sym (same_Some (j + 1) k h) ∙ add-one j)

-- the name of a number
pub number_named : (ns : List PlacedName) (name : List ℕ) (k : ℕ) → find_number ns name ≡ Some k → (n : PlacedName) × (slice_get ns k ≡ Some n) × (n.name ≡ name)
number_named [] name k h = absurd (none-some k h)
number_named (n ∷ ns) name k h =
    ⊎_elim
    (λ (c : (bytes_eq n.name name ≡ true) × (Some 0 ≡ Some k)).
    (n, ap (slice_get (n ∷ ns)) (sym (same_Some 0 k c.1)), name_is n.name name c.0))
    (λ (c : (bytes_eq n.name name ≡ false) × (option_map (λ j. j + 1) (find_number ns name) ≡ Some k)).
    let less = shifted (find_number ns name) k c.1 in
    let r = number_named ns name less.0 less.1 in
    (r.0, ap (slice_get (n ∷ ns)) less.2 ∙ r.1, r.2))
    (chosen (bytes_eq n.name name) (Some 0) (option_map (λ j. j + 1) (find_number ns name)) (Some k) h)

pub number_below : (c : CircuitTree) (name : List ℕ) (w : ℕ) → find_number (module_names c) name ≡ Some w → w < length c.modules
number_below c name w h =
    let n = number_named (module_names c) name w h in
    let inside = slice_get_within (module_names c) w n.0 n.1 in
    omega (arith, inside, length-map c.modules (λ (m : ModuleTree). m.named))

-- a name that is found has a number
number_found : (ns : List PlacedName) (name : List ℕ) (n : PlacedName) → find_name ns name ≡ Some n → (k : ℕ) × (find_number ns name ≡ Some k)
number_found [] name n h = absurd (none-some n h)
number_found (m ∷ ns) name n h =
    ⊎_elim
    (λ (c : (bytes_eq m.name name ≡ true) × (Some m ≡ Some n)). (0, rw c.0 refl))
    (λ (c : (bytes_eq m.name name ≡ false) × (find_name ns name ≡ Some n)).
    let r = number_found ns name n c.1 in
    (r.0 + 1, rw c.0 (ap (option_map (λ j. j + 1)) r.1)))
    (chosen (bytes_eq m.name name) (Some m) (find_name ns name) (Some n) h)

-- a name that is new has the number of those before it
number_new : (before rest : List PlacedName) (n : PlacedName) → find_name before n.name ≡ None → find_number (before ++ n ∷ rest) n.name ≡ Some (length before)
number_new [] rest n h = rw (name_same n.name) refl
number_new (m ∷ before) rest n h =
    ⊎_elim
    (λ (c : (bytes_eq m.name n.name ≡ true) × (Some m ≡ None)). absurd (none-some m (sym c.1)))
    (λ (c : (bytes_eq m.name n.name ≡ false) × (find_name before n.name ≡ None)).
    rw c.0 (ap (option_map (λ j. j + 1)) (number_new before rest n c.1) ∙ ap (λ (j : ℕ). Some j) (add-one (length before))))
    (chosen (bytes_eq m.name n.name) (Some m) (find_name before n.name) None h)

-- what an empty list of faults says
not_second : (found : Option PlacedName) (n : PlacedName) → second_faults found n ≡ [] → found ≡ None
not_second None n h = refl
not_second (Some first) n h = cc

not_missing : (found : Option PlacedName) (n : PlacedName) → missing_faults found n ≡ [] → (m : PlacedName) × (found ≡ Some m)
not_missing None n h = cc
not_missing (Some m) n h = (m, refl)

module _ (names : List PlacedName) where
  -- the modules behind some
  numbered : (before : List PlacedName) (ms : List ModuleTree) → faults_in (modules_mentions names before ms) ≡ [] → (k : ℕ) (m : ModuleTree) → slice_get ms k ≡ Some m
      → find_number (before ++ names_of ms) m.named.name ≡ Some (length before + k)
  numbered before [] h k m e = absurd (none-some m e)
  numbered before (x ∷ ms) h zero m e =
      let rest = module_mentions names x ++ modules_mentions names (before ++ x.named ∷ []) ms in
      let new = not_second (find_name before x.named.name) x.named (empty_left (mention_faults (declares before x.named)) (faults_in rest) h) in
      subst (λ (y : ModuleTree). find_number (before ++ x.named ∷ names_of ms) y.named.name ≡ Some (length before + 0)) (same_Some x m e)
      (number_new before (names_of ms) x.named new ∙ ap (λ (j : ℕ). Some j) (sym (add-zero (length before))))
  numbered before (x ∷ ms) h (suc k) m e =
      let here = module_mentions names x in
      let rest = modules_mentions names (before ++ x.named ∷ []) ms in
      let clear = clear_right here rest (empty_right (mention_faults (declares before x.named)) (faults_in (here ++ rest)) h) in
      let long : length (before ++ x.named ∷ []) + k ≡ length before + suc k = omega (arith, length_push before x.named) in
      ap (λ (l : List PlacedName). find_number l m.named.name) (sym (append_assoc before (x.named ∷ []) (names_of ms)))
      ∙ numbered (before ++ x.named ∷ []) ms clear k m e ∙ ap (λ (j : ℕ). Some j) long

  -- the module of an instance is there
  abbrev IsThere : Declaration → Type 0
  IsThere d = (name : List ℕ) → d.component ≡ component.instance name → (n : PlacedName) × (find_name names name ≡ Some n)

  abbrev AreThere : Before → Type 0
  AreThere before = AllByRecursion IsThere before.declared

  there_more : (before : Before) (n : PlacedName) (c : Component) → IsThere (declaration_at before n c) → AreThere before → AreThere (with_declaration before n c)
  there_more before n c h all = all_joined IsThere before.declared (declaration_at before n c ∷ []) all (h, tt)

  instance_there : (before : Before) (n m : PlacedName) → faults_in (declares (names_declared before) n ∷ instantiates names m ∷ []) ≡ []
      → IsThere (declaration_at before n (component.instance m.name))
  instance_there before n m h = λ name e.
      let behind = empty_right (mention_faults (declares (names_declared before) n)) (faults_in (instantiates names m ∷ [])) h in
      let found = not_missing (find_name names m.name) m (empty_left (mention_faults (instantiates names m)) [] behind) in
      let same : m.name ≡ name = cc in
      (found.0, ap (find_name names) (sym same) ∙ found.1)

  mutual
    there_behind : (s : Statement) (before : Before) → faults_in (mentions names before s) ≡ [] → AreThere before → AreThere (behind before s)
    there_behind (wire p n begins t) before h all = there_more before n (component.wire t) (λ name e. cc) all
    there_behind (register p n begins t c r) before h all = there_more before n (component.register t) (λ name e. cc) all
    there_behind (node p n e) before h all = there_more before n (component.node e) (λ name e. cc) all
    there_behind (instance p n m) before h all = there_more before n (component.instance m.name) (instance_there before n m h) all
    there_behind (memory p n parts) before h all = there_more before n (component.memory parts) (λ name e. cc) all
    there_behind (when p c a b) before h all =
        let inside = behind_block (opened before) a in
        let condition = expression_mentions before.visible c in
        let first = block_mentions names (opened before) a in
        let second = block_mentions names (reopened before inside) b in
        there_block b (reopened before inside) (clear_right (condition ++ first) second h)
        (there_block a (opened before) (clear_right condition first (clear_left (condition ++ first) second h)) all)
    there_behind (connect p sink e) before h all = all
    there_behind (partial_connect p sink e) before h all = all
    there_behind (invalid p sink) before h all = all
    there_behind (skip p) before h all = all

    there_block : (b : Block) (before : Before) → faults_in (block_mentions names before b) ≡ [] → AreThere before → AreThere (behind_block before b)
    there_block done before h all = all
    there_block ((then) s b) before h all =
        let here = mentions names before s in
        let rest = block_mentions names (behind before s) b in
        there_block b (behind before s) (clear_right here rest h) (there_behind s before (clear_left here rest h) all)

  there_ports : (ps : List PortTree) (before : Before) → AreThere before → AreThere (behind_ports before ps)
  there_ports [] before all = all
  there_ports (p ∷ ps) before all =
      let port = component.port p.direction p.data_type in
      there_ports ps (with_declaration before p.named port) (there_more before p.named port (λ name e. cc) all)

  there_module : (m : ModuleTree) → faults_in (module_mentions names m) ≡ [] → AllByRecursion IsThere (declarations m)
  there_module m h =
      let head = behind_ports at_head m.ports in
      there_block m.body head (clear_right (ports_mentions at_head m.ports) (block_mentions names head m.body) h) (there_ports m.ports at_head tt)

module _ (c : CircuitTree) (clear : IsClear (name_group c)) where
  none : faults_in (circuit_mentions c) ≡ []
  none = emptied (faults_in (circuit_mentions c)) clear

  -- each module is the first of its name
  pub own_number : (k : ℕ) (m : ModuleTree) → slice_get c.modules k ≡ Some m → find_number (module_names c) m.named.name ≡ Some k
  own_number k m e = numbered (module_names c) [] c.modules none k m e ∙ ap (λ (j : ℕ). Some j) (let zero_less : 0 + k ≡ k = omega arith in zero_less)

  -- each instance has a module
  pub instance_number : (m : ModuleTree) (d : Declaration) (name : List ℕ) → In c.modules m → In (declarations m) d → d.component ≡ component.instance name
      → (k : ℕ) × (find_number (module_names c) name ≡ Some k)
  instance_number m d name i j is =
      let found = all_at (IsThere (module_names c)) (declarations m)
      (there_module (module_names c) m (clear_module (module_names c) [] c.modules m none i)) d j name is in
      number_found (module_names c) name found.0 found.1
