-- The leaves and arrays of a folded net beside those of the net: they differ in what they read alone.
use Rattle.std.proofs.Common.{◌≡◌, ℕ, ◌+◌, List, [], ◌∷◌, ◌++◌, map, Bool, true, false, refl, sym, ap, ◌∙◌, subst, unwrap_or, option_map, sum_by, fold}
use Rattle.std.specs.Prelude.{slice_get, Option, Some, None, MatchBool}
use Rattle.std.specs.List.{AllByRecursion}
use Rattle.std.proofs.lemmas.Option.{slice_get-map}
use Rattle.fir_base.proofs.Members.{map_same}
use Rattle.fir_bits.specs.Forms.{no_type}
use Rattle.fir_bits.specs.working.Types.{typed}
use Rattle.fir_bits.specs.declared.types.NumTy.{NumTy}
use Rattle.fir_net.specs.declared.array.Array.{Array}
use Rattle.fir_net.specs.declared.array.ArrayRead.{ArrayRead}
use Rattle.fir_net.specs.declared.array.Pipe.{Pipe}
use Rattle.fir_net.specs.declared.leaf.Leaf.{Leaf}
use Rattle.fir_net.specs.declared.leaf.Register.{Register}
use Rattle.fir_net.specs.declared.leaf.Role.{Role}
use Rattle.fir_net.specs.declared.leaf.Role.TheVariants as role
use Rattle.fir_net.specs.declared.node.Node.{Node}
use Rattle.fir_net.specs.declared.node.Node.TheVariants as node
use Rattle.fir_net.specs.declared.reads.Read.{Read}
use Rattle.fir_net.specs.declared.reads.Read.TheVariants as read
use Rattle.fir_net.specs.working.Arrays.{words_of}
use Rattle.fir_net.specs.working.IsNet.{AreInside, AreNodes, ArePortsFirst, CanRead, IsChoice, IsClock, IsNode, is_port, is_state, node_type, read_type}
use Rattle.fir_net.specs.working.IsWritable.{is_input_or_state}
use Rattle.fir_net.specs.working.Settled.{driver, is_clock}
use Rattle.fir_net.specs.working.Values.{leaf_type, type_of_leaf}
use Rattle.fir_fold.specs.working.Standing.{array_read, leaf_read, reset_read, role_read, written_array}

-- ---- lists of mapped elements
pub option_from : {A : Type 0} → (g : A → A) (o : Option A) (y : A) → option_map g o ≡ Some y → (x : A) × (o ≡ Some x) × (y ≡ g x)
option_from g None y e = cc
option_from g (Some x) y e = let same : g x ≡ y = cc in (x, refl, sym same)

pub map_at : {A : Type 0} → (g : A → A) (xs : List A) (k : ℕ) (x : A) → slice_get xs k ≡ Some x → slice_get (map g xs) k ≡ Some (g x)
map_at g xs k x at = slice_get-map g xs k ∙ ap (option_map g) at

pub map_from : {A : Type 0} → (g : A → A) (xs : List A) (k : ℕ) (y : A) → slice_get (map g xs) k ≡ Some y → (x : A) × (slice_get xs k ≡ Some x) × (y ≡ g x)
map_from g xs k y at = option_from g (slice_get xs k) y (sym (slice_get-map g xs k) ∙ at)

pub all_then : {A : Type 0} → (P Q : A → Type 0) (xs : List A) → ((x : A) → P x → Q x) → AllByRecursion P xs → AllByRecursion Q xs
all_then P Q [] each h = tt
all_then P Q (x ∷ xs) each h = (each x h.0, all_then P Q xs each h.1)

fold_same : (f g : ℕ → ℕ) (n : ℕ) (xs : List ℕ) → ((x : ℕ) → f x ≡ g x) → fold (λ a x. a + f x) n xs ≡ fold (λ a x. a + g x) n xs
fold_same f g n [] h = refl
fold_same f g n (x ∷ xs) h = ap (λ y. fold (λ a z. a + f z) (n + y) xs) (h x) ∙ fold_same f g (n + g x) xs h

sum_same : (f g : ℕ → ℕ) (xs : List ℕ) → ((x : ℕ) → f x ≡ g x) → sum_by f xs ≡ sum_by g xs
sum_same f g xs h = fold_same f g 0 xs h

-- a function of roles that does not hang on what they read
record IsBlind {A : Type 0} (g : Role → A) : Type 0 where
  outputs : (r s : Read) → g (role.Output r) ≡ g (role.Output s)
  wires : (r s : Read) → g (role.Wire r) ≡ g (role.Wire s)
  registers : (r s : Register) → g (role.Register r) ≡ g (role.Register s)
  readings : (r s : ArrayRead) → g (role.Reading r) ≡ g (role.Reading s)
  pipes : (p q : Pipe) → g (role.Pipe p) ≡ g (role.Pipe q)

module _ (f : Read → Read) where
  blind_same : {A : Type 0} → (g : Role → A) → IsBlind g → (r : Role) → g (role_read f r) ≡ g r
  blind_same g blind role.Input = refl
  blind_same g blind role.Clock = refl
  blind_same g blind (role.Output r) = blind.outputs (f r) r
  blind_same g blind (role.Wire r) = blind.wires (f r) r
  blind_same g blind (role.Register r) = blind.registers (record { clock = r.clock; reset = option_map (reset_read f) r.reset; next = option_map f r.next }) r
  blind_same g blind (role.Reading r) = blind.readings (array_read f r) r
  blind_same g blind (role.Pipe p) = blind.pipes (record { clock = p.clock; read = array_read f p.read; is_new = p.is_new }) p
  blind_same g blind (role.ClockOutput c) = refl
  blind_same g blind (role.ClockWire c) = refl

  pub clock_role : (r : Role) → is_clock (role_read f r) ≡ is_clock r
  clock_role r = blind_same is_clock (record { outputs = λ r s. refl; wires = λ r s. refl; registers = λ r s. refl; readings = λ r s. refl; pipes = λ r s. refl }) r

  pub port_role : (r : Role) → is_port (role_read f r) ≡ is_port r
  port_role r = blind_same is_port (record { outputs = λ r s. refl; wires = λ r s. refl; registers = λ r s. refl; readings = λ r s. refl; pipes = λ r s. refl }) r

  pub state_role : (r : Role) → is_state (role_read f r) ≡ is_state r
  state_role r = blind_same is_state (record { outputs = λ r s. refl; wires = λ r s. refl; registers = λ r s. refl; readings = λ r s. refl; pipes = λ r s. refl }) r

  pub input_role : (r : Role) → is_input_or_state (role_read f r) ≡ is_input_or_state r
  input_role r = blind_same is_input_or_state (record { outputs = λ r s. refl; wires = λ r s. refl; registers = λ r s. refl; readings = λ r s. refl; pipes = λ r s. refl }) r

  pub driver_role : (x : Role) → driver (role_read f x) ≡ option_map f (driver x)
  driver_role role.Input = refl
  driver_role role.Clock = refl
  driver_role (role.Output r) = refl
  driver_role (role.Wire r) = refl
  driver_role (role.Register r) = refl
  driver_role (role.Reading r) = refl
  driver_role (role.Pipe p) = refl
  driver_role (role.ClockOutput c) = refl
  driver_role (role.ClockWire c) = refl

  pub driver_from : (x : Role) (r : Read) → driver (role_read f x) ≡ Some r → (d : Read) × (driver x ≡ Some d) × (r ≡ f d)
  driver_from x r e = option_from f (driver x) r (sym (driver_role x) ∙ e)

  pub reading_from : (x : Role) (r : ArrayRead) → role_read f x ≡ role.Reading r → (q : ArrayRead) × (x ≡ role.Reading q) × (r.array ≡ q.array)
  reading_from role.Input r e = cc
  reading_from role.Clock r e = cc
  reading_from (role.Output q) r e = cc
  reading_from (role.Wire q) r e = cc
  reading_from (role.Register q) r e = cc
  reading_from (role.Reading q) r e =
      let same : ◌≡◌ {A = ArrayRead} (record { array = q.array; address = f q.address; enable = f q.enable }) r = cc in
      (q, refl, ap (λ (x : ArrayRead). x.array) (sym same))
  reading_from (role.Pipe p) r e = cc
  reading_from (role.ClockOutput c) r e = cc
  reading_from (role.ClockWire c) r e = cc

  pub pipe_from : (x : Role) (r : Pipe) → role_read f x ≡ role.Pipe r → (q : Pipe) × (x ≡ role.Pipe q) × (r.read.array ≡ q.read.array)
  pipe_from role.Input r e = cc
  pipe_from role.Clock r e = cc
  pipe_from (role.Output q) r e = cc
  pipe_from (role.Wire q) r e = cc
  pipe_from (role.Register q) r e = cc
  pipe_from (role.Reading q) r e = cc
  pipe_from (role.Pipe q) r e =
      let same : ◌≡◌ {A = Pipe} (record { clock = q.clock; read = record { array = q.read.array; address = f q.read.address; enable = f q.read.enable }; is_new = q.is_new }) r = cc in
      (q, refl, ap (λ (x : Pipe). x.read.array) (sym same))
  pipe_from (role.ClockOutput c) r e = cc
  pipe_from (role.ClockWire c) r e = cc

  inside : (ls : List Leaf) → AreInside ls → AreInside (map (leaf_read f) ls)
  inside [] h = tt
  inside (l ∷ ls) h = (port_role l.role ∙ h.0, inside ls h.1)

  pub ports_first : (ls : List Leaf) → ArePortsFirst ls → ArePortsFirst (map (leaf_read f) ls)
  ports_first [] h = tt
  ports_first (l ∷ ls) h = rw (port_role l.role) (by (is_port l.role) (ports_first ls) (inside ls) h)
    where
      by : (b : Bool) → (ArePortsFirst ls → ArePortsFirst (map (leaf_read f) ls)) → (AreInside ls → AreInside (map (leaf_read f) ls)) → MatchBool b (ArePortsFirst ls) (AreInside ls)
          → MatchBool b (ArePortsFirst (map (leaf_read f) ls)) (AreInside (map (leaf_read f) ls))
      by true first within x = first x
      by false first within x = within x

  pub words_same : (xs : List Array) (ks : List ℕ) → sum_by (words_of (map (written_array f) xs)) ks ≡ sum_by (words_of xs) ks
  words_same xs ks = sum_same (words_of (map (written_array f) xs)) (words_of xs) ks each
    where
      at : (o : Option Array) → unwrap_or (option_map (λ (a : Array). a.words) (option_map (written_array f) o)) 0 ≡ unwrap_or (option_map (λ (a : Array). a.words) o) 0
      at None = refl
      at (Some a) = refl

      each : (k : ℕ) → words_of (map (written_array f) xs) k ≡ words_of xs k
      each k = ap (λ (o : Option Array). unwrap_or (option_map (λ (a : Array). a.words) o) 0) (slice_get-map (written_array f) xs k) ∙ at (slice_get xs k)

  module _ (leaves : List Leaf) where
    pub leaf_types : (k : ℕ) → leaf_type (map (leaf_read f) leaves) k ≡ leaf_type leaves k
    leaf_types k = ap (λ (o : Option Leaf). unwrap_or (option_map type_of_leaf o) no_type) (slice_get-map (leaf_read f) leaves k) ∙ at (slice_get leaves k)
      where
        at : (o : Option Leaf) → unwrap_or (option_map type_of_leaf (option_map (leaf_read f) o)) no_type ≡ unwrap_or (option_map type_of_leaf o) no_type
        at None = refl
        at (Some l) = refl

    pub read_types : (nodes : List Node) (r : Read) → read_type (map (leaf_read f) leaves) nodes r ≡ read_type leaves nodes r
    read_types nodes (read.Leaf k) = leaf_types k
    read_types nodes (read.Node j) = refl

    pub can_over : (nodes : List Node) (r : Read) → CanRead leaves nodes r → CanRead (map (leaf_read f) leaves) nodes r
    can_over nodes (read.Leaf k) c = (leaf_read f c.0, map_at (leaf_read f) leaves k c.0 c.1, clock_role c.0.role ∙ c.2)
    can_over nodes (read.Node j) c = c

    pub can_under : (nodes : List Node) (r : Read) → CanRead (map (leaf_read f) leaves) nodes r → CanRead leaves nodes r
    can_under nodes (read.Leaf k) c =
        let l = map_from (leaf_read f) leaves k c.0 c.1 in
        (l.0, l.1, sym (clock_role l.0.role) ∙ ap (λ (m : Leaf). is_clock m.role) (sym l.2) ∙ c.2)
    can_under nodes (read.Node j) c = c

    pub clock_over : (k : ℕ) → IsClock leaves k → IsClock (map (leaf_read f) leaves) k
    clock_over k c = (leaf_read f c.0, map_at (leaf_read f) leaves k c.0 c.1, clock_role c.0.role ∙ c.2)

    types_over : (nodes : List Node) (rs : List Read) → map (read_type (map (leaf_read f) leaves) nodes) rs ≡ map (read_type leaves nodes) rs
    types_over nodes rs = map_same (read_type (map (leaf_read f) leaves) nodes) (read_type leaves nodes) rs (λ r i. read_types nodes r)

    node_over : (before : List Node) (n : Node) → IsNode leaves before n → IsNode (map (leaf_read f) leaves) before n
    node_over before (node.Literal v) h = h
    node_over before (node.Operation o) h = record {
      reads = all_then (CanRead leaves before) (CanRead (map (leaf_read f) leaves) before) o.reads (can_over before) h.reads;
      has_type = ap (λ (ts : List NumTy). typed o.op ts o.integers) (types_over before o.reads) ∙ h.has_type;
    }
    node_over before (node.Mux m) h = record {
      reads = all_then (CanRead leaves before) (CanRead (map (leaf_read f) leaves) before) m.reads (can_over before) h.reads;
      has_type = subst (IsChoice (node_type (node.Mux m))) (sym (types_over before m.reads)) h.has_type;
    }

    pub nodes_over : (before ns : List Node) → AreNodes leaves before ns → AreNodes (map (leaf_read f) leaves) before ns
    nodes_over before [] h = tt
    nodes_over before (n ∷ ns) h = (node_over before n h.0, nodes_over (before ++ n ∷ []) ns h.1)
