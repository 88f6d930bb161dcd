-- Each assign of the tree is sound beside its target's width, and assigns name only nets.
-- An inner net has the width of its value, and what drives an output is taken at the width of its leaf.
use Rattle.std.proofs.Common.{◌≡◌, ℕ, ◌≤◌, List, [], ◌∷◌, ◌++◌, map, Bool, true, false, refl, sym, ap, inl, inr, ⊎_elim, subst, arith}
use Rattle.std.specs.Prelude.{Option, Some, None, if◌then◌else◌}
use Rattle.std.specs.List.{AllByRecursion}
use Rattle.std.specs.Str.{bytes_eq}
use Rattle.std.proofs.lemmas.Slice.Eq.{bytes_eq-Decides}
use Rattle.fir_base.specs.Lists.{In, EachIn}
use Rattle.fir_base.proofs.Each.{all_at, all_from, all_joined, all_mapped, each_joined, each_more}
use Rattle.fir_base.proofs.Members.{in_map, in_left, in_right}
use Rattle.fir_net.specs.declared.reads.Read.{Read}
use Rattle.fir_net.specs.declared.leaf.Role.{Role}
use Rattle.fir_net.specs.declared.leaf.Role.TheVariants as role
use Rattle.fir_net.specs.declared.node.Node.{Node}
use Rattle.fir_net.specs.declared.node.Node.TheVariants as node
use Rattle.fir_net.specs.declared.net.FlatNet.{FlatNet}
use Rattle.fir_net_names.specs.declared.name_table.NameTable.{NameTable}
use Rattle.fir_net.specs.working.Arrays.{words_of}
use Rattle.fir_net.specs.working.Dependence.{support_of}
use Rattle.fir_net.specs.working.IsNet.{CanRead, IsRole, IsNode}
use Rattle.ver_ast.specs.declared.tree.Assign.{Assign}
use Rattle.ver_ast.specs.Names.{atom_names, rhs_names}
use Rattle.ver_ast.specs.ItemNames.{item_names, rhs_arrays}
use Rattle.ver_ast.specs.SoundSides.{IsSoundSide}
use Rattle.ver_ast.specs.declared.tree.Rhs.{Rhs}
use Rattle.ver_ast.specs.declared.tree.Rhs.TheVariants as rhs
use Rattle.ver_ast.specs.Nets.{SizedNet, Variable, variable_names, AlwaysBlock, width_among, names_of}
use Rattle.ver_build.specs.Arranged.{block_item}
use Rattle.ver_build.specs.declared.held.Part.{Part}
use Rattle.ver_build.specs.declared.held.Source.{Source}
use Rattle.ver_build.specs.declared.held.Source.TheVariants as source
use Rattle.ver_build.specs.declared.held.Held.{Held}
use Rattle.ver_build.specs.declared.places.Places.{Places}
use Rattle.ver_build.specs.working.Operands.{atom_at}
use Rattle.ver_build.specs.declared.right_sides.Inner.{Inner}
use Rattle.ver_build.specs.working.Places.{held_of, source_name, node_at, read_width}
use Rattle.ver_build.specs.working.ArrayTexts.{guard_inners}
use Rattle.ver_build.specs.working.Built.{inners, node_inners, inner_assign, leaf_assign, role_assign}
use Rattle.ver_build.proofs.Names.{zipped, all_zipped}
use Rattle.ver_build.proofs.Premises.{Premises}
use Rattle.ver_build.proofs.OrderedLeaves.{ordered_names, ordered_leaves}
use Rattle.ver_build.proofs.Parts.{assigns_of}
use Rattle.ver_build.proofs.LeafKinds.{is_net}
use Rattle.ver_build.proofs.Nets.{sizes}
use Rattle.ver_build.proofs.Standing.{IsPart, IsSource, IsKnown, ReadsInTurn}
use Rattle.ver_build.proofs.OperandAtoms.{atom_fits}
use Rattle.ver_build.proofs.OperandNames.{atom_known}
use Rattle.ver_build.proofs.NodeMeaning.{operation_reads, choice_reads}
use Rattle.ver_build.proofs.Sizes.{IsSized, LeafFact, InnerKind, of_node, of_reading, of_reset, of_guard, leaf_is_sized, leaf_facts, guard_among, inner_kind, inners_among, reading_among}
use Rattle.ver_build.proofs.ReadsStand.{read_addressed, whole_at, word_reset, read_stands}
use Rattle.ver_build.proofs.InnersSound.{inner_sound, inner_size}
use Rattle.ver_build.proofs.ReadingNets.{own_reading}
use Rattle.ver_build.proofs.StateArrays.{array_name, state_variables, write_at}
use Rattle.ver_build.proofs.ArraySides.{guard_reads, reading_reads}

-- target and reads are among these names
pub record Among (all : List (List ℕ)) (name : List ℕ) (reads : List (List ℕ)) : Type 0 where
  pub target : In all name
  pub sources : EachIn reads all

abbrev pub AssignAmong : List (List ℕ) → Assign → Type 0
AssignAmong all a = Among all a.target (rhs_arrays a.rhs ++ rhs_names a.rhs)

-- each name of a block is among these
abbrev pub BlockAmong : List (List ℕ) → AlwaysBlock → Type 0
BlockAmong all b = EachIn (item_names (block_item b)) all

-- the target has a width, and the right side is sound beside it
abbrev pub FitsTarget : List SizedNet → List Variable → Assign → Type 0
FitsTarget ns ks a = (w : ℕ) × In ns (a.target, w) × IsSoundSide ns ks w a.rhs

-- a sound assign, among these nets and arrays
abbrev Fits : List SizedNet → List Variable → Assign → Type 0
Fits ns ks a = FitsTarget ns ks a × AssignAmong (names_of ns ++ variable_names ks) a

-- the array that a sound right side reads is one of these
arrays_among : (ns : List SizedNet) (ks : List Variable) (w : ℕ) (r : Rhs) → IsSoundSide ns ks w r → EachIn (rhs_arrays r) (variable_names ks)
arrays_among ns ks w (rhs.Word m a) sound =
    let k = sound.widths in
    (subst (In (variable_names ks)) k.2 (in_map (λ (x : Variable). x.name) ks k.0 k.1), tt)
arrays_among ns ks w r sound = tt

-- what has a width is a net of it
pub declared_among : (ns : List SizedNet) (name : List ℕ) → 1 ≤ width_among ns name → In ns (name, width_among ns name)
declared_among [] name some = absurd (omega arith)
declared_among (s ∷ ns) name some = by_test (declared_among ns name) (bytes_eq s.0 name) refl some
  where
    by_test : (1 ≤ width_among ns name → In ns (name, width_among ns name)) → (b : Bool) → bytes_eq s.0 name ≡ b → 1 ≤ (if b then s.1 else width_among ns name)
        → In (s ∷ ns) (name, if b then s.1 else width_among ns name)
    by_test behind true e one = inl (ap (λ (n : List ℕ). (n, s.1)) ((bytes_eq-Decides s.0 name).0 e))
    by_test behind false e one = inr (behind one)

-- the net of a value, with its width
pub part_among : (ns : List SizedNet) (w : ℕ) (p : Part) → IsPart ns w p → In ns (p.name, p.own)
part_among ns w p is =
    subst (λ (v : ℕ). In ns (p.name, v)) is.declared (declared_among ns p.name (omega (arith, is.some, is.within, is.declared)))

source_known : (ns : List SizedNet) (w : ℕ) (s : Source) → IsSource ns w s → EachIn (source_name s) (names_of ns)
source_known ns w (source.Number n) is = tt
source_known ns w (source.Net p) is = (in_map (λ (s : SizedNet). s.0) ns (p.name, p.own) (part_among ns w p is), tt)

first_of : {A : Type 0} → (P Q : A → Type 0) (xs : List A) → AllByRecursion (λ x. P x × Q x) xs → AllByRecursion P xs
first_of P Q [] h = tt
first_of P Q (x ∷ xs) h = (h.0.0, first_of P Q xs h.1)

second_of : {A : Type 0} → (P Q : A → Type 0) (xs : List A) → AllByRecursion (λ x. P x × Q x) xs → AllByRecursion Q xs
second_of P Q [] h = tt
second_of P Q (x ∷ xs) h = (h.0.1, second_of P Q xs h.1)

-- what some inner nets read in turn, where their names are known
all_reads : (known all : List (List ℕ)) (xs : List Inner) → ((x : List ℕ) → In known x → In all x) → ((i : Inner) → In xs i → In all i.name)
    → ReadsInTurn known xs
    → AllByRecursion (λ (i : Inner). EachIn (rhs_names i.rhs) all) xs
all_reads known all [] h k r = tt
all_reads known all (i ∷ xs) h k r = (
  each_more (rhs_names i.rhs) known all h r.0,
  all_reads (i.name ∷ known) all xs (λ x m. ⊎_elim (λ (e : i.name ≡ x). subst (In all) e (k i (inl refl))) (λ (n : In known x). h x n) m)
      (λ j m. k j (inr m)) r.1,
)

-- many values that are known
pub all_known : (known : List (List ℕ)) (f : Read → Held) (rs : List Read) → AllByRecursion (λ r. IsKnown known (f r)) rs
    → AllByRecursion (IsKnown known) (map f rs)
all_known known f [] h = tt
all_known known f (r ∷ rs) h = (h.0, all_known known f rs h.1)

-- the inner nets of a node read what it reads
pub node_reads : (p : Places) (known : List (List ℕ)) (n : Node) (helpers : List (List ℕ)) (name : List ℕ)
    → AllByRecursion (λ r. IsKnown known (held_of p r)) (support_of n) → ReadsInTurn known (node_inners p n helpers name)
node_reads p known (node.Literal v) helpers name sources = tt
node_reads p known (node.Operation o) helpers name sources =
    operation_reads o.op o.integers (map (held_of p) o.reads) helpers name o.width known (all_known known (held_of p) o.reads sources)
node_reads p known (node.Mux m) helpers name sources =
    choice_reads (map (held_of p) m.reads) name m.width known (all_known known (held_of p) m.reads sources)

-- what a node reads can be read
pub support_can : (net : FlatNet) (n : Node) → IsNode net.leaves net.nodes n → AllByRecursion (CanRead net.leaves net.nodes) (support_of n)
support_can net (node.Literal v) whole = tt
support_can net (node.Operation o) whole = whole.reads
support_can net (node.Mux m) whole = whole.reads

module _ (net : FlatNet) (t : NameTable) (p : Places) (order : List Read) (is : Premises net t p order) where
  abbrev ns : List SizedNet
  ns = sizes net t p order

  abbrev ks : List Variable
  ks = state_variables net t

  -- the names of nets, and then of arrays
  abbrev pub known_names : List (List ℕ)
  known_names = names_of (sizes net t p order) ++ variable_names (state_variables net t)

  pub net_known : (x : List ℕ) → In (names_of (sizes net t p order)) x → In known_names x
  net_known x m = in_left (names_of ns) (variable_names ks) x m

  named : (name : List ℕ) (w : ℕ) → IsSized ns name w → In (names_of ns) name
  named name w size = in_map (λ (s : SizedNet). s.0) ns (name, w) size.among

  read_known : (r : Read) → CanRead net.leaves net.nodes r → IsKnown (names_of ns) (held_of p r)
  read_known r can =
      let stands = (read_stands net t p order is r can).stands in source_known ns (held_of p r).width (held_of p r).source stands.source

  reads_known : (rs : List Read) → AllByRecursion (CanRead net.leaves net.nodes) rs → AllByRecursion (λ r. IsKnown (names_of ns) (held_of p r)) rs
  reads_known [] h = tt
  reads_known (r ∷ rs) h = (read_known r h.0, reads_known rs h.1)

  pub atom_among : (w : ℕ) (r : Read) → CanRead net.leaves net.nodes r → EachIn (atom_names (atom_at w (held_of p r))) (names_of (sizes net t p order))
  atom_among w r can = atom_known (names_of ns) w (held_of p r) (read_known r can)

  -- what inner nets read in turn is among the nets
  listed_reads : (xs : List Inner) → ((i : Inner) → In xs i → In (inners net t p order) i) → ReadsInTurn (names_of ns) xs → (i : Inner) → In xs i
      → EachIn (rhs_names i.rhs) (names_of ns)
  listed_reads xs among turn i m =
      all_at (λ (j : Inner). EachIn (rhs_names j.rhs) (names_of ns)) xs
      (all_reads (names_of ns) (names_of ns) xs (λ x k. k) (λ j k. named j.name j.width (inner_size net t p order is j (among j k))) turn) i m

  inner_reads : (i : Inner) → In (inners net t p order) i → EachIn (rhs_names i.rhs) (names_of ns)
  inner_reads i m = by (inner_kind net t p order is i m)
    where
      by : InnerKind net t p i → EachIn (rhs_names i.rhs) (names_of ns)
      by (of_node o) =
          let whole = whole_at net t p order is o.number o.node o.at in
          listed_reads (node_inners p o.node (node_at p.nodes o.number).helpers o.netted.name)
          (inners_among net t p order is o.number o.node o.netted o.at)
          (node_reads p (names_of ns) o.node (node_at p.nodes o.number).helpers o.netted.name (reads_known (support_of o.node) (support_can net o.node whole)))
          i o.inside
      by (of_reading o) =
          let h = o.is in
          let addressed = read_addressed net t p order is o.number h in
          listed_reads (own_reading net t p o.number h) (reading_among net t p order is o.number h)
          (reading_reads (read_width net h.read.address) (held_of p h.read.address) (held_of p h.read.enable) (names_of ns)
          (read_known h.read.address addressed.address) (read_known h.read.enable addressed.enable) (array_name t h.read.array)
          (words_of net.arrays h.read.array) h.leaf.width (node_at p.readings o.number).helpers h.netted.name)
          i o.inside
      by (of_reset o) =
          let can = (word_reset net t p order is o.number o.word o.reset o.has).condition in
          subst (λ (j : Inner). EachIn (rhs_names j.rhs) (names_of ns)) (sym o.is)
          (each_joined (atom_names (atom_at 1 (held_of p o.reset.condition))) [] (names_of ns) (atom_among 1 o.reset.condition can) tt)
      by (of_guard o) =
          let w = o.write in
          let addressed = (write_at net t o.number o.array o.place w o.at).addressed in
          listed_reads (guard_inners o.array.array.words (read_width net w.address) (held_of p w.address) (held_of p w.condition) o.guard)
          (guard_among net t p order is o.number o.among o.array o.place w o.at o.guard o.has)
          (guard_reads (read_width net w.address) (held_of p w.address) (held_of p w.condition) (names_of ns)
          (read_known w.address addressed.address) (read_known w.condition addressed.enable) o.array.array.words o.guard)
          i o.inside

  inner_fits : (i : Inner) → In (inners net t p order) i → Fits ns ks (inner_assign i)
  inner_fits i m =
      let size = inner_size net t p order is i m in
      let sound = inner_sound net t p order is i m in (
        (i.width, size.among, sound.side),
        record {
          target = net_known i.name (named i.name i.width size);
          sources = each_joined (rhs_arrays i.rhs) (rhs_names i.rhs) known_names
              (each_more (rhs_arrays i.rhs) (variable_names ks) known_names (λ x k. in_right (names_of ns) (variable_names ks) x k)
              (arrays_among ns ks i.width i.rhs sound.side))
              (each_more (rhs_names i.rhs) (names_of ns) known_names net_known (inner_reads i m));
        },
      )

  role_fits : (s : Bool) (r : Role) (w : ℕ) (n : Option (List ℕ)) → (is_net r ≡ true → (name : List ℕ) → n ≡ Some name → IsSized ns name w)
      → IsRole net.leaves net.nodes s w r
      → AllByRecursion (Fits ns ks) (role_assign p r w n)
  role_fits s (role.Output r) w None h k = tt
  role_fits s (role.Output r) w (Some name) h k =
      let size = h refl name refl in
      let wide = atom_fits ns w (held_of p r) (read_stands net t p order is r k.can).stands size.one size.narrow in (
        (
          (w, size.among, record { operands = (wide.operand, tt); widths = wide.wide }),
          record {
            target = net_known name (named name w size);
            sources = each_joined (atom_names (atom_at w (held_of p r))) [] known_names
                (each_more (atom_names (atom_at w (held_of p r))) (names_of ns) known_names net_known (atom_among w r k.can)) tt;
          },
        ),
        tt,
      )
  role_fits s _ w n h k = tt

  all_fit : AllByRecursion (Fits ns ks) (assigns_of net t p order)
  all_fit =
      all_joined (Fits ns ks) (map inner_assign (inners net t p order)) (zipped (leaf_assign p) (ordered_names net t) (ordered_leaves net))
      (all_mapped (Fits ns ks) inner_assign (inners net t p order) (all_from (λ i. Fits ns ks (inner_assign i)) (inners net t p order) inner_fits))
      (all_zipped (LeafFact net ns) (Fits ns ks) (leaf_assign p) (λ l n h. role_fits l.signed l.role l.width n (leaf_is_sized ns l n h.0) h.1.driven)
      (ordered_names net t) (ordered_leaves net) (leaf_facts net t p order is))

  pub assigns_sound : AllByRecursion (FitsTarget ns ks) (assigns_of net t p order)
  assigns_sound = first_of (FitsTarget ns ks) (AssignAmong known_names) (assigns_of net t p order) all_fit

  pub assigns_name_nets : AllByRecursion (AssignAmong known_names) (assigns_of net t p order)
  assigns_name_nets = second_of (FitsTarget ns ks) (AssignAmong known_names) (assigns_of net t p order) all_fit
