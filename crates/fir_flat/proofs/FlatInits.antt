-- A flat net shows the inits of its circuit that are no constants, by the same faults, and no others.
use Rattle.std.proofs.Common.{◌≡◌, ◌↔◌, ℕ, ◌<◌, List, [], ◌∷◌, length, map, Some, refl, subst, sym, ap, ◌∙◌, arith, true, false}
use Rattle.std.specs.Prelude.{slice_get}
use Rattle.std.proofs.lemmas.Option.{slice_get_within}
use Rattle.fir_base.specs.Lists.{In}
use Rattle.fir_base.proofs.Elements.{there}
use Rattle.fir_ast.specs.declared.fault.FirFault.{FirFault}
use Rattle.fir_ast.specs.declared.fault.FirFault.TheVariants.{AsyncInit}
use Rattle.fir_ast.specs.declared.place.Place.{Place}
use Rattle.fir_ast.specs.Faults.{Fault}
use Rattle.fir_ast.specs.working.CodeFaults.{fault_of}
use Rattle.fir_meaning.specs.SourceInits.{init_fault}
use Rattle.fir_meaning.specs.working.CircuitDependence.{IsWalk}
use Rattle.fir_meaning.specs.working.LeafCircuits.{LeafCircuit, depth_of, role_of}
use Rattle.fir_meaning.specs.working.LeafModules.{leaf_at}
use Rattle.fir_meaning.specs.working.LeafNames.{path_of_leaf, place_of_leaf}
use Rattle.fir_meaning.specs.working.TermReads.{reads}
use Rattle.fir_meaning.specs.working.Terms.{Term}
use Rattle.fir_leaf.specs.working.InitFaults.{ShowsAsyncInit, ends_init}
use Rattle.fir_net.specs.declared.leaf.Leaf.{Leaf}
use Rattle.fir_net.specs.declared.net.FlatNet.{FlatNet}
use Rattle.fir_net.specs.declared.reads.Read.{Read}
use Rattle.fir_net.specs.declared.reads.Read.TheVariants as read
use Rattle.fir_net.specs.working.IsNet.{IsNet}
use Rattle.fir_net.specs.working.IsWritable.{HasConstantInits, Reaches, is_input_or_state, itself, through}
use Rattle.fir_loop.specs.working.IsLoop.{HangsThrough, path_of}
use Rattle.fir_inits.specs.working.ShowsInit.{IsWalkTo, ReadsLeaf, ShowsInit}
use Rattle.fir_connect.specs.working.CircuitModules.{as_module}
use Rattle.fir_connect.specs.working.Lowered.{lowered}
use Rattle.fir_connect.specs.working.NetReads.{net_reads}
use Rattle.fir_connect.specs.working.NetRoles.{net_types}
use Rattle.fir_connect.specs.working.NetTerms.{NetTerm}
use Rattle.fir_connect.proofs.LoweredReads.{lowered_reads}
use Rattle.fir_flat.specs.working.FlatCircuits.{IsFlatOf, stands_for}
use Rattle.fir_flat.specs.working.FlatInits.{HidesNoInit, ShowsInitAs, ShowsTheSameInits}
use Rattle.fir_flat.specs.working.FlatLoops.{IsNamedAs}
use Rattle.fir_flat.proofs.AsyncRegisters.{IsAsyncLeaf, IsAsyncRegister, leaf_of, register_of, same_ends}
use Rattle.fir_flat.proofs.FlatLoops.{paths_same}
use Rattle.fir_flat.proofs.LeafDependence.{depends_the_same}
use Rattle.fir_flat.proofs.ReachedLeaves.{reaches_is_read}

-- what hangs on a leaf reaches it
module _ (net : FlatNet) where
  through_reaches : (v : Read) (nodes : List ℕ) (w : Read) → HangsThrough net v nodes w → (x : Read) → Reaches net w x → Reaches net v x
  through_reaches v [] w h x more = through v w x h more
  through_reaches v (n ∷ ns) w h x more = through v (read.Node n) x h.0 (through_reaches (read.Node n) ns w h.1 x more)

  walk_reaches : (x : ℕ) (ys : List ℕ) (final : ℕ) → IsWalkTo net x ys final → Reaches net (read.Leaf x) (read.Leaf final)
  walk_reaches x [] final e = subst (λ (y : ℕ). Reaches net (read.Leaf x) (read.Leaf y)) e (itself (read.Leaf x))
  walk_reaches x (y ∷ ys) final w =
      through_reaches (read.Leaf x) w.0.nodes (read.Leaf y) w.0.through (read.Leaf final) (walk_reaches y ys final w.1)

  init_reaches : (r : Read) (first : ℕ) (rest : List ℕ) (final : ℕ) → ReadsLeaf net r first → IsWalkTo net first rest final
      → Reaches net r (read.Leaf final)
  init_reaches (read.Leaf x) first rest final e w =
      subst (λ (y : ℕ). Reaches net (read.Leaf y) (read.Leaf final)) (sym e) (walk_reaches first rest final w)
  init_reaches (read.Node n) first rest final h w =
      through_reaches (read.Node n) h.0 (read.Leaf first) h.1 (read.Leaf final) (walk_reaches first rest final w)

module _ (c : LeafCircuit) (net : FlatNet) (whole : IsNet net) (flat : IsFlatOf c net) where
  walks_the_same : (x : ℕ) (ys : List ℕ) (final : ℕ) → IsWalkTo net x ys final ↔ IsWalk c x ys final
  walks_the_same x [] final = (λ e. e, λ e. e)
  walks_the_same x (y ∷ ys) final =
      let more = walks_the_same y ys final in
      let one = depends_the_same c net whole flat x y in
      (λ w. (one.0 w.0, more.0 w.1), λ w. (one.1 w.0, more.1 w.1))

  ends_the_same : (x : ℕ) (l : Leaf) → slice_get net.leaves x ≡ Some l → is_input_or_state l.role ≡ ends_init (role_of c x)
  ends_the_same x l at =
      same_ends net.nodes (net_types (as_module c)) (depth_of c x) c.body x l.role (leaf_at c.leaves x).holds (role_of c x) (flat.roles x l at)

  -- a read that stands for the term of an init reads the leaves that the init reads
  reads_the_same : (r : Read) (e : Term) → stands_for net.nodes r ≡ lowered (net_types (as_module c)) e → (y : ℕ) → ReadsLeaf net r y ↔ In (reads e) y
  reads_the_same r e same y =
      let reached = reaches_is_read net whole y r in
      let term = lowered_reads (net_types (as_module c)) e y in
      let is = λ (t : NetTerm). In (net_reads t) y in
      (λ h. term.0 (subst is same (reached.0 h)), λ h. reached.1 (subst is (sym same) (term.1 h)))

  register_at : (f : FirFault) (s : ShowsInit net f) → IsAsyncRegister net.nodes (net_types (as_module c)) (role_of c s.register) s.reset.init
  register_at f s =
      register_of net.nodes (net_types (as_module c)) (depth_of c s.register) c.body s.register s.leaf.role s.own s.reset s.is_register s.has_reset
      (leaf_at c.leaves s.register).holds (role_of c s.register) (flat.roles s.register s.leaf s.at)

  within : (x : ℕ) (l : Leaf) → slice_get net.leaves x ≡ Some l → x < length c.leaves
  within x l at = let count = flat.count in let low = slice_get_within net.leaves x l at in omega (arith, count, low)

  leaf_there : (x : ℕ) → x < length c.leaves → (l : Leaf) × (slice_get net.leaves x ≡ Some l)
  leaf_there x low = let count = flat.count in there net.leaves x (omega (arith, count, low))

  -- the walk of a fault of the circuit, in the net
  record InNet (f : Fault) (s : ShowsAsyncInit c f) : Type 0 where
    leaf : Leaf
    at : slice_get net.leaves s.leaf ≡ Some leaf
    register : IsAsyncLeaf net.nodes (net_types (as_module c)) leaf.role s.reset.init
    begins : ReadsLeaf net register.reset.init s.first
    walk : IsWalkTo net s.first s.rest s.final
    end : Leaf
    end_at : slice_get net.leaves s.final ≡ Some end
    ends : is_input_or_state end.role ≡ true

  in_net : (f : Fault) (s : ShowsAsyncInit c f) → InNet f s
  in_net f s =
      let l = leaf_there s.leaf s.within in
      let own = leaf_of net.nodes (net_types (as_module c)) (depth_of c s.leaf) c.body s.leaf l.0.role (leaf_at c.leaves s.leaf).holds (role_of c s.leaf)
      (flat.roles s.leaf l.0 l.1) s.clock s.reset s.is_register s.is_async in
      let e = leaf_there s.final s.final_within in
      record {
        leaf = l.0;
        at = l.1;
        register = own;
        begins = (reads_the_same own.reset.init s.reset.init own.same_init s.first).1 s.read;
        walk = (walks_the_same s.first s.rest s.final).1 s.walk;
        end = e.0;
        end_at = e.1;
        ends = ends_the_same s.final e.0 e.1 ∙ s.ends;
      }

  pub hides_none : HasConstantInits net → (f : Fault) → ShowsAsyncInit c f → ⊥
  hides_none constant f s =
      let n = in_net f s in
      let reaches = init_reaches net n.register.reset.init s.first s.rest s.final n.begins n.walk in
      let none = constant.each s.leaf n.leaf n.register.own n.register.reset n.at n.register.is n.register.has_reset n.register.is_async in
      let apart : false ≡ true = sym (none.none s.final n.end reaches n.end_at) ∙ n.ends in
      cc

  module _ (named : IsNamedAs c net) where
    fault_same : (x : ℕ) (l : Leaf) (walk : List ℕ) → slice_get net.leaves x ≡ Some l
        → fault_of (AsyncInit l.place (map (path_of net) walk)) ≡ init_fault (place_of_leaf c x) (map (path_of_leaf c) walk)
    fault_same x l walk at =
        ap (λ (p : Place). init_fault p (map (path_of net) walk)) (named.places x l at)
        ∙ ap (init_fault (place_of_leaf c x)) (paths_same c net whole flat named walk)

    in_circuit : (f : FirFault) → ShowsInit net f → ShowsAsyncInit c (fault_of f)
    in_circuit f s =
        let own = register_at f s in
        record {
          leaf = s.register;
          within = within s.register s.leaf s.at;
          clock = own.clock;
          reset = own.reset;
          is_register = own.is;
          is_async = own.is_async;
          first = s.first;
          rest = s.rest;
          final = s.final;
          read = (reads_the_same s.reset.init own.reset.init own.same_init s.first).0 s.begins;
          walk = (walks_the_same s.first s.rest s.final).0 s.walk;
          final_within = within s.final s.end s.end_at;
          ends = sym (ends_the_same s.final s.end s.end_at) ∙ s.ends;
          distinct = s.distinct;
          is = ap fault_of s.is ∙ fault_same s.register s.leaf (s.first ∷ s.rest) s.at;
        }

    in_the_net : (f : Fault) → ShowsAsyncInit c f → ShowsInitAs net f
    in_the_net f s =
        let n = in_net f s in
        let g = AsyncInit n.leaf.place (map (path_of net) (s.first ∷ s.rest)) in
        let shown : ShowsInit net g = record {
          register = s.leaf;
          leaf = n.leaf;
          at = n.at;
          own = n.register.own;
          is_register = n.register.is;
          reset = n.register.reset;
          has_reset = n.register.has_reset;
          is_async = n.register.is_async;
          first = s.first;
          rest = s.rest;
          final = s.final;
          begins = n.begins;
          walk = n.walk;
          end = n.end;
          end_at = n.end_at;
          ends = n.ends;
          distinct = s.distinct;
          is = refl;
        } in
        (g, shown, s.is ∙ sym (fault_same s.leaf n.leaf (s.first ∷ s.rest) n.at))

pub shows_the_same_inits : ShowsTheSameInits
shows_the_same_inits c net f whole flat named = (
  λ shown. subst (ShowsAsyncInit c) (sym shown.2) (in_circuit c net whole flat named shown.0 shown.1),
  in_the_net c net whole flat named f,
)

pub hides_no_init : HidesNoInit
hides_no_init c net whole flat constant = hides_none c net whole flat constant
