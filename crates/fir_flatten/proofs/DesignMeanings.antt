-- Whichever source tree stands below the main module of a circuit, the flat net of its design means what that tree means.
use Rattle.std.proofs.Common.{◌≡◌, ◌⊎◌, inl, inr, ℕ, List, [], length, true, ◌||◌, slice_get, Option, Some, None, option_map, ⊎_elim, refl, sym, ap, ◌∙◌, subst}
use Rattle.std.specs.Prelude.{IsSome, IsTrue}
use Rattle.std.proofs.lemmas.List.{length-map}
use Rattle.std.proofs.lemmas.Option.{same_Some, slice_get-map}
use Rattle.fir_ast.specs.Circuits.{CircuitTree}
use Rattle.fir_bits.specs.working.Laws.{HasItsType}
use Rattle.fir_meaning.specs.ModuleScenes.{Scene}
use Rattle.fir_meaning.specs.SourceCircuits.{PlacedLeaf, all_leaves, main_ports, port_leaves, state_words}
use Rattle.fir_meaning.specs.SourceDesigns.{IsSourceDesignOf, SourceDesign, made_of}
use Rattle.fir_meaning.specs.SourceMeaning.{source_counts}
use Rattle.fir_meaning.specs.SourceRoles as source
use Rattle.fir_meaning.specs.SourceRoles.{SourceLeaf, SourceRole}
use Rattle.fir_meaning.specs.LeafPaths.{LeafPath}
use Rattle.fir_meaning.specs.Visibility.{at_head}
use Rattle.fir_meaning.specs.working.Designs.{Design}
use Rattle.fir_meaning.specs.working.Flattened.{flattened}
use Rattle.fir_meaning.specs.working.LeafCircuits.{LeafCircuit, role_of}
use Rattle.fir_meaning.specs.working.LeafModules.{LeafReset, Role, leaf_at, register}
use Rattle.fir_meaning.specs.working.LeafedModules.{leafed_module}
use Rattle.fir_meaning.specs.working.Terms.{Term}
use Rattle.fir_leaf.specs.working.TableLaws.{LeavesFollowTypes}
use Rattle.fir_connect.specs.working.CircuitModules.{as_module}
use Rattle.fir_design.specs.working.MeaningLaws.{AreDesigns, SameAllows, SameShape}
use Rattle.fir_design.specs.working.SourceLaws.{HasOneTree}
use Rattle.fir_design.specs.working.SourceRuns.{SameOne}
use Rattle.fir_design.proofs.InStep.{SameRoleBelow}
use Rattle.fir_design.proofs.LeavesBeside.{ports_beside}
use Rattle.fir_design.proofs.SourceMeanings.{in_step}
use Rattle.fir_design_loops.specs.working.SameLoops.{SameLoops}
use Rattle.fir_net.specs.declared.array.Pipe.{Pipe}
use Rattle.fir_net.specs.declared.leaf.Leaf.{Leaf}
use Rattle.fir_net.specs.declared.leaf.Register.{Register}
use Rattle.fir_net.specs.declared.leaf.Reset.{Reset}
use Rattle.fir_net.specs.declared.leaf.Role.TheVariants as role
use Rattle.fir_net.specs.declared.net.FlatNet.{FlatNet}
use Rattle.fir_net.specs.declared.reads.Read.{Read}
use Rattle.fir_flat.specs.working.FlatLaws.{AllowsTheSame, HasOneWhere, IsFaithful}
use Rattle.fir_flat.specs.working.FlatLoops.{HidesNoLoop, ShowsTheSameLoops}
use Rattle.fir_flat.proofs.FlatLeaves.{shape_is}
use Rattle.fir_source_faults.specs.working.NumberedTaking.{takes}
use Rattle.fir_flatten.specs.BlockWords.{IsTaking, is_pipe}
use Rattle.fir_flatten.specs.working.FlatDesigns.{IsFlatDesign, is_some, takes_value}
use Rattle.fir_flatten.specs.working.FlattensTo.{MeansSource, PipesAs, TakesAs, net_counts}
use Rattle.fir_flatten.specs.working.Laws.{DesignsArePlain, IsDesigned, IsClearDesign}
use Rattle.fir_flatten.proofs.AsyncRegisters.{reset_alike}
use Rattle.fir_flatten.proofs.ClockedPipes.{pipes_alike}
use Rattle.fir_flatten.proofs.ClockedRegisters.{clocked_same}
use Rattle.fir_flatten.proofs.CountedLeaves.{counted_same}
use Rattle.fir_flatten.proofs.DesignedNets.{faithful_to_design, net_of_design}
use Rattle.fir_flatten.proofs.DesignsOfCircuits.{designs_beside}
use Rattle.fir_flatten.proofs.LeafRoles.{shaped_pipe, shaped_register}
use Rattle.fir_flatten.proofs.PlainNets.{IsPlainNet}
use Rattle.fir_flatten.proofs.SourceRowsOfNets.{arrays_are, rows_are, widths_are, words_are}
use Rattle.fir_flatten.proofs.TakingRegisters.{same_taking}

-- the laws that it rests on
pub record LawsBelow : Type 0 where
  pub plain : DesignsArePlain
  pub types : HasItsType
  pub trees : HasOneTree
  pub shapes : SameShape
  pub allows : SameAllows
  pub one : SameOne
  pub net_allows : AllowsTheSame
  pub net_one : HasOneWhere
  pub loops : SameLoops
  pub net_loops : ShowsTheSameLoops
  pub hidden : HidesNoLoop
  pub follow : LeavesFollowTypes

-- a circuit, its design, and the flat net of that
pub record IsGiven (c : CircuitTree) (scenes : List Scene) (main : Scene) (d : Design) (net : FlatNet) : Type 0 where
  pub designed : IsDesigned c scenes main d
  pub taken : IsClearDesign scenes d
  pub flat : IsFlatDesign (flattened d) (leafed_module main).port_leaves net

abbrev main_leaf : SourceLeaf → PlacedLeaf
main_leaf l = record { at = []; leaf = l }

ports_long : (scenes : List Scene) (s : Scene) (t : SourceDesign) → IsSourceDesignOf scenes s t → length (main_ports t) ≡ (leafed_module s).port_leaves
ports_long scenes s (made_of o is) h =
    ap (λ (x : Scene). length (main_ports (made_of x is))) h.0 ∙ length-map (port_leaves s) main_leaf ∙ sym (ports_beside s s.own.inside.ports at_head)

-- a reset or a read
either_there : (a : Option Reset) (b : Option Read) → IsSome a ⊎ IsSome b → (is_some a || is_some b) ≡ true
either_there (Some r) b some = refl
either_there None (Some r) some = refl
either_there None None (inl some) = cc
either_there None None (inr some) = cc

there_either : (a : Option Reset) (b : Option Read) → (is_some a || is_some b) ≡ true → IsSome a ⊎ IsSome b
there_either (Some r) b e = inl refl
there_either None (Some r) e = inr refl
there_either None None e = cc

-- no register of the circuit is a pipe of the tree
no_pipe : (c : LeafCircuit) (at : LeafPath) (clock : Term) (reset : Option LeafReset) (q : SourceRole) → SameRoleBelow c at (register clock reset) q
    → IsTrue (is_pipe q) → ⊥
no_pipe c at clock reset (source.register scope e own path) same piped = absurd cc
no_pipe c at clock reset q same piped = absurd same

module _ (laws : LawsBelow) (c : CircuitTree) (scenes : List Scene) (main : Scene) (d : Design) (net : FlatNet) (given : IsGiven c scenes main d net) where
  pub net_is : IsPlainNet (flattened d) (leafed_module main).port_leaves net
  net_is = net_of_design c scenes main d given.designed laws.plain given.taken net given.flat

  net_faithful : IsFaithful (flattened d) net
  net_faithful = faithful_to_design c scenes main d given.designed laws.plain given.taken net given.flat

  module _ (t : SourceDesign) (below : IsSourceDesignOf scenes main t) where
    abbrev a : AreDesigns c d t
    a = designs_beside c scenes main d given.designed t below

    -- the leaf of a word
    word_leaf : (n k : ℕ) (p : PlacedLeaf) → slice_get net.state n ≡ Some k → slice_get (state_words t) n ≡ Some p → slice_get (all_leaves t) k ≡ Some p
    word_leaf n k p word source =
        let g = flattened d in
        let step = in_step c d t a in
        let number : slice_get g.words n ≡ Some k = ap (λ ks. slice_get ks n) (sym given.flat.state) ∙ word in
        same_Some _ _
        (sym (slice_get-map (slice_get (all_leaves t)) g.words n ∙ ap (option_map (slice_get (all_leaves t))) number)
        ∙ ap (λ os. slice_get os n) step.words ∙ slice_get-map Some (state_words t) n ∙ ap (option_map Some) source)

    pipes_as : (n k : ℕ) (p : PlacedLeaf) (l : Leaf) (q : Pipe) → slice_get net.state n ≡ Some k → slice_get (state_words t) n ≡ Some p
        → slice_get net.leaves k ≡ Some l → l.role ≡ role.Pipe q → PipesAs t net p q
    pipes_as n k p l q word source at is =
        let g = flattened d in
        let step = in_step c d t a in
        let get = word_leaf n k p word source in
        let piped = shaped_pipe l.role (leaf_at g.leaves k).holds (role_of g k) (net_is.each k l at).shaped q is in
        pipes_alike g net net_faithful k l at q is piped.0 piped.1 piped.2 piped.4 laws.types t step p (role_of g k) piped.3 (step.each k p get).role

    takes_as : (n k : ℕ) (p : PlacedLeaf) (l : Leaf) (r : Register) → slice_get net.state n ≡ Some k → slice_get (state_words t) n ≡ Some p
        → slice_get net.leaves k ≡ Some l → l.role ≡ role.Register r → TakesAs t net p r
    takes_as n k p l r word source at is =
        let g = flattened d in
        let step = in_step c d t a in
        let get = word_leaf n k p word source in
        let register = shaped_register l.role (leaf_at g.leaves k).holds (role_of g k) (net_is.each k l at).shaped r is in
        let same = same_taking c d t a k p get in
        let alike = subst (λ (q : Role). SameRoleBelow g p.at q p.leaf.role) register.2 (step.each k p get).role in
        let takes_is : (is_some r.reset || is_some r.next) ≡ takes (as_module g) k = ap takes_value (sym is) ∙ (given.flat.each k l at).takes in
        record {
          reset =
              reset_alike g p.at register.0 register.1 r.reset register.3.there p.leaf.role alike;
          takes = (
            λ some. inl (record {
              holder = same.holder;
              among = same.among;
              is_at = same.is_at;
              takes = sym (same.takes same.holder same.among same.is_at) ∙ sym takes_is ∙ either_there r.reset r.next some;
            }),
            ⊎_elim
                (λ (taking : IsTaking t p). there_either r.reset r.next (takes_is ∙ same.takes taking.holder taking.among taking.is_at ∙ taking.takes))
                (λ (piped : IsTrue (is_pipe p.leaf.role)). absurd (no_pipe g p.at register.0 register.1 p.leaf.role alike piped)),
          );
          clock = clocked_same g net net_faithful k l at r is register.0 register.1 register.2 laws.types t step p (step.each k p get).role;
        }

    pub counts : source_counts t ≡ net_counts net
    counts = counted_same (flattened d) (leafed_module main).port_leaves net net_is t (in_step c d t a)

    pub means : MeansSource t net
    means =
        let g = flattened d in
        let step = in_step c d t a in
        let whole = given.flat.whole in
        let many = (leafed_module main).port_leaves in
        let long = ports_long scenes main t below in
        let tree_one = laws.one c d t a in
        let net_one = laws.net_one g net net_faithful in
        record {
          ports = rows_are g many net whole net_is t step long;
          words = words_are g many net whole net_is t step long;
          arrays = arrays_are g many net whole net_is t step long;
          shapes = sym (shape_is g net net_is.flat whole) ∙ laws.shapes c d t a;
          output_widths = widths_are g many net whole net_is t step long;
          one = (λ o. net_one.0 (tree_one.0 o), λ o. tree_one.1 (net_one.1 o));
          allows = λ state tick shown clocks after.
              let tree_allows = laws.allows c d t state tick shown clocks after a in
              let net_allows = laws.net_allows g net net_faithful state tick shown clocks after in
              (λ x. tree_allows.1 (net_allows.1 x), λ x. net_allows.0 (tree_allows.0 x));
          taken = takes_as;
          piped = pipes_as;
        }
