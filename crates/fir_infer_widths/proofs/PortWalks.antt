-- The walk over the ports of a module.
use Rattle.std.proofs.Common.{◌≡◌, List, [], ◌∷◌, ◌++◌, refl, sym, subst, ◌∙◌, append_assoc}
use Rattle.std.proofs.lemmas.List.{append-nil}
use Rattle.fir_ast.specs.Circuits.{CircuitTree, PortTree}
use Rattle.fir_meaning.specs.Components.{Declarations}
use Rattle.fir_meaning.specs.Components as component
use Rattle.fir_meaning.specs.Visibility.{Before, behind_ports, declaration_at, declarations, with_declaration}
use Rattle.fir_meaning.specs.SizedDeclarations.{NumberedModule}
use Rattle.fir_meaning.specs.WidthExpressions.{Width, Rule}
use Rattle.fir_types.specs.working.Notes.{Note}
use Rattle.fir_types.specs.working.Walked.{Begins}
use Rattle.fir_types.proofs.KnownScopes.{begins_before}
use Rattle.fir_infer_widths.specs.declared.ground.Ground.{Ground}
use Rattle.fir_infer_widths.specs.declared.walk.Walk.{Walk}
use Rattle.fir_infer_widths.specs.working.Spots.{Spot, spot_at, spots_in_ports}
use Rattle.fir_infer_widths.specs.working.Walks.{ComesBehind, Declares, EntersAt}
use Rattle.fir_infer_widths.proofs.PlaceWalks.{at_behind, behind_none, behind_then}

abbrev pub with_port : Before → PortTree → Before
with_port before p = with_declaration before p.named (component.port p.direction p.data_type)

abbrev pub spot_of_port : NumberedModule → Before → PortTree → Spot
spot_of_port m before p = spot_at m before p.named (component.port p.direction p.data_type)

-- ports stand behind what was declared before
ports_add : (before : Before) (ps : List PortTree) → (added : Declarations) × ((behind_ports before ps).declared ≡ before.declared ++ added)
ports_add before [] = ([], sym (append-nil before.declared))
ports_add before (p ∷ ps) =
    let d = declaration_at before p.named (component.port p.direction p.data_type) in
    let more = ports_add (with_port before p) ps in (d ∷ more.0, more.1 ∙ append_assoc before.declared (d ∷ []) more.0)

pub port_begins : (before : Before) (ps : List PortTree) (whole : Declarations) → Begins (behind_ports before ps).declared whole → Begins before.declared whole
port_begins before ps whole b =
    let a = ports_add before ps in begins_before whole before.declared a.0 (subst (λ ds. Begins ds whole) a.1 b)

-- how far a walk has come in them
pub record AtPorts (c : CircuitTree) (g : Ground) (m : NumberedModule) (before : Before) (meant : List Width) (rules : List Rule) (rest : List Note) (whole left : List PortTree) (old walk : Walk) : Type 0 where
  pub now : Before
  pub spots : List Spot
  pub comes : ComesBehind c g now meant rules [] rest spots old walk
  pub spots_are : spots_in_ports m before whole ≡ spots ++ spots_in_ports m now left
  pub reached : behind_ports now left ≡ behind_ports before whole

module _ (c : CircuitTree) (g : Ground) (m : NumberedModule) (before : Before) (meant : List Width) (rules : List Rule) (rest : List Note) (whole : List PortTree) (old : Walk)
    (enters : EntersAt c g m before meant rules rest old) where
  pub ports_begun : AtPorts c g m before meant rules rest whole whole old old
  ports_begun = record { now = before; spots = []; comes = behind_none c g m before meant rules rest old enters; spots_are = refl; reached = refl }

  pub ports_passed : (walk : Walk) → AtPorts c g m before meant rules rest whole [] old walk
      → ComesBehind c g (behind_ports before whole) meant rules [] rest (spots_in_ports m before whole) old walk
  ports_passed walk a = rw (← a.reached, a.spots_are, append-nil a.spots) a.comes

  module _ (walk : Walk) (p : PortTree) (left : List PortTree) (begins : Begins (behind_ports before whole).declared (declarations m.inside))
      (a : AtPorts c g m before meant rules rest whole (p ∷ left) old walk) where
    pub next_declares : Declares c g m a.now p.named (component.port p.direction p.data_type) p.data_type (meant ++ a.comes.comes.more) (rules ++ []) rest walk
    next_declares = record {
      enters = at_behind c g m before a.now meant rules [] rest rest a.spots old walk enters a.comes;
      begins =
          port_begins (with_port a.now p) left (declarations m.inside) (subst (λ (x : Before). Begins x.declared (declarations m.inside)) (sym a.reached) begins);
      is = refl;
    }

    pub ports_next : (new : Walk) → ComesBehind c g (with_port a.now p) (meant ++ a.comes.comes.more) (rules ++ []) [] rest (spot_of_port m a.now p ∷ []) walk new
        → AtPorts c g m before meant rules rest whole left old new
    ports_next new k = record {
      now = with_port a.now p;
      spots = a.spots ++ spot_of_port m a.now p ∷ [];
      comes = behind_then c g a.now (with_port a.now p) meant rules [] [] rest rest a.spots (spot_of_port m a.now p ∷ []) old walk new a.comes k;
      spots_are = a.spots_are ∙ sym (append_assoc a.spots (spot_of_port m a.now p ∷ []) (spots_in_ports m (with_port a.now p) left));
      reached = a.reached;
    }
