-- What meets in a circuit without a fault of types: its sides are legal, and a node is declared behind what stands before it.
use Rattle.std.proofs.Common.{◌≡◌, List, [], ◌∷◌, ◌++◌, inl, inr, ⊎_elim, sym, subst}
use Rattle.std.proofs.lemmas.List.{append-nil}
use Rattle.fir_base.specs.Lists.{In}
use Rattle.fir_base.proofs.Elements.{get_in}
use Rattle.fir_base.proofs.Members.{in_either, in_flat_map_from}
use Rattle.fir_ast.specs.Types.{DataType}
use Rattle.fir_ast.specs.Statements.{Statement, wire, register, node, instance, memory, when, connect, partial_connect, invalid, skip, Block, done, then}
use Rattle.fir_ast.specs.Circuits.{ModuleTree, CircuitTree}
use Rattle.fir_meaning.specs.Components.{Declarations}
use Rattle.fir_meaning.specs.Components as component
use Rattle.fir_meaning.specs.Visibility.{Before, declaration_at, opened, reopened, behind, behind_block, behind_ports, at_head, declarations}
use Rattle.fir_meaning.specs.Equivalence.{is_connectable, is_partly_connectable}
use Rattle.fir_meaning.specs.ConnectPairs.{pairs, partial_pairs}
use Rattle.fir_meaning.specs.working.NameGroups.{HasNames}
use Rattle.fir_meaning.specs.TypeGroup.{scope_at, type_faults}
use Rattle.fir_meaning.specs.working.WellTyped.{HasType, ConnectIsLegal, IsLegal, AreLegal}
use Rattle.fir_meaning.proofs.WellTypedCircuits.{well_typed}
use Rattle.fir_names.proofs.BehindStatements.{adds_block}
use Rattle.fir_types.specs.working.Walked.{Begins}
use Rattle.fir_types.proofs.KnownScopes.{begins_before}
use Rattle.fir_types.proofs.BlockBegins.{first_begins}
use Rattle.fir_meaning.specs.ResetJoins.{ResetModule, reset_modules}
use Rattle.fir_infer_resets.specs.working.Meetings.{Meeting, Sides, connected, partly_connected, named_by, instanced, meeting, meetings_in, meetings_in_block, meetings}
use Rattle.fir_reset.proofs.ModuleNumbers.{is_among}

abbrev pub SidesLegal : List ModuleTree → Declarations → Before → Sides → Type 0
SidesLegal modules whole before (connected sink e) = ConnectIsLegal is_connectable pairs (scope_at modules before) sink e
SidesLegal modules whole before (partly_connected sink e) = ConnectIsLegal is_partly_connectable partial_pairs (scope_at modules before) sink e
SidesLegal modules whole before (named_by n e) =
    ((t : DataType) × HasType (scope_at modules before) e t) × Begins (before.declared ++ declaration_at before n (component.node e) ∷ []) whole
SidesLegal modules whole before (instanced n name) = Unit {0}

pub record IsLegalMeeting (x : Meeting) : Type 0 where
  pub legal : SidesLegal x.inside.modules (declarations x.inside.inside) x.before x.sides

module _ (m : ResetModule) (x : Meeting) where
  abbrev whole : Declarations
  whole = declarations m.inside

  here : (before : Before) (sides : Sides) → SidesLegal m.modules whole before sides → In (meeting m before sides ∷ []) x → IsLegalMeeting x
  here before sides h (inl e) = subst IsLegalMeeting e (record { legal = h })
  here before sides h (inr f) = absurd f

  mutual
    met : (s : Statement) (before : Before) → IsLegal m.modules before s → Begins (behind before s).declared whole → In (meetings_in m before s) x → IsLegalMeeting x
    met (wire p k begins t) before l g i = absurd i
    met (register p k begins t c r) before l g i = absurd i
    met (node p k e) before l g i = here before (named_by k e) ((l.0, l.1), g) i
    met (instance p k other) before l g i = here before (instanced k other.name) tt i
    met (memory p k parts) before l g i = absurd i
    met (when p c a b) before l g i =
        let inside = behind_block (opened before) a in
        ⊎_elim
        (λ (j : In (meetings_in_block m (opened before) a) x). met_block a (opened before) l.2 (first_begins before p c a b whole g) j)
        (λ (j : In (meetings_in_block m (reopened before inside) b) x). met_block b (reopened before inside) l.3 g j)
        (in_either (meetings_in_block m (opened before) a) (meetings_in_block m (reopened before inside) b) x i)
    met (connect p sink e) before l g i = here before (connected sink e) l i
    met (partial_connect p sink e) before l g i = here before (partly_connected sink e) l i
    met (invalid p sink) before l g i = absurd i
    met (skip p) before l g i = absurd i

    met_block : (b : Block) (before : Before) → AreLegal m.modules before b → Begins (behind_block before b).declared whole → In (meetings_in_block m before b) x → IsLegalMeeting x
    met_block done before l g i = absurd i
    met_block ((then) s b) before l g i =
        let next = adds_block (behind before s) b in
        ⊎_elim
        (λ (j : In (meetings_in m before s) x).
        met s before l.0 (begins_before whole (behind before s).declared next.added (subst (λ ds. Begins ds whole) next.declared g)) j)
        (λ (j : In (meetings_in_block m (behind before s) b) x). met_block b (behind before s) l.1 g j)
        (in_either (meetings_in m before s) (meetings_in_block m (behind before s) b) x i)

pub legal_meeting : (c : CircuitTree) → HasNames c → type_faults c ≡ [] → (x : Meeting) → In (meetings c) x → IsLegalMeeting x
legal_meeting c names clear x i =
    let from = in_flat_map_from (λ (m : ResetModule). meetings_in_block m (behind_ports at_head m.inside.ports) m.inside.body) (reset_modules 0 c.modules c.modules) x i in
    let m = from.0 in
    let stands = is_among 0 c.modules c.modules m from.1 in
    let head = behind_ports at_head m.inside.ports in
    let legal : AreLegal c.modules head m.inside.body = (well_typed c names).0 clear m.inside (get_in c.modules stands.behind m.inside stands.there) in
    met_block m x m.inside.body head (subst (λ ms. AreLegal ms head m.inside.body) (sym stands.modules) legal) ([], sym (append-nil (declarations m.inside))) from.2
