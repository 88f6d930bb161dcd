-- What meets is joined one by one, and module by module.
use Rattle.std.proofs.Common.{◌≡◌, ℕ, ◌+◌, List, [], ◌∷◌, ◌++◌, flat_map, length, Some, Vec, Global, refl, inl, ap, sym, ◌∙◌, subst, append_assoc, arith}
use Rattle.std.specs.Prelude.{slice_get}
use Rattle.std.proofs.lemmas.Grind.{flat_map-append}
use Rattle.std.proofs.lemmas.List.{append-nil, length_push}
use Rattle.fir_base.specs.Lists.{In}
use Rattle.fir_base.proofs.Elements.{get_behind, get_in}
use Rattle.fir_base.proofs.Members.{in_right}
use Rattle.fir_ast.specs.Types.{DataType}
use Rattle.fir_ast.specs.Circuits.{CircuitTree}
use Rattle.fir_meaning.specs.working.NameGroups.{HasNames}
use Rattle.fir_type_table.specs.working.Tables.{types_of}
use Rattle.fir_types.specs.declared.findings.Findings.{Findings}
use Rattle.fir_types.specs.working.TypedModules.{IsTyped}
use Rattle.fir_infer_resets.specs.declared.joined.Joined.{Joined}
use Rattle.fir_infer_resets.specs.declared.meet.Meet.{Meet}
use Rattle.fir_infer_resets.specs.working.Holding.{Holds, HoldsMore}
use Rattle.fir_infer_resets.specs.working.Meetings.{Meeting, meetings, met_joins}
use Rattle.fir_infer_resets.specs.working.Meets.{AreMeets, IsMeet}
use Rattle.fir_infer_resets.specs.working.ModuleMeets.{AreMeetsByModule, module_meetings}
use Rattle.fir_meaning.specs.ResetJoins.{Join, ResetModule, reset_modules}
use Rattle.fir_infer_resets.specs.working.Resolved.{AllStandIn, StandsIn}
use Rattle.fir_infer_resets.specs.working.WholeGraphs.{IsWhole}
use Rattle.fir_infer_resets.proofs.SharedJoins.{all_but_shared}
use Rattle.fir_infer_resets.proofs.StandingMeetings.{meeting_stands, numbered_at}

-- some are joined, and these are left
pub record MeetsSoFar (c : CircuitTree) (ts : List DataType) (js : List Join) (ms : List Meeting) (left : List Meet) (joined : Joined) : Type 0 where
  pub done : List Meeting
  pub rest : List Meeting
  pub is : ms ≡ done ++ rest
  pub are : AreMeets ts left rest
  pub holds : Holds c (js ++ flat_map met_joins done) joined

module _ (c : CircuitTree) (ts : List DataType) (js : List Join) (ms : List Meeting) where
  pub meets_first : (meets : List Meet) (joined : Joined) → Holds c js joined → AreMeets ts meets ms → MeetsSoFar c ts js ms meets joined
  meets_first meets joined holds are =
      record { done = []; rest = ms; is = refl; are = are; holds = subst (λ ks. Holds c ks joined) (sym (append-nil js)) holds }

  longer : (done : List Meeting) (m : Meeting) → (js ++ flat_map met_joins done) ++ met_joins m ≡ js ++ flat_map met_joins (done ++ m ∷ [])
  longer done m =
      append_assoc js (flat_map met_joins done) (met_joins m)
      ∙ ap (λ ks. js ++ (flat_map met_joins done ++ ks)) (sym (append-nil (met_joins m)))
      ∙ ap (λ ks. js ++ ks) (sym (flat_map-append met_joins done (m ∷ [])))

  pub meets_next : (found : Findings) (number : ℕ) (x : Meet) (left : List Meet) (joined new : Joined) → AllStandIn c found number ms
      → ((ks : List Join) (m : Meeting) (before : Holds c ks joined) → IsMeet ts x m → StandsIn c found number m → HoldsMore before (met_joins m) new)
      → MeetsSoFar c ts js ms (x ∷ left) joined → MeetsSoFar c ts js ms left new
  meets_next found number x left joined new stand more so_far = by so_far.rest so_far.is so_far.are
    where
      by : (rest : List Meeting) → ms ≡ so_far.done ++ rest → AreMeets ts (x ∷ left) rest → MeetsSoFar c ts js ms left new
      by [] is are = absurd are
      by (m ∷ rest) is are =
          let among : In ms m = subst (λ l. In l m) (sym is) (in_right so_far.done (m ∷ rest) m (inl refl)) in
          let held = (more (js ++ flat_map met_joins so_far.done) m so_far.holds are.0 (stand m among)).holds in
          record {
            done = so_far.done ++ m ∷ [];
            rest = rest;
            is = is ∙ sym (append_assoc so_far.done (m ∷ []) rest);
            are = are.1;
            holds = subst (λ ks. Holds c ks new) (longer so_far.done m) held;
          }

  pub meets_all : (joined : Joined) → MeetsSoFar c ts js ms [] joined → Holds c (js ++ flat_map met_joins ms) joined
  meets_all joined so_far = by so_far.rest so_far.is so_far.are
    where
      by : (rest : List Meeting) → ms ≡ so_far.done ++ rest → AreMeets ts [] rest → Holds c (js ++ flat_map met_joins ms) joined
      by [] is are = subst (λ l. Holds c (js ++ flat_map met_joins l) joined) (sym (is ∙ append-nil so_far.done)) so_far.holds
      by (m ∷ rest) is are = absurd are

-- some modules are joined, and what meets in these is left
pub record ModulesSoFar (c : CircuitTree) (ts : List DataType) (number : ℕ) (left : List (Vec Meet Global)) (joined : Joined) : Type 0 where
  pub done : List ResetModule
  pub rest : List ResetModule
  pub is : reset_modules 0 c.modules c.modules ≡ done ++ rest
  pub long : length done ≡ number
  pub are : AreMeetsByModule ts left rest
  pub holds : Holds c (flat_map met_joins (flat_map module_meetings done)) joined

module _ (c : CircuitTree) (found : Findings) (typed : IsTyped c found) where
  pub modules_first : (meets : List (Vec Meet Global)) (joined : Joined) → Holds c [] joined
      → AreMeetsByModule (types_of found.table) meets (reset_modules 0 c.modules c.modules) → ModulesSoFar c (types_of found.table) 0 meets joined
  modules_first meets joined holds are =
      record { done = []; rest = reset_modules 0 c.modules c.modules; is = refl; long = refl; are = are; holds = holds }

  longer_by : (done : List ResetModule) (m : ResetModule) → flat_map met_joins (flat_map module_meetings done) ++ flat_map met_joins (module_meetings m)
      ≡ flat_map met_joins (flat_map module_meetings (done ++ m ∷ []))
  longer_by done m =
      sym (flat_map-append met_joins (flat_map module_meetings done) (module_meetings m))
      ∙ ap (λ l. flat_map met_joins (flat_map module_meetings done ++ l)) (sym (append-nil (module_meetings m)))
      ∙ ap (flat_map met_joins) (sym (flat_map-append module_meetings done (m ∷ [])))

  pub modules_next : (number : ℕ) (v : Vec Meet Global) (meets : List Meet) (left : List (Vec Meet Global)) (joined new : Joined) → meets ≡ v.items
      → ((js : List Join) (ms : List Meeting) → Holds c js joined → AreMeets (types_of found.table) meets ms → AllStandIn c found number ms → Holds c (js ++ flat_map met_joins ms) new)
      → ModulesSoFar c (types_of found.table) number (v ∷ left) joined → ModulesSoFar c (types_of found.table) (number + 1) left new
  modules_next number v meets left joined new own more so_far = by so_far.rest so_far.is so_far.are
    where
      by : (rest : List ResetModule) → reset_modules 0 c.modules c.modules ≡ so_far.done ++ rest → AreMeetsByModule (types_of found.table) (v ∷ left) rest
          → ModulesSoFar c (types_of found.table) (number + 1) left new
      by [] is are = absurd are
      by (m ∷ rest) is are =
          let at : slice_get (reset_modules 0 c.modules c.modules) (length so_far.done) ≡ Some m =
          ap (λ l. slice_get l (length so_far.done)) is ∙ get_behind so_far.done rest m in
          let numbered : m.number ≡ number = omega (arith, numbered_at 0 c.modules c.modules (length so_far.done) m at, so_far.long) in
          let among = get_in (reset_modules 0 c.modules c.modules) (length so_far.done) m at in
          let stand : AllStandIn c found number (module_meetings m) =
          λ x i. subst (λ n. StandsIn c found n x) numbered (meeting_stands c found typed m among x i) in
          let held =
          more (flat_map met_joins (flat_map module_meetings so_far.done)) (module_meetings m) so_far.holds
          (subst (λ l. AreMeets (types_of found.table) l (module_meetings m)) (sym own) are.0) stand in
          record {
            done = so_far.done ++ m ∷ [];
            rest = rest;
            is = is ∙ sym (append_assoc so_far.done (m ∷ []) rest);
            long = length_push so_far.done m ∙ ap (λ n. n + 1) so_far.long;
            are = are.1;
            holds = subst (λ ks. Holds c ks new) (longer_by so_far.done m) held;
          }

  pub modules_all : HasNames c → (number : ℕ) (joined : Joined) → ModulesSoFar c (types_of found.table) number [] joined → IsWhole c joined
  modules_all names number joined so_far = by so_far.rest so_far.is so_far.are
    where
      by : (rest : List ResetModule) → reset_modules 0 c.modules c.modules ≡ so_far.done ++ rest → AreMeetsByModule (types_of found.table) [] rest → IsWhole c joined
      by [] is are = record {
        listed = flat_map met_joins (meetings c);
        all = all_but_shared c names typed.clear;
        holds = subst (λ l. Holds c (flat_map met_joins (flat_map module_meetings l)) joined) (sym (is ∙ append-nil so_far.done)) so_far.holds;
      }
      by (m ∷ rest) is are = absurd are
