-- The walk over the modules of a circuit.
use Rattle.std.proofs.Common.{◌≡◌, ℕ, suc, ◌+◌, ◌<◌, ◌≤◌, List, [], ◌∷◌, ◌++◌, map, drop, length, slice_get, get_or, Some, Vec, Global, refl, sym, ap, subst, ◌∙◌, append_assoc, arith, add-one}
use Rattle.std.proofs.lemmas.List.{append-nil, drop_all, drop_more, length_push}
use Rattle.std.proofs.lemmas.Option.{get_or_from_slice_get, same_Some, slice_get_read, slice_get_within}
use Rattle.std.proofs.lemmas.Simd.{map-map}
use Rattle.fir_base.proofs.Elements.{beside}
use Rattle.fir_ast.specs.Types.{DataType}
use Rattle.fir_ast.specs.Statements.{Block}
use Rattle.fir_ast.specs.Circuits.{CircuitTree, ModuleTree, PortTree}
use Rattle.fir_meaning.specs.Components as component
use Rattle.fir_meaning.specs.Visibility.{Before, at_head, behind_ports, declaration_at, with_declaration}
use Rattle.fir_type_table.specs.working.Tables.{types_of}
use Rattle.fir_types.specs.declared.findings.Findings.{Findings}
use Rattle.fir_types.specs.declared.note.Note.{Note as NoteOfCode}
use Rattle.fir_types.specs.working.ModuleNotes.{block_notes, module_notes}
use Rattle.fir_types.specs.working.Noted.{note_seen, saturated_note}
use Rattle.fir_types.specs.working.TypedModules.{IsTyped}
use Rattle.fir_infer_resets.specs.declared.meet.Meet.{Meet}
use Rattle.fir_infer_resets.specs.declared.meets.Walk.{Walk}
use Rattle.fir_meaning.specs.ResetJoins.{ResetModule, reset_modules}
use Rattle.fir_infer_resets.specs.working.Meetings.{meetings_in_block}
use Rattle.fir_infer_resets.specs.working.Meets.{Ahead, AreMeets, Meets}
use Rattle.fir_infer_resets.specs.working.ModuleMeets.{AreMeetsByModule, module_meetings}
use Rattle.fir_infer_resets.proofs.NotesPassed.{ahead_same}

-- each port is declared
pub ports_counted : (before : Before) (ps : List PortTree) → length (behind_ports before ps).declared ≡ length before.declared + length ps
ports_counted before [] = omega arith
ports_counted before (p ∷ ps) =
    let own = component.port p.direction p.data_type in
    let rest = ports_counted (with_declaration before p.named own) ps in
    let one = length_push before.declared (declaration_at before p.named own) in
    omega arith

module _ (ts : List DataType) (m : ResetModule) (body : Block) (same : body ≡ m.inside.body) where
  pub module_ahead : (notes : List NoteOfCode) → Ahead ts notes (module_notes m.modules m.inside)
      → Ahead ts notes (block_notes m.modules (behind_ports at_head m.inside.ports) body ++ [])
  module_ahead notes ahead =
      let all : module_notes m.modules m.inside ≡ block_notes m.modules (behind_ports at_head m.inside.ports) body ++ [] =
      ap (block_notes m.modules (behind_ports at_head m.inside.ports)) (sym same) ∙ sym (append-nil (block_notes m.modules (behind_ports at_head m.inside.ports) body)) in
      ahead_same ts notes (module_notes m.modules m.inside) (block_notes m.modules (behind_ports at_head m.inside.ports) body ++ []) all ahead

  pub module_met : (n : ℕ) (old new : Walk) → old.meets.items ≡ [] → Meets ts [] n (meetings_in_block m (behind_ports at_head m.inside.ports) body) old new
      → AreMeets ts new.meets.items (module_meetings m)
  module_met n old new none met =
      let grown : new.meets.items ≡ met.more = met.grown ∙ ap (λ ms. ms ++ met.more) none in
      subst (λ ms. AreMeets ts ms (module_meetings m)) (sym grown)
      (subst (λ b. AreMeets ts met.more (meetings_in_block m (behind_ports at_head m.inside.ports) b)) same met.are)

-- the notes of a module
pub notes_there : (c : CircuitTree) (found : Findings) → IsTyped c found → (i : ℕ) (m : ModuleTree) → slice_get c.modules i ≡ Some m
    → (v : Vec NoteOfCode Global) × (slice_get found.notes.items i ≡ Some v) × (map (note_seen (types_of found.table)) v.items ≡ map saturated_note (module_notes c.modules m))
notes_there c found typed i m at =
    beside (λ v. map (note_seen (types_of found.table)) v.items) (λ m. map saturated_note (module_notes c.modules m)) found.notes.items c.modules
    (typed.notes ∙ map-map (map saturated_note) (module_notes c.modules) c.modules) i m at

pub notes_within : (c : CircuitTree) (found : Findings) → IsTyped c found → (i : ℕ) (m : ModuleTree) → slice_get c.modules i ≡ Some m
    → (items : List (Vec NoteOfCode Global)) → items ≡ found.notes.items → i < length items
notes_within c found typed i m at items same =
    let there = notes_there c found typed i m at in
    subst (λ vs. i < length vs) (sym same) (slice_get_within found.notes.items i there.0 there.1)

pub notes_ahead : (c : CircuitTree) (found : Findings) → IsTyped c found → (i : ℕ) (m : ModuleTree) → slice_get c.modules i ≡ Some m
    → (items : List (Vec NoteOfCode Global)) (v : Vec NoteOfCode Global) (notes : List NoteOfCode) → items ≡ found.notes.items → i < length items → v ≡ get_or items i v
    → notes ≡ v.items → Ahead (types_of found.table) notes (module_notes c.modules m)
notes_ahead c found typed i m at items v notes same within is own =
    let there = notes_there c found typed i m at in
    let read : slice_get items i ≡ Some v = slice_get_read items (length items) i v refl within is in
    let v_is : there.0 ≡ v = same_Some there.0 v (sym there.1 ∙ sym (ap (λ vs. slice_get vs i) same) ∙ read) in
    ap (map (note_seen (types_of found.table))) (own ∙ sym (ap (λ x. x.items) v_is)) ∙ there.2

-- those modules are passed that stand before one
pub record MetSoFar (c : CircuitTree) (ts : List DataType) (number : ℕ) (meets : List (Vec Meet Global)) : Type 0 where
  pub met : List ResetModule
  pub are : AreMeetsByModule ts meets met
  pub same : reset_modules 0 c.modules c.modules ≡ met ++ reset_modules number c.modules (drop number c.modules)

met_pushed : (ts : List DataType) (vs : List (Vec Meet Global)) (v : Vec Meet Global) (ms : List ResetModule) (m : ResetModule) → AreMeetsByModule ts vs ms
    → AreMeets ts v.items (module_meetings m) → AreMeetsByModule ts (vs ++ v ∷ []) (ms ++ m ∷ [])
met_pushed ts [] v [] m h k = (k, tt)
met_pushed ts [] v (x ∷ ms) m h k = absurd h
met_pushed ts (x ∷ vs) v [] m h k = absurd h
met_pushed ts (x ∷ vs) v (y ∷ ms) m h k = (h.0, met_pushed ts vs v ms m h.1 k)

abbrev pub numbered : CircuitTree → ℕ → ModuleTree → ResetModule
numbered c number m = record { modules = c.modules; number = number; inside = m }

pub met_first : (c : CircuitTree) (ts : List DataType) (meets : List (Vec Meet Global)) → meets ≡ [] → MetSoFar c ts 0 meets
met_first c ts meets none = record { met = []; are = subst (λ vs. AreMeetsByModule ts vs []) (sym none) tt; same = refl }

pub met_next : (c : CircuitTree) (ts : List DataType) (i : ℕ) (m : ModuleTree) (meets after : List (Vec Meet Global)) (own : Vec Meet Global) → slice_get c.modules i ≡ Some m
    → MetSoFar c ts i meets → AreMeets ts own.items (module_meetings (numbered c i m)) → after ≡ meets ++ own ∷ [] → MetSoFar c ts (i + 1) after
met_next c ts i m meets after own at so_far are pushed =
    let left : drop i c.modules ≡ m ∷ drop (i + 1) c.modules = left_is c.modules i m at in
    let next : reset_modules (suc i) c.modules (drop (i + 1) c.modules) ≡ reset_modules (i + 1) c.modules (drop (i + 1) c.modules)
    = ap (λ k. reset_modules k c.modules (drop (i + 1) c.modules)) (sym (add-one i)) in
    record {
      met = so_far.met ++ numbered c i m ∷ [];
      are = subst (λ vs. AreMeetsByModule ts vs (so_far.met ++ numbered c i m ∷ [])) (sym pushed) (met_pushed ts meets own so_far.met (numbered c i m) so_far.are are);
      same =
          so_far.same ∙ ap (λ ms. so_far.met ++ reset_modules i c.modules ms) left ∙ ap (λ ms. so_far.met ++ numbered c i m ∷ ms) next
          ∙ sym (append_assoc so_far.met (numbered c i m ∷ []) (reset_modules (i + 1) c.modules (drop (i + 1) c.modules)));
    }
  where
    left_is : (ms : List ModuleTree) (i : ℕ) (m : ModuleTree) → slice_get ms i ≡ Some m → drop i ms ≡ m ∷ drop (i + 1) ms
    left_is ms i m e = drop_more ms i m (slice_get_within ms i m e) ∙ ap (λ y. y ∷ drop (i + 1) ms) (get_or_from_slice_get ms i m m e)

pub met_all : (c : CircuitTree) (ts : List DataType) (i : ℕ) (meets : List (Vec Meet Global)) → length c.modules ≤ i → MetSoFar c ts i meets
    → AreMeetsByModule ts meets (reset_modules 0 c.modules c.modules)
met_all c ts i meets past so_far =
    let all : reset_modules 0 c.modules c.modules ≡ so_far.met =
    so_far.same ∙ ap (λ ms. so_far.met ++ reset_modules i c.modules ms) (drop_all i c.modules past) ∙ append-nil so_far.met in
    subst (AreMeetsByModule ts meets) (sym all) so_far.are
