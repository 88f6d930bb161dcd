-- The joins of a circuit are those of all that meets in it, in the order of the text.
use Rattle.std.proofs.Common.{◌≡◌, List, [], ◌∷◌, ◌++◌, flat_map, refl, sym, ap, ◌∙◌}
use Rattle.std.proofs.lemmas.Grind.{flat_map-append}
use Rattle.std.proofs.lemmas.List.{append-nil}
use Rattle.fir_ast.specs.Statements.{Statement, wire, register, node, instance, memory, when, connect, partial_connect, invalid, skip, Block, done, then}
use Rattle.fir_ast.specs.Circuits.{CircuitTree}
use Rattle.fir_meaning.specs.Visibility.{Before, opened, reopened, behind, behind_block, behind_ports, at_head}
use Rattle.fir_meaning.specs.ResetJoins.{ResetModule, reset_modules, joins_in, joins_in_block, joins}
use Rattle.fir_infer_resets.specs.working.Meetings.{Meeting, joins_of, meetings_in, meetings_in_block, meetings}

-- those of two parts, one behind the other
parts_joined : (js ks : List Meeting) → flat_map joins_of js ++ flat_map joins_of ks ≡ flat_map joins_of (js ++ ks)
parts_joined js ks = sym (flat_map-append joins_of js ks)

mutual
  joins_met : (m : ResetModule) (s : Statement) (before : Before) → joins_in m before s ≡ flat_map joins_of (meetings_in m before s)
  joins_met m (wire p n begins t) before = refl
  joins_met m (register p n begins t c r) before = refl
  joins_met m (node p n e) before = sym (append-nil (joins_in m before (node p n e)))
  joins_met m (instance p n other) before = sym (append-nil (joins_in m before (instance p n other)))
  joins_met m (memory p n parts) before = refl
  joins_met m (when p c a b) before =
      let second = reopened before (behind_block (opened before) a) in
      ap (λ js. js ++ joins_in_block m second b) (joins_met_block m a (opened before))
      ∙ ap (λ js. flat_map joins_of (meetings_in_block m (opened before) a) ++ js) (joins_met_block m b second)
      ∙ parts_joined (meetings_in_block m (opened before) a) (meetings_in_block m second b)
  joins_met m (connect p sink e) before = sym (append-nil (joins_in m before (connect p sink e)))
  joins_met m (partial_connect p sink e) before = sym (append-nil (joins_in m before (partial_connect p sink e)))
  joins_met m (invalid p sink) before = refl
  joins_met m (skip p) before = refl

  joins_met_block : (m : ResetModule) (b : Block) (before : Before) → joins_in_block m before b ≡ flat_map joins_of (meetings_in_block m before b)
  joins_met_block m done before = refl
  joins_met_block m ((then) s b) before =
      ap (λ js. js ++ joins_in_block m (behind before s) b) (joins_met m s before)
      ∙ ap (λ js. flat_map joins_of (meetings_in m before s) ++ js) (joins_met_block m b (behind before s))
      ∙ parts_joined (meetings_in m before s) (meetings_in_block m (behind before s) b)

joins_met_modules : (ms : List ResetModule)
    → flat_map (λ m. joins_in_block m (behind_ports at_head m.inside.ports) m.inside.body) ms
    ≡ flat_map joins_of (flat_map (λ m. meetings_in_block m (behind_ports at_head m.inside.ports) m.inside.body) ms)
joins_met_modules [] = refl
joins_met_modules (m ∷ ms) =
    let head = behind_ports at_head m.inside.ports in
    let rest = flat_map (λ (n : ResetModule). joins_in_block n (behind_ports at_head n.inside.ports) n.inside.body) ms in
    let met = flat_map (λ (n : ResetModule). meetings_in_block n (behind_ports at_head n.inside.ports) n.inside.body) ms in
    ap (λ js. js ++ rest) (joins_met_block m m.inside.body head)
    ∙ ap (λ js. flat_map joins_of (meetings_in_block m head m.inside.body) ++ js) (joins_met_modules ms)
    ∙ parts_joined (meetings_in_block m head m.inside.body) met

pub meetings_join : (c : CircuitTree) → joins c ≡ flat_map joins_of (meetings c)
meetings_join c = joins_met_modules (reset_modules 0 c.modules c.modules)
