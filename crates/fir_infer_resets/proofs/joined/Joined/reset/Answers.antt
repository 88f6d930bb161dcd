use Rattle.std.proofs.Common.{◌≡◌, refl, sym, subst}
use Rattle.std.specs.Prelude.{IfOk}
use Rattle.std.proofs.lemmas.Result.{IfOk-weaker}
use Rattle.fir_ast.specs.working.Views.{circuit_of}
use Rattle.fir_infer_resets.specs.working.Holding.{path_of, reset_end, HasNumber}
use Rattle.fir_meaning.specs.ResetWalks.{IsLeafOf}
use Rattle.fir_infer_resets.proofs.HeldGraphs.{number_through}
use Rattle.fir_infer_resets.proofs.LeafDeclarations.{declared_leaf}
use Rattle.fir_infer_resets.proofs.InstanceLeaves.{has_port, no_port}
use Rattle.fir_infer_resets.proofs.PortNumbers.{place_is, is_port}
use Rattle.fir_infer_resets.proofs.joined.Joined.reset.Goals as goal

pub returns-in_default : goal.returns-in_default
returns-in_default c js p before l =
    let circuit = circuit_of c.args.named.now in
    let number = c.args.module_number in
    let leaf = path_of c.args.path.now in
    let names = c.requires.names in
    let d = declared_leaf circuit names number leaf (reset_end number leaf p) refl l in
    let own = no_port circuit names number leaf p l d (c.in_default.ensures d.spot.declared d.declares) in
    let place : p ≡ c.place_of-place.result = sym (place_is circuit names number leaf p c.place_of-place.result l c.place_of-place.ensures) in
    subst (λ q. IfOk c.own_reset.result (HasNumber before (reset_end number leaf q) c.own_reset.new.self)) (sym place)
    (c.own_reset.ensures circuit js before names c.requires.types (subst (λ q. IsLeafOf circuit (reset_end number leaf q)) place l) own)

pub returns : goal.returns
returns c js p before l =
    let circuit = circuit_of c.args.named.now in
    let number = c.args.module_number in
    let leaf = path_of c.args.path.now in
    let names = c.requires.names in
    let place = c.place_of-place.result in
    let is : p ≡ place = sym (place_is circuit names number leaf p place l c.place_of-place.ensures) in
    let here = subst (λ q. IsLeafOf circuit (reset_end number leaf q)) is l in
    let d = declared_leaf circuit names number leaf (reset_end number leaf place) refl here in
    let child = c.in-Some.child in
    let behind = c.behind_first-port_path.result.now in
    let port_place = c.place_of-port_place.result in
    let port = reset_end child (path_of behind) port_place in
    let t =
    is_port circuit names number c.args.path.now behind place child port_place (has_port circuit names number leaf place here d child (c.in-Some.ensures d.spot.declared d.declares))
    c.behind_first-port_path.ensures c.place_of-port_place.ensures in
    let first = c.in_ok-port.ensures circuit js before names c.requires.types t.is_leaf t.no_instance in
    let middle = c.own_reset-2.new.self in
    let new = c.reset_beside.new.self in
    subst (λ q. IfOk c.reset_beside.result (HasNumber before (reset_end number leaf q) new)) (sym is)
    (IfOk-weaker c.reset_beside.result (HasNumber first.holds (reset_end number leaf place) new) (HasNumber before (reset_end number leaf place) new)
    (λ x h. number_through circuit js c.args.self.now middle new before port (reset_end number leaf place) c.in_ok-port.port x first h)
    (c.reset_beside.ensures circuit js first.holds port names here first.is refl t.class t.joined))
