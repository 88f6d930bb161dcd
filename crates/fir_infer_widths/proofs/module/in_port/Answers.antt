use Rattle.std.proofs.lemmas.Result.{on_ok_weaker}
use Rattle.fir_ast.specs.working.Views.{named_of}
use Rattle.fir_ast.specs.working.TypeViews.{type_of}
use Rattle.fir_meaning.specs.Components as component
use Rattle.fir_infer_widths.proofs.DeclarationWalks.{main_port_comes, own_side, port_shows}
use Rattle.fir_infer_widths.proofs.module.in_port.Goals as goal

pub returns-then-ground : goal.returns-then-ground
returns-then-ground c = λ k m before meant rules rest declares.
    let port = c.args.port.now in
    let own = own_side k c.args.ground.now m before (named_of port.ident) (component.port port.direction (type_of port.ty)) (type_of port.ty) meant rules rest c.args.walk.now declares in
    let at = c.declare-own.ensures _ own.found own.first declares.enters.declared own.at own.from in
    on_ok_weaker c.put_spot.result
    (main_port_comes k c.args.ground.now m before _ port.direction (type_of port.ty) meant rules rest c.args.walk.now declares c.if-ground.true c.declare-own.result c.declare-own.new.self
    c.put_spot.new.spots at.0 at.1)
    c.put_spot.ensures

pub returns : goal.returns
returns c = λ k m before meant rules rest declares.
    let port = c.args.port.now in
    (c.in_ok-declared.ensures k m before (component.port port.direction (type_of port.ty)) (type_of port.ty) meant rules rest declares
    (port_shows k c.args.ground.now m before (named_of port.ident) port.direction (type_of port.ty) meant rules rest c.args.walk.now declares c.if-ground.false)).passed
