use Rattle.std.proofs.Common.{ℕ, List, ◌++◌, ap, subst}
use Rattle.std.specs.Prelude.{codes}
use Rattle.ver_ast.specs.declared.place.VPlace.{VPlace}
use Rattle.ver_fault.specs.Faults.{VFault, V06}
use Rattle.ver_fault.specs.Texts.{walk_text}
use Rattle.ver_loop.specs.working.Rounds.{IsFirstPlace}
use Rattle.ver_loop.proofs.loops.loop_fault.Goals as goal

pub returns : goal.returns
returns c =
    let v = c.args.v.now in
    let walk = c.in_ok-walk.walk in
    let place = subst (λ (w : List (List ℕ)). IsFirstPlace v w c.in_ok-place.place) c.as_slice.ensures c.in_ok-place.ensures c.in_ok-walk.ensures in
    record {
      walk = walk;
      closed = c.in_ok-walk.ensures;
      number = place.number;
      item = place.giver.item;
      there = place.giver.there;
      gives = place.giver.gives;
      fault_is = ap {A = VPlace} {B = VFault} (λ (p : VPlace). record { code = V06; place = p; evidence = codes "loop " ++ walk_text walk }) place.place_is;
    }
