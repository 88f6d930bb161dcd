use Rattle.std.proofs.Common.{List, sym, subst, []}
use Rattle.ver_ast.specs.declared.place.VPlace.{VPlace}
use Rattle.ver_ast.specs.declared.tree.Item.{Item}
use Rattle.ver_ast.specs.declared.tree.Item.TheVariants as item
use Rattle.ver_fault.specs.Faults.{VFault}
use Rattle.ver_check.specs.ItemFaults.{item_faults}
use Rattle.ver_check.specs.TreeFaults.{behind_item, with_written}
use Rattle.ver_check.specs.working.Walks.{Stands, Steps}
use Rattle.ver_check.proofs.Undriven.{reset_free}
use Rattle.ver_check.proofs.walk.Walk.take_item.Goals as goal

pub returns-in_ok-resetting_block-in-Resetting : goal.returns-in_ok-resetting_block-in-Resetting
returns-in_ok-resetting_block-in-Resetting c =
    λ before st.
    let b = c.in-Resetting.block in
    let none = c.in_ok-resetting_block-in-Resetting.ensures before (c.beside-in-Resetting.ensures before st) in
    let noted = c.write-in-Resetting.ensures before st (reset_free before b c.args.places.now none) in
    let placed = subst (λ (p : VPlace). Steps c.write-in-Resetting.result [] (Stands c.write-in-Resetting.new.self (with_written before b.target p))) c.reset_place-place.ensures noted in
    let told = subst (λ (fs : List VFault). Steps c.write-in-Resetting.result fs (Stands c.write-in-Resetting.new.self (behind_item before (item.Resetting b) c.args.places.now))) (sym none) placed in
    subst (λ (i : Item). Steps c.write-in-Resetting.result (item_faults before i c.args.places.now) (Stands c.write-in-Resetting.new.self (behind_item before i c.args.places.now))) (sym c.in-Resetting.is) told
