use Rattle.std.proofs.Common.{◌++◌, [], List, sym, ap, ◌∙◌}
use Rattle.std.specs.Prelude.{option_copied}
use Rattle.fir_names.proofs.TablesByNumber.{item_is}
use Rattle.fir_flatten.specs.declared.design_net.DesignLeaf.{DesignLeaf}
use Rattle.fir_flatten.specs.working.PutModules.{part_leaves, port_part}
use Rattle.fir_flatten.proofs.PutLeaves.{main_is, main_none}
use Rattle.fir_flatten.proofs.design_net.port_leaves.Goals as goal
use Rattle.fir_flatten.proofs.design_net.port_leaves.Goals.{in-Some+in-Some-get+in_ok-put_leaves, in-Some+in_default-get, in_default}

pub returns : goal.returns
returns c =
    let parts = c.args.modules.now in
    let copies = c.args.copies.now in
    let first = c.first.ensures.value in
    let none = c.new-leaves.ensures.items in
    elim c.match-first.branch [
      | in-Some+in-Some-get+in_ok-put_leaves w ↦
          let main = w.in-Some.main.now in
          let p = w.in-Some-get.module.now in
          let there = sym (item_is parts main.module_number w.get.result w.get.ensures.lookup) ∙ ap option_copied w.in-Some-get.is in
          ap (λ v. v.items) w.leaves-is ∙ w.in_ok-put_leaves.ensures
          ∙ ap (λ (ls : List DesignLeaf). ls ++ part_leaves [] p 0 p.part.now.port_leaves) none
          ∙ ap port_part (sym (main_is parts copies main (sym first ∙ ap option_copied w.in-Some.is) ∙ there))
      | in-Some+in_default-get w ↦
          let main = w.in-Some.main.now in
          let missing = sym (item_is parts main.module_number w.get.result w.get.ensures.lookup) ∙ ap option_copied w.in_default-get.is in
          ap (λ v. v.items) w.leaves-is ∙ none
          ∙ ap port_part (sym (main_is parts copies main (sym first ∙ ap option_copied w.in-Some.is) ∙ missing))
      | in_default w ↦
          ap (λ v. v.items) w.leaves-is ∙ none
          ∙ ap port_part (sym (main_none parts copies (sym first ∙ ap option_copied w.in_default.is)))
    ]
