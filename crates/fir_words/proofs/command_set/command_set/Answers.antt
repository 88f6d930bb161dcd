use Rattle.std.proofs.Common.{◌≡◌, ◌∙◌, ap, ap₂, codes, true}
use Rattle.std.proofs.lemmas.Result.{IfOk-weaker}
use Rattle.clap.specs.Words.{App, app_of, with_subcommand}
use Rattle.clap.specs.Simple.{app_of_fields, new_app, on_top}
use Rattle.clap.specs.declared.builder.command.Command.{Command}
use Rattle.clap.specs.declared.builder.command.Command.TheOpen.{Command-F}
use Rattle.fir_words.proofs.command_set.command_set.Goals as goal

abbrev set_app : App → App
set_app = on_top (λ s. record s { subcommand_required = true; disable_help_flag = true; disable_help_subcommand = true })

pub returns : goal.returns
returns c =
    let settings_are = c.disable_help_subcommand.ensures
    ∙ ap (λ (f : Command-F Command). record f { disable_help_subcommand = true }) (c.disable_help_flag.ensures
    ∙ ap (λ (f : Command-F Command). record f { disable_help_flag = true }) c.subcommand_required.ensures) in
    let top : app_of c.disable_help_subcommand.result ≡ set_app (new_app (codes "firc")) = ap app_of_fields settings_are ∙ ap set_app c.new.ensures.app in
    let first = c.in_ok-subcommand.ensures.shape c.in_ok-check.ensures.local ∙ ap₂ with_subcommand top c.in_ok-check.ensures.shape in
    let second = c.in_ok-subcommand-2.ensures.shape c.in_ok-emit.ensures.local ∙ ap₂ with_subcommand first c.in_ok-emit.ensures.shape in
    let third = c.in_ok-subcommand-3.ensures.shape c.in_ok-sim.ensures.local ∙ ap₂ with_subcommand second c.in_ok-sim.ensures.shape in
    IfOk-weaker c.subcommand-4.result _ _
    (λ r adds. adds.shape c.in_ok-vsim.ensures.local ∙ ap₂ with_subcommand third c.in_ok-vsim.ensures.shape) c.subcommand-4.ensures
